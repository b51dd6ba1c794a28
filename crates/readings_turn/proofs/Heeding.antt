-- Laws of what is told by the feed, and of the text before a read.
use Rattle.std.specs.Prelude.{Ok, Err}
use Prim.Native.Nat.{ℕ, ◌%◌, ◌^◌, ◌≤◌, ◌<◌}
use native.Mathlib.Nat.{mod-eq_of_lt, add-zero}
use native.Mathlib.Omega.{arith}
use mathlib.Core.Path.{◌≡◌, refl, sym, ap, subst, ◌∙◌}
use mathlib.Core.Bool.{Bool, true, false}
use mathlib.Core.List.{List, [], ◌∷◌, ◌++◌, append-nil}
use lib.Dec.{ltb}
use borrow.Author.Tests.{ltb-true, ltb-false}
use Rattle.octets.proofs.Choices.{picks}
use types.Run.{OneOf, miss}
use denote.Enum.Declared.{tag_of}
use Rattle.answer.specs.declared.Refusal.{Refusal}
use Rattle.session.specs.Lent.{lent}
use Rattle.session.specs.declared.Accepted.{Accepted}
use Rattle.session.specs.Answers.{StepAnswer}
use Rattle.feed.specs.declared.Pull.{Pull}
use Rattle.feed.specs.declared.Pull.TheVariants as pull
use Rattle.feed.specs.contracts.Pull.{the_type}
use Rattle.telling.specs.Counts.{counted}
use Rattle.readings_lines.specs.Output.{pending, failed_in}
use Rattle.readings_frame.specs.Readings.{Layouts, numbered, Framed, Writes}
use Rattle.readings_frame.specs.declared.State.{State}
use Rattle.readings_lines.proofs.Adding.{emptied_goes}
use Rattle.readings_lines.proofs.Leaving.{nothing_put}
use Rattle.readings_turn.specs.Turns.{may_follow, goes_on, is_bad, Heeds, section, Clears, cleared}

-- ---- whether more may come

follows : (p : Pull) → OneOf (0 ∷ 1 ∷ 2 ∷ []) (tag_of the_type p) → true ≡ may_follow p
follows pull.More k = refl
follows pull.Opened k = refl
follows (pull.Answered a) k = refl
follows pull.Bad k = absurd (miss (0 ∷ 1 ∷ 2 ∷ []) 3 tt k)
follows pull.End k = absurd (miss (0 ∷ 1 ∷ 2 ∷ []) 4 tt k)
follows pull.Cut k = absurd (miss (0 ∷ 1 ∷ 2 ∷ []) 5 tt k)
follows pull.Failed k = absurd (miss (0 ∷ 1 ∷ 2 ∷ []) 6 tt k)

ends : (p : Pull) → (p ≡ pull.More → ⊥) → (p ≡ pull.Opened → ⊥) → ((a : StepAnswer) → p ≡ pull.Answered a → ⊥) → false ≡ may_follow p
ends pull.More a b c = absurd (a refl)
ends pull.Opened a b c = absurd (b refl)
ends (pull.Answered x) a b c = absurd (c x refl)
ends pull.Bad a b c = refl
ends pull.End a b c = refl
ends pull.Cut a b c = refl
ends pull.Failed a b c = refl

module _ (p : Pull) {f b : Bool} (e : b ≡ f) where
  pub stops : b ≡ true → false ≡ goes_on p f
  stops h = ap (goes_on p) (sym h ∙ e)

  pub may_follow_lem : b ≡ false → OneOf (0 ∷ 1 ∷ 2 ∷ []) (tag_of the_type p) → true ≡ goes_on p f
  may_follow_lem h k = follows p k ∙ ap (goes_on p) (sym h ∙ e)

  pub at-end : b ≡ false → (p ≡ pull.More → ⊥) → (p ≡ pull.Opened → ⊥) → ((a : StepAnswer) → p ≡ pull.Answered a → ⊥)
      → false ≡ goes_on p f
  at-end h k m n = ends p k m n ∙ ap (goes_on p) (sym h ∙ e)

-- ---- what is told

same_number : {n : ℕ} → n < 2 ^ 64 → n ≡ numbered n 0
same_number {n} h = sym (ap (λ (k : ℕ). k % 2 ^ 64) (add-zero n) ∙ mod-eq_of_lt h)

module _ (l : Layouts) {octets lengths firsts out counts : List ℕ} {s : State} where
  pub quiet-heeded : (p : Pull) → ((a : StepAnswer) → p ≡ pull.Answered a → ⊥) → s.packets < 2 ^ 64
      → Heeds l p (lent octets lengths firsts) out counts s out counts s
  quiet-heeded (pull.Answered a) k h = absurd (k a refl)
  quiet-heeded pull.More k h = record { packets = same_number h; leaves = nothing_put refl }
  quiet-heeded pull.Opened k h = record { packets = same_number h; leaves = nothing_put refl }
  quiet-heeded pull.Bad k h = record { packets = same_number h; leaves = nothing_put refl }
  quiet-heeded pull.End k h = record { packets = same_number h; leaves = nothing_put refl }
  quiet-heeded pull.Cut k h = record { packets = same_number h; leaves = nothing_put refl }
  quiet-heeded pull.Failed k h = record { packets = same_number h; leaves = nothing_put refl }

  module _ {p : Pull} {x : StepAnswer} (e : p ≡ pull.Answered x) where
    pub refused-heeded : {r : Refusal} {counts' : List ℕ} → x ≡ Err r → counts' ≡ counted counts r.number
        → s.packets < 2 ^ 64
        → Heeds l p (lent octets lengths firsts) out counts s out counts' s
    refused-heeded {r} {counts'} k c h =
        subst (λ (q : Pull). Heeds l q (lent octets lengths firsts) out counts s out counts' s) (sym (e ∙ ap pull.Answered k))
        (record { packets = same_number h; leaves = nothing_put c })

    pub accepted-heeded : {a : Accepted} {out' counts' : List ℕ} {s' : State} → x ≡ Ok a
        → Framed l a octets lengths firsts out counts s out' counts' s'
        → Heeds l p (lent octets lengths firsts) out counts s out' counts' s'
    accepted-heeded {a} {out'} {counts'} {s'} k f =
        subst (λ (q : Pull). Heeds l q (lent octets lengths firsts) out counts s out' counts' s') (sym (e ∙ ap pull.Answered k))
        (record { packets = f.packets; leaves = f.leaves })

-- ---- a bad recording

pub bad-is : (p : Pull) → OneOf (3 ∷ 5 ∷ []) (tag_of the_type p) → true ≡ is_bad p
bad-is pull.More k = absurd (miss (3 ∷ 5 ∷ []) 0 tt k)
bad-is pull.Opened k = absurd (miss (3 ∷ 5 ∷ []) 1 tt k)
bad-is (pull.Answered a) k = absurd (miss (3 ∷ 5 ∷ []) 2 tt k)
bad-is pull.Bad k = refl
bad-is pull.End k = absurd (miss (3 ∷ 5 ∷ []) 4 tt k)
bad-is pull.Cut k = refl
bad-is pull.Failed k = absurd (miss (3 ∷ 5 ∷ []) 6 tt k)

pub bad_not : (p : Pull) → (p ≡ pull.Bad → ⊥) → (p ≡ pull.Cut → ⊥) → false ≡ is_bad p
bad_not pull.More a b = refl
bad_not pull.Opened a b = refl
bad_not (pull.Answered x) a b = refl
bad_not pull.Bad a b = absurd (a refl)
bad_not pull.End a b = refl
bad_not pull.Cut a b = absurd (b refl)
bad_not pull.Failed a b = refl

-- ---- before a read

pub enough-at-hand : {hand : ℕ} {out : List ℕ} {s : State} → section ≤ hand → Clears hand out s s
enough-at-hand {hand} {out} {s} h = record { stays = λ _. refl; writes = λ k. absurd (omega arith) }

pub text-written : {hand : ℕ} {out : List ℕ} {s s' : State} → hand < section → Writes out s s' → Clears hand out s s'
text-written k e = record { stays = λ h. absurd (omega arith); writes = λ _. e }

-- nothing is added, and what is handed to the write is what was not yet written
module _ {hand : ℕ} {out : List ℕ} {s s' : State} (c : Clears hand out s s') where
  abbrev Cleared : List ℕ → Type 0
  Cleared x = failed_in s'.output ≡ false → x ++ pending out s'.output ≡ pending out s.output ++ []

  pub clear_goes : Cleared (cleared hand out s)
  clear_goes =
      picks Cleared (ltb hand section) _ _ (λ t. emptied_goes (c.writes (ltb-true _ _ t)).empties)
      (λ f _. ap (λ (x : State). pending out x.output) (c.stays (ltb-false _ _ f)) ∙ sym (append-nil (pending out s.output)))

  pub stay_failed : failed_in s.output ≡ true → failed_in s'.output ≡ true
  stay_failed h = by (ltb hand section) refl
    where
      by : (b : Bool) → ltb hand section ≡ b → failed_in s'.output ≡ true
      by true t = ap failed_in ((c.writes (ltb-true _ _ t)).empties.stays h) ∙ h
      by false f = ap (λ (x : State). failed_in x.output) (c.stays (ltb-false _ _ f)) ∙ h

  pub clear_packets : s'.packets ≡ s.packets
  clear_packets = by (ltb hand section) refl
    where
      by : (b : Bool) → ltb hand section ≡ b → s'.packets ≡ s.packets
      by true t = (c.writes (ltb-true _ _ t)).packets
      by false f = ap (λ (x : State). x.packets) (c.stays (ltb-false _ _ f))
