-- What each function of a turn gathers, and the turn.
use Rattle.std.specs.Prelude.{Ok, Err}
use Prim.Native.Nat.{ℕ}
use mathlib.Core.Path.{◌≡◌, refl, sym, ap, ◌∙◌}
use mathlib.Core.List.{List, [], ◌∷◌, ◌++◌, append_assoc}
use mathlib.Core.Bool.{Bool, true, false, true≢false}
use native.Mathlib.Omega.{arith}
use types.Run.{OneOf, miss}
use denote.Enum.Declared.{tag_of}
use lib.Dec.{eqb}
use borrow.Author.Tests.{eqb-true}
use lib.ListN.{length, take, drop}
use Rattle.octets.specs.Pick.{pick}
use Rattle.octets.proofs.Choices.{picks}
use Rattle.answer.specs.declared.Refusal.{Refusal}
use Rattle.source.specs.Found.{cut_at}
use Rattle.source.specs.declared.Source.{Source}
use Rattle.session.specs.Lent.{Lent, Enough}
use Rattle.session.specs.declared.Accepted.{Accepted}
use Rattle.session.specs.Answers.{StepAnswer}
use Rattle.receiver.specs.declared.Receiver.{Receiver}
use Rattle.receiver.specs.declared.Event.{Event}
use Rattle.receiver.specs.declared.Event.TheVariants as event
use Rattle.telling.specs.Counts.{counted}
use Rattle.window.specs.declared.Refilled.{Refilled}
use Rattle.feed.specs.Pull.{hand_of, at_end, pulled, Missed, Pulls}
use Rattle.feed.specs.declared.Pull.{Pull}
use Rattle.feed.specs.declared.Pull.TheVariants as pull
use Rattle.feed.specs.declared.Pulled.{Pulled}
use Rattle.feed.specs.contracts.Pull.{the_type}
use Rattle.picture_frame.specs.Received.{Received, all_placed, packets_in}
use Rattle.picture_run.specs.Gathered.{Gathered, with_octets, pull_placed, pull_counted, with_pull}
use Rattle.picture_run.specs.Gathered.{goes_on, found_bad, Turned}
use Rattle.picture_run.specs.declared.State.{State}
use Rattle.picture_run.proofs.Gathering.{next, from-there, gathers, ends}

-- ---- what the functions promise

-- by what was pulled
module _ (wanted : ℕ) (octets lengths : List ℕ) (r : Received) where
  pub some-placed : {p : Pull} {x : StepAnswer} {a : Accepted} {r' : Received} → p ≡ pull.Answered x → x ≡ Ok a
      → r' ≡ all_placed a.arrival wanted r (packets_in octets 0 (take a.packets lengths)) → r' ≡ pull_placed wanted p octets lengths r
  some-placed h k e =
      e ∙ ap (λ (x : StepAnswer). pull_placed wanted (pull.Answered x) octets lengths r) (sym k)
      ∙ ap (λ (p : Pull). pull_placed wanted p octets lengths r) (sym h)

  pub refused-placed : {p : Pull} {x : StepAnswer} {y : Refusal} → p ≡ pull.Answered x → x ≡ Err y
      → r ≡ pull_placed wanted p octets lengths r
  refused-placed h k =
      ap (λ (x : StepAnswer). pull_placed wanted (pull.Answered x) octets lengths r) (sym k)
      ∙ ap (λ (p : Pull). pull_placed wanted p octets lengths r) (sym h)

  pub none-placed : (p : Pull) → OneOf (0 ∷ 1 ∷ 3 ∷ 4 ∷ 5 ∷ 6 ∷ []) (tag_of the_type p) → r ≡ pull_placed wanted p octets lengths r
  none-placed pull.More k = refl
  none-placed pull.Opened k = refl
  none-placed (pull.Answered a) k = absurd (miss (0 ∷ 1 ∷ 3 ∷ 4 ∷ 5 ∷ 6 ∷ []) 2 tt k)
  none-placed pull.Bad k = refl
  none-placed pull.End k = refl
  none-placed pull.Cut k = refl
  none-placed pull.Failed k = refl

module _ (frames : List ℕ) where
  pub one-counted : {p : Pull} {x : StepAnswer} {y : Refusal} {frames' : List ℕ} → p ≡ pull.Answered x → x ≡ Err y
      → frames' ≡ counted frames y.number → frames' ≡ pull_counted p frames
  one-counted h k e =
      e ∙ ap (λ (x : StepAnswer). pull_counted (pull.Answered x) frames) (sym k) ∙ ap (λ (p : Pull). pull_counted p frames) (sym h)

  pub accepted-counted : {p : Pull} {x : StepAnswer} {a : Accepted} → p ≡ pull.Answered x → x ≡ Ok a
      → frames ≡ pull_counted p frames
  accepted-counted h k =
      ap (λ (x : StepAnswer). pull_counted (pull.Answered x) frames) (sym k) ∙ ap (λ (p : Pull). pull_counted p frames) (sym h)

  pub none-counted : (p : Pull) → OneOf (0 ∷ 1 ∷ 3 ∷ 4 ∷ 5 ∷ 6 ∷ []) (tag_of the_type p) → frames ≡ pull_counted p frames
  none-counted pull.More k = refl
  none-counted pull.Opened k = refl
  none-counted (pull.Answered a) k = absurd (miss (0 ∷ 1 ∷ 3 ∷ 4 ∷ 5 ∷ 6 ∷ []) 2 tt k)
  none-counted pull.Bad k = refl
  none-counted pull.End k = refl
  none-counted pull.Cut k = refl
  none-counted pull.Failed k = refl

pub more-comes : (p : Pull) → OneOf (0 ∷ 1 ∷ 2 ∷ []) (tag_of the_type p) → true ≡ goes_on p
more-comes pull.More k = refl
more-comes pull.Opened k = refl
more-comes (pull.Answered a) k = refl
more-comes pull.Bad k = absurd (miss (0 ∷ 1 ∷ 2 ∷ []) 3 tt k)
more-comes pull.End k = absurd (miss (0 ∷ 1 ∷ 2 ∷ []) 4 tt k)
more-comes pull.Cut k = absurd (miss (0 ∷ 1 ∷ 2 ∷ []) 5 tt k)
more-comes pull.Failed k = absurd (miss (0 ∷ 1 ∷ 2 ∷ []) 6 tt k)

pub none-comes : (p : Pull) → OneOf (3 ∷ 4 ∷ 5 ∷ 6 ∷ []) (tag_of the_type p) → false ≡ goes_on p
none-comes pull.More k = absurd (miss (3 ∷ 4 ∷ 5 ∷ 6 ∷ []) 0 tt k)
none-comes pull.Opened k = absurd (miss (3 ∷ 4 ∷ 5 ∷ 6 ∷ []) 1 tt k)
none-comes (pull.Answered a) k = absurd (miss (3 ∷ 4 ∷ 5 ∷ 6 ∷ []) 2 tt k)
none-comes pull.Bad k = refl
none-comes pull.End k = refl
none-comes pull.Cut k = refl
none-comes pull.Failed k = refl

pub is-bad : (p : Pull) → OneOf (3 ∷ 5 ∷ []) (tag_of the_type p) → true ≡ found_bad p
is-bad pull.More k = absurd (miss (3 ∷ 5 ∷ []) 0 tt k)
is-bad pull.Opened k = absurd (miss (3 ∷ 5 ∷ []) 1 tt k)
is-bad (pull.Answered a) k = absurd (miss (3 ∷ 5 ∷ []) 2 tt k)
is-bad pull.Bad k = refl
is-bad pull.End k = absurd (miss (3 ∷ 5 ∷ []) 4 tt k)
is-bad pull.Cut k = refl
is-bad pull.Failed k = absurd (miss (3 ∷ 5 ∷ []) 6 tt k)

pub not_bad : (p : Pull) → OneOf (0 ∷ 1 ∷ 2 ∷ 4 ∷ 6 ∷ []) (tag_of the_type p) → false ≡ found_bad p
not_bad pull.More k = refl
not_bad pull.Opened k = refl
not_bad (pull.Answered a) k = refl
not_bad pull.Bad k = absurd (miss (0 ∷ 1 ∷ 2 ∷ 4 ∷ 6 ∷ []) 3 tt k)
not_bad pull.End k = refl
not_bad pull.Cut k = absurd (miss (0 ∷ 1 ∷ 2 ∷ 4 ∷ 6 ∷ []) 5 tt k)
not_bad pull.Failed k = refl

-- none came where a run ends with no failed read; a failed read ends it
none_came : (e : Event) (s : Source) (r : Refilled) → Missed e r → goes_on (pulled e s r.failed r.came) ≡ false → r.failed ≡ false
    → r.came ≡ 0
unfolding at_end
none_came (event.Missing n) s r m g f =
    let P : Pull → Type 0 = λ x. goes_on x ≡ false → r.came ≡ 0 in
    picks P r.failed _ _ (λ t _. absurd (true≢false (sym t ∙ f)))
    (λ _. picks P (eqb r.came 0) _ _ (λ z _. eqb-true r.came 0 z) (λ _ h. absurd (true≢false h))) g
none_came event.Bad s r m g f = ap (λ (x : Refilled). x.came) m
none_came event.Over s r m g f = ap (λ (x : Refilled). x.came) m
none_came event.Opened s r m g f = absurd (true≢false g)
none_came event.Nothing s r m g f = absurd (true≢false g)
none_came (event.Answered a) s r m g f = absurd (true≢false g)

failed_ends : (e : Event) (s : Source) (r : Refilled) → Missed e r → r.failed ≡ true → goes_on (pulled e s r.failed r.came) ≡ false
unfolding at_end pick
failed_ends (event.Missing n) s r m f =
    ap (λ (b : Bool). goes_on (pick b pull.Failed (pick (eqb r.came 0) (pick (cut_at s) pull.Cut pull.End) pull.More))) f
failed_ends event.Bad s r m f = refl
failed_ends event.Over s r m f = refl
failed_ends event.Opened s r m f = absurd (true≢false (sym f ∙ ap (λ (x : Refilled). x.failed) m))
failed_ends event.Nothing s r m f = absurd (true≢false (sym f ∙ ap (λ (x : Refilled). x.failed) m))
failed_ends (event.Answered a) s r m f = absurd (true≢false (sym f ∙ ap (λ (x : Refilled). x.failed) m))

empty : (l : List ℕ) → length l ≡ 0 → l ≡ []
empty [] h = refl
empty (x ∷ l) h = absurd (omega arith)

pub turned : (wanted : ℕ) (s : State) (input kept : List ℕ) {l : Lent} (g : Gathered) (r : Pulled) {input' kept' : List ℕ} {l' : Lent}
    {going bad : Bool} {received' : Received} {frames' : List ℕ} → Enough l → Pulls s.feed input s.receiver kept l r input' kept' l'
    → going ≡ goes_on r.pull → bad ≡ found_bad r.pull → received' ≡ pull_placed wanted r.pull l'.octets l'.lengths g.received
    → frames' ≡ pull_counted r.pull g.frames
    → Turned wanted s input kept l g (record { feed = r.feed; receiver = r.receiver; going = going; bad = bad; read = r.read })
    input' kept' l' (record { received = received'; frames = frames' })
turned wanted s input kept {l} g r {input'} {kept'} {l'} {going} {bad} {received'} {frames'} enough x on b p c =
    let g' : Gathered = record { received = received'; frames = frames' } in
    let h : g' ≡ with_pull wanted r.pull l'.octets l'.lengths g =
    ap (λ (y : Received). record { received = y; frames = frames' }) p
    ∙ ap (λ (y : List ℕ). record { received = pull_placed wanted r.pull l'.octets l'.lengths g.received; frames = y }) c in
    let a : Receiver = s.receiver in
    let w : List ℕ = hand_of s.feed input in
    let failed = r.read.failed in
    let came = r.read.came in
    let e : g' ≡ next wanted a kept w enough x.calls g =
    h ∙ gathers wanted a kept w enough x.calls g failed came x.tells in
    let stops : going ≡ goes_on (pulled x.received.event a.source failed came) = on ∙ ap goes_on x.tells in
    record {
      pulled = r.pull;
      pulls = x;
      going = on;
      bad = b;
      gathers = e;
      goes = λ p. from-there wanted a kept w enough x.calls g (x.piece ++ p)
          ∙ ap (λ (y : Gathered). with_octets wanted x.received.receiver kept' (drop x.received.used w ++ (x.piece ++ p)) y) (sym e)
          ∙ ap (λ (y : List ℕ). with_octets wanted x.received.receiver kept' y g')
          (sym (append_assoc (drop x.received.used w) x.piece p) ∙ ap (λ (y : List ℕ). y ++ p) (sym x.window))
          ∙ ap (λ (b : Receiver). with_octets wanted b kept' (hand_of r.feed input' ++ p) g') (sym x.receiver);
      ends = λ f. e ∙ ends wanted a kept w enough x.calls g failed came x.tells (sym on ∙ f);
      none = λ f d. empty x.piece (x.many ∙ none_came x.received.event a.source r.read x.only (sym stops ∙ f) d);
      fails = λ f. stops ∙ failed_ends x.received.event a.source r.read x.only f;
    }
