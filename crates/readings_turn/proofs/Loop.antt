-- Laws of the loop, by the one law of loops, with the octets that the turns read.
use Prim.Native.Nat.{ℕ, ◌+◌}
use mathlib.Core.Path.{◌≡◌, refl, sym, ap, subst, ◌∙◌}
use mathlib.Core.Bool.{Bool, true, false, ◌||◌}
use mathlib.Core.List.{List, [], ◌++◌}
use lib.ListN.{length}
use Rattle.octets.proofs.Choices.{picked, passed}
use Rattle.session.specs.Lent.{Lent}
use Rattle.receiver.specs.Run.{roomy}
use Rattle.receiver.specs.declared.Receiver.{Receiver}
use Rattle.window.specs.Status.{done, against, broken}
use Rattle.window.specs.Turns.{Made, most}
use Rattle.window.proofs.Looping.{at_first, one_more, stopped, all_made}
use Rattle.readings_lines.specs.Output.{failed_in}
use Rattle.readings_frame.specs.Readings.{Layouts, Begins, Writes}
use Rattle.readings_frame.specs.declared.State.{State}
use Rattle.readings_turn.specs.Turns.{Turned}
use Rattle.readings_turn.specs.Written.{place_of, going_at, TurnedAt, begins, none_kept, Looped, with_state, Reported, not_done, status_of}
use Rattle.readings_turn.specs.declared.Standing.{Standing}

module _ (l : Layouts) (s₀ : Standing) (input₀ kept₀ : List ℕ) (t₀ : Lent) (out₀ counts₀ : List ℕ) where
  -- so many turns were made
  pub record Turning (made : ℕ) (s : Standing) (input kept : List ℕ) (t : Lent) (out counts : List ℕ) : Type 0 where
    pub octets : List ℕ
    pub turns : Made going_at (TurnedAt l) (place_of s₀ input₀ kept₀ t₀ out₀ counts₀ []) made (place_of s input kept t out counts octets)

  pub no_turn : Turning 0 s₀ input₀ kept₀ t₀ out₀ counts₀
  no_turn = record { octets = []; turns = at_first }

  pub one_turn : {made : ℕ} {s r : Standing} {input kept out counts input' kept' out' counts' : List ℕ} {t t' : Lent}
      → Turning made s input kept t out counts → s.going ≡ true → Turned l s input kept t out counts r input' kept' t' out' counts'
      → Turning (made + 1) r input' kept' t' out' counts'
  one_turn g h m = record {
    octets = g.octets ++ m.pulls.piece;
    turns = one_more g.turns h (record { turned = m; reads = refl; says = refl });
  }

module _ (l : Layouts) (a : Receiver) (s : State) {s₀ : Standing}
    (e : s₀ ≡ begins a s) {input out counts : List ℕ} {made : ℕ} {r : Standing}
    {input' kept' out' counts' : List ℕ} {t' : Lent}
    (g : Turning l s₀ input none_kept roomy out counts made r input' kept' t' out' counts') where
  begun : Turning l (begins a s) input none_kept roomy out counts made r input' kept' t' out' counts'
  begun = subst (λ (x : Standing). Turning l x input none_kept roomy out counts made r input' kept' t' out' counts') e g

  pub looped : r.going ≡ false → Looped l a s input out counts r made input' out' counts'
  looped h = record { kept = kept'; lent = t'; octets = begun.octets; loops = stopped begun.turns h }

  pub looped-all : made ≡ most → Looped l a s input out counts r made input' out' counts'
  looped-all h = record { kept = kept'; lent = t'; octets = begun.octets; loops = all_made begun.turns h }

-- the whole
pub reported : {l : Layouts} {a : Receiver} {input out headed counts : List ℕ} {begun first last : State} {r : Standing} {made : ℕ}
    {input' out' counts' : List ℕ}
    → Begins out headed begun → length headed ≡ length out → Writes headed begun first
    → Looped l a first input headed counts r made input' out' counts'
    → Writes out' r.state last → Reported l a input out counts (record { standing = with_state r last; made = made }) input' out' counts'
reported {headed = headed} {begun = begun} {first = first} {r = r} b e w m x =
    record { headed = headed; begun = begun; begins = b; long = e; first = first; starts = w; last = r.state; looped = m; ends = x }

-- ---- the exit status

module _ (s : Standing) {f r : Bool} (e : f ≡ failed_in s.state.output) (d : r ≡ s.read.failed) where
  same : (f || (r || s.going)) ≡ not_done s
  same = ap (λ (x : Bool). x || (r || s.going)) e ∙ ap (λ (x : Bool). failed_in s.state.output || (x || s.going)) d

  pub status_broken : (f || (r || s.going)) ≡ true → broken ≡ status_of s
  status_broken h = picked _ _ _ (sym same ∙ h)

  pub status_against : (f || (r || s.going)) ≡ false → s.bad ≡ true → against ≡ status_of s
  status_against h k = passed _ _ _ _ (sym same ∙ h) (picked _ _ _ k)

  pub status_done : (f || (r || s.going)) ≡ false → s.bad ≡ false → done ≡ status_of s
  status_done h k = passed _ _ _ _ (sym same ∙ h) (passed _ _ _ _ k refl)
