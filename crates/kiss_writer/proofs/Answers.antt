-- What an export answers and leaves, at each of its ends.
use Rattle.std.specs.Prelude.{Ok, Err}
use Prim.Native.Nat.{ℕ, ◌≤◌, ◌<◌}
use mathlib.Core.Path.{◌≡◌, refl, sym, ap, ◌∙◌}
use mathlib.Core.Bool.{Bool, true, false, false≢true}
use mathlib.Core.List.{List, [], ◌∷◌}
use native.Mathlib.Omega.{arith}
use lib.ListN.{length}
use borrow.Author.Tests.{lt-ltb, le-ltb, eqb-true, not-false}
use Rattle.octets.specs.Pick.{pick}
use Rattle.octets.specs.Parts.{written}
use Rattle.octets.proofs.Choices.{picked, passed}
use Rattle.answer.specs.Told.{Told, accept, refuse_at, refuse_for}
use Rattle.answer.specs.declared.Reason.{Reason}
use Rattle.answer.specs.declared.Reason.TheVariants.{TimeLength, FieldRange, OutputShort}
use Rattle.frame.specs.Limits.{longest_time}
use Rattle.frame.specs.Frame.{read_frame}
use Rattle.frame.proofs.Tells.{read-tells}
use Rattle.frame.proofs.Accepts.{accepts}
use Rattle.rules.specs.Packets.{cut, total}
use Rattle.lengths.specs.Lengths.{lengths_wrong}
use Rattle.kiss_writer.specs.Export.{stream_of, told, first_bad, exporting, Exports}
use Rattle.kiss_writer.specs.Asked.{Checked, Frames}
use Rattle.kiss_writer.specs.Answers.{Exported}

-- ---- no frame is bad

long : (t : ℕ) (f : List ℕ) → (read_frame t f).accepted ≡ true → 2 ≤ length f
long t f h = omega (arith, (accepts t f _ ((read-tells t f).plain h)).least)

pub good-accepted : (t : ℕ) (f : List ℕ) (fs : List (List ℕ)) → (first_bad t (f ∷ fs)).accepted ≡ true
    → ((read_frame t f).accepted ≡ true) × ((first_bad t fs).accepted ≡ true)
unfolding first_bad pick
good-accepted t f fs h = go (read_frame t f).accepted refl h
  where
    go : (b : Bool) → (read_frame t f).accepted ≡ b → (pick b (first_bad t fs)
        (refuse_at 0 (read_frame t f).refusal (read_frame t f).octet)).accepted ≡ true
        → ((read_frame t f).accepted ≡ true) × ((first_bad t fs).accepted ≡ true)
    go true e h = (e, h)
    go false e h = absurd (false≢true h)

checked : (t : ℕ) (fs : List (List ℕ)) → (first_bad t fs).accepted ≡ true → Checked fs
checked t [] h = tt
checked t (f ∷ fs) h = let g = good-accepted t f fs h in (long t f g.0, checked t fs g.1)

pub adds_up : (ns : List ℕ) (n : ℕ) {b : Bool} → b ≡ lengths_wrong ns n → b ≡ false → total ns ≡ n
adds_up ns n e h = eqb-true (total ns) n (not-false _ (sym e ∙ h))

-- ---- the ends

module _ (t : ℕ) (d ns out : List ℕ) where
  refuses : {q : Reason} → refuse_for 0 q ≡ exporting t d ns out → Exports t d ns out (Err q) out
  refuses e = record { answers = e; leaves = passed _ _ _ _ refl refl }

  pub refuses_2 : longest_time < t → Exports t d ns out (Err TimeLength) out
  unfolding exporting
  refuses_2 h = refuses (picked _ _ _ (lt-ltb _ _ h))

  module _ (h : t ≤ longest_time) where
    pub refuses_51 : {b : Bool} → b ≡ lengths_wrong ns (length d) → b ≡ true → Exports t d ns out (Err FieldRange) out
    unfolding exporting
    refuses_51 k w = refuses (passed _ _ _ _ (le-ltb _ _ h) (picked _ _ _ (sym k ∙ w)))

    module _ {b : Bool} (k : b ≡ lengths_wrong ns (length d)) (w : b ≡ false) where
      pub refuses-bad : {r : Exported} {q : Reason} → told r ≡ first_bad t (cut d ns) → r ≡ Err q → Exports t d ns out (Err q) out
      unfolding exporting
      refuses-bad {q = q} e f =
          let g : refuse_for 0 q ≡ first_bad t (cut d ns) = ap told (sym f) ∙ e in
          refuses (g ∙ passed _ _ _ _ (le-ltb _ _ h)
          (passed _ _ _ _ (sym k ∙ w) (passed _ _ _ _ (ap (λ (r : Told ℕ). r.accepted) (sym g)) refl)))

      module _ {r : Exported} {m : ℕ} (e : told r ≡ first_bad t (cut d ns)) (f : r ≡ Ok m) where
        none-bad : (first_bad t (cut d ns)).accepted ≡ true
        none-bad = ap (λ (r : Told ℕ). r.accepted) (sym e ∙ ap told f)

        pub frames-good : Frames d ns
        frames-good = record { adds = adds_up ns (length d) k w; checked = checked t (cut d ns) none-bad }

        pub refuses_50 : length out < length (stream_of (cut d ns)) → Exports t d ns out (Err OutputShort) out
        unfolding exporting
        refuses_50 l =
            refuses (passed _ _ _ _ (le-ltb _ _ h)
            (passed _ _ _ _ (sym k ∙ w) (picked _ _ _ (lt-ltb _ _ l) ∙ picked _ _ _ none-bad)))

        pub writes : {n : ℕ} {out' : List ℕ} → length (stream_of (cut d ns)) ≤ length out
            → (n ≡ length (stream_of (cut d ns))) × (out' ≡ written (stream_of (cut d ns)) out) → Exports t d ns out (Ok n) out'
        unfolding exporting
        writes l g =
            record {
              answers =
                  ap accept g.0
                  ∙ passed _ _ _ _ (le-ltb _ _ h) (passed _ _ _ _ (sym k ∙ w) (passed _ _ _ _ (le-ltb _ _ l) refl ∙ picked _ _ _ none-bad));
              leaves = g.1 ∙ picked _ _ _ refl;
            }
