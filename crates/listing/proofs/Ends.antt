-- What is told at the input's end.
use Prim.Native.Nat.{ℕ}
use mathlib.Core.Path.{◌≡◌, refl, sym, ap, ◌∙◌, subst}
use mathlib.Core.List.{List, []}
use mathlib.Core.Bool.{Bool, true, false}
use native.Mathlib.Nat.{add-zero}
use lib.Seq.{paste-zero}
use Rattle.octets.specs.Pick.{pick}
use Rattle.decimal.specs.Laid.{Puts}
use Rattle.source.specs.Found.{cut_at}
use Rattle.source.specs.declared.Source.{Source}
use Rattle.listing_lines.specs.Text.{longest_line, bad_recording}
use Rattle.listing.specs.Promised.{at_end}

either : {A : Type 0} (b : Bool) {x y z : A} → x ≡ y → x ≡ z → x ≡ pick b y z
unfolding pick
either true h k = h
either false h k = k

-- nothing is put
nothing_put : (most : ℕ) (out : List ℕ) (at : ℕ) → Puts most [] out at out at
nothing_put most out at = record { leaves = either _ refl (paste-zero out at []); behind = either _ refl (sym (add-zero at)) }

is_cut : (s : Source) → cut_at s ≡ true → at_end s ≡ bad_recording
unfolding pick
is_cut s e = ap (λ (b : Bool). pick b bad_recording []) e

is_whole : (s : Source) → cut_at s ≡ false → at_end s ≡ []
unfolding pick
is_whole s e = ap (λ (b : Bool). pick b bad_recording []) e

module _ (s : Source) {b : Bool} (e : b ≡ cut_at s) {out : List ℕ} {at : ℕ} where
  pub told-bad : {r : ℕ} {out' : List ℕ} → b ≡ true → Puts longest_line bad_recording out at out' r → Puts longest_line (at_end s) out at out' r
  told-bad {r} {out'} h w = subst (λ (x : List ℕ). Puts longest_line x out at out' r) (sym (is_cut s (sym e ∙ h))) w

  pub told_none : b ≡ false → Puts longest_line (at_end s) out at out at
  told_none h = subst (λ (x : List ℕ). Puts longest_line x out at out at) (sym (is_whole s (sym e ∙ h))) (nothing_put longest_line out at)
