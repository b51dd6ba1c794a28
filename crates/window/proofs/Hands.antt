-- Laws of the octets at hand, and of a read behind them.
use Prim.Native.Nat.{ℕ, zero, suc, ◌+◌, ◌-◌, ◌≤◌, ◌<◌}
use mathlib.Core.Path.{◌≡◌, refl, sym, ap, ◌∙◌}
use mathlib.Core.List.{List, [], ◌∷◌, ◌++◌}
use mathlib.Core.Bool.{Bool, true}
use native.Mathlib.Omega.{arith}
use native.Mathlib.Nat.{sub-zero, zero-sub, suc-sub-suc}
use lib.ListN.{length, take, drop, take-append-drop, length-append, length-drop}
use lib.Seq.{take_all, take-nil, take-take, drop-drop, length-take-le, take-append_seam}
use Rattle.octets.specs.Parts.{part}
use Rattle.octets.proofs.Placing.{part-some}
use Rattle.window.specs.Window.{hand, Refills}
use Rattle.window.specs.declared.Refilled.{Refilled}

none : (l : List ℕ) → length l ≡ 0 → [] ≡ l
none [] h = refl
none (x ∷ l) h = absurd (omega arith)

no_part : (input : List ℕ) → part input 0 0 ≡ []
no_part input = sym (part-some input 0 0 (omega arith))

module _ (input : List ℕ) (at end : ℕ) where
  pub hand-none : {l : List ℕ} → l ≡ part input 0 0 → end ≤ at → l ≡ hand input at end
  hand-none e h =
      let z : 0 ≡ end - at = omega arith in
      e ∙ no_part input ∙ ap (λ (k : ℕ). take k (drop at input)) z

  pub hand-rest : length input < end → take (length input - at) (drop at input) ≡ hand input at end
  hand-rest h =
      let d = length-drop at input in
      take_all (length input - at) (drop at input) (omega arith) ∙ sym (take_all (end - at) (drop at input) (omega arith))

  pub hand-beyond : {l : List ℕ} → l ≡ part input 0 0 → length input < at → l ≡ hand input at end
  hand-beyond e h =
      let d = length-drop at input in
      e ∙ no_part input ∙ sym (take-nil (end - at)) ∙ ap (take (end - at)) (none (drop at input) (omega arith))

-- a part is no longer than the whole, and is its front by its length
pub take_short : (k : ℕ) (l : List ℕ) → length (take k l) ≤ length l
take_short k l = omega (arith, simp length-append at (ap length (take-append-drop k l)))

pub take_own : (k : ℕ) (l : List ℕ) → take (length (take k l)) l ≡ take k l
take_own zero l = refl
take_own (suc k) [] = refl
take_own (suc k) (x ∷ l) = ap (λ (r : List ℕ). x ∷ r) (take_own k l)

drop-take : (m n : ℕ) (l : List ℕ) → drop m (take n l) ≡ take (n - m) (drop m l)
drop-take zero n l = ap (λ (k : ℕ). take k l) (sym (sub-zero n))
drop-take (suc m) zero l = sym (ap (λ (k : ℕ). take k (drop (suc m) l)) (zero-sub (suc m)))
drop-take (suc m) (suc n) [] = sym (take-nil (suc n - suc m))
drop-take (suc m) (suc n) (x ∷ l) = drop-take m n l ∙ ap (λ (k : ℕ). take k (drop m l)) (sym (suc-sub-suc n m))

-- behind the octets that were used
pub hand-behind : (input : List ℕ) (at end used : ℕ) → drop used (hand input at end) ≡ hand input (at + used) end
hand-behind input at end used =
    let n : end - at - used ≡ end - (at + used) = omega arith in
    drop-take used (end - at) (drop at input) ∙ ap (λ (k : ℕ). take k (drop used (drop at input))) n ∙ ap (take (end - (at + used)))
    (drop-drop used at input)

-- A read behind the octets at hand, l of them.
module _ (input : List ℕ) (at end : ℕ) {l : List ℕ} (e : l ≡ hand input at end) where
  pub hand-short : length l ≤ length (drop at input)
  hand-short = omega (arith, ap length e, take_short (end - at) (drop at input))

  module _ (b : List ℕ) (moved : take (length l) b ≡ take (length l) (drop at input)) where
    at-hand : take (length l) b ≡ hand input at end
    at-hand = moved ∙ ap (λ (k : ℕ). take k (drop at input)) (ap length e) ∙ take_own (end - at) (drop at input)

    pub refills : {b' : List ℕ} {came : ℕ} (failed : Bool) → take (length l) b' ≡ take (length l) b → length l + came ≤ length b'
        → length l < length b'
        → Refills input at end b' (record { have = length l + came; came = came; failed = failed; tried = true })
    refills {b'} {came} failed kept inside room = record {
      piece = drop (length l) (take (length l + came) b');
      window = ap (λ (k : ℕ). take k b') (sub-zero (length l + came))
          ∙ sym (take-append-drop (length l) (take (length l + came) b'))
          ∙ ap (λ (x : List ℕ). x ++ drop (length l) (take (length l + came) b'))
          (take-take (length l) (length l + came) b' (omega arith) ∙ kept ∙ at-hand);
      many = simp length-drop (omega (arith, length-take-le (length l + came) b' inside));
      inside = inside;
      tried = refl;
      room = λ f. omega (arith, ap length e);
    }

-- what was at hand stays
pub stays : {input : List ℕ} {at end : ℕ} {b : List ℕ} {r : Refilled} → Refills input at end b r → take
    (r.have - r.came) b ≡ hand input at end
stays {input} {at} {end} {b} {r} g =
    let h : List ℕ = hand input at end in
    let w : take r.have b ≡ h ++ g.piece = ap (λ (k : ℕ). take k b) (sym (sub-zero r.have)) ∙ g.window in
    let n : r.have ≡ length h + r.came =
    sym (length-take-le r.have b g.inside) ∙ ap length w ∙ length-append h g.piece ∙ ap (λ (k : ℕ). length h + k) g.many in
    let m : r.have - r.came ≡ length h = omega (arith, n) in
    ap (λ (k : ℕ). take k b) m
    ∙ sym (take-take (length h) r.have b (omega (arith, n)))
    ∙ ap (take (length h)) w
    ∙ take-append_seam h g.piece
