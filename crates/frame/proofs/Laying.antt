-- Facts that the writer's functions pass on: fields in range, and what the puts leave one after another.
use Prim.Native.Nat.{ℕ, zero, suc, ◌+◌, ◌-◌, ◌≤◌, ◌<◌}
use native.Mathlib.Omega.{arith}
use mathlib.Core.Path.{◌≡◌, refl, sym, ◌∙◌}
use mathlib.Core.List.{List, [], ◌∷◌, ◌++◌}
use mathlib.Core.Bool.{Bool, true, false, not, ◌&&◌}
use mathlib.Core.Logic.{⊎_elim}
use borrow.Author.Tests.{leb-true, eqb-true, not-false}
use lib.ListN.{length, take, length-append}
use lib.Seq.{take_at}
use lib.Dec.{leb, eqb}
use Rattle.octets.specs.Parts.{put, written}
use Rattle.octets.proofs.Placing.{put_first, after}
use Rattle.octets.proofs.Tests.{facts, or_right, and_true_right, or_true, and_false}
use Rattle.crc.specs.Check.{frame_check, octets_of, with_check}
use Rattle.bits.specs.Rows.Order.{low_first}
use Rattle.frame.specs.Address.{sign, space, breaks, callsign_wrong, address_octets}
use Rattle.frame.specs.Asked.{Fits, Room}
use Rattle.frame.specs.Frame.{flag_of, pointer_wrong}
use Rattle.frame.specs.Write.{fields_wrong, head_of, front, status_octet, body, frame_octets}
use Rattle.frame.specs.declared.Address.{Address}
use Rattle.frame.specs.declared.Frame.{Frame}

-- ---- fields in range

sign_low : (x : ℕ) → sign x ≡ true → x ≤ 90
sign_low x h =
    ⊎_elim (λ p. leb-true x 90 (and_true_right (leb 65 x) _ p)) (λ p. omega (arith, leb-true x 57 (and_true_right (leb 48 x) _ p)))
    (or_true (leb 65 x && leb x 90) _ h)

break_low : (before x : ℕ) → breaks before x ≡ false → x ≤ 90
break_low before x h =
    ⊎_elim (λ p. omega (arith, eqb-true x space (not-false _ p))) (λ p. sign_low x (not-false _ (or_right (eqb before space) _ p)))
    (and_false (not (eqb x space)) _ h)

fits : (a : Address) → callsign_wrong a.callsign ≡ false → a.ssid ≤ 15 → Fits a
fits a h l = search (facts, sign_low, break_low, h)

pub record InRange (f : Frame) (t n m : ℕ) : Type 0 where
  pub time : t ≤ 8
  pub lent : m ≡ t
  pub same : f.length ≡ n
  pub few : n ≤ 251 - t
  pub channel : f.channel ≤ 7
  pub telecommands : f.telecommands ≤ 3
  pub to : f.destination.ssid ≤ 15
  pub from : f.source.ssid ≤ 15
  pub pointer : pointer_wrong f.pointer n ≡ false
  pub destination : callsign_wrong f.destination.callsign ≡ false
  pub source : callsign_wrong f.source.callsign ≡ false

pub in_range : (f : Frame) (t n m : ℕ) → fields_wrong f t n m ≡ false → InRange f t n m
unfolding fields_wrong
in_range f t n m h = search facts depth 14

pub room : (f : Frame) (t : ℕ) (d m out : List ℕ) {said : Bool} → said ≡ fields_wrong f t (length d) (length m) → said ≡ false
    → length d + 23 + length m ≤ length out → Room f t d m out
room f t d m out e h l =
    let r = in_range f t (length d) (length m) (sym e ∙ h) in
    record {
      time = r.time;
      telecommands = r.telecommands;
      front =
          record {
            channel = r.channel;
            destination = fits f.destination r.destination r.to;
            source = fits f.source r.source r.from;
            room = omega arith;
          };
      lent = r.lent;
      room = omega (arith, r.lent);
    }

pub flag-low : (t : ℕ) {g : ℕ} → g ≡ flag_of t → t ≤ 8 → g ≤ 15
flag-low zero e h = rw e (omega arith)
flag-low (suc n) e h = rw e (omega arith)

-- ---- the frame's length

pub length-octets : (f : Frame) (t : ℕ) (d m : List ℕ) → length (frame_octets f t d m) ≡ length d + 23 + length m
unfolding frame_octets with_check
length-octets f t d m = simp length-append (omega arith)

module _ (f : Frame) (t : ℕ) (d m out : List ℕ) where
  pub octets-length : length d + 23 + length m ≡ length (frame_octets f t d m)
  octets-length = sym (length-octets f t d m)

  pub short : length out < length d + 23 + length m → length out < length (frame_octets f t d m)
  short h = simp length-octets h

  pub long : length d + 23 + length m ≤ length out → length (frame_octets f t d m) ≤ length out
  long h = simp length-octets h

-- ---- the puts

pub front_steps : (f : Frame) (out : List ℕ) {a b c o₁ o₂ o₃ : List ℕ} → 20 ≤ length out → a ≡ address_octets f.destination 0
    → b ≡ address_octets f.source 1 → c ≡ head_of f → o₁ ≡ put out 0 a → o₂ ≡ put o₁ 7 b → o₃ ≡ put o₂ 14 c → o₃ ≡ written (front f) out
front_steps f out h ea eb ec e₁ e₂ e₃ =
    let a : List ℕ = address_octets f.destination 0 in
    let b : List ℕ = address_octets f.source 1 in
    after (a ++ b) (head_of f) out 14
    (after a b out 7 (e₁ ∙ rw ea (put_first a out (omega arith))) (rw eb at e₂) refl (omega arith))
    (rw ec at e₃) refl (omega arith)

pub steps : (f : Frame) (t : ℕ) (d m out : List ℕ) {g : ℕ} {o₀ o₁ o₂ o₃ o₄ : List ℕ} → length d + 23 + t ≤ length out → length m ≡ t
    → g ≡ status_octet f t → o₀ ≡ written (front f) out → o₁ ≡ put o₀ 20 d → o₂ ≡ put o₁ (length d + 20) (g ∷ [])
    → o₃ ≡ put o₂ (length d + 20 + 1) m
    → o₄ ≡ put o₃ (length d + 20 + 1 + t) (octets_of low_first (frame_check (take (length d + 20 + 1 + t) o₃)))
    → o₄ ≡ written (frame_octets f t d m) out
unfolding frame_octets with_check
steps f t d m out h l eg e₀ e₁ e₂ e₃ e₄ =
    let s : List ℕ = status_octet f t ∷ [] in
    let b : List ℕ = body f t d m in
    let n₂ : length d + 20 ≡ length (front f ++ d) = simp length-append (omega arith) in
    let n₃ : length d + 20 + 1 ≡ length (front f ++ d ++ s) = simp length-append (omega arith) in
    let n₄ : length d + 20 + 1 + t ≡ length b = simp length-append (omega arith) in
    let f₁ = after (front f) d out 20 e₀ e₁ refl (omega arith) in
    let f₂ = after (front f ++ d) s out _ f₁ (rw eg at e₂) n₂ (omega (arith, n₂)) in
    let f₃ = after (front f ++ d ++ s) m out _ f₂ e₃ n₃ (omega (arith, n₃)) in
    let k : take (length d + 20 + 1 + t) (written b out) ≡ b = take_at b _ _ (sym n₄) in
    after b (octets_of low_first (frame_check b)) out _ f₃ (e₄ ∙ rw f₃ (rw k refl)) n₄ (omega (arith, n₄))
