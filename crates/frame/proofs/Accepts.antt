-- What holds of a frame that was accepted.
use Prim.Native.Nat.{ℕ, ◌+◌, ◌/◌, ◌%◌, ◌≤◌, ◌<◌}
use native.Mathlib.Omega.{arith}
use mathlib.Core.Path.{◌≡◌, subst}
use mathlib.Core.List.{List}
use mathlib.Core.Bool.{true, false, not, ◌&&◌, ◌||◌}
use mathlib.Core.Logic.{inl, inr, ⊎_elim}
use borrow.Author.Tests.{ltb-true, ltb-false, eqb-true, eqb-false, not-false, not-true}
use lib.ListN.{length, take, drop}
use lib.Dec.{ltb, eqb}
use Rattle.octets.specs.Numbers.{at}
use Rattle.octets.proofs.Choices.{not_picked}
use Rattle.octets.proofs.Runs.{length_part}
use Rattle.octets.proofs.Tests.{facts, or_true, and_true_left, and_true_right}
use Rattle.answer.specs.Told.{accept}
use Rattle.answer.proofs.Told.{same-fields, refuse_or_accept}
use Rattle.bits.specs.Rows.{ones}
use Rattle.bits.specs.Rows.Order.{low_first}
use Rattle.crc.specs.Check.{check_wrong}
use Rattle.frame.specs.Address.{address_wrong}
use Rattle.frame.specs.Frame.{length_wrong, control_wrong, protocol_wrong, version_wrong, flag_of, status_wrong, pointer_wrong, data_length}
use Rattle.frame.specs.Frame.{status_of, frame_of, read_information, read_header, read_frame}
use Rattle.frame.specs.Back.{PointerRight, Accepted, Accepts}
use Rattle.frame.specs.declared.Frame.{Frame}

-- what each test that was passed says
pub record Passed (t : ℕ) (s : List ℕ) : Type 0 where
  pub time : t ≤ 8
  pub least : 23 + t ≤ length s
  pub greatest : length s ≤ 274
  pub check : check_wrong low_first (ones 16) s ≡ false
  pub destination : address_wrong (take 7 s) 0 ≡ false
  pub source : address_wrong (take 7 (drop 7 s)) 1 ≡ false
  pub control : at s 14 ≡ 3
  pub protocol : at s 15 ≡ 240
  pub version : at s 16 / 64 ≡ 0
  pub spare : at s 16 % 8 ≡ 0
  pub flag : status_of t s / 16 ≡ flag_of t
  pub quiet : status_of t s / 4 % 4 ≡ 0
  pub pointer : pointer_wrong (at s 19) (data_length t s) ≡ false

pub passed : (t : ℕ) (s : List ℕ) (f : Frame) → read_frame t s ≡ accept f → Passed t s × (frame_of t s ≡ f)
unfolding read_frame read_header read_information status_wrong
passed t s f h =
    let h₁ = not_picked (ltb 8 t) _ _ _ h refuse_or_accept in
    let h₂ = not_picked (length_wrong t (length s)) _ _ _ h₁.1 refuse_or_accept in
    let h₃ = not_picked (check_wrong low_first (ones 16) s) _ _ _ h₂.1 refuse_or_accept in
    let to = not_picked (address_wrong (take 7 s) 0) _ _ _ h₃.1 refuse_or_accept in
    let from = not_picked (address_wrong (take 7 (drop 7 s)) 1) _ _ _ to.1 refuse_or_accept in
    let c = not_picked (control_wrong (at s 14)) _ _ _ from.1 refuse_or_accept in
    let h₄ = not_picked (protocol_wrong (at s 15)) _ _ _ c.1 refuse_or_accept in
    let h₅ = not_picked (version_wrong (at s 16)) _ _ _ h₄.1 refuse_or_accept in
    let h₆ = not_picked (status_wrong t (status_of t s)) _ _ _ h₅.1 refuse_or_accept in
    let h₇ = not_picked (pointer_wrong (at s 19) (data_length t s)) _ _ _ h₆.1 refuse_or_accept in
    let b : (23 + t ≤ length s) × (length s ≤ 274) = (let b = h₂.0 in search facts) in
    let v : (at s 16 / 64 ≡ 0) × (at s 16 % 8 ≡ 0) = (let v = h₅.0 in search facts) in
    let g : (status_of t s / 16 ≡ flag_of t) × (status_of t s / 4 % 4 ≡ 0) = (let g = h₆.0 in search facts) in (
      record {
        time = ltb-false 8 t h₁.0;
        least = b.0;
        greatest = b.1;
        check = h₃.0;
        destination = to.0;
        source = from.0;
        control = eqb-true _ _ (not-false _ c.0);
        protocol = eqb-true _ _ (not-false _ h₄.0);
        version = v.0;
        spare = v.1;
        flag = g.0;
        quiet = g.1;
        pointer = h₇.0;
      },
      same-fields h₇.1,
    )

-- what a test that was passed says of a pointer
pub pointer-right : (pointer n : ℕ) → pointer_wrong pointer n ≡ false → PointerRight pointer n
unfolding pointer_wrong
pointer-right pointer n h =
    let raw : (eqb pointer 254 && not (eqb n 0)) ≡ true → (pointer ≡ 254) × (0 < n) =
    λ p. (
      eqb-true pointer 254 (and_true_left (eqb pointer 254) _ p),
      (let z = eqb-false n 0 (not-true _ (and_true_right (eqb pointer 254) _ p)) in omega arith),
    ) in
    ⊎_elim
    (λ p. ⊎_elim (λ q. inl (ltb-true pointer n q)) (λ q. inr (inl (eqb-true pointer 255 q))) (or_true (ltb pointer n) _ p))
    (λ p. inr (inr (raw p)))
    (or_true (ltb pointer n || eqb pointer 255) _ (not-false _ h))

pub accepts : Accepts
unfolding frame_of
accepts t s f h =
    let p = passed t s f h in
    let k = p.0 in
    subst (λ (x : Frame). Accepted t s x) p.1
    (record {
      time = k.time;
      least = k.least;
      greatest = k.greatest;
      channel = omega (arith, k.version);
      telecommands = omega arith;
      parts = omega (arith, k.least);
      «data» = length_part s 20 (data_length t s) (omega (arith, k.least));
      few = omega (arith, k.greatest, k.least);
      pointer = pointer-right _ _ k.pointer;
    })
