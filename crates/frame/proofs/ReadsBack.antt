-- What the frame's writer gives, the reader reads back.
use Prim.Native.Nat.{ℕ, ◌+◌, ◌-◌, ◌*◌, ◌/◌, ◌%◌, ◌≤◌}
use native.Mathlib.Omega.{arith}
use mathlib.Core.Path.{◌≡◌, refl, sym, ap, ◌∙◌}
use mathlib.Core.List.{List, [], ◌∷◌, ◌++◌, append_assoc}
use mathlib.Core.Bool.{false}
use borrow.Author.Tests.{le-ltb, eq-eqb}
use lib.ListN.{length, take, drop, length-append}
use lib.Seq.{take_at, drop_at, get_or-append_seam}
use Rattle.octets.specs.Numbers.{at}
use Rattle.octets.specs.Pick.{pick}
use Rattle.octets.proofs.Placing.{part-some}
use Rattle.answer.specs.Told.{accept}
use Rattle.bits.specs.Rows.{ones}
use Rattle.crc.specs.Check.{frame_check, octets_of, with_check, check_wrong}
use Rattle.bits.specs.Rows.Order.{low_first}
use Rattle.crc.proofs.Ends.{found}
use Rattle.frame.specs.Address.{address_wrong, address_of}
use Rattle.frame.specs.Frame.{length_wrong, control_wrong, protocol_wrong, version_wrong, flag_of, status_wrong, pointer_wrong, data_length}
use Rattle.frame.specs.Frame.{status_of, frame_of, data_of, time_of, read_information, read_header, read_frame}
use Rattle.frame.specs.Back.{ReadsBack}
use Rattle.frame.specs.Write.{fields_wrong, front, status_octet, body, frame_octets}
use Rattle.frame.specs.declared.Frame.{Frame}
use Rattle.frame.proofs.AddressTrip.{octets-right, octets-back}
use Rattle.frame.proofs.Laying.{InRange, in_range, length-octets, flag-low}

module _ (f : Frame) (t : ℕ) (d m : List ℕ) (right : fields_wrong f t (length d) (length m) ≡ false) where
  s : List ℕ
  s = frame_octets f t d m

  r : InRange f t (length d) (length m)
  r = in_range f t (length d) (length m) right

  l : length s ≡ length d + 23 + length m
  unfolding s
  l = length-octets f t d m

  long : length_wrong t (length s) ≡ false
  long =
      let a : 23 + t ≤ length s = omega (arith, l, r.lent) in
      let b : length s ≤ 274 = omega (arith, l, r.lent, r.few, r.time) in
      simp (le-ltb _ _ a, le-ltb _ _ b)

  check : check_wrong low_first (ones 16) s ≡ false
  unfolding s frame_octets
  check = found low_first (ones 16) (body f t d m)

  to-right : address_wrong (take 7 s) 0 ≡ false
  unfolding s frame_octets with_check
  to-right = octets-right f.destination 0 r.destination r.to (omega arith)

  from-right : address_wrong (take 7 (drop 7 s)) 1 ≡ false
  unfolding s frame_octets with_check
  from-right = octets-right f.source 1 r.source r.from (omega arith)

  control : control_wrong (at s 14) ≡ false
  unfolding s frame_octets with_check
  control = refl

  protocol : protocol_wrong (at s 15) ≡ false
  unfolding s frame_octets with_check
  protocol = refl

  version : version_wrong (at s 16) ≡ false
  unfolding s frame_octets with_check
  version =
      let a : 8 * f.channel / 64 ≡ 0 = omega (arith, r.channel) in
      let b : 8 * f.channel % 8 ≡ 0 = omega arith in
      simp (a, b)

  place : data_length t s ≡ f.length
  place = omega (arith, l, r.lent, r.same)

  -- the octets from the status octet on, behind the data
  rest : List ℕ
  rest = status_octet f t ∷ m ++ octets_of low_first (frame_check (body f t d m))

  behind : s ≡ (front f ++ d) ++ rest
  unfolding s rest frame_octets with_check
  behind =
      append_assoc (front f ++ d ++ (status_octet f t ∷ [])) m _
      ∙ append_assoc (front f ++ d) (status_octet f t ∷ []) _

  front_length : length (front f ++ d) ≡ 20 + length d
  front_length = simp length-append (omega arith)

  status_at : status_of t s ≡ status_octet f t
  unfolding rest
  status_at =
      let n : length s - 3 - t ≡ length (front f ++ d) = simp front_length (omega (arith, l, r.lent)) in
      ap (λ (i : ℕ). at s i) n ∙ ap (λ (x : List ℕ). at x (length (front f ++ d))) behind ∙ get_or-append_seam (front f ++ d)
      (status_octet f t) _ 0

  status : status_wrong t (status_of t s) ≡ false
  unfolding status_wrong
  status =
      let low : flag_of t ≤ 15 = flag-low t refl r.time in
      let a : status_octet f t / 16 ≡ flag_of t = omega (arith, low, r.telecommands) in
      let b : status_octet f t / 4 % 4 ≡ 0 = omega (arith, low, r.telecommands) in
      simp (status_at, eq-eqb _ _ a, eq-eqb _ _ b)

  pointer-at : at s 19 ≡ f.pointer
  unfolding s frame_octets with_check
  pointer-at = refl

  pointer : pointer_wrong (at s 19) (data_length t s) ≡ false
  pointer = simp (place, pointer-at, r.same, r.pointer)

  to_at : address_of (take 7 s) ≡ f.destination
  unfolding s frame_octets with_check
  to_at = octets-back f.destination 0 r.destination r.to (omega arith)

  from_at : address_of (take 7 (drop 7 s)) ≡ f.source
  unfolding s frame_octets with_check
  from_at = octets-back f.source 1 r.source r.from (omega arith)

  channel-at : at s 16 / 8 ≡ f.channel
  unfolding s frame_octets with_check
  channel-at = omega arith

  master-at : at s 17 ≡ f.master.0
  unfolding s frame_octets with_check
  master-at = refl

  count_at : at s 18 ≡ f.count.0
  unfolding s frame_octets with_check
  count_at = refl

  fields : frame_of t s ≡ f
  unfolding frame_of
  fields =
      let c : status_of t s % 4 ≡ f.telecommands = omega (arith, status_at, r.telecommands) in
      simp (to_at, from_at, channel-at, master-at, count_at, pointer-at, c, place)

  read : read_frame t s ≡ accept f
  unfolding read_frame read_header read_information pick
  read = simp (le-ltb 8 t r.time, long, check, to-right, from-right, control, protocol, version, status, pointer, fields)

  data_at_lem : data_of f s ≡ d
  data_at_lem =
      sym (part-some s 20 f.length (omega (arith, l, r.same)))
      ∙ ap (λ (x : List ℕ). take f.length (drop 20 x)) (behind ∙ append_assoc (front f) d rest)
      ∙ take_at d rest f.length (sym r.same)

  time-at : time_of f t s ≡ m
  unfolding rest
  time-at =
      let n : length (front f ++ d ++ (status_octet f t ∷ [])) ≡ 21 + f.length = simp length-append (omega (arith, r.same)) in
      sym (part-some s (21 + f.length) t (omega (arith, l, r.same, r.lent)))
      ∙ ap (λ (x : List ℕ). take t (drop (21 + f.length) x)) (behind ∙ sym (append_assoc (front f ++ d) (status_octet f t ∷ []) _))
      ∙ ap (take t) (drop_at (front f ++ d ++ (status_octet f t ∷ [])) _ (21 + f.length) n)
      ∙ take_at m _ t r.lent

pub reads-back : ReadsBack
unfolding s
reads-back f t d m h = record { fields = read f t d m h; «data» = data_at_lem f t d m h; time = time-at f t d m h }
