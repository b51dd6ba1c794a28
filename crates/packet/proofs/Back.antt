-- The packet's reader and its writer undo one another.
use Prim.Native.Nat.{ℕ, ◌+◌, ◌-◌, ◌/◌, ◌%◌, ◌≤◌, ◌<◌}
use native.Mathlib.Omega.{arith}
use mathlib.Core.Path.{◌≡◌, refl, sym, ap, ◌∙◌}
use mathlib.Core.List.{List, ◌++◌}
use mathlib.Core.Bool.{false}
use borrow.Author.Tests.{le-ltb, eq-eqb}
use lib.ListN.{length, take, drop, length-drop}
use lib.Seq.{take_at, take-add, length-take-le}
use Rattle.octets.specs.Numbers.{at, word, word_of}
use Rattle.octets.specs.Pick.{pick}
use Rattle.octets.proofs.Choices.{not_picked}
use Rattle.octets.proofs.Laws.{word-high, word_low, five_of_lem}
use Rattle.octets.proofs.Placing.{part-some}
use Rattle.octets.proofs.Runs.{run, run_is}
use Rattle.octets.proofs.Tests.{facts}
use Rattle.answer.specs.Told.{accept}
use Rattle.answer.proofs.Told.{same-fields, refuse_or_accept}
use Rattle.bits.specs.Rows.{zeros}
use Rattle.bits.specs.Rows.Order.{high_first}
use Rattle.crc.specs.Check.{packet_check, with_check, check_wrong}
use Rattle.crc.proofs.Ends.{found}
use Rattle.packet.specs.Packet.{length_wrong, bits_wrong, fields_of, read_packet, source_of}
use Rattle.packet.specs.Write.{fields_wrong, header_of, packet_octets}
use Rattle.packet.specs.Asked.{InRange}
use Rattle.packet.specs.Back.{ReadsBack, WritesBack}
use Rattle.packet.proofs.Laws.{in_range, length-octets}
use Rattle.packet.specs.declared.Packet.{Packet}
use Rattle.crc.proofs.Ends.{accepted as check-accepted}

length-accepts : (s : List ℕ) → 16 ≤ length s → length s ≤ 251 → length s ≡ word (at s 4) (at s 5) + 7 → length_wrong s ≡ false
unfolding length_wrong
length-accepts s a b e = simp (le-ltb _ _ a, le-ltb _ _ b, eq-eqb _ _ e)

bits-accept : (s : List ℕ) → at s 0 / 8 ≡ 1 → at s 2 / 64 ≡ 3 → at s 6 ≡ 16 → bits_wrong s ≡ false
bits-accept s a b e = simp (eq-eqb _ _ a, eq-eqb _ _ b, eq-eqb _ _ e)

module _ (p : Packet) (d : List ℕ) (right : fields_wrong p (length d) ≡ false) where
  r : InRange p (length d)
  r = in_range p (length d) right

  l : length (packet_octets p d) ≡ length d + 16
  l = length-octets p d

  length-right : length_wrong (packet_octets p d) ≡ false
  unfolding packet_octets with_check
  length-right =
      length-accepts (packet_octets p d) (omega (arith, l)) (omega (arith, l, r.length)) (omega (arith, l, r.same, r.length))

  check-written : check_wrong high_first (zeros 16) (packet_octets p d) ≡ false
  unfolding packet_octets
  check-written = found high_first (zeros 16) (header_of p ++ d)

  bits-right : bits_wrong (packet_octets p d) ≡ false
  unfolding packet_octets with_check
  bits-right = bits-accept (packet_octets p d) (omega (arith, r.apid)) (omega (arith, r.count)) refl

  fields-right : fields_of (packet_octets p d) ≡ p
  unfolding fields_of packet_octets with_check
  fields-right =
      let a : word ((8 + p.apid / 256) % 8) (p.apid % 256) ≡ p.apid = omega (arith, r.apid) in
      let c : word ((192 + p.sequence.0 / 256) % 64) (p.sequence.0 % 256) ≡ p.sequence.0 = omega (arith, r.count) in
      let n : length (packet_octets p d) - 16 ≡ p.length = omega (arith, l, r.same) in
      simp (a, c, five_of_lem _ r.time, n)

  source-right : source_of p (packet_octets p d) ≡ d
  unfolding packet_octets with_check
  source-right =
      sym (part-some (packet_octets p d) 14 p.length (omega (arith, l, r.same)))
      ∙ take_at d (word_of (packet_check (header_of p ++ d))) p.length (sym r.same)

-- what the writer gives, the reader reads back
pub reads-back : ReadsBack
unfolding read_packet pick
reads-back p d right =
    record {
      fields = simp (length-right p d right, check-written p d right, bits-right p d right, fields-right p d right);
      source = source-right p d right;
    }

-- what was not refused, as facts
pub record Accepted (s : List ℕ) (p : Packet) : Type 0 where
  pub least : 16 ≤ length s
  pub greatest : length s ≤ 251
  pub count : length s ≡ word (at s 4) (at s 5) + 7
  pub check : check_wrong high_first (zeros 16) s ≡ false
  pub first : at s 0 / 8 ≡ 1
  pub grouping : at s 2 / 64 ≡ 3
  pub pus : at s 6 ≡ 16
  pub fields : fields_of s ≡ p

pub accepted : {s : List ℕ} {p : Packet} → read_packet s ≡ accept p → Accepted s p
unfolding read_packet length_wrong
accepted {s} {p} h =
    let a = not_picked (length_wrong s) _ _ _ h refuse_or_accept in
    let b = not_picked (check_wrong high_first (zeros 16) s) _ _ _ a.1 refuse_or_accept in
    let c = not_picked (bits_wrong s) _ _ _ b.1 refuse_or_accept in
    let l : length_wrong s ≡ false = a.0 in
    let k : check_wrong high_first (zeros 16) s ≡ false = b.0 in
    let g : bits_wrong s ≡ false = c.0 in
    let f : fields_of s ≡ p = same-fields c.1 in
    search facts

-- a packet has 16 octets besides its source data
pub length_of : (s : List ℕ) (p : Packet) → read_packet s ≡ accept p → length s ≡ p.length + 16
unfolding fields_of
length_of s p h =
    let k : Accepted s p = accepted h in
    let n : length s - 16 ≡ p.length = ap (λ (q : Packet). q.length) k.fields in
    omega (arith, n, k.least)

module _ (s : List ℕ) (p : Packet) (octet : (i : ℕ) → at s i < 256) (h : read_packet s ≡ accept p) where
  k : Accepted s p
  k = accepted h

  -- the octets between the header and the check
  data_is : take (length s - 16) (drop 14 s) ≡ source_of p s
  unfolding fields_of
  data_is =
      part-some s 14 (length s - 16) (omega (arith, k.least))
      ∙ ap (λ (q : Packet). source_of q s) k.fields

  header-back : header_of (fields_of s) ≡ run 0 14 s
  unfolding fields_of
  header-back =
      let a : 8 + at s 0 % 8 ≡ at s 0 = omega (arith, k.first) in
      let b : 192 + at s 2 % 64 ≡ at s 2 = omega (arith, k.grouping) in
      let c : (length s - 16 + 9) / 256 ≡ at s 4 = omega (arith, k.least, k.count, octet 5) in
      let d : (length s - 16 + 9) % 256 ≡ at s 5 = omega (arith, k.least, k.count, octet 5) in
      let t : at s 9 % 256 ≡ at s 9 = omega (arith, octet 9) in
      simp (a, b, c, d, word-high, word_low, octet, t, k.pus)

  body_back : header_of p ++ source_of p s ≡ take (length s - 2) s
  body_back =
      let e : length s - 2 ≡ 14 + (length s - 16) = omega (arith, k.least) in
      ap (λ (x : List ℕ). header_of p ++ x) (sym data_is)
      ∙ ap (λ (x : List ℕ). x ++ take (length s - 16) (drop 14 s))
      (ap header_of (sym k.fields) ∙ header-back ∙ sym (ap (take 14) (run_is 14 0 s (omega (arith, k.least)))))
      ∙ sym (take-add 14 (length s - 16) s) ∙ ap (λ (n : ℕ). take n s) (sym e)

  octets-back : packet_octets p (source_of p s) ≡ s
  unfolding packet_octets
  octets-back =
      ap (with_check high_first (zeros 16)) body_back
      ∙ check-accepted high_first (zeros 16) s (record { small = octet; two = omega (arith, k.least) }) k.check

  pub length-source : length (source_of p s) ≡ length s - 16
  length-source =
      ap length (sym data_is) ∙ length-take-le (length s - 16) (drop 14 s) (simp length-drop (omega (arith, k.least)))

  writable : fields_wrong p (length (source_of p s)) ≡ false
  unfolding fields_of
  writable =
      let a : (fields_of s).apid ≤ 2047 = omega (arith, octet 1) in
      let b : (fields_of s).sequence.0 ≤ 16383 = omega (arith, octet 3) in
      let c : (fields_of s).time ≤ 1099511627775 = omega (arith, octet 9, octet 10, octet 11, octet 12, octet 13) in
      let d : length s - 16 ≤ 235 = omega (arith, k.greatest) in
      rw length-source
      (rw (← k.fields) (simp (le-ltb _ _ a, le-ltb _ _ b, le-ltb _ _ c, le-ltb _ _ d, eq-eqb (length s - 16) (length s - 16) refl)))

-- what the reader accepts, the writer accepts and gives back
pub writes-back : WritesBack
writes-back s p octet h = record { accepts = writable s p octet h; octets = octets-back s p octet h }
