-- Laws that the proofs of the reader and the writer cite.
use Prim.Native.Nat.{ℕ, ◌+◌, ◌≤◌, ◌<◌}
use native.Mathlib.Omega.{arith}
use mathlib.Core.Path.{◌≡◌, refl, sym, ap, ◌∙◌}
use mathlib.Core.List.{List, ◌++◌, append_assoc}
use mathlib.Core.Bool.{Bool, false}
use lib.ListN.{length, take, drop, length-append}
use lib.Seq.{take_at, drop_at}
use Rattle.octets.specs.Numbers.{word_of}
use Rattle.octets.specs.Parts.{put, written}
use Rattle.octets.proofs.Tests.{facts}
use Rattle.octets.proofs.Placing.{put_first, put_next}
use Rattle.crc.specs.Check.{packet_check, with_check}
use Rattle.packet.specs.Packet.{length_wrong}
use Rattle.packet.specs.Write.{fields_wrong, header_of, packet_octets}
use Rattle.packet.specs.Asked.{InRange, Room}
use Rattle.packet.specs.declared.Packet.{Packet}

pub long-enough : (s : List ℕ) {said : Bool} → said ≡ length_wrong s → said ≡ false → 16 ≤ length s
unfolding length_wrong
long-enough s e f = let h : length_wrong s ≡ false = sym e ∙ f in search facts

pub in_range : (p : Packet) (n : ℕ) → fields_wrong p n ≡ false → InRange p n
in_range p n h = search facts

pub own_range : (p : Packet) (n : ℕ) → InRange p n → InRange p p.length
own_range p n r =
    record { apid = r.apid; count = r.count; time = r.time; length = omega (arith, r.length, r.same); same = refl }

pub length-octets : (p : Packet) (source : List ℕ) → length (packet_octets p source) ≡ length source + 16
unfolding packet_octets with_check
length-octets p source = simp length-append (omega arith)

module _ (p : Packet) (source out : List ℕ) where
  pub octets-length : length source + 16 ≡ length (packet_octets p source)
  octets-length = sym (length-octets p source)

  pub short : length out < length source + 16 → length out < length (packet_octets p source)
  short h = simp length-octets h

  pub long : length source + 16 ≤ length out → length (packet_octets p source) ≤ length out
  long h = simp length-octets h

  pub room : {said : Bool} → said ≡ fields_wrong p (length source) → said ≡ false → length source + 16 ≤ length out → Room p source out
  room e f h =
      let r : InRange p (length source) = in_range p (length source) (sym e ∙ f) in
      record { range = own_range p (length source) r; few = r.length; room = h }

  -- header, source data and check, put one after the other, are the packet
  pub laid : {out₁ out₂ out₃ head check : List ℕ} {k : ℕ} → length source + 16 ≤ length out → head ≡ header_of p
      → out₁ ≡ put out 0 head → out₂ ≡ put out₁ 14 source → k ≡ packet_check (take (length source + 14) out₂) → check ≡ word_of k
      → out₃ ≡ put out₂ (length source + 14) check
      → out₃ ≡ written (packet_octets p source) out
  unfolding packet_octets with_check
  laid {out₁} {out₂} {k = k} room eh e₁ e₂ ek ec e₃ =
      let b : List ℕ = header_of p ++ source in
      let lb : length source + 14 ≡ length b = simp length-append (omega arith) in
      let f₁ : out₁ ≡ written (header_of p) out = e₁ ∙ rw eh (put_first (header_of p) out (omega arith)) in
      let f₂ : out₂ ≡ written b out = e₂ ∙ rw f₁ (put_next (header_of p) source out 14 refl (omega arith)) in
      let fk : k ≡ packet_check b = ek ∙ ap packet_check (rw f₂ (take_at b _ _ (sym lb))) in
      e₃ ∙ rw (ec, f₂) (rw fk (put_next b (word_of (packet_check b)) out _ lb (omega arith)))

regroup : (h a b k : List ℕ) → (h ++ (a ++ b)) ++ k ≡ (h ++ a) ++ (b ++ k)
regroup h a b k = simp append_assoc

-- what stands in a packet after the first octets a of its source data
pub after-source : (p : Packet) (a b : List ℕ)
    → drop (14 + length a) (packet_octets p (a ++ b)) ≡ b ++ word_of (packet_check (header_of p ++ (a ++ b)))
unfolding packet_octets with_check
after-source p a b =
    let k : List ℕ = word_of (packet_check (header_of p ++ (a ++ b))) in
    ap (drop (14 + length a)) (regroup (header_of p) a b k)
    ∙ drop_at (header_of p ++ a) (b ++ k) (14 + length a) (length-append (header_of p) a)
