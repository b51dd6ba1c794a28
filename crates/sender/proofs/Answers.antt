-- The ends of `send`: each refusal, and the frames.
use Rattle.std.proofs.Common.{◌≡◌, ℕ, zero, suc, ◌+◌, ◌-◌, ◌*◌, ◌<◌, ◌≤◌, min, Bool, true, false, ◌||◌, eqb, ltb, List, [], ◌∷◌, length, sym, refl, ap, ◌∙◌, mul-le-mul_right, add-one, arith, ltb-false, eqb-true}
use mathlib.Core.Bool.{false≢true}
use lib.Dec.{leb-suc-suc}
use borrow.Author.Tests.{not-false}
use Rattle.octets.specs.Numbers.{at, word}
use Rattle.octets.specs.Pick.{pick}
use Rattle.octets.proofs.Choices.{picked}
use Rattle.octets.proofs.Tests.{facts, or_left, or_right}
use Rattle.answer.specs.Refusals as refusal
use Rattle.answer.specs.Told.{Told}
use Rattle.packet.specs.Packet.{length_wrong, read_packet}
use Rattle.packet.specs.declared.Packet.{Packet}
use Rattle.rules.specs.Packets.{Good, AllGood, joined, total}
use Rattle.sender.specs.Frames.{Wanted, packets_of, full_frames}
use Rattle.lengths.specs.Lengths.{lengths_wrong}
use Rattle.sender.specs.Send.{Lent, Outcome, refused, common_wrong, turned_away, any_turned_away, size_wrong, room_wrong, made, octets_of}
use Rattle.sender.specs.Send.{sending}
use Rattle.sender.specs.Asked.{too_short, Ready}
use Rattle.sender.proofs.One.{time-most, time-lent}
use Rattle.sender.proofs.Numbered.{octets_up_to, full-least, full-most, octets_upto, upto_count, upto_more, octets-length}

-- ---- packets that the reader accepts are by the rules

length-right : (p : List ℕ) → (read_packet p).accepted ≡ true → length_wrong p ≡ false
unfolding read_packet
length-right p h = go (length_wrong p) refl
  where
    go : (b : Bool) → length_wrong p ≡ b → length_wrong p ≡ false
    go false e = e
    go true e = absurd (false≢true (ap (λ (t : Told Packet). t.accepted) (picked (length_wrong p) _ _ e) ∙ h))

pub packet-good : (p : List ℕ) → turned_away p ≡ false → Good p
unfolding length_wrong
packet-good p h =
    let l : length_wrong p ≡ false = length-right p (not-false _ h) in
    let least : 16 ≤ length p = search facts in
    let greatest : length p ≤ 251 = search facts in
    let same : length p ≡ word (at p 4) (at p 5) + 7 = search facts in
    record { least = least; greatest = greatest; says = omega arith }

pub all-good : (ps : List (List ℕ)) → any_turned_away ps ≡ false → AllGood ps
all-good [] h = tt
all-good (p ∷ ps) h = (packet-good p (or_left _ _ h), all-good ps (or_right (turned_away p) _ h))

-- ---- how many octets

module _ (w : Wanted) (adds : total w.lengths ≡ length w.octets) (least : 0 < w.size) (lent : length w.time ≡ w.common.t) where
  abbrev full : ℕ
  full = full_frames w.size (length w.octets)

  upto_size : (k : ℕ) → k ≤ full + 1 → length (joined (octets_up_to w k)) ≡ k * (23 + w.common.t) + min (k * w.size) (length w.octets)
  upto_size zero h = let z : 0 * w.size ≡ 0 = omega arith in omega arith
  upto_size (suc k) h =
      let below : k * w.size ≤ full * w.size = mul-le-mul_right w.size (omega arith) in
      let among : k * w.size ≤ length w.octets = omega (arith, below, full-least w.size (length w.octets) least) in
      let up : suc k * w.size ≡ k * w.size + w.size = omega arith in
      let more : suc k * (23 + w.common.t) ≡ k * (23 + w.common.t) + (23 + w.common.t) = omega arith in
      omega (arith, upto_more w k, upto_size k (omega arith), octets-length w k among)

  all-size : length (joined (octets_of w)) ≡ length w.octets + (full + 1) * (23 + w.common.t)
  all-size =
      let most : length w.octets ≤ full * w.size + w.size = full-most w.size (length w.octets) least in
      let up : suc full * w.size ≡ full * w.size + w.size = omega arith in
      let own : suc full * (23 + w.common.t) ≡ (full + 1) * (23 + w.common.t) = ap (λ (n : ℕ). n * (23 + w.common.t))
      (sym (add-one full)) in
      omega (arith, ap (λ (fs : List (List ℕ)). length (joined fs)) (octets_upto w adds least), upto_size (suc full) (omega arith))

  all-count : length (octets_of w) ≡ suc full
  all-count = ap length (octets_upto w adds least) ∙ upto_count w (suc full)

  pub room-is : (l : Lent) → too_short (length l.octets) (length l.lengths) (length w.octets) full w.common.t ≡ room_wrong
      (octets_of w) l
  room-is l = sym (rw (all-size, all-count, leb-suc-suc))

-- ---- the data length

some_of : (n : ℕ) → eqb n 0 ≡ false → 0 < n
some_of zero e = absurd (false≢true (sym e))
some_of (suc n) e = omega arith

pub sized : (size t : ℕ) → size_wrong size t ≡ false → (0 < size) × (size ≤ 251 - t)
sized size t h = (some_of size (or_left _ _ h), ltb-false _ _ (or_right (eqb size 0) _ h))

-- ---- the time's length, as the code has it

pub size-at : (size : ℕ) {t t' : ℕ} {b : Bool} → t ≡ t' → size_wrong size t ≡ b → size_wrong size t' ≡ b
size-at size e h = rw e at h

pub short-at : (o q n full : ℕ) {t t' : ℕ} {b : Bool} → t ≡ t' → b ≡ too_short o q n full t → b ≡ too_short o q n full t'
short-at o q n full e h = rw e at h

-- ---- the ends

module _ (w : Wanted) (l : Lent) {a b : Bool} (pa : a ≡ common_wrong w.common w.master w.count w.time)
    (pb : b ≡ lengths_wrong w.lengths (length w.octets)) where
  both : (a || b) ≡ (common_wrong w.common w.master w.count w.time || lengths_wrong w.lengths (length w.octets))
  both = rw (pa, pb)

  pub sent_51 : (a || b) ≡ true → refused refusal.field_range l ≡ sending w l
  unfolding sending pick
  sent_51 h = simp (sym both ∙ h)

  module _ (ha : (a || b) ≡ false) where
    right : (common_wrong w.common w.master w.count w.time || lengths_wrong w.lengths (length w.octets)) ≡ false
    right = sym both ∙ ha

    fields : common_wrong w.common w.master w.count w.time ≡ false
    fields = or_left _ _ right

    pub adds : total w.lengths ≡ length w.octets
    adds = eqb-true _ _ (not-false _ (or_right (common_wrong w.common w.master w.count w.time) _ right))

    pub time-few : w.common.t ≤ 8
    time-few = time-most w.common w.master w.count w.time fields

    module _ {c : Bool} (pc : c ≡ any_turned_away (packets_of w)) where
      pub sent_52 : c ≡ true → refused refusal.packet_turned_away l ≡ sending w l
      unfolding sending pick
      sent_52 h = simp (right, sym pc ∙ h)

      module _ (hc : c ≡ false) where
        pub sent_53 : size_wrong w.size w.common.t ≡ true → refused refusal.data_length l ≡ sending w l
        unfolding sending pick
        sent_53 h = simp (right, sym pc ∙ hc, h)

        module _ (hd : size_wrong w.size w.common.t ≡ false) where
          pub size-some : 0 < w.size
          size-some = (sized w.size w.common.t hd).0

          size_few : w.size ≤ 251 - w.common.t
          size_few = (sized w.size w.common.t hd).1

          module _ {full : ℕ} (pf : full ≡ full_frames w.size (length w.octets)) {e : Bool}
              (pe : e ≡ too_short (length l.octets) (length l.lengths) (length w.octets) full w.common.t) where
            room : e ≡ room_wrong (octets_of w) l
            room =
                pe ∙ ap (λ (n : ℕ). too_short (length l.octets) (length l.lengths) (length w.octets) n w.common.t) pf
                ∙ room-is w adds size-some (time-lent w.common w.master w.count w.time fields) l

            pub sent_50 : e ≡ true → refused refusal.output_short l ≡ sending w l
            unfolding sending pick
            sent_50 h = simp (right, sym pc ∙ hc, hd, sym room ∙ h)

            module _ (he : e ≡ false) where
              enough : room_wrong (octets_of w) l ≡ false
              enough = sym room ∙ he

              pub ready : Ready w full l
              ready =
                  record {
                    fields = fields;
                    adds = adds;
                    good = all-good (packets_of w) (sym pc ∙ hc);
                    least = size-some;
                    greatest = size_few;
                    before = pf;
                    octets = ltb-false _ _ (or_left _ _ enough);
                    lengths = ltb-false _ _ (or_right (ltb (length l.octets) (length (joined (octets_of w)))) _ enough);
                  }

              pub sent-all : {o : Outcome} → o ≡ made w.master w.count (octets_of w) l → o ≡ sending w l
              unfolding sending pick
              sent-all h = h ∙ simp (right, sym pc ∙ hc, hd, enough)
