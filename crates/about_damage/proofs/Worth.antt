-- The readers: what damage makes of accepted octets passes the tests before the check's, but not the check's.
use Prim.Native.Nat.{ℕ, ◌+◌, ◌≤◌}
use native.Mathlib.Omega.{arith}
use mathlib.Core.Path.{◌≡◌, refl, sym, ap, ◌∙◌}
use mathlib.Core.Bool.{Bool, true, false, not, ◌||◌, false≢true}
use mathlib.Core.List.{List}
use lib.ListN.{length}
use lib.Dec.{ltb, eqb}
use borrow.Author.Tests.{le-ltb, eq-eqb, eqb-true, eqb-false, ne_eqb}
use Rattle.octets.specs.Pick.{pick}
use Rattle.octets.proofs.Choices.{picked, passed}
use Rattle.octets.proofs.Tests.{facts}
use Rattle.answer.specs.Told.{Told, refuse}
use Rattle.answer.specs.Refusals as refusal
use Rattle.bits.specs.Rows.{zeros, ones}
use Rattle.bits.specs.Rows.Order.{high_first, low_first}
use Rattle.crc.specs.Check.{check_wrong}
use Rattle.packet.specs.Packet as packet
use Rattle.packet.specs.declared.Packet.{Packet}
use Rattle.frame.specs.Frame as frame
use Rattle.frame.specs.declared.Frame.{Frame}
use Rattle.about_damage.specs.Damage.{Damaged}
use Rattle.about_damage.specs.Worth.{c_of, PacketWorth, FrameWorth}
use Rattle.about_damage.proofs.Shows.{test_shows}

-- what was accepted passed each test
passes : {A : Type 0} (b : Bool) (none : A) (n : ℕ) (rest : Told A) → (pick b (refuse none n) rest).accepted ≡ true
    → (b ≡ false) × (rest.accepted ≡ true)
unfolding pick
passes true none n rest h = absurd (false≢true h)
passes false none n rest h = (refl, h)

-- ---- packets

-- what the test of a packet's length says when it is passed, and when C is another
record Long (s : List ℕ) : Type 0 where
  least : 16 ≤ length s
  greatest : length s ≤ 251
  c : length s ≡ c_of s + 7

long : (s : List ℕ) → packet.length_wrong s ≡ false → Long s
unfolding packet.length_wrong
long s h = search facts

right : (s : List ℕ) → Long s → packet.length_wrong s ≡ false
unfolding packet.length_wrong
right s l = simp (le-ltb (length s) 16 l.least, le-ltb 251 (length s) l.greatest, eq-eqb _ _ l.c)

wrong : (s : List ℕ) → (length s ≡ c_of s + 7 → ⊥) → packet.length_wrong s ≡ true
unfolding packet.length_wrong
wrong s n = last (ltb (length s) 16) (ltb 251 (length s)) (ne_eqb _ _ n)
  where
    last : (a b : Bool) {c : Bool} → c ≡ false → (a || (b || not c)) ≡ true
    last true b h = refl
    last false true h = refl
    last false false h = ap not h

-- what the reader answers of the damaged octets, where C is the same, and where it is not
module _ (was became : List ℕ) (d : Damaged high_first was became) (l : Long was) (h : check_wrong high_first (zeros 16) was ≡ false) where
  refused : (same : Bool) → eqb (c_of became) (c_of was) ≡ same
      → packet.read_packet became ≡ refuse packet.no_packet (pick same refusal.packet_check refusal.packet_length)
  unfolding packet.read_packet pick
  refused true e =
      let same : c_of became ≡ c_of was = eqb-true _ _ e in
      let long : Long became =
      record { least = omega (arith, l.least, d.same); greatest = omega (arith, l.greatest, d.same); c = omega (arith, l.c, d.same) }
      in
      sym
      (passed _ _ _ _ (right became long)
      (picked _ _ _ (test_shows high_first (zeros 16) was became refl (omega (arith, l.greatest)) (omega (arith, l.least)) d h)))
  refused false e =
      sym (picked _ _ _ (wrong became (λ c. eqb-false (c_of became) (c_of was) e (omega (arith, c, l.c, d.same)))))

-- what an accepted packet passed
accepted : (was : List ℕ) → (packet.read_packet was).accepted ≡ true → Long was × (check_wrong high_first (zeros 16) was ≡ false)
unfolding packet.read_packet
accepted was a =
    let p = passes (packet.length_wrong was) _ _ _ a in
    (long was p.0, (passes (check_wrong high_first (zeros 16) was) _ _ _ p.1).0)

pub packet_worth : PacketWorth
packet_worth was became before after r a d q =
    let p = accepted was (ap (λ (t : Told Packet). t.accepted) (sym r) ∙ a) in
    let e = q ∙ refused was became d p.0 p.1 (eqb (c_of became) (c_of was)) refl in
    record { accepted = ap (λ (t : Told Packet). t.accepted) e; number = ap (λ (t : Told Packet). t.refusal) e }

-- ---- frames

-- what an accepted frame passed
heard : (t : ℕ) (was : List ℕ) → (frame.read_frame t was).accepted ≡ true
    → (ltb 8 t ≡ false) × ((frame.length_wrong t (length was) ≡ false) × (check_wrong low_first (ones 16) was ≡ false))
unfolding frame.read_frame
heard t was a =
    let p = passes (ltb 8 t) _ _ _ a in
    let q = passes (frame.length_wrong t (length was)) _ _ _ p.1 in
    (p.0, (q.0, (passes (check_wrong low_first (ones 16) was) _ _ _ q.1).0))

spoilt : (t : ℕ) (s : List ℕ) → ltb 8 t ≡ false → frame.length_wrong t (length s) ≡ false → check_wrong low_first (ones 16) s ≡ true
    → frame.read_frame t s ≡ refuse frame.no_frame refusal.frame_check
unfolding frame.read_frame
spoilt t s h₁ h₂ h₃ = sym (passed _ _ _ _ h₁ (passed _ _ _ _ h₂ (picked _ _ _ h₃)))

pub frame_worth : FrameWorth
frame_worth t was became before after r a d q =
    let p = heard t was (ap (λ (x : Told Frame). x.accepted) (sym r) ∙ a) in
    let b : (23 + t ≤ length was) × (length was ≤ 274) = (let b = p.1.0 in search facts) in
    let w = test_shows low_first (ones 16) was became refl b.1 (omega (arith, b.0)) d p.1.1 in
    let e = q ∙ spoilt t became p.0 (ap (frame.length_wrong t) d.same ∙ p.1.0) w in
    record { accepted = ap (λ (x : Told Frame). x.accepted) e; number = ap (λ (x : Told Frame). x.refusal) e }
