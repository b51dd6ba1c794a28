-- Each kind of damage at its widest.
use Rattle.std.specs.Prelude.{Ok}
use Prim.Native.Nat.{ℕ, zero, suc, ◌+◌, ◌%◌, ◌<◌}
use native.Mathlib.Omega.{arith}
use mathlib.Core.Path.{◌≡◌, refl, sym, ap, ◌∙◌}
use mathlib.Core.Bool.{Bool, true, ◌&&◌}
use mathlib.Core.List.{List, [], ◌∷◌, ◌++◌}
use lib.ListN.{length, take, drop}
use lib.Seq.{drop-append-add, drop-append_seam}
use lib.Dec.{eqb, ltb, lit<}
use borrow.Author.Tests.{ltb-true, eq-eqb}
use Rattle.octets.specs.Numbers.{at}
use Rattle.octets.specs.Pick.{pick}
use Rattle.octets.proofs.Tests.{and_true_left, and_true_right}
use Rattle.answer.specs.Refusals as refusal
use Rattle.bits.specs.Rows.{zeros}
use Rattle.bits.specs.Rows.Order.{high_first}
use Rattle.bits.proofs.Rows.{length-zeros}
use Rattle.crc.specs.Check.{check, check_wrong}
use Rattle.packet.specs.Packet.{fields_of, length_wrong, read_packet}
use Rattle.about_damage.specs.Damage.{changes, count, Shown, Damaged}
use Rattle.about_damage.specs.Damage.Shown.{oddly, two, near}
use Rattle.about_damage.specs.Worth.{c_of}
use Rattle.about_damage.specs.Unseen.{packet}
use Rattle.about_damage.specs.Widest.{AnyOdd, AnyTwo, AnyOfSixteen, two_far_apart, three_far_apart, sixteen_neighbours, Refused21}
use Rattle.about_damage.specs.Widest.{WidestRefused}
use Rattle.about_damage.proofs.Counts.{count-append}
use Rattle.about_damage.proofs.Worth.{packet_worth}

-- ---- all that is covered

count_zeros : (n : ℕ) → count (zeros n) ≡ 0
count_zeros zero = refl
count_zeros (suc n) = count_zeros n

count-behind : (n : ℕ) (row : List Bool) → count (zeros n ++ row) ≡ count row
count-behind zero row = refl
count-behind (suc n) row = count-behind n row

count-first : (n : ℕ) (row : List Bool) → count (take n (zeros n ++ row)) ≡ 0
count-first zero row = refl
count-first (suc n) row = count-first n row

pub any_odd : AnyOdd
any_odd row k h = oddly (eq-eqb (count row % 2) 1 (omega arith))

pub any_two : AnyTwo
any_two before between behind =
    two (count-behind before _ ∙ ap suc (count-behind between _ ∙ ap suc (count_zeros behind)))

pub any_of_sixteen : AnyOfSixteen
any_of_sixteen before behind burst long some =
    let rest : List Bool = burst ++ zeros behind in
    let row : List Bool = zeros before ++ rest in
    let all : count row ≡ count burst + count (zeros behind) = count-behind before rest ∙ count-append burst (zeros behind) in
    near (omega arith) (record {
      from = before;
      before = count-first before rest;
      behind =
          ap (λ (n : ℕ). count (drop (n + 16) row)) (sym (length-zeros before)) ∙ ap count (drop-append-add (zeros before) rest 16)
          ∙ ap (λ (n : ℕ). count (drop n rest)) (sym long) ∙ ap count (drop-append_seam burst (zeros behind)) ∙ count_zeros behind;
    })

-- ---- a packet damaged

all_small : List ℕ → Bool
all_small [] = true
all_small (x ∷ xs) = ltb x 256 && all_small xs

small : (xs : List ℕ) → all_small xs ≡ true → (i : ℕ) → at xs i < 256
unfolding all_small
small [] h i = lit< tt
small (x ∷ xs) h zero = ltb-true x 256 (and_true_left (ltb x 256) (all_small xs) h)
small (x ∷ xs) h (suc i) = small xs (and_true_right (ltb x 256) (all_small xs) h) i

damaged_by : (became : List ℕ) → all_small became ≡ true → length became ≡ length packet → Shown (changes high_first packet became)
    → Damaged high_first packet became
unfolding all_small
damaged_by became octets same bits = record { octets = small packet refl; others = small became octets; same = same; bits = bits }

-- its own reading is accepted; C is as it was
refused_with_21 : (became : List ℕ) → c_of became ≡ 9 → Damaged high_first packet became → Refused21 became
unfolding read_packet length_wrong check_wrong check pick
refused_with_21 became c d = record {
  damaged = d;
  refused = λ answer q.
      let r = packet_worth packet became (Ok (fields_of packet)) answer refl refl d q in
      (r.accepted, r.number ∙ ap (λ (n : ℕ). pick (eqb n 9) refusal.packet_check refusal.packet_length) c);
}

pub widest-refused : WidestRefused
unfolding all_small
widest-refused = record {
  two = refused_with_21 two_far_apart refl (damaged_by two_far_apart refl refl (two refl));
  three = refused_with_21 three_far_apart refl (damaged_by three_far_apart refl refl (oddly refl));
  sixteen =
      refused_with_21 sixteen_neighbours refl
      (damaged_by sixteen_neighbours refl refl (near (lit< tt) (record { from = 12; before = refl; behind = refl })));
}
