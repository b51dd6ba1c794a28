-- Laws of counters that rise one after another, and of a key's place.
use Rattle.std.specs.Prelude.{Some, None}
use Prim.Native.Nat.{ℕ, suc, ◌+◌, ◌≤◌, ◌<◌}
use mathlib.Core.Path.{◌≡◌, refl, sym, ap, ◌∙◌}
use mathlib.Core.Bool.{Bool, true, false, ◌||◌, ◌&&◌}
use mathlib.Core.List.{List, ◌∷◌}
use native.Mathlib.Omega.{arith}
use native.Mathlib.Numerals.{add-one}
use lib.ListN.{length, drop, get_or, set, drop_of_length-le}
use lib.Seq.{drop-cons}
use lib.Dec.{ltb, eqb}
use borrow.Author.Tests.{lt-ltb, le-ltb}
use Rattle.octets.proofs.Choices.{picked, passed}
use Rattle.counts.specs.Loss.{Loss}
use Rattle.summary_count.specs.Count.{added, loss_added, accepted, of_number, place_of, placed, Listed, tally, packet_counted}

pub loss-unknown : (counts : List ℕ) (known unknown : ℕ) {l : Loss} {x : List ℕ} → l ≡ None → x ≡ added counts unknown 1
    → x ≡ loss_added counts known unknown l
loss-unknown counts known unknown e f = f ∙ ap (loss_added counts known unknown) (sym e)

pub loss-known : (counts : List ℕ) (known unknown : ℕ) {l : Loss} {n : ℕ} {x : List ℕ} → l ≡ Some n → x ≡ added counts known n
    → x ≡ loss_added counts known unknown l
loss-known counts known unknown e f = f ∙ ap (loss_added counts known unknown) (sym e)

pub frame-counted : (counts : List ℕ) (channel : ℕ) (lost master : Loss) {i : ℕ} {a b c d : List ℕ}
    → i ≡ channel → a ≡ added counts 2 1 → b ≡ added a (256 + i) 1 → c ≡ loss_added b (512 + i) (768 + i) lost → d ≡ loss_added c 4 5 master
    → d ≡ accepted counts channel lost master
unfolding accepted
frame-counted counts channel lost master {i} {a} {b} {c} e f g h k =
    k ∙ ap (λ (x : List ℕ). loss_added x 4 5 master)
    (h ∙ ap (λ (x : List ℕ). loss_added x (512 + i) (768 + i) lost) (g ∙ ap (λ (x : List ℕ). added x (256 + i) 1) f))
    ∙ ap (λ (j : ℕ). loss_added (loss_added (added (added counts 2 1) (256 + j) 1) (512 + j) (768 + j) lost) 4 5 master) e

pub number-counted : (counts : List ℕ) (all each n : ℕ) {a b : List ℕ} → a ≡ added counts all 1 → b ≡ added a (each + n) 1
    → b ≡ of_number counts all each n
number-counted counts all each n e f = f ∙ ap (λ (x : List ℕ). added x (each + n) 1) e

-- a place looked for from index i on
module _ (key : ℕ) (keys many : List ℕ) (i : ℕ) where
  abbrev rest : ℕ
  rest = place_of key (drop i keys) (drop i many)

  pub keys-end : length keys ≤ i → rest ≡ 0
  keys-end h = ap (λ (ks : List ℕ). place_of key ks (drop i many)) (drop_of_length-le keys h)

  module _ (h : i < length keys) where
    keys_on : drop i keys ≡ get_or keys i 0 ∷ drop (i + 1) keys
    keys_on = drop-cons keys i 0 h ∙ ap (λ (j : ℕ). get_or keys i 0 ∷ drop j keys) (sym (add-one i))

    pub many-end : length many ≤ i → rest ≡ 0
    many-end k =
        ap (λ (ks : List ℕ). place_of key ks (drop i many)) keys_on
        ∙ ap (place_of key (get_or keys i 0 ∷ drop (i + 1) keys)) (drop_of_length-le many k)

    module _ (k : i < length many) where
      many-on : drop i many ≡ get_or many i 0 ∷ drop (i + 1) many
      many-on = drop-cons many i 0 k ∙ ap (λ (j : ℕ). get_or many i 0 ∷ drop j many) (sym (add-one i))

      begins : rest ≡ place_of key (get_or keys i 0 ∷ drop (i + 1) keys) (get_or many i 0 ∷ drop (i + 1) many)
      begins = ap (λ (ks : List ℕ). place_of key ks (drop i many)) keys_on ∙ ap (place_of key (get_or keys i 0 ∷ drop (i + 1) keys)) many-on

      pub place_here : (eqb (get_or many i 0) 0 || eqb (get_or keys i 0) key) ≡ true → rest ≡ 0
      place_here e = begins ∙ sym (picked _ _ _ e)

      pub place-on : (eqb (get_or many i 0) 0 || eqb (get_or keys i 0) key) ≡ false → rest ≡ suc
          (place_of key (drop (i + 1) keys) (drop (i + 1) many))
      place-on e = begins ∙ sym (passed _ _ _ _ e refl)

-- a key and whether both lists have its place
module _ (key : ℕ) (keys many : List ℕ) {i : ℕ} (e : i ≡ place_of key keys many) where
  abbrev here : ℕ
  here = place_of key keys many

  has_place : i < length keys → i < length many → placed key keys many ≡ true
  unfolding placed
  has_place h k =
      ap (λ (b : Bool). b && ltb here (length many)) (lt-ltb here (length keys) (omega arith)) ∙ lt-ltb here (length many) (omega arith)

  pub key-listed : {keys' many' : List ℕ} → i < length keys → i < length many → keys' ≡ set keys i key → many' ≡ added many i 1
      → Listed key keys many true keys' many'
  key-listed h k p q =
      let b = has_place h k in
      record {
        answers = sym b;
        names = (p ∙ ap (λ (j : ℕ). set keys j key) e) ∙ picked _ _ _ b;
        counts = (q ∙ ap (λ (j : ℕ). added many j 1) e) ∙ picked _ _ _ b;
      }

  not_listed : placed key keys many ≡ false → Listed key keys many false keys many
  not_listed b = record { answers = sym b; names = passed _ _ _ _ b refl; counts = passed _ _ _ _ b refl }

  pub no_key : length keys ≤ i → Listed key keys many false keys many
  unfolding placed
  no_key h = not_listed (ap (λ (b : Bool). b && ltb here (length many)) (le-ltb here (length keys) (omega arith)))

  pub no_count : i < length keys → length many ≤ i → Listed key keys many false keys many
  unfolding placed
  no_count h k =
      not_listed (ap (λ (b : Bool). b && ltb here (length many)) (lt-ltb here (length keys) (omega arith)) ∙ le-ltb here (length many)
      (omega arith))

-- a packet counted, with a place or without
module _ (key : ℕ) (counts keys many : List ℕ) {a keys' many' : List ℕ} {r : Bool} (e : a ≡ added counts 6 1)
    (l : Listed key keys many r keys' many') where
  pub packet-placed : r ≡ true → tally a keys' many' ≡ packet_counted key (tally counts keys many)
  unfolding packet_counted
  packet-placed h =
      let b : placed key keys many ≡ true = sym l.answers ∙ h in
      let i : ℕ = place_of key keys many in
      ap (λ (x : List ℕ). tally x keys' many') e
      ∙ ap (λ (x : List ℕ). tally (added counts 6 1) x many') (l.names ∙ sym (picked _ _ _ b))
      ∙ ap (λ (x : List ℕ). tally (added counts 6 1) (set keys i key) x) (l.counts ∙ sym (picked _ _ _ b))
      ∙ picked _ _ _ b

  pub packet_unplaced : {c : List ℕ} → r ≡ false → c ≡ added a 8 1 → tally c keys' many' ≡ packet_counted key (tally counts keys many)
  unfolding packet_counted
  packet_unplaced h f =
      let b : placed key keys many ≡ false = sym l.answers ∙ h in
      ap (λ (x : List ℕ). tally x keys' many') (f ∙ ap (λ (x : List ℕ). added x 8 1) e)
      ∙ ap (λ (x : List ℕ). tally (added (added counts 6 1) 8 1) x many') (l.names ∙ sym (passed _ _ _ _ b refl))
      ∙ ap (λ (x : List ℕ). tally (added (added counts 6 1) 8 1) keys x) (l.counts ∙ sym (passed _ _ _ _ b refl))
      ∙ passed _ _ _ _ b refl

pub ruleset counting = (loss-unknown, loss-known, frame-counted, number-counted)

pub ruleset placing = (key-listed, no_key, no_count, packet-placed, packet_unplaced)
