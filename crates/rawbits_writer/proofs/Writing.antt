-- Rows written part by part.
use Prim.Native.Nat.{ℕ, ◌+◌, ◌-◌, ◌*◌, ◌/◌, ◌%◌, ◌^◌, ◌≤◌, ◌<◌}
use mathlib.Core.Path.{◌≡◌, refl, sym, ap, ap₂, subst, ◌∙◌}
use mathlib.Core.Bool.{Bool}
use mathlib.Core.List.{List, [], ◌∷◌, ◌++◌, append_assoc, append-nil}
use native.Mathlib.Omega.{arith}
use native.Mathlib.Numerals.{add-one}
use lib.ListN.{length, get_or, take, drop, drop_of_length-le, set, length-set, length-append}
use lib.Seq.{take-suc-set, drop-set-lt, drop-drop}
use Rattle.bits.specs.Rows.{zeros, bits_of, bits_of_all}
use Rattle.bits.specs.Rows.Order.{low_first}
use Rattle.bits.specs.Field.{high_bits, row_of}
use Rattle.bits.proofs.High.{bits-cut, bits-high, row-none, row_cons}
use Rattle.bits.proofs.Field.{row-append}
use Rattle.rawbits.specs.Recording.{flag}
use Rattle.rawbits_writer.specs.Stream.{stuffed}
use Rattle.rawbits_writer.specs.Pen.{pen, held_by, penned, place, with_row, after, Ready, Room, Writes}
use Rattle.rawbits_writer.specs.declared.laying.Pen.{Pen}
use Rattle.rawbits_writer.proofs.Stuffing.{stuffed-few, stuffed-here}
use Rattle.rawbits_writer.proofs.Penning.{masked, several_more, row-held, row-bits, row_at, row-ones}

-- ---- octets that are filled

later : (a b : ℕ) (o o₀ : List ℕ) → a ≤ b → drop a o ≡ drop a o₀ → drop b o ≡ drop b o₀
later a b o o₀ h e =
    let f : a + (b - a) ≡ b = omega arith in
    subst (λ (n : ℕ). drop n o ≡ drop n o₀) f (sym (drop-drop (b - a) a o) ∙ ap (drop (b - a)) e ∙ drop-drop (b - a) a o₀)

row_one : (s : List ℕ) (x : ℕ) → row_of (s ++ x ∷ []) ≡ row_of s ++ high_bits 8 x
row_one s x =
    row-append s (x ∷ []) ∙ ap (λ (r : List Bool). row_of s ++ r)
    (row_cons x [] ∙ ap (λ (r : List Bool). high_bits 8 x ++ r) row-none ∙ append-nil (high_bits 8 x))

pub record Drains (p : Pen) (held : ℕ) (o₀ o : List ℕ) (at bits : ℕ) : Type 0 where
  pub adds : row_of (take at o) ++ high_bits bits held ≡ row_of (take p.at o₀) ++ high_bits p.bits held
  pub moves : at * 8 + bits ≡ place p
  pub beyond : drop at o ≡ drop at o₀
  pub same : length o ≡ length o₀
  pub few : bits ≤ 24

pub drains_first : (p : Pen) (held : ℕ) (o : List ℕ) → Room p o [] → Drains p held o o p.at p.bits
drains_first p held o r = record { adds = refl; moves = refl; beyond = refl; same = refl; few = r.few }

module _ {p : Pen} {held : ℕ} {o₀ o : List ℕ} {at bits : ℕ} (t : Drains p held o₀ o at bits) where
  pub drains_here : Room p o₀ [] → 8 ≤ bits → at < length o
  drains_here r h = omega (arith, t.moves, t.same, r.room)

  pub drains_next : 8 ≤ bits → at < length o → Drains p held o₀ (set o at (held / 2 ^ (bits - 8) % 256)) (at + 1) (bits - 8)
  drains_next h l =
      let x : ℕ = held / 2 ^ (bits - 8) % 256 in
      record {
        adds =
            ap (λ (s : List ℕ). row_of s ++ high_bits (bits - 8) held)
            (ap (λ (n : ℕ). take n (set o at x)) (add-one at) ∙ take-suc-set o at x l)
            ∙ ap (λ (r : List Bool). r ++ high_bits (bits - 8) held)
            (row_one (take at o) x ∙ ap (λ (r : List Bool). row_of (take at o) ++ r) (bits-cut 8 (held / 2 ^ (bits - 8))))
            ∙ append_assoc (row_of (take at o)) (high_bits 8 (held / 2 ^ (bits - 8))) (high_bits (bits - 8) held)
            ∙ ap (λ (r : List Bool). row_of (take at o) ++ r)
            (sym (bits-high (bits - 8) 8 held) ∙ ap (λ (n : ℕ). high_bits n held) (let e : bits - 8 + 8 ≡ bits = omega arith in e))
            ∙ t.adds;
        moves = omega (arith, t.moves);
        beyond = drop-set-lt (at + 1) o at x (omega arith) ∙ later at (at + 1) o o₀ (omega arith) t.beyond;
        same = length-set o at x ∙ t.same;
        few = omega (arith, t.few);
      }

  pub drains_end : bits < 8 → p.held ≡ held → Writes p o₀ [] p.ones (pen at (held % 128) bits p.ones) o
  unfolding held_by
  drains_end h e =
      record {
        adds =
            ap (λ (r : List Bool). row_of (take at o) ++ r) (masked bits held h) ∙ t.adds
            ∙ ap (λ (n : ℕ). row_of (take p.at o₀) ++ high_bits p.bits n) (sym e)
            ∙ sym (append-nil (penned p o₀));
        moves = omega (arith, t.moves);
        beyond = t.beyond;
        ready = record { small = omega arith; few = h };
        run = refl;
      }

-- ---- bits that a pen holds already

module _ {p q : Pen} {w : List Bool} (held : held_by q ≡ held_by p ++ w) (at : q.at ≡ p.at) (bits : q.bits ≡ p.bits + length w) where
  pub held-room : {o : List ℕ} → q.bits ≤ 24 → Room p o w → Room q o []
  held-room l r = record { few = l; room = omega (arith, r.room, at, bits) }

  pub held_writes : {o : List ℕ} {k : ℕ} {r : Pen} {o' : List ℕ} → q.ones ≡ k → Writes q o [] q.ones r o' → Writes p o w k r o'
  held_writes {o} e t =
      record {
        adds =
            t.adds ∙ append-nil (penned q o) ∙ ap₂ (λ (n : ℕ) (s : List Bool). row_of (take n o) ++ s) at held
            ∙ sym (append_assoc (row_of (take p.at o)) (held_by p) w);
        moves = omega (arith, t.moves, at, bits);
        beyond = t.beyond;
        ready = t.ready;
        run = t.run ∙ e;
      }

-- a flag, and 0s
abbrev pub flagged : Pen → Pen
flagged p = pen p.at (p.held * 256 + 126) (p.bits + 8) 0

abbrev pub filled : Pen → Pen
filled p = pen p.at (p.held * 128) (p.bits + 7) p.ones

flag-held : (p : Pen) → held_by (flagged p) ≡ held_by p ++ flag
unfolding high_bits
flag-held p = several_more p (flagged p) 8 126 (omega arith) (let e : p.bits + 8 ≡ 8 + p.bits = omega arith in e) refl

fill_held : (p : Pen) → held_by (filled p) ≡ held_by p ++ zeros 7
unfolding high_bits
fill_held p =
    several_more p (filled p) 7 0 (omega arith) (let e : p.bits + 7 ≡ 7 + p.bits = omega arith in e)
    (let e : p.held * 128 ≡ p.held * 128 + 0 = omega arith in e)

module _ {p : Pen} {o : List ℕ} where
  pub flag-room : Ready p → Room p o flag → Room (flagged p) o []
  flag-room r x = held-room (flag-held p) refl refl (omega (arith, r.few)) x

  pub flag-writes : {q : Pen} {o' : List ℕ} → Writes (flagged p) o [] 0 q o' → Writes p o flag 0 q o'
  flag-writes x = held_writes (flag-held p) refl refl refl x

  pub fill_room : Ready p → Room p o (zeros 7) → Room (filled p) o []
  fill_room r x = held-room (fill_held p) refl refl (omega (arith, r.few)) x

  pub fill_writes : {q : Pen} {o' : List ℕ} → Writes (filled p) o [] p.ones q o' → Writes p o (zeros 7) p.ones q o'
  fill_writes x = held_writes (fill_held p) refl refl refl x

-- ---- what is left to write leads to the same end

pub record Going (p₀ : Pen) (o₀ : List ℕ) (all : List Bool) (p : Pen) (o : List ℕ) (left : List Bool) : Type 0 where
  pub adds : penned p o ++ left ≡ penned p₀ o₀ ++ all
  pub moves : place p + length left ≡ place p₀ + length all
  pub beyond : drop p.at o ≡ drop p.at o₀
  pub same : length o ≡ length o₀
  pub ready : Ready p

pub going-first : (p : Pen) (o : List ℕ) (all : List Bool) → Ready p → Going p o all p o all
going-first p o all r = record { adds = refl; moves = refl; beyond = refl; same = refl; ready = r }

module _ {p₀ : Pen} {o₀ : List ℕ} {all : List Bool} {p : Pen} {o : List ℕ} where
  pub going-room : (w left : List Bool) → Going p₀ o₀ all p o (w ++ left) → Room p₀ o₀ all → Room p o w
  going-room w left t r =
      record { few = omega (arith, t.ready.few); room = omega (arith, t.moves, t.same, r.room, length-append w left) }

  pub going-part : (w left : List Bool) {k : ℕ} {r : Pen} {o' : List ℕ} → Going p₀ o₀ all p o (w ++ left) → Writes p o w k r o'
      → length o' ≡ length o
      → Going p₀ o₀ all r o' left
  going-part w left {r = r} t x l =
      record {
        adds = ap (λ (s : List Bool). s ++ left) x.adds ∙ append_assoc (penned p o) w left ∙ t.adds;
        moves = omega (arith, x.moves, t.moves, length-append w left);
        beyond = x.beyond ∙ later p.at r.at o o₀ (omega (arith, x.moves, x.ready.few)) t.beyond;
        same = l ∙ t.same;
        ready = x.ready;
      }

  pub going_end : Going p₀ o₀ all p o [] → Writes p₀ o₀ all p.ones p o
  going_end t =
      record {
        adds = sym (append-nil (penned p o)) ∙ t.adds;
        moves = omega
            (arith, t.moves);
        beyond = t.beyond;
        ready = t.ready;
        run = refl;
      }

-- ---- the octets of a frame, one after another

pub record Body (p₀ : Pen) (o₀ f : List ℕ) (p : Pen) (o : List ℕ) (i : ℕ) : Type 0 where
  pub inside : i ≤ length f
  pub going : Going p₀ o₀ (stuffed p₀.ones (bits_of_all low_first f)) p o (stuffed p.ones (bits_of_all low_first (drop i f)))

pub body-first : {p : Pen} {o : List ℕ} (f : List ℕ) → Ready p → Body p o f p o 0
body-first f r = record { inside = omega arith; going = going-first _ _ _ r }

module _ {p₀ : Pen} {o₀ f : List ℕ} {p : Pen} {o : List ℕ} {i : ℕ} (t : Body p₀ o₀ f p o i) where
  module _ (h : i < length f) {q : Pen} (e : q ≡ with_row p (bits_of low_first 8 (get_or f i 0))) where
    here : Going p₀ o₀ (stuffed p₀.ones (bits_of_all low_first f)) p o
        (stuffed p.ones (bits_of low_first 8 (get_or f i 0)) ++ stuffed (after p.ones (bits_of low_first 8 (get_or f i 0)))
        (bits_of_all low_first (drop (i + 1) f)))
    here = subst (Going p₀ o₀ (stuffed p₀.ones (bits_of_all low_first f)) p o) (stuffed-here p.ones f i h) t.going

    held : held_by q ≡ held_by p ++ stuffed p.ones (bits_of low_first 8 (get_or f i 0))
    held = ap held_by e ∙ row-held p (bits_of low_first 8 (get_or f i 0))

    at : q.at ≡ p.at
    at = ap (λ (r : Pen). r.at) e ∙ row_at p (bits_of low_first 8 (get_or f i 0))

    bits : q.bits ≡ p.bits + length (stuffed p.ones (bits_of low_first 8 (get_or f i 0)))
    bits = ap (λ (r : Pen). r.bits) e ∙ row-bits p (bits_of low_first 8 (get_or f i 0))

    pub body-room : Room p₀ o₀ (stuffed p₀.ones (bits_of_all low_first f)) → Room q o []
    body-room r =
        held-room held at bits (omega (arith, bits, t.going.ready.few, stuffed-few p.ones (bits_of low_first 8 (get_or f i 0))))
        (going-room _ _ here r)

    pub body-next : {r : Pen} {o' : List ℕ} → Writes q o [] q.ones r o' → length o' ≡ length o → Body p₀ o₀ f r o' (i + 1)
    body-next {r} {o'} x l =
        let k = after p.ones (bits_of low_first 8 (get_or f i 0)) in
        let y : Writes p o (stuffed p.ones (bits_of low_first 8 (get_or f i 0))) k r o' =
        held_writes held at bits (ap (λ (r : Pen). r.ones) e ∙ row-ones p (bits_of low_first 8 (get_or f i 0))) x in
        record {
          inside = omega arith;
          going =
              subst (λ (k : ℕ). Going p₀ o₀ (stuffed p₀.ones (bits_of_all low_first f)) r o'
              (stuffed k (bits_of_all low_first (drop (i + 1) f)))) (sym y.run)
              (going-part _ _ here y l);
        }

  pub body_end : length f ≤ i → Writes p₀ o₀ (stuffed p₀.ones (bits_of_all low_first f)) p.ones p o
  body_end h =
      going_end (subst (λ (s : List ℕ). Going p₀ o₀ (stuffed p₀.ones (bits_of_all low_first f)) p o
      (stuffed p.ones (bits_of_all low_first s))) (drop_of_length-le f h) t.going)
