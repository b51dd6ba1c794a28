-- A scan octet by octet.
use Prim.Native.Nat.{ℕ, suc, ◌+◌, ◌-◌, ◌≤◌, ◌<◌}
use mathlib.Core.Path.{◌≡◌, refl, sym, ap, ◌∙◌}
use mathlib.Core.List.{List, ◌∷◌}
use mathlib.Core.Bool.{Bool, true, false, not, ◌||◌}
use native.Mathlib.Nat.{zero-add}
use native.Mathlib.Omega.{arith}
use native.Mathlib.Numerals.{add-one}
use lib.ListN.{length, get_or, drop, set, drop_of_length-le}
use lib.Seq.{drop-cons}
use lib.Dec.{eqb}
use borrow.Author.Tests.{lt-ltb, le-ltb, eq-eqb, ne_eqb}
use Rattle.octets.proofs.Choices.{picked, passed}
use Rattle.stretch.specs.Stretch.{most_kept}
use Rattle.stretch.specs.declared.Found.TheVariants.{Nothing}
use Rattle.kiss.specs.Stream.{mark, escape}
use Rattle.kiss.specs.Reader.{Standing, standing, reader, begun, meant, misplaced, taking, after, holds, Outcome, closed, further}
use Rattle.kiss.specs.Reader.{scanned}
use Rattle.kiss.specs.declared.Reader.{Reader}
use Rattle.kiss.proofs.Closing.{closes_18, closes_19, closes_frame}

-- ---- one octet

module _ (a : Reader) (kept : List ℕ) (x : ℕ) where
  -- what of it is taken, by what the code has left in its variables
  pub after-escape : a.escaping ≡ true → {e w : Bool} {y m : ℕ} {b : Bool} → b ≡ misplaced x → m ≡ meant x
      → e ≡ false → w ≡ (a.wrong || b) → y ≡ m → after a kept x ≡ taking (reader a.marked e w a.other a.count) kept y
  unfolding after
  after-escape h p q r s t = sym (picked _ _ _ h) ∙ rw (r, s, t, p, q)

  pub after-plain : a.escaping ≡ false → (x ≡ escape → ⊥) → {e w : Bool} {y : ℕ}
      → e ≡ a.escaping → w ≡ a.wrong → y ≡ x → after a kept x ≡ taking (reader a.marked e w a.other a.count) kept y
  unfolding after
  after-plain h n r s t = sym (passed _ _ _ _ h (passed _ _ _ _ (ne_eqb _ _ n) refl)) ∙ rw (r, s, t)

  pub after-begins : a.escaping ≡ false → x ≡ escape → after a kept x ≡ standing
      (reader a.marked true a.wrong a.other a.count) kept
  unfolding after
  after-begins h e = sym (passed _ _ _ _ h (picked _ _ _ (eq-eqb _ _ e)))

  pub takes_type : a.count ≡ 0 → taking a kept x ≡ standing (reader a.marked a.escaping a.wrong (not (eqb x 0)) 1) kept
  unfolding taking
  takes_type h = sym (picked _ _ _ (eq-eqb _ _ h))

  pub takes_none : (a.count ≡ 0 → ⊥) → most_kept < a.count → taking a kept x ≡ standing a kept
  unfolding taking
  takes_none n h = sym (passed _ _ _ _ (ne_eqb _ _ n) (picked _ _ _ (lt-ltb _ _ h)))

  pub takes_one : (a.count ≡ 0 → ⊥) → a.count ≤ most_kept
      → taking a kept x ≡ standing (reader a.marked a.escaping a.wrong a.other (a.count + 1)) (set kept (a.count - 1) x)
  unfolding taking
  takes_one n h = sym (passed _ _ _ _ (ne_eqb _ _ n) (passed _ _ _ _ (le-ltb _ _ h) refl))

-- ---- so many octets used before

abbrev pub further_by : ℕ → Outcome → Outcome
further_by i r = record { standing = r.standing; used = i + r.used; found = r.found }

closed-further : (a : Reader) (kept : List ℕ) (i : ℕ) → closed a (i + 1) kept ≡ further_by i (closed a 1 kept)
closed-further a kept i =
    go (a.wrong || a.escaping) refl a.other refl
  where
    go : (b : Bool) → (a.wrong || a.escaping) ≡ b → (c : Bool) → a.other ≡ c → closed a (i + 1) kept ≡ further_by i (closed a 1 kept)
    go true h c k = sym (closes_18 a (i + 1) kept h) ∙ ap (further_by i) (closes_18 a 1 kept h)
    go false h true k = sym (closes_19 a (i + 1) kept h k) ∙ ap (further_by i) (closes_19 a 1 kept h k)
    go false h false k =
        sym (closes_frame a (i + 1) kept h k refl (refl, refl)) ∙ ap (further_by i) (closes_frame a 1 kept h k refl (refl, refl))

-- a scan of w by a goes on after i octets as one of the rest by b
pub record Going (a : Standing) (w : List ℕ) (b : Standing) (i : ℕ) : Type 0 where
  pub inside : i ≤ length w
  pub same : scanned a w ≡ further_by i (scanned b (drop i w))

pub going-first : (a : Standing) (w : List ℕ) → Going a w a 0
going-first a w =
    record {
      inside = omega arith;
      same = ap (λ (n : ℕ). record { standing = (scanned a w).standing; used = n; found = (scanned a w).found })
          (sym (zero-add _));
    }

further-one : (i : ℕ) (r : Outcome) → further_by i (further r) ≡ further_by (i + 1) r
further-one i r =
    let e : i + suc r.used ≡ i + 1 + r.used = omega arith in
    ap (λ (n : ℕ). record { standing = r.standing; used = n; found = r.found }) e

module _ {a : Standing} {w : List ℕ} {b : Standing} {i : ℕ} (t : Going a w b i) where
  module _ (h : i < length w) where
    rest : drop i w ≡ get_or w i 0 ∷ drop (i + 1) w
    rest = drop-cons w i 0 h ∙ rw add-one

    -- an octet other than 0xC0
    pub goes_on_lem : (get_or w i 0 ≡ mark → ⊥) → {c : Standing} → after b.reader b.kept (get_or w i 0) ≡ c → Going a w c (i + 1)
    unfolding scanned
    goes_on_lem n e =
        record {
          inside = omega arith;
          same =
              t.same ∙ ap (λ (l : List ℕ). further_by i (scanned b l)) rest
              ∙ ap (further_by i) (sym (passed _ _ _ _ (ne_eqb _ _ n) refl))
              ∙ further-one i _ ∙ ap (λ (c : Standing). further_by (i + 1) (scanned c (drop (i + 1) w))) e;
        }

    -- a 0xC0 before which nothing stands,
    pub goes-past : get_or w i 0 ≡ mark → holds b.reader ≡ false → Going a w (standing (begun true) b.kept) (i + 1)
    unfolding scanned
    goes-past e n =
        record {
          inside = omega arith;
          same =
              t.same ∙ ap (λ (l : List ℕ). further_by i (scanned b l)) rest
              ∙ ap (further_by i) (sym (picked _ _ _ (eq-eqb _ _ e)) ∙ sym (passed _ _ _ _ n refl))
              ∙ further-one i _;
        }

    -- and one before which something does
    pub stops : get_or w i 0 ≡ mark → holds b.reader ≡ true → closed b.reader (i + 1) b.kept ≡ scanned a w
    unfolding scanned
    stops e y =
        closed-further b.reader b.kept i
        ∙ sym (t.same ∙ ap (λ (l : List ℕ). further_by i (scanned b l)) rest
        ∙ ap (further_by i) (sym (picked _ _ _ (eq-eqb _ _ e)) ∙ sym (picked _ _ _ y)))

  pub ends : i ≤ length w → length w ≤ i → record { standing = b; used = length w; found = Nothing } ≡ scanned a w
  unfolding scanned
  ends g h =
      let e : length w ≡ i + 0 = omega arith in
      sym (t.same ∙ ap (λ (l : List ℕ). further_by i (scanned b l)) (drop_of_length-le w h)
      ∙ ap (λ (n : ℕ). record { standing = b; used = n; found = Nothing }) (sym e))
