-- What a scan finds is the first of what there is to be found, so that scans one after another tell what the whole recording holds.
use Prim.Native.Nat.{ℕ, suc, ◌+◌, ◌≤◌, ◌<◌, min}
use mathlib.Core.Path.{◌≡◌, refl, sym, ap, ◌∙◌}
use mathlib.Core.Bool.{Bool, true, false, not, ◌&&◌, false≢true}
use mathlib.Core.List.{List, [], ◌∷◌, ◌++◌, append_assoc, append-nil, foldl, map}
use native.Mathlib.Omega.{arith}
use lib.ListN.{length, take, drop, take-append-drop}
use lib.Dec.{ltb, eqb}
use borrow.Author.Tests.{ltb-true, lt-ltb, eqb-true, eq-eqb, ne_eqb, not-true}
use Rattle.octets.specs.Pick.{pick}
use Rattle.octets.proofs.Tests.{and_true_left, and_true_right}
use Rattle.answer.specs.declared.Reason.TheVariants.{StretchOctets, StretchAbandoned}
use Rattle.bits.specs.Rows.{bits_of, bits_of_all}
use Rattle.bits.specs.Rows.Order.{high_first}
use Rattle.stretch.specs.Stretch.{Stretch, clipped, told, Fits}
use Rattle.stretch.specs.declared.Found.{Found}
use Rattle.stretch.specs.declared.Found.TheVariants.{Nothing, Frame, Refused}
use Rattle.rawbits.specs.Recording.{stretches_in}
use Rattle.rawbits.specs.Reader.{Standing, standing, added, stored, begun, ends, closed, five, with_one, after_one}
use Rattle.rawbits.specs.Reader.{after_zero, after, Passing, passed, octet_passed, Outcome, further, nothing, scanned}
use Rattle.rawbits.specs.Finding.{told_by, told_of, to_find, ScansFind, FindsStream, Scans, none, more, PiecesGiveTheWhole}
use Rattle.rawbits.specs.declared.Reader.{Reader}
use Rattle.rawbits.proofs.Holding.{length-stored}
use Rattle.rawbits.proofs.Folding.{fresh-tells}

pub finds_stream : FindsStream
finds_stream kept s l = fresh-tells kept (bits_of_all high_first s) l

-- ---- up to seven bits behind a flag end no other, and no octet

-- n bits behind a flag
record Young (n : ℕ) (a : Reader) : Type 0 where
  pub begun : a.row.begun ≤ n
  pub whole : a.row.whole ≡ 0
  pub fewer : a.ones < 7 → a.ones ≤ a.row.begun
  pub six : a.ones ≡ 6 → 7 ≤ n

young_begun : (z : Bool) → Young 0 (begun z)
young_begun z = record { begun = omega arith; whole = refl; fewer = λ h. omega arith; six = λ e. absurd (omega arith) }

module _ (n : ℕ) (a : Reader) (kept : List ℕ) (y : Young n a) (l : n < 7) where
  no_end : (b : Bool) → ends a b ≡ false
  no_end true = refl
  no_end false = ne_eqb a.ones 6 (λ e. omega (arith, y.six e))

  none-stored : (b : Bool) → stored a.row b kept ≡ kept
  unfolding stored pick
  none-stored b = rw (lt-ltb a.row.begun 7 (omega (arith, y.begun)))

  one-begun : (b : Bool) → (added (length kept) a.row b).begun ≡ a.row.begun + 1
  unfolding added pick
  one-begun b = rw (lt-ltb a.row.begun 7 (omega (arith, y.begun)))

  none-whole : (b : Bool) → (added (length kept) a.row b).whole ≡ 0
  unfolding added pick
  none-whole b = rw (lt-ltb a.row.begun 7 (omega (arith, y.begun))) y.whole

  young_one : Young (suc n) (after_one (length kept) a)
  unfolding after_one pick
  young_one = go (ltb a.ones 5) refl (eqb a.ones 5 && not (five a.row)) refl
    where
      go : (s : Bool) → ltb a.ones 5 ≡ s → (t : Bool) → (eqb a.ones 5 && not (five a.row)) ≡ t
          → Young (suc n) (pick s (with_one (length kept) a (a.ones + 1) a.abandoned)
          (pick t (with_one (length kept) a 6 a.abandoned) (with_one (length kept) a 7 true)))
      go true e t f =
          record {
            begun = omega (arith, one-begun true, y.begun);
            whole = none-whole true;
            fewer = λ h. omega (arith, one-begun true, y.fewer (let s : a.ones < 7 = omega (arith, ltb-true a.ones 5 e) in s));
            six = λ d. absurd (omega (arith, ltb-true a.ones 5 e));
          }
      go false e true f =
          record {
            begun = omega (arith, one-begun true, y.begun);
            whole = none-whole true;
            fewer = λ h. omega (arith, one-begun true, most);
            six = λ d. omega (arith, most, y.begun);
          }
        where
          five-ones : a.ones ≡ 5
          five-ones = eqb-true a.ones 5 (and_true_left (eqb a.ones 5) (not (five a.row)) f)

          other : a.row.begun ≡ 5 → ⊥
          other d =
              false≢true (sym (not-true (five a.row) (and_true_right (eqb a.ones 5) (not (five a.row)) f)) ∙ rw
              (eq-eqb a.row.begun 5 d, eq-eqb a.row.whole 0 y.whole))

          most : 6 ≤ a.row.begun
          most = omega (arith, other, five-ones, y.fewer (let s : a.ones < 7 = omega (arith, five-ones) in s))
      go false e false f =
          record {
            begun = omega (arith, one-begun true, y.begun);
            whole = none-whole true;
            fewer = λ h. absurd (omega arith);
            six = λ d. absurd (omega arith);
          }

  young_zero : Young (suc n) (after_zero (length kept) a)
  unfolding after_zero pick
  young_zero = go (eqb a.ones 5)
    where
      go : (t : Bool) → Young (suc n) (record {
        seen = a.seen;
        ones = 0;
        abandoned = a.abandoned;
        mark = a.row.begun;
        row = pick t a.row
            (added (length kept) a.row false);
      })
      go true = record { begun = omega (arith, y.begun); whole = y.whole; fewer = λ h. omega arith; six = λ d. absurd (omega arith) }
      go false =
          record {
            begun = omega (arith, one-begun false, y.begun);
            whole = none-whole false;
            fewer = λ h. omega arith;
            six = λ d. absurd
                (omega arith);
          }

  -- how the reader stands then
  young_on : (b : Bool) → (r : Reader) × (after (standing a kept) b ≡ standing r kept) × Young (suc n) r
  unfolding after pick
  young_on true = (after_one (length kept) a, rw (none-stored true), young_one)
  young_on false = (after_zero (length kept) a, go (eqb a.ones 5), young_zero)
    where
      go : (t : Bool) → standing (after_zero (length kept) a) (pick t kept (stored a.row false kept)) ≡ standing
          (after_zero (length kept) a) kept
      go true = refl
      go false = rw (none-stored false)

-- behind the bits s: what was told stays, as do the octets kept, and what comes behind s is told as ever
record Quiet (a : Reader) (kept : List ℕ) (f : Found) (s : List Bool) : Type 0 where
  pub r : Reader
  pub stays : foldl passed (record { standing = standing a kept; found = f }) s ≡ record { standing = standing r kept; found = f }
  pub tells : (t : List Bool) → told_of (standing a kept) (s ++ t) ≡ told_of (standing r kept) t

quiet : (s : List Bool) (n : ℕ) (a : Reader) (kept : List ℕ) (f : Found) → Young n a → n + length s ≤ 7 → Quiet a kept f s
unfolding passed told_of pick
quiet [] n a kept f y l = record { r = a; stays = refl; tells = λ t. refl }
quiet (b ∷ s) n a kept f y l =
    let o = young_on n a kept y (omega arith) b in
    let q = quiet s (suc n) o.0 kept f o.2 (omega arith) in
    record {
      r = q.r;
      stays = rw (no_end n a kept y (let m : n < 7 = omega arith in m) b, o.1) q.stays;
      tells = λ t. rw (no_end n a kept y (let m : n < 7 = omega arith in m) b, o.1) (q.tells t);
    }

-- ---- eight bits tell one thing at most

-- what is told by bits s, and by t behind them
abbrev then_told : Passing → List Bool → List Bool → List Stretch
then_told p s t = told (foldl passed p s).found (foldl passed p s).standing.kept ++ told_of (foldl passed p s).standing t

module _ (a : Standing) (b : Bool) (s t : List Bool) where
  told-on : ends a.reader b ≡ false → told_of (after a b) (s ++ t) ≡ then_told (record { standing = after a b; found = Nothing }) s t
      → told_of a (b ∷ (s ++ t)) ≡ then_told (record { standing = a; found = Nothing }) (b ∷ s) t
  unfolding passed told_of pick
  told-on e h = rw e (h ∙ ap (λ (p : Passing). then_told p s t) (rw e))

  told_here : ends a.reader b ≡ true → length s ≤ 7 → told_of a (b ∷ (s ++ t)) ≡ then_told (record { standing = a; found = Nothing })
      (b ∷ s) t
  unfolding passed told_of pick
  told_here e l =
      let f : Found = closed (length a.kept) a.reader in
      let q = quiet s 0 (begun true) a.kept f (young_begun true) (omega arith) in
      rw e
      (ap (λ (r : List Stretch). told f a.kept ++ r) (q.tells t)
      ∙ sym (ap (λ (p : Passing). told p.found p.standing.kept ++ told_of p.standing t) q.stays)
      ∙ ap (λ (p : Passing). then_told p s t) (rw e))

eight_tell : (s : List Bool) (a : Standing) (t : List Bool) → length s ≤ 8 → told_of a (s ++ t) ≡ then_told
    (record { standing = a; found = Nothing }) s t
eight_tell [] a t l = refl
eight_tell (b ∷ s) a t l = go (ends a.reader b) refl (eight_tell s (after a b) t (omega arith))
  where
    go : (e : Bool) → ends a.reader b ≡ e → told_of (after a b) (s ++ t) ≡ then_told (record { standing = after a b; found = Nothing }) s t
        → told_of a (b ∷ (s ++ t)) ≡ then_told (record { standing = a; found = Nothing }) (b ∷ s) t
    go false e h = told-on a b s t e h
    go true e h = told_here a b s t e (omega arith)

octet-tells : (a : Standing) (x : ℕ) (w : List ℕ)
    → to_find a (x ∷ w) ≡ told (octet_passed a x).found (octet_passed a x).standing.kept ++ to_find (octet_passed a x).standing w
unfolding octet_passed
octet-tells a x w = eight_tell (bits_of high_first 8 x) a (bits_of_all high_first w) (omega arith)

-- ---- the octets kept

length-after : (a : Standing) (b : Bool) → length (after a b).kept ≡ length a.kept
unfolding after pick
length-after a true = length-stored a.reader.row true a.kept
length-after a false = go (eqb a.reader.ones 5)
  where
    go : (t : Bool) → length (pick t a.kept (stored a.reader.row false a.kept)) ≡ length a.kept
    go true = refl
    go false = length-stored a.reader.row false a.kept

fits-same : (f : Found) (kept kept' : List ℕ) → length kept' ≡ length kept → Fits f kept → Fits f kept'
fits-same Nothing k k' e h = h
fits-same (Frame n) k k' e h = omega (arith, e, h)
fits-same (Refused n) k k' e h = h

fits-closed : (kept : List ℕ) (a : Reader) → Fits (closed (length kept) a) kept
unfolding closed pick
fits-closed kept a = go (not a.seen) a.abandoned (not (eqb a.mark 0)) (eqb a.row.whole 0)
  where
    go : (s t u v : Bool) → Fits (pick s Nothing
        (pick t (Refused StretchAbandoned) (pick u (Refused StretchOctets) (pick v Nothing (Frame (min a.row.whole (length kept)))))))
        kept
    go true t u v = tt
    go false true u v = tt
    go false false true v = tt
    go false false false true = tt
    go false false false false = omega arith

record Fitting (n : ℕ) (p : Passing) : Type 0 where
  pub long : length p.standing.kept ≡ n
  pub fits : Fits p.found p.standing.kept

passed-fits : {n : ℕ} (p : Passing) (b : Bool) → Fitting n p → Fitting n (passed p b)
unfolding passed pick
passed-fits {n} p b h = go (ends p.standing.reader b)
  where
    go : (t : Bool) → Fitting n (pick t (record
        { standing = standing (begun true) p.standing.kept; found = closed (length p.standing.kept) p.standing.reader })
        (record { standing = after p.standing b; found = p.found }))
    go true = record { long = h.long; fits = fits-closed p.standing.kept p.standing.reader }
    go false =
        record {
          long = length-after p.standing b ∙ h.long;
          fits = fits-same p.found p.standing.kept _
              (length-after p.standing b) h.fits;
        }

all_fit : {n : ℕ} (s : List Bool) (p : Passing) → Fitting n p → Fitting n (foldl passed p s)
all_fit [] p h = h
all_fit (b ∷ s) p h = all_fit s (passed p b) (passed-fits p b h)

octet-fits : (a : Standing) (x : ℕ) → Fitting (length a.kept) (octet_passed a x)
unfolding octet_passed
octet-fits a x = all_fit (bits_of high_first 8 x) (record { standing = a; found = Nothing }) (record { long = refl; fits = tt })

-- ---- a scan

is-nothing : (f : Found) → nothing f ≡ true → f ≡ Nothing
is-nothing Nothing e = refl
is-nothing (Frame n) e = absurd (false≢true e)
is-nothing (Refused n) e = absurd (false≢true e)

not_nothing : (f : Found) → nothing f ≡ false → f ≡ Nothing → ⊥
not_nothing Nothing e d = false≢true (sym e)
not_nothing (Frame n) e d = let z : ◌≡◌ {A = ℕ} 0 1 = cc in omega arith
not_nothing (Refused n) e d = let z : ◌≡◌ {A = ℕ} 0 1 = cc in omega arith

-- the octets that are used tell what is told, whatever comes behind them
record Uses (a : Standing) (w : List ℕ) (r : Outcome) : Type 0 where
  pub first : (p : List ℕ) → to_find a (take r.used w ++ p) ≡ told_by r ++ to_find r.standing p
  pub inside : r.used ≤ length w
  pub some : 0 < length w → 0 < r.used
  pub all : r.found ≡ Nothing → r.used ≡ length w
  pub kept : Fits r.found r.standing.kept
  pub same : length r.standing.kept ≡ length a.kept

module _ (a : Standing) (x : ℕ) (w : List ℕ) where
  -- nothing is told in the first octet
  uses_on : (octet_passed a x).found ≡ Nothing → (r : Outcome) → Uses (octet_passed a x).standing w r → Uses a (x ∷ w) (further r)
  uses_on e r h =
      record {
        first = λ p. octet-tells a x (take r.used w ++ p) ∙ rw e (h.first p);
        inside = omega (arith, h.inside);
        some = λ l. omega arith;
        all = λ d. ap suc (h.all d);
        kept = h.kept;
        same = h.same ∙ (octet-fits a x).long;
      }

  uses_here : ((octet_passed a x).found ≡ Nothing → ⊥) → Uses a (x ∷ w)
      (record { standing = (octet_passed a x).standing; used = 1; found = (octet_passed a x).found })
  uses_here e =
      record {
        first = λ p. octet-tells a x p;
        inside = omega arith;
        some = λ l. omega arith;
        all = λ d. absurd (e d);
        kept = (octet-fits a x).fits;
        same = (octet-fits a x).long;
      }

uses : (a : Standing) (w : List ℕ) → Uses a w (scanned a w)
unfolding scanned pick
uses a [] = record { first = λ p. refl; inside = omega arith; some = λ h. h; all = λ e. refl; kept = tt; same = refl }
uses a (x ∷ w) = go (nothing (octet_passed a x).found) refl (uses (octet_passed a x).standing w)
  where
    go : (t : Bool) → nothing (octet_passed a x).found ≡ t → Uses (octet_passed a x).standing w (scanned (octet_passed a x).standing w)
        → Uses a (x ∷ w) (pick t (further (scanned (octet_passed a x).standing w))
        (record { standing = (octet_passed a x).standing; used = 1; found = (octet_passed a x).found }))
    go true e h = uses_on a x w (is-nothing _ e) _ h
    go false e h = uses_here a x w (not_nothing _ e)

pub scans_find : ScansFind
unfolding told_of
scans_find a w =
    let u = uses a w in
    let n = (scanned a w).used in
    record {
      next = λ p.
          ap (λ (v : List ℕ). to_find a (v ++ p)) (sym (take-append-drop n w))
          ∙ ap (to_find a) (append_assoc (take n w) (drop n w) p) ∙ u.first (drop n w ++ p);
      inside = u.inside;
      some = u.some;
      all = u.all;
      none = λ e. refl;
      kept = u.kept;
      same = u.same;
    }

-- ---- scans one after another

-- what is still to be found is told in the end
scans_tell : {s : List ℕ} {found : List Stretch} {a : Standing} → Scans s found a → (p : List ℕ) → found ++ to_find a p ≡ map clipped
    (stretches_in (s ++ p))
scans_tell (none {kept} l) p = finds_stream kept p l
scans_tell (more {s} {found} {a} h w) p =
    let r = scanned a w in
    append_assoc found (told_by r) (to_find r.standing p)
    ∙ ap (λ (x : List Stretch). found ++ x) (sym ((uses a w).first p))
    ∙ scans_tell h (take r.used w ++ p)
    ∙ ap (λ (x : List ℕ). map clipped (stretches_in x)) (sym (append_assoc s (take r.used w) p))

pub pieces_give_the_whole : PiecesGiveTheWhole
unfolding told_of
pieces_give_the_whole s found a h =
    sym (append-nil found) ∙ scans_tell h [] ∙ ap (λ (x : List ℕ). map clipped (stretches_in x)) (append-nil s)
