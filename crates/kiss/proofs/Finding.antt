-- A scan finds the first of what there is to be found.
use Prim.Native.Nat.{ℕ, suc}
use mathlib.Core.Path.{◌≡◌, refl, sym, ap, ◌∙◌}
use mathlib.Core.List.{List, [], ◌∷◌, ◌++◌}
use mathlib.Core.Bool.{true, false}
use native.Mathlib.Omega.{arith}
use lib.ListN.{length, take, drop, length-set}
use lib.Seq.{length-sets}
use lib.Dec.{eqb}
use Rattle.octets.proofs.Choices.{picked, passed, picks}
use Rattle.bits.specs.Rows.Order.{low_first}
use Rattle.crc.specs.Check.{frame_check, octets_of}
use Rattle.answer.specs.declared.Reason.{Reason}
use Rattle.stretch.specs.Stretch.{Fits}
use Rattle.stretch.specs.declared.Found.TheVariants.{Nothing, Frame, Refused}
use Rattle.kiss.specs.Stream.{mark}
use Rattle.kiss.specs.Reader.{Standing, standing, begun, taking, after, holds, frame_length, sealed, Outcome, closed, further, scanned}
use Rattle.kiss.specs.Reader.{told_by, to_find, Finds, ScansFind}
use Rattle.kiss.specs.declared.Reader.{Reader}

-- ---- behind a 0xC0 something is told

pub record Stops (kept : List ℕ) (r : Outcome) : Type 0 where
  pub reader : r.standing.reader ≡ begun true
  pub used : r.used ≡ 1
  pub tells : r.found ≡ Nothing → ⊥
  pub fits : Fits r.found r.standing.kept
  pub same : length r.standing.kept ≡ length kept

pub length-sealed : (n : ℕ) (kept : List ℕ) → length (sealed n kept) ≡ length kept
unfolding sealed
length-sealed n kept = length-sets kept n (octets_of low_first (frame_check (take n kept)))

refusal-tells : (r : Reason) → Refused r ≡ Nothing → ⊥
refusal-tells r e = let z : ◌≡◌ {A = ℕ} 0 1 = cc in omega arith

frame-tells : (n : ℕ) → Frame n ≡ Nothing → ⊥
frame-tells n e = let z : ◌≡◌ {A = ℕ} 0 1 = cc in omega arith

pub closed-stops : (a : Reader) (kept : List ℕ) → Stops kept (closed a 1 kept)
unfolding closed
closed-stops a kept =
    picks (Stops kept) _ _ _ (λ h. record { reader = refl; used = refl; tells = refusal-tells _; fits = tt; same = refl })
    (λ h. picks (Stops kept) _ _ _ (λ k. record { reader = refl; used = refl; tells = refusal-tells _; fits = tt; same = refl })
    (λ k. record {
      reader = refl;
      used = refl;
      tells = frame-tells _;
      fits = omega
          (arith, length-sealed (frame_length a.count) kept);
      same = length-sealed _ kept;
    }))

-- ---- as many octets are kept as before

length-taking : (a : Reader) (kept : List ℕ) (x : ℕ) → length (taking a kept x).kept ≡ length kept
unfolding taking
length-taking a kept x =
    picks (λ (s : Standing). length s.kept ≡ length kept) _ _ _ (λ h. refl)
    (λ h. picks (λ (s : Standing). length s.kept ≡ length kept) _ _ _ (λ k. refl) (λ k. simp length-set))

pub length-after : (a : Reader) (kept : List ℕ) (x : ℕ) → length (after a kept x).kept ≡ length kept
unfolding after
length-after a kept x =
    picks (λ (s : Standing). length s.kept ≡ length kept) _ _ _ (λ h. length-taking _ kept _)
    (λ h. picks (λ (s : Standing). length s.kept ≡ length kept) _ _ _ (λ k. refl) (λ k. length-taking _ kept _))

-- ---- one octet, then the others

module _ (a : Standing) (x : ℕ) where
  finds-further : (b : Standing) (w : List ℕ) (r : Outcome) → ((p : List ℕ) → to_find a (x ∷ p) ≡ to_find b p) → length b.kept ≡ length
      a.kept
      → Finds b w r → Finds a (x ∷ w) (further r)
  finds-further b w r e l f =
      record {
        next = λ p. e (w ++ p) ∙ f.next p;
        inside = omega (arith, f.inside);
        some = λ h. omega arith;
        all = λ h. ap suc (f.all h);
        none = f.none;
        kept = f.kept;
        same = f.same ∙ l;
      }

  pub to_find_here : (p : List ℕ) → eqb x mark ≡ true → holds a.reader ≡ true
      → to_find a (x ∷ p) ≡ told_by (closed a.reader 1 a.kept) ++ to_find (closed a.reader 1 a.kept).standing p
  unfolding to_find
  to_find_here p h k = sym (picked _ _ _ h) ∙ sym (picked _ _ _ k)

  finds-here : (w : List ℕ) → eqb x mark ≡ true → holds a.reader ≡ true → Finds a (x ∷ w) (closed a.reader 1 a.kept)
  unfolding to_find
  finds-here w h k =
      let r = closed a.reader 1 a.kept in
      let s = closed-stops a.reader a.kept in
      record {
        next = λ p. to_find_here (w ++ p) h k ∙ ap (λ (n : ℕ). told_by r ++ to_find r.standing (drop n (x ∷ w) ++ p)) (sym s.used);
        inside = omega (arith, s.used);
        some = λ l. omega (arith, s.used);
        all = λ e. absurd (s.tells e);
        none = λ e. refl;
        kept = s.fits;
        same = s.same;
      }

  pub to_find_past : (p : List ℕ) → eqb x mark ≡ true → holds a.reader ≡ false → to_find a (x ∷ p) ≡ to_find
      (standing (begun true) a.kept) p
  unfolding to_find
  to_find_past p h k = sym (picked _ _ _ h) ∙ sym (passed _ _ _ _ k refl)

  pub to_find_after : (p : List ℕ) → eqb x mark ≡ false → to_find a (x ∷ p) ≡ to_find (after a.reader a.kept x) p
  unfolding to_find
  to_find_after p h = sym (passed _ _ _ _ h refl)

pub scans_find : ScansFind
unfolding scanned to_find
scans_find a [] =
    record {
      next = λ p. refl;
      inside = omega arith;
      some = λ h. absurd (omega arith);
      all = λ h. refl;
      none = λ h. refl;
      kept = tt;
      same = refl;
    }
scans_find a (x ∷ w) =
    picks (Finds a (x ∷ w)) _ _ _
    (λ h. picks (Finds a (x ∷ w)) _ _ _ (λ k. finds-here a x w h k)
    (λ k. finds-further a x (standing (begun true) a.kept) w _ (λ p. to_find_past a x p h k) refl
    (scans_find (standing (begun true) a.kept) w)))
    (λ h. finds-further a x (after a.reader a.kept x) w _ (λ p. to_find_after a x p h) (length-after a.reader a.kept x)
    (scans_find (after a.reader a.kept x) w))
