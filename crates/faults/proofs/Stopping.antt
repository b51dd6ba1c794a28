-- Where a reader stops that goes on over the octets at hand.
use Rattle.std.proofs.Common.{◌≡◌, ℕ, zero, suc, ◌+◌, ◌-◌, ◌<◌, ◌≤◌, Bool, true, false, List, length, take, drop, sym, refl, ap, ◌∙◌, true≢false, arith, length-drop, drop-drop}
use borrow.Author.Rules.{part_to_end}
use Rattle.octets.specs.Pick.{pick}
use Rattle.recording.specs.Reader.{scanned, Told}
use Rattle.recording.specs.declared.Reader.{Reader}
use Rattle.recording.specs.declared.Scanned.{Scanned}
use Rattle.recording.specs.declared.Taken.{Taken}
use Rattle.recording.specs.declared.Taken.TheVariants as taken
use Rattle.recording.proofs.Scanning.{scans_find}
use Rattle.faults.specs.Why.{goes_on, stops_at}

-- what a whole section uses
used-some : (a : Reader) (w : List ℕ) (r : Scanned) (t : Taken) → Told a w r t → goes_on t ≡ true → 0 < r.used
used-some a w r (taken.Missing n) told g = absurd (true≢false (sym g))
used-some a w r taken.Bad told g = absurd (true≢false (sym g))
used-some a w r taken.Over told g = absurd (true≢false (sym g))
used-some a w r (taken.Opened t) told g = told.0.some
used-some a w r taken.Nothing told g = told.some
used-some a w r (taken.Here from to) told g = told.0.some

pub uses : (a : Reader) (w : List ℕ) → goes_on (scanned a w).taken ≡ true → 0 < (scanned a w).used
uses a w g = used-some a w (scanned a w) (scanned a w).taken (scans_find a w).told g

pub inside : (a : Reader) (w : List ℕ) → (scanned a w).used ≤ length w
inside a w = (scans_find a w).inside

-- The reader that is at a further section is at the same at its end, with a bound on what is left.
pub record Before (b : Reader) (a : Reader) (w : List ℕ) : Type 0 where
  pub most : ℕ
  pub same : b ≡ stops_at most a w
  pub bound : length w ≤ most

pub stops-here : (n : ℕ) (a : Reader) (w : List ℕ) → goes_on (scanned a w).taken ≡ false → stops_at n a w ≡ a
unfolding stops_at pick
stops-here zero a w g = refl
stops-here (suc n) a w g = simp g

goes_or_not : (a : Reader) (w : List ℕ) (b : Bool) → goes_on (scanned a w).taken ≡ b → length w ≡ 0 → b ≡ false
goes_or_not a w true g e = let u = uses a w g in let i = inside a w in absurd (omega (arith, u, i, e))
goes_or_not a w false g e = refl

pub stops-empty : (n : ℕ) (a : Reader) (w : List ℕ) → length w ≡ 0 → stops_at n a w ≡ a
stops-empty n a w e = stops-here n a w (goes_or_not a w (goes_on (scanned a w).taken) refl e)

further : (n : ℕ) (b a : Reader) (w : List ℕ) → b ≡ stops_at n a w → length w ≤ n → 0 < length w → goes_on (scanned a w).taken ≡ true
    → Before b (scanned a w).reader (drop (scanned a w).used w)
unfolding stops_at pick
further zero b a w s h l g = absurd (omega (arith, h, l))
further (suc n) b a w s h l g =
    record { most = n; same = s ∙ simp g; bound = omega (arith, h, uses a w g, inside a w, length-drop (scanned a w).used w) }

pub goes_on_lem : (b a : Reader) (w : List ℕ) → Before b a w → 0 < length w → goes_on (scanned a w).taken ≡ true
    → Before b (scanned a w).reader (drop (scanned a w).used w)
goes_on_lem b a w h l g = further h.most b a w h.same h.bound l g

-- A turn of the loop: a scan of the window from an index on.
module _ (w : List ℕ) (at : ℕ) (a : Reader) (s : Scanned) (e : s ≡ scanned a (take (length w - at) (drop at w))) where
  here : s ≡ scanned a (drop at w)
  here = e ∙ ap (scanned a) (part_to_end w at)

  pub used-inside : at ≤ length w → at + s.used ≤ length w
  used-inside l = let i : s.used ≤ length (drop at w) = rw here (inside a (drop at w)) in omega (arith, i, length-drop at w)

  pub used-more : goes_on s.taken ≡ true → 0 < s.used
  used-more g = rw (sym here) at (uses a (drop at w) (rw here at g))

  pub stops : {b : Reader} → Before b a (drop at w) → goes_on s.taken ≡ false → a ≡ b
  stops h g = sym (h.same ∙ stops-here h.most a (drop at w) (rw here at g))

  pub turns : {b : Reader} → Before b a (drop at w) → at < length w → goes_on s.taken ≡ true → Before b s.reader
      (drop (at + s.used) w)
  turns {b} h l g =
      let some : 0 < length (drop at w) = omega (arith, l, length-drop at w) in
      let n : Before b (scanned a (drop at w)).reader (drop (scanned a (drop at w)).used (drop at w)) =
      goes_on_lem b a (drop at w) h some (rw here at g) in
      rw (here, sym (drop-drop (scanned a (drop at w)).used at w)) n
