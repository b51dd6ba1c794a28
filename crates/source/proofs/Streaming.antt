-- What a scan of a stream finds, by what its reader finds.
use Prim.Native.Nat.{ℕ, zero, suc, ◌≤◌, ◌<◌}
use mathlib.Core.Path.{◌≡◌, refl, sym, ap, ◌∙◌, subst}
use mathlib.Core.List.{List, [], ◌∷◌, ◌++◌}
use native.Mathlib.Omega.{arith}
use lib.ListN.{length, drop}
use Rattle.stretch.specs.Stretch.{Stretch, told, Fits}
use Rattle.stretch.specs.declared.Found.{Found as Stretched}
use Rattle.stretch.specs.declared.Found.TheVariants as stretched
use Rattle.kiss.specs.Reader as kiss
use Rattle.kiss.specs.declared.Reader.{Reader as KissReader}
use Rattle.kiss.specs.declared.Scanned.{Scanned as KissScanned}
use Rattle.kiss.proofs.Finding.{scans_find as kiss-scans-find}
use Rattle.rawbits.specs.Reader as rawbits
use Rattle.rawbits.specs.Finding.{to_find, told_of}
use Rattle.rawbits.specs.declared.Reader.{Reader as BitsReader}
use Rattle.rawbits.specs.declared.Scanned.{Scanned as BitsScanned}
use Rattle.rawbits.proofs.Finding.{scans_find as bits-scans-find}
use Rattle.source.specs.Found.{joined, of_stream, found_in}
use Rattle.source.specs.Scan.{stretch_taken, stream_taken, stream_scanned, of_kiss, of_bits, scanned, kept_by, Scans, tells, Told, Finds}
use Rattle.source.specs.declared.Source.{Source}
use Rattle.source.specs.declared.Source.TheVariants as source
use Rattle.source.specs.declared.Taken.{Taken}

-- with octets at hand it is what the reader found
pub at-hand : (n : ℕ) → (n ≡ 0 → ⊥) → (f : Stretched) → stream_taken n f ≡ stretch_taken f
unfolding stream_taken
at-hand zero h f = absurd (h refl)
at-hand (suc n) h f = refl

-- what was told, then what is found behind it
joins : (f : Stretched) (size : ℕ) (kept w : List ℕ) (xs : List Stretch) → of_stream (told f kept ++ xs) ≡ joined
    (tells (stream_taken (suc size) f) kept w) (of_stream xs)
unfolding stream_taken
joins stretched.Nothing size kept w xs = refl
joins (stretched.Frame n) size kept w xs = refl
joins (stretched.Refused n) size kept w xs = refl

-- A stream before a scan that used some octets of a window and after it: what it finds in what is at hand, there and then.
module _ (s s' : Source) (kept kept' : List ℕ) (used : ℕ) (f : Stretched) (here there : List ℕ → List Stretch)
    (before : (v : List ℕ) → found_in s kept v ≡ of_stream (here v)) (behind : (v : List ℕ) → found_in s' kept' v ≡ of_stream (there v)) where
  stream_told : (w : List ℕ) (size : ℕ) → 0 < used → Fits f kept' → Told s kept w (stream_scanned s' used (suc size) f) kept'
      (stream_taken (suc size) f)
  unfolding stream_taken
  stream_told w size u h = by f refl h
    where
      by : (g : Stretched) → f ≡ g → Fits g kept' → Told s kept w (stream_scanned s' used (suc size) f) kept' (stream_taken (suc size) g)
      by stretched.Nothing e k = u
      by (stretched.Frame n) e k = (u, k)
      by (stretched.Refused n) e k = u

  pub stream_finds : (x : ℕ) (w : List ℕ) → ((p : List ℕ) → here (x ∷ w ++ p) ≡ told f kept' ++ there (drop used (x ∷ w) ++ p))
      → used ≤ length (x ∷ w) → 0 < used → Fits f kept' → Finds s kept (x ∷ w) (stream_scanned s' used (length (x ∷ w)) f) kept'
  stream_finds x w next inside u h =
      record {
        next = λ p. before (x ∷ w ++ p) ∙ ap of_stream (next p) ∙ joins f (length w) kept' (x ∷ w) (there (drop used (x ∷ w) ++ p))
            ∙ ap (joined (tells (stream_taken (suc (length w)) f) kept' (x ∷ w))) (sym (behind (drop used (x ∷ w) ++ p)));
        inside = inside;
        told = stream_told (x ∷ w) (length w) u h;
      }

-- what a stream's reader answers is what is scanned
stream_scans : {x s after : Source} {kept w kept' : List ℕ} {used : ℕ} {t : Taken} (f : Stretched) → s ≡ x
    → scanned x kept w ≡ stream_scanned after used (length w) f → kept_by x kept w ≡ kept' → t ≡ stream_taken (length w) f
    → Scans s kept w (record { source = after; used = used; taken = t }) kept'
stream_scans {after = after} {kept} {w} {kept'} {used} {t} f h e k d =
    subst (λ (y : Source). Scans y kept w (record { source = after; used = used; taken = t }) kept') (sym h)
    (record { answers = ap (λ (y : Taken). record { source = after; used = used; taken = y }) d ∙ sym e; keeps = sym k })

-- ---- KISS

-- with nothing at hand one octet is missing
no_kiss_at_hand : (a : KissReader) (kept : List ℕ) → Finds (source.Kiss a) kept [] (scanned (source.Kiss a) kept [])
    (kept_by (source.Kiss a) kept [])
unfolding scanned kept_by stream_taken kiss.scanned kiss.to_find
no_kiss_at_hand a kept =
    record {
      next = λ p. refl;
      inside = omega arith;
      told = ((refl, refl, refl), record { none = refl; some = omega arith; room = omega arith });
    }

pub kiss_finds : (a : KissReader) (kept w : List ℕ) → Finds (source.Kiss a) kept w (scanned (source.Kiss a) kept w)
    (kept_by (source.Kiss a) kept w)
unfolding scanned kept_by
kiss_finds a kept [] = no_kiss_at_hand a kept
kiss_finds a kept (x ∷ w) =
    let r = kiss.scanned (kiss.standing a kept) (x ∷ w) in
    let f = kiss-scans-find (kiss.standing a kept) (x ∷ w) in
    stream_finds
    (source.Kiss a) (source.Kiss r.standing.reader) kept r.standing.kept r.used r.found
    (kiss.to_find (kiss.standing a kept)) (kiss.to_find r.standing) (λ v. refl) (λ v. refl)
    x w f.next f.inside (f.some (omega arith)) f.kept

pub kiss_scans : {s : Source} {a : KissReader} {kept w kept' : List ℕ} {q : KissScanned} {t : Taken} → s ≡ source.Kiss a
    → kiss.outcome q kept' ≡ kiss.scanned (kiss.standing a kept) w → t ≡ stream_taken (length w) q.found
    → Scans s kept w (record { source = source.Kiss q.reader; used = q.used; taken = t }) kept'
unfolding scanned kept_by
kiss_scans {w = w} {q = q} h e d =
    stream_scans q.found h (sym (ap (λ (o : kiss.Outcome). of_kiss o (length w)) e))
    (sym (ap (λ (o : kiss.Outcome). o.standing.kept) e)) d

-- ---- raw bits

-- with nothing at hand one octet is missing
no_bits_at_hand : (a : BitsReader) (kept : List ℕ) → Finds (source.Bits a) kept [] (scanned (source.Bits a) kept [])
    (kept_by (source.Bits a) kept [])
unfolding scanned kept_by stream_taken rawbits.scanned told_of
no_bits_at_hand a kept =
    record {
      next = λ p. refl;
      inside = omega arith;
      told = ((refl, refl, refl), record { none = refl; some = omega arith; room = omega arith });
    }

pub bits-finds : (a : BitsReader) (kept w : List ℕ) → Finds (source.Bits a) kept w (scanned (source.Bits a) kept w)
    (kept_by (source.Bits a) kept w)
unfolding scanned kept_by
bits-finds a kept [] = no_bits_at_hand a kept
bits-finds a kept (x ∷ w) =
    let r = rawbits.scanned (rawbits.standing a kept) (x ∷ w) in
    let f = bits-scans-find (rawbits.standing a kept) (x ∷ w) in
    stream_finds
    (source.Bits a) (source.Bits r.standing.reader) kept r.standing.kept r.used r.found
    (to_find (rawbits.standing a kept)) (to_find r.standing) (λ v. refl) (λ v. refl)
    x w f.next f.inside (f.some (omega arith)) f.kept

pub bits-scans : {s : Source} {a : BitsReader} {kept w kept' : List ℕ} {q : BitsScanned} {t : Taken} → s ≡ source.Bits a
    → rawbits.outcome q kept' ≡ rawbits.scanned (rawbits.standing a kept) w → t ≡ stream_taken (length w) q.found
    → Scans s kept w (record { source = source.Bits q.reader; used = q.used; taken = t }) kept'
unfolding scanned kept_by
bits-scans {w = w} {q = q} h e d =
    stream_scans q.found h (sym (ap (λ (o : rawbits.Outcome). of_bits o (length w)) e))
    (sym (ap (λ (o : rawbits.Outcome). o.standing.kept) e)) d
