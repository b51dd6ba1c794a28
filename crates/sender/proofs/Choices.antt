-- The choices of a call of `send`: they take all octets, and what they take.
use Rattle.std.proofs.Common.{◌≡◌, ℕ, zero, suc, ◌+◌, ◌-◌, ◌*◌, ◌<◌, ◌≤◌, List, [], ◌∷◌, ◌++◌, map, length, take, drop, replicate, sym, refl, ap, ◌∙◌, arith, length-append, length-drop, length-take, drop-drop, take-add}
use lib.ListN.{length-replicate}
use Rattle.rules.specs.Channel.{Piece}
use Rattle.rules.specs.Packets.{joined}
use Rattle.sender.specs.Stream.{Choice, raw, next, next_count, frames_by}
use Rattle.sender.specs.Frames.{full_frames, choices_of}
use Rattle.sender.specs.Calls.{taken}
use Rattle.sender.proofs.Numbered.{full-least, full-most}
use Rattle.sender.proofs.Joining.{AllFit}

taken-full : (k n r : ℕ) → taken (replicate k (next n) ++ (next r ∷ [])) ≡ k * n + r
taken-full zero n r = omega arith
taken-full (suc k) n r =
    let more : suc k * n ≡ n + k * n = omega arith in
    omega (arith, taken-full k n r)

pub taken-all : (size m : ℕ) → 0 < size → taken (choices_of size m) ≡ m
unfolding choices_of
taken-all size m h = omega (arith, taken-full (full_frames size m) size (m - full_frames size m * size), full-least size m h)

fit-full : (most k n r : ℕ) → n ≤ most → r ≤ most → AllFit most (replicate k (next n) ++ (next r ∷ []))
fit-full most zero n r a b = (b, tt)
fit-full most (suc k) n r a b = (a, fit-full most k n r a b)

pub fit_all : (most size m : ℕ) → 0 < size → size ≤ most → AllFit most (choices_of size m)
unfolding choices_of
fit_all most size m h l = fit-full most (full_frames size m) size (m - full_frames size m * size) l (omega (arith, full-most size m h))

pub count-all : (size m : ℕ) → length (choices_of size m) ≡ suc (full_frames size m)
unfolding choices_of
count-all size m = omega (
  arith,
  length-append (replicate (full_frames size m) (next size)) (next (m - full_frames size m * size) ∷ []),
  length-replicate (full_frames size m) (next size),
)

-- ---- what choices take

abbrev amounts : List Choice → List ℕ
amounts [] = []
amounts (raw xs ∷ cs) = length xs ∷ amounts cs
amounts (next n ∷ cs) = n ∷ amounts cs

amounts_full : (k n r : ℕ) → amounts (replicate k (next n) ++ (next r ∷ [])) ≡ replicate k n ++ (r ∷ [])
amounts_full zero n r = refl
amounts_full (suc k) n r = ap (λ (l : List ℕ). n ∷ l) (amounts_full k n r)

pub amounts_all : (size m : ℕ) → amounts (choices_of size m) ≡ replicate (full_frames size m) size ++ ((m - full_frames size m * size) ∷ [])
unfolding choices_of
amounts_all size m = amounts_full (full_frames size m) size (m - full_frames size m * size)

abbrev pub data_of : List Piece → List (List ℕ)
data_of fs = map (λ (p : Piece). p.octets) fs

pub data_lengths : (ps : List (List ℕ)) (cs : List Choice) (o c : ℕ) → o + taken cs ≤ length (joined ps) → map length
    (data_of (frames_by ps o c cs)) ≡ amounts cs
data_lengths ps [] o c h = refl
data_lengths ps (raw xs ∷ cs) o c h = rw (data_lengths ps cs o (next_count c) h)
data_lengths ps (next n ∷ cs) o c h =
    let size : length (take n (drop o (joined ps))) ≡ n = simp (length-take, length-drop) (omega arith) in
    rw (size, data_lengths ps cs (o + n) (next_count c) (omega arith))

pub data_joined : (most : ℕ) (ps : List (List ℕ)) (cs : List Choice) (o c : ℕ) → AllFit most cs
    → joined (data_of (frames_by ps o c cs)) ≡ take (taken cs) (drop o (joined ps))
data_joined most ps [] o c f = refl
data_joined most ps (raw xs ∷ cs) o c f = absurd f
data_joined most ps (next n ∷ cs) o c f =
    ap (λ (l : List ℕ). take n (drop o (joined ps)) ++ l)
    (data_joined most ps cs (o + n) (next_count c) f.1 ∙ ap (take (taken cs)) (sym (drop-drop n o (joined ps))))
    ∙ sym (take-add n (taken cs) (drop o (joined ps)))
