-- Laws of lengths: their sums, and octets cut by them.
use Prim.Native.Nat.{ℕ, zero, suc, ◌+◌, ◌≤◌, ◌<◌}
use mathlib.Core.Path.{◌≡◌, refl, sym, ap, ◌∙◌}
use mathlib.Core.List.{List, [], ◌∷◌, ◌++◌, map, append_assoc}
use native.Mathlib.Omega.{arith}
use native.Mathlib.Numerals.{add-one}
use lib.ListN.{length, get_or, take, drop, length-append, length-drop, length-map, take-append-drop}
use lib.Seq.{take_all, take-suc, take_at, take-append_seam, drop-append_seam}
use Rattle.rules.specs.Packets.{joined, cut, total}

pub total-append : (ms ns : List ℕ) → total (ms ++ ns) ≡ total ms + total ns
total-append [] ns = omega arith
total-append (m ∷ ms) ns = omega (arith, total-append ms ns)

pub total-front : (i : ℕ) (ns : List ℕ) → total (take i ns) ≤ total ns
total-front zero ns = omega arith
total-front (suc i) [] = omega arith
total-front (suc i) (n ∷ ns) = omega (arith, total-front i ns)

pub total-split : (ns : List ℕ) (i : ℕ) → total ns ≡ total (take i ns) + total (drop i ns)
total-split ns i = ap total (sym (take-append-drop i ns)) ∙ total-append (take i ns) (drop i ns)

pub total-all : (ns : List ℕ) (i : ℕ) → length ns ≤ i → total (take i ns) ≡ total ns
total-all ns i h = ap total (take_all i ns h)

-- one length more
pub total-next : (ns : List ℕ) (i : ℕ) → i < length ns → total (take (i + 1) ns) ≡ total (take i ns) + get_or ns i 0
total-next ns i h =
    let more : total (take i ns ++ (get_or ns i 0 ∷ [])) ≡ total (take i ns) + get_or ns i 0 =
    omega (arith, total-append (take i ns) (get_or ns i 0 ∷ [])) in
    ap (λ (k : ℕ). total (take k ns)) (add-one i) ∙ ap total (take-suc ns i 0 h) ∙ more

-- the lengths of packets take as many octets as these do end to end
pub total-joined : (ps : List (List ℕ)) → total (map length ps) ≡ length (joined ps)
total-joined [] = refl
total-joined (p ∷ ps) = omega (arith, length-append p (joined ps), total-joined ps)

-- cut and put end to end again
pub joined-cut : (octets ns : List ℕ) → total ns ≡ length octets → joined (cut octets ns) ≡ octets
joined-cut [] [] e = refl
joined-cut (x ∷ octets) [] e = absurd (omega arith)
joined-cut octets (n ∷ ns) e =
    rw (joined-cut (drop n octets) ns (omega (arith, length-drop n octets))) (take-append-drop n octets)

cut-joined : (ps : List (List ℕ)) (rest : List ℕ) → cut (joined ps ++ rest) (map length ps) ≡ ps
cut-joined [] rest = refl
cut-joined (p ∷ ps) rest =
    rw (append_assoc, take-append_seam, drop-append_seam) (ap (λ (l : List (List ℕ)). p ∷ l) (cut-joined ps rest))

-- packets that stand end to end, with their lengths, are found again
pub found-again : (ps : List (List ℕ)) (xs ys : List ℕ) (n : ℕ) → n ≡ length ps → cut (joined ps ++ xs) (take n (map length ps ++ ys)) ≡ ps
found-again ps xs ys n e = ap (cut (joined ps ++ xs)) (take_at (map length ps) ys n (length-map ps length ∙ sym e)) ∙ cut-joined ps xs
