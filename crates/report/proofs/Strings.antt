-- The strings of a report stand one after another in its packet: one argument for all five.
use Prim.Native.Nat.{ℕ, ◌+◌, ◌≤◌}
use native.Mathlib.Omega.{arith}
use mathlib.Core.Path.{◌≡◌, refl, sym, ap, ◌∙◌}
use mathlib.Core.List.{List, [], ◌∷◌, ◌++◌, append_assoc}
use mathlib.Core.Bool.{false, not, true≢false}
use lib.Dec.{eqb}
use borrow.Author.Tests.{eq-eqb}
use lib.ListN.{length, take, drop, length-append}
use lib.Seq.{take_at, drop_at, drop-drop}
use Rattle.octets.specs.Parts.{part}
use Rattle.octets.proofs.Placing.{part-some}
use Rattle.octets.proofs.Runs.{part-run, part-two, length_part}
use Rattle.octets.proofs.Tests.{or_right, facts}
use Rattle.report.specs.Write.{numbers_of, lengths_of, strings_of, joined, lengths_wrong}
use Rattle.report.specs.declared.Content.{Content}
use Rattle.report.specs.declared.Content.TheVariants.{Success, Failure, Housekeeping, Available, Line}

-- parts of s of these lengths, one after another from index i on
abbrev pub cut : List ℕ → ℕ → List ℕ → List (List ℕ)
cut s i [] = []
cut s i (n ∷ ns) = part s i n ∷ cut s (i + n) ns

abbrev pub total : List ℕ → ℕ
total [] = 0
total (n ∷ ns) = n + total ns

-- they are the strings of each report
pub strings-cut : (c : Content) (s : List ℕ) → strings_of c s ≡ cut s (14 + length (numbers_of c)) (lengths_of c)
strings-cut (Success c) s = refl
strings-cut (Failure c) s = refl
strings-cut (Housekeeping c) s = refl
strings-cut (Available c) s = refl
strings-cut (Line c) s = refl

pub length-joined : (ns : List ℕ) (strings : List (List ℕ)) → lengths_wrong ns strings ≡ false → length (joined strings) ≡ total ns
length-joined [] [] h = refl
length-joined [] (x ∷ xs) h = absurd (true≢false h)
length-joined (n ∷ ns) [] h = absurd (true≢false h)
length-joined (n ∷ ns) (x ∷ xs) h =
    let e : length x ≡ n = search facts in
    let k : length (joined xs) ≡ total ns = length-joined ns xs (or_right (not (eqb (length x) n)) _ h) in
    length-append x (joined xs) ∙ simp (e, k)

-- strings that were laid are cut again
pub cut-joined : (ns : List ℕ) (strings : List (List ℕ)) (s b : List ℕ) (i : ℕ) → lengths_wrong ns strings ≡ false
    → drop i s ≡ joined strings ++ b → i + length (joined strings) ≤ length s → cut s i ns ≡ strings
cut-joined [] [] s b i h d l = refl
cut-joined [] (x ∷ xs) s b i h d l = absurd (true≢false h)
cut-joined (n ∷ ns) [] s b i h d l = absurd (true≢false h)
cut-joined (n ∷ ns) (x ∷ xs) s b i h d l =
    let e : length x ≡ n = search facts in
    let m : length (x ++ joined xs) ≡ length x + length (joined xs) = length-append x (joined xs) in
    let f : drop i s ≡ x ++ (joined xs ++ b) = d ∙ append_assoc x (joined xs) b in
    let first : part s i n ≡ x = sym (part-some s i n (omega arith)) ∙ ap (take n) f ∙ take_at x (joined xs ++ b) n e in
    let rest : drop (i + n) s ≡ joined xs ++ b = sym (drop-drop n i s) ∙ ap (drop n) f ∙ drop_at x (joined xs ++ b) n e in
    let more : cut s (i + n) ns ≡ xs = cut-joined ns xs s b (i + n) (or_right (not (eqb (length x) n)) _ h) rest (omega arith) in
    cc

-- strings that were cut are as long as they should be, and joined again
pub lengths-cut : (ns s : List ℕ) (i : ℕ) → i + total ns ≤ length s → lengths_wrong ns (cut s i ns) ≡ false
lengths-cut [] s i h = refl
lengths-cut (n ∷ ns) s i h =
    simp (eq-eqb _ _ (length_part s i n (omega arith))) (lengths-cut ns s (i + n) (omega arith))

pub joined-cut : (ns s : List ℕ) (i : ℕ) → i + total ns ≤ length s → joined (cut s i ns) ≡ part s i (total ns)
joined-cut [] s i h = sym (part-run s i 0 h)
joined-cut (n ∷ ns) s i h =
    ap (λ (x : List ℕ). part s i n ++ x) (joined-cut ns s (i + n) (omega arith)) ∙ sym (part-two s i n (total ns) h)
