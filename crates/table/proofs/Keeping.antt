-- What is kept of a table file that is read in pieces, and the check that it starts.
use Prim.Native.Nat.{ℕ, zero, suc, ◌+◌, ◌-◌, ◌*◌, ◌≤◌, ◌<◌, min}
use native.Mathlib.Decide.{dec_lt}
use native.Mathlib.Omega.{arith}
use mathlib.Core.Path.{◌≡◌, refl, sym, ap, ◌∙◌}
use mathlib.Core.Bool.{Bool, true, false, ◌||◌}
use mathlib.Core.List.{List, [], ◌∷◌, ◌++◌, append-nil, append_assoc}
use lib.ListN.{length, take, drop, replicate, length-append, length-take, length-drop, length-replicate, take-append-drop, get_or-append}
use lib.ListN.{get_or-eq_default, get_or-replicate}
use lib.Seq.{take_all, take-append-le, take-append-add, take-append_seam, drop-append-add, get_or-take, get_or-drop, get_or-append-add}
use lib.Dec.{eqb}
use borrow.Author.Tests.{ne_eqb}
use Rattle.octets.specs.Numbers.{at}
use Rattle.octets.specs.Parts.{put}
use Rattle.octets.proofs.Placing.{put-none, put-fits}
use Rattle.rules.specs.Packets.{joined}
use Rattle.table.specs.Table.{column_count, row_count, four_at, columns_in, columns_of, badly_formed}
use Rattle.table.specs.Form.{most_counted, known, grown, KeepsOn}
use Rattle.table.specs.Calls.{Read}
use Rattle.table.specs.declared.Form.{Form}
use Rattle.table.proofs.Columns.{columns-next}
use Rattle.table.proofs.Forming.{many}

put-nothing : (d : List ℕ) (i : ℕ) → Dec (length d < i) → put d i [] ≡ d
put-nothing d i (yes h) = sym (put-none d i [] (omega arith))
put-nothing d i (no h) =
    let none : i + 0 ≡ i = omega arith in
    sym (put-fits d i [] (omega (arith, h))) ∙ rw (none, append-nil) (take-append-drop i d)

zeros-behind : (m n : ℕ) → drop {A = ℕ} m (replicate n 0) ≡ replicate (n - m) 0
zeros-behind zero n =
    let e : n - 0 ≡ n = omega arith in
    rw e
zeros-behind (suc m) zero =
    let e : 0 - suc m ≡ 0 = omega arith in
    rw e
zeros-behind (suc m) (suc n) =
    let e : suc n - suc m ≡ n - m = omega arith in
    rw e (zeros-behind m n)

-- the head, once 72 octets were read and before
head_full : (s piece : List ℕ) → 72 ≤ length s
    → put (take 72 s ++ replicate (72 - length s) 0) (min (length s) most_counted) (take (72 - min (length s) most_counted) piece)
    ≡ take 72 (s ++ piece) ++ replicate (72 - length (s ++ piece)) 0
head_full s piece h =
    let none : 72 - min (length s) most_counted ≡ 0 = omega arith in
    let all : 72 - length s ≡ 0 = omega arith in
    let more : 72 - length (s ++ piece) ≡ 0 = simp length-append (omega arith) in
    rw (none, all, more, take-append-le 72 s piece h) (put-nothing (take 72 s ++ []) (min (length s) most_counted) (dec_lt _ _))

head_open : (s piece : List ℕ) → length s < 72
    → put (take 72 s ++ replicate (72 - length s) 0) (min (length s) most_counted) (take (72 - min (length s) most_counted) piece)
    ≡ take 72 (s ++ piece) ++ replicate (72 - length (s ++ piece)) 0
head_open s piece h =
    let few : min (length s) most_counted ≡ length s = omega arith in
    let room : length s + (72 - length s) ≡ 72 = omega arith in
    let kept : length (take (72 - length s) piece) ≡ min (72 - length s) (length piece) = length-take (72 - length s) piece in
    let left : 72 - length s - length (take (72 - length s) piece) ≡ 72 - length (s ++ piece) = omega
    (arith, kept, length-append s piece) in
    let fits : length s + length (take (72 - length s) piece) ≤ length (s ++ replicate (72 - length s) 0) =
    omega (arith, kept, length-append s (replicate (72 - length s) 0), length-replicate {A = ℕ} (72 - length s) 0) in
    let front : take 72 (s ++ piece) ≡ s ++ take (72 - length s) piece =
    ap (λ (n : ℕ). take n (s ++ piece)) (sym room) ∙ take-append-add s piece (72 - length s) in
    rw (few, take_all 72 s (omega arith), front)
    (sym (put-fits (s ++ replicate (72 - length s) 0) (length s) (take (72 - length s) piece) fits)
    ∙ simp (take-append_seam, drop-append-add, zeros-behind, left, append_assoc))

keeps_by : (s piece : List ℕ) → Dec (length s < 72) → grown (known s) piece ≡ known (s ++ piece)
unfolding known grown
keeps_by s piece d =
    let all : min (min (length s) most_counted + length piece) most_counted ≡ min (length (s ++ piece)) most_counted =
    simp length-append (omega arith) in
    simp (all, head s piece d)
  where
    head : (s piece : List ℕ) → Dec (length s < 72)
        → put (take 72 s ++ replicate (72 - length s) 0) (min (length s) most_counted) (take (72 - min (length s) most_counted) piece)
        ≡ take 72 (s ++ piece) ++ replicate (72 - length (s ++ piece)) 0
    head s piece (yes h) = head_open s piece h
    head s piece (no h) = head_full s piece (omega (arith, h))

pub keeps_on : KeepsOn
keeps_on s piece = keeps_by s piece (dec_lt _ _)

-- all pieces
reads : (s : List ℕ) (pieces : List (List ℕ)) (forms : List Form) {f g : Form} → f ≡ known s → Read f pieces forms g → g ≡ known
    (s ++ joined pieces)
reads s [] [] e r = r ∙ e ∙ ap known (sym (append-nil s))
reads s (p ∷ ps) (n ∷ ns) e r =
    reads (s ++ p) ps ns (r.0 ∙ ap (λ (x : Form). grown x p) e ∙ keeps_on s p) r.1 ∙ ap known (append_assoc s p (joined ps))
reads s [] (n ∷ ns) e r = absurd r
reads s (p ∷ ps) [] e r = absurd r

pub all_read : (pieces : List (List ℕ)) (forms : List Form) (g : Form) → Read (known []) pieces forms g → g ≡ known (joined pieces)
all_read pieces forms g r = reads [] pieces forms refl r

-- the head holds the file's first 72 octets, 0 past its end
abbrev pub head_of : List ℕ → List ℕ
head_of t = (known t).head

kept_at : (m : ℕ) (t : List ℕ) (i : ℕ) → i < m → Dec (length t < m) → Dec (i < length t) → at
    (take m t ++ replicate (m - length t) 0) i ≡ at t i
kept_at m t i h (no l) j =
    let none : m - length t ≡ 0 = omega (arith, l) in
    rw (none, append-nil) (get_or-take m t i 0 h)
kept_at m t i h (yes l) (yes j) = rw (take_all m t (omega arith)) (get_or-append t (replicate (m - length t) 0) 0 i j)
kept_at m t i h (yes l) (no j) =
    let e : length t + (i - length t) ≡ i = omega (arith, j) in
    rw (take_all m t (omega arith))
    (ap (λ (k : ℕ). at (t ++ replicate (m - length t) 0) k) (sym e)
    ∙ get_or-append-add t (replicate (m - length t) 0) (i - length t) 0
    ∙ get_or-replicate (m - length t) (i - length t) 0 0 (omega (arith, j))
    ∙ sym (get_or-eq_default t 0 (omega (arith, j))))

kept-length : (m : ℕ) (t : List ℕ) → length (take m t ++ replicate (m - length t) 0) ≡ m
kept-length m t =
    omega (arith, length-append (take m t) (replicate (m - length t) 0), length-take m t, length-replicate {A = ℕ} (m - length t) 0)

module _ (t : List ℕ) where
  same_at : (i : ℕ) → i < 72 → at (head_of t) i ≡ at t i
  unfolding known
  same_at i h = kept_at 72 t i h (dec_lt _ _) (dec_lt _ _)

  same-four : (i : ℕ) → i + 3 < 72 → four_at (head_of t) i ≡ four_at t i
  same-four i h =
      simp (same_at i (omega arith), same_at (i + 1) (omega arith), same_at (i + 2) (omega arith), same_at (i + 3) (omega arith))

  pub same_count : column_count (head_of t) ≡ column_count t
  same_count = same-four 0 (omega arith)

  pub head_length : length (head_of t) ≡ 72
  unfolding known
  head_length = kept-length 72 t

-- columns are read octet by octet
columns-same : (n : ℕ) (s t : List ℕ) → 2 * n ≤ length s → 2 * n ≤ length t → ((i : ℕ) → i < 2 * n → at s i ≡ at t i)
    → columns_in n s ≡ columns_in n t
columns-same zero s t k l e = refl
columns-same (suc n) s t k l e =
    columns-next n s (omega arith)
    ∙ (simp (
      e 0 (omega arith),
      e 1 (omega arith),
      columns-same n (drop 2 s) (drop 2 t) (simp length-drop (omega arith)) (simp length-drop (omega arith))
          (λ i h. get_or-drop 2 s i 0 ∙ e (2 + i) (omega arith) ∙ sym (get_or-drop 2 t i 0)),
    ))
    ∙ sym (columns-next n t (omega arith))

-- a number that the length cannot exceed by its cap
capped : (n x : ℕ) → x < most_counted → Dec (n < most_counted) → eqb (min n most_counted) x ≡ eqb n x
capped n x h (yes l) =
    let e : min n most_counted ≡ n = omega arith in
    rw e
capped n x h (no l) = ne_eqb (min n most_counted) x (λ e. omega (arith, l, e)) ∙ sym (ne_eqb n x (λ e. omega (arith, l, e)))

-- four octets
pub four-small : (t : List ℕ) → ((i : ℕ) → at t i < 256) → (i : ℕ) → four_at t i < 4294967296
four-small t o i = omega (arith, o i, o (i + 1), o (i + 2), o (i + 3))

or_yes : (b : Bool) → (b || true) ≡ true
or_yes true = refl
or_yes false = refl

wrong-length : (s : List ℕ) (n : ℕ) → (n ≡ 8 + 2 * column_count s + 17 * row_count s → ⊥) → true ≡ badly_formed s n
unfolding badly_formed
wrong-length s n h = simp (ne_eqb _ _ h, or_yes)

-- What is told of the head is told of the file.
module _ (t : List ℕ) (o : (i : ℕ) → at t i < 256) where
  module _ (few : column_count t ≤ 32) where
    pub same_rows : row_count (head_of t) ≡ row_count t
    same_rows = rw (same_count t) (same-four t (4 + 2 * column_count t) (omega arith))

    pub same-columns : 4 + 2 * column_count t ≤ length t → columns_of (head_of t) ≡ columns_of t
    same-columns l =
        rw (same_count t)
        (columns-same (column_count t) (drop 4 (head_of t)) (drop 4 t) (simp length-drop (omega (arith, head_length t)))
        (simp length-drop (omega arith))
        (λ i h. get_or-drop 4 (head_of t) i 0 ∙ same_at t (4 + i) (omega arith) ∙ sym (get_or-drop 4 t i 0)))

  same_by : Dec (32 < column_count t) → Dec (length t < 4 + 2 * column_count t)
      → badly_formed (head_of t) (min (length t) most_counted) ≡ badly_formed t (length t)
  unfolding badly_formed
  same_by (yes h) l = sym (many (head_of t) _ (sym (same_count t)) h) ∙ many t _ refl h
  same_by (no h) (yes l) =
      sym (wrong-length (head_of t) _ (λ e. omega (arith, l, e, same_count t))) ∙ wrong-length t _ (λ e. omega (arith, l, e))
  same_by (no h) (no l) =
      let few : column_count t ≤ 32 = omega (arith, h) in
      let small : 8 + 2 * column_count t + 17 * row_count t < most_counted = omega (arith, h, four-small t o (4 + 2 * column_count t)) in
      rw (
        same-columns few (omega (arith, l)),
        same_rows few,
        same_count t,
        capped (length t)
            (8 + 2 * column_count t + 17 * row_count t) small (dec_lt _ _),
      )

  pub same-form : badly_formed (head_of t) (known t).length ≡ badly_formed t (length t)
  unfolding known
  same-form = same_by (dec_lt _ _) (dec_lt _ _)
