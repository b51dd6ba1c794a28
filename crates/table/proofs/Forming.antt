-- Laws of refusal 70, and of what is kept of a table file.
use Prim.Native.Nat.{ℕ, ◌+◌, ◌-◌, ◌*◌, ◌≤◌, ◌<◌, min}
use native.Mathlib.Omega.{arith}
use native.Mathlib.Decide.{dec_lt}
use mathlib.Core.Path.{◌≡◌, refl, sym, ◌∙◌}
use mathlib.Core.Bool.{Bool, true, false, not}
use mathlib.Core.List.{List}
use lib.ListN.{length, take, drop}
use lib.Dec.{eqb}
use lib.Seq.{take_all, take-length}
use borrow.Author.Tests.{lt-ltb, le-ltb, ltb-false}
use Rattle.octets.specs.Parts.{put}
use Rattle.octets.proofs.Choices.{picked, passed}
use Rattle.octets.proofs.Tests.{or_left}
use Rattle.table.specs.Table.{column_count, row_count, four_at, columns_in, widths_wrong, badly_formed}
use Rattle.table.specs.Form.{most_counted, ready, refused, grown, started}
use Rattle.table.specs.declared.Form.{Form}

module _ (head : List ℕ) (size : ℕ) {n : ℕ} (e : n ≡ column_count head) where
  pub many : 32 < n → true ≡ badly_formed head size
  unfolding badly_formed
  many h = simp (lt-ltb _ _ (rw e at h))

  module _ (few : n ≤ 32) where
    pub wide : {b : Bool} → b ≡ widths_wrong (columns_in n (drop 4 head)) → b ≡ true → true ≡ badly_formed head size
    unfolding badly_formed
    wide d h =
        let w : widths_wrong (columns_in (column_count head) (drop 4 head)) ≡ true = rw e at (sym d ∙ h) in
        simp (le-ltb _ _ (rw e at few), w)

    pub counted : {b : Bool} {rows : ℕ} → b ≡ widths_wrong (columns_in n (drop 4 head)) → b ≡ false → rows ≡ four_at head (4 + 2 * n)
        → not (eqb size (4 + 2 * n + 4 + 17 * rows)) ≡ badly_formed head size
    unfolding badly_formed
    counted {rows = rows} d h r =
        let w : widths_wrong (columns_in (column_count head) (drop 4 head)) ≡ false = rw e at (sym d ∙ h) in
        let m : rows ≡ row_count head = rw e at r in
        let k : 4 + 2 * n + 4 + 17 * rows ≡ 8 + 2 * column_count head + 17 * row_count head = omega (arith, e, m) in
        simp (le-ltb _ _ (rw e at few), w, k)

-- a file that is not refused has few columns
pub few-columns : (head : List ℕ) (size : ℕ) → badly_formed head size ≡ false → column_count head ≤ 32
unfolding badly_formed
few-columns head size h = ltb-false _ _ (or_left _ _ h)

-- the check that the calls made: its columns fit an octet
pub few : {b : Bool} {columns : ℕ} (f : Form) → b ≡ badly_formed f.head f.length → b ≡ false → columns ≡ column_count f.head
    → columns ≤ 32
few f d h e = rw e (few-columns f.head f.length (sym d ∙ h))

pub starts-refused : (f : Form) → badly_formed f.head f.length ≡ true → refused f.head ≡ started f
unfolding started
starts-refused f h = picked _ _ _ h

pub starts-ready : (f : Form) → badly_formed f.head f.length ≡ false → ready f.head ≡ started f
unfolding started
starts-ready f h = passed _ _ _ _ h refl

pub starts : {b : Bool} {columns rows : ℕ} (f : Form) → b ≡ badly_formed f.head f.length → b ≡ false → columns ≡ column_count f.head
    → rows ≡ four_at f.head (4 + 2 * columns)
    → record { formed = true; head = f.head; columns = columns; rows = rows; row = 0; least = 0; number = 1 } ≡ started f
starts f d h e r =
    let m = rw e at r in
    simp (e, m) (starts-ready f (sym d ∙ h))

-- sums that stop at a most
pub stopped : (l n most : ℕ) → min l most + min n (most - min l most) ≡ min (l + n) most
stopped l n most = omega arith

as_long : (k : ℕ) (s : List ℕ) → Dec (length s < k) → take (min (length s) k) s ≡ take k s
as_long k s (yes h) =
    let e : min (length s) k ≡ length s = omega arith in
    rw e (take-length s ∙ sym (take_all k s (omega arith)))
as_long k s (no h) =
    let e : min (length s) k ≡ k = omega (arith, h) in
    rw e

-- the octets of a piece that are kept
pub front : (l : ℕ) (piece : List ℕ) → take (min (length piece) (72 - min l 72)) piece ≡ take (72 - l) piece
front l piece =
    let e : 72 - min l 72 ≡ 72 - l = omega arith in
    rw e (as_long (72 - l) piece (dec_lt _ _))

-- what the calls left of a piece
pub grows : (f : Form) (piece : List ℕ) {a n before more : ℕ} {head : List ℕ}
    → a ≡ min f.length 72 → n ≡ min (length piece) (72 - a) → head ≡ put f.head f.length (take n piece)
    → before ≡ min f.length most_counted → more ≡ min (length piece) (most_counted - before)
    → record { head = head; length = before + more } ≡ grown f piece
unfolding grown
grows f piece {n = n} {before = before} {more = more} e d h b m =
    let kept : take n piece ≡ take (72 - f.length) piece = rw (d, e) (front f.length piece) in
    let all : before + more ≡ min (f.length + length piece) most_counted = rw (m, b) (stopped f.length (length piece) most_counted) in
    simp (h, kept, all)
