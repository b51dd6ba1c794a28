-- However a stream is cut, what is told of it is what it holds.
use mathlib.Core.Path.{◌≡◌, refl, sym, ap, ◌∙◌}
use mathlib.Core.List.{List, ◌++◌}
use Prim.Native.Nat.{ℕ}
use Rattle.stretch.specs.Stretch.{Stretch}
use Rattle.kiss.specs.Reader.{Standing, scanned, told_by, to_find}
use Rattle.kiss.specs.Statements.{Scans, none, scan, next, joined, InAnyPieces}
use Rattle.kiss.proofs.Finding.{scans_find}
use Rattle.kiss.proofs.Streaming.{finds_stream}

all_told : {a : Standing} {pieces : List (List ℕ)} {told : List Stretch} → Scans a pieces told → told ≡ to_find a (joined pieces)
unfolding to_find
all_told none = refl
all_told (scan {a} {w} {pieces} r) =
    ap (λ (l : List Stretch). told_by (scanned a w) ++ l) (all_told r) ∙ sym ((scans_find a w).next (joined pieces))
all_told (next r) = all_told r

pub in_any_pieces : InAnyPieces
in_any_pieces kept pieces told l r = all_told r ∙ finds_stream kept (joined pieces) l
