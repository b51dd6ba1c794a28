-- `kiss::seal` meets its contract.
use mathlib.Core.Path.{sym}
use lib.ListN.{length-set}
use lib.Seq.{length-take-le}
use native.Mathlib.Omega.{arith}
use borrow.Author.Rules.{rules}
use Rattle.kiss.proofs.Sealing.{seals_none, seals_one, seals_both}
use Rattle.kiss.proofs.seal.Statement.{statement}
use Rattle.kiss.proofs.seal.Tie as tie

slice-aggregate-frame-check : tie.Need-slice_bounds-frame_check-end-2
slice-aggregate-frame-check c = sym (length-take-le _ _ (search rules))

returns : tie.Need-returns-then-n-room
returns c = seals_none _ _ c.frame_check-check.ensures (search rules)

returns-2 : tie.Need-returns-then-second-room
returns-2 c = seals_one _ _ c.frame_check-check.ensures (search rules)

slice-write-kept-2 : tie.Need-bounds-kept-second
slice-write-kept-2 c = simp length-set (omega arith)

returns-3 : tie.Need-returns
returns-3 c = seals_both _ _ c.frame_check-check.ensures (search rules)

pub seal_spec : {M : Type 1} → statement M
seal_spec =
    tie.close
    (tie.spec
    (λ c. search rules) slice-aggregate-frame-check (λ c κs. search rules) (λ c. search rules) returns (λ c. search rules)
    (λ c. search rules)
    (λ c. search rules) (λ c. search rules) returns-2 (λ c. search rules) slice-write-kept-2 (λ c. search rules)
    (λ c. search rules) returns-3)
