use Rattle.std.proofs.Common.{arith}
use Rattle.listing_lines.proofs.Lines.{no_mark, mark-put}
use Rattle.listing_lines.proofs.mark.Goals as goal
use Rattle.listing_lines.proofs.mark.Goals.{then-out-at-via-then-out-at, then-out-at-via-else-out-at+then-out-at-lt-NUMBER}

pub returns-then-out-at : goal.returns-then-out-at
returns-then-out-at c =
    elim c.then-out-at.branch [
      | then-out-at-via-then-out-at w ↦ no_mark (omega arith)
      | then-out-at-via-else-out-at+then-out-at-lt-NUMBER w ↦ no_mark (omega arith)
    ]

pub returns : goal.returns
returns c = mark-put (omega arith) c.put.ensures
