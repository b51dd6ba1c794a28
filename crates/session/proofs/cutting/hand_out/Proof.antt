-- `cutting::hand_out` meets its contract.
use borrow.Author.Rules.{rules}
use mathlib.Core.Path.{sym}
use lib.Seq.{length-take-le}
use Rattle.session.proofs.Keeping.{front-none, front-part, front-some}
use Rattle.session.proofs.cutting.hand_out.Statement.{statement}
use Rattle.session.proofs.cutting.hand_out.Tie as tie

returns : tie.Need-returns-then-n-k
returns c = front-none _ _ _ _ c.requires c.if-n-k.true

slice-aggregate-put : tie.Need-slice_bounds-put-length
slice-aggregate-put c =
    sym
    (length-take-le _ _
    (front-part _ _ _ _ c.requires
    c.if-n-k.false))

returns-2 : tie.Need-returns
returns-2 c =
    front-some _ _ _ _ c.requires
    c.if-n-k.false
    c.put.ensures c.put-2.ensures

pub hand_out_spec : {M : Type 1} → statement M
hand_out_spec =
    tie.close (tie.spec returns (λ c κs. search rules) slice-aggregate-put (λ c κs. search rules) (λ c. search rules) returns-2)
