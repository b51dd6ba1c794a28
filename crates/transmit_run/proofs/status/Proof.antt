-- `transmit_run::status` meets its contract.
use Rattle.std.proofs.Common.{Bool, false, sym, ap, ◌∙◌, rules}
use Rattle.transmit_run.specs.Ended.{status_of}
use Rattle.transmit_run.proofs.status.Statement.{statement}
use Rattle.transmit_run.proofs.status.Tie as tie

returns : tie.Need-returns-then-ended
returns c = let e = c.args.ended in ap (λ (b : Bool). status_of b e.written.failed) (sym c.if-ended.true)

returns-2 : tie.Need-returns-then-failed
returns-2 c =
    let i = c in
    ap (status_of false) (sym c.if-failed.true ∙ c.failed.ensures)
    ∙ ap (λ (b : Bool). status_of b i.args.ended.written.failed) (sym i.if-ended.false)

returns-3 : tie.Need-returns
returns-3 c =
    let i = c in
    ap (status_of false) (sym c.if-failed.false ∙ c.failed.ensures)
    ∙ ap (λ (b : Bool). status_of b i.args.ended.written.failed) (sym i.if-ended.false)

pub status_spec : {M : Type 1} → statement M
status_spec = tie.close (tie.spec returns (λ c κs. search rules) returns-2 returns-3)
