-- `mark` meets its contract.
use Rattle.std.proofs.Common.{rules}
use Rattle.transmit_recording.proofs.Losing.{marks, marks_none, arrives}
use Rattle.transmit_recording.proofs.mark.Statement.{statement}
use Rattle.transmit_recording.proofs.mark.Tie as tie

returns : tie.Need-returns-then-i-frames
returns c =
    let a = c.args in
    marks a.frames.now a.i a.lost c.if-lost.true c.wrapping_add_u16.ensures

returns-2 : tie.Need-returns-else-i-frames
returns-2 c =
    let a = c.args in
    marks_none a.frames.now a.i a.lost c.if-lost.true c.if-i-frames.false

returns-3 : tie.Need-returns-else-lost
returns-3 c =
    let a = c.args in
    arrives a.frames.now a.i a.lost c.if-lost.false

pub mark_spec : {M : Type 1} → statement M
mark_spec =
    tie.close (tie.spec (λ c. search rules) (λ c. search rules) (λ c κs. search rules) (λ c. search rules) (λ c. search rules)
    (λ c. search rules) returns returns-2 returns-3)
