-- `frame` meets its contract.
use Rattle.std.proofs.Common.{rules}
use Rattle.faults.proofs.Whys.{frame-short, frame-long, frame-cut}
use Rattle.faults.proofs.frame.Statement.{statement}
use Rattle.faults.proofs.frame.Tie as tie

returns : tie.Need-returns-then-rest-lt2
returns c = frame-short _ c.if-rest-lt2.true

returns-2 : tie.Need-returns-then-word-gt-FRAME
returns-2 c = frame-long _ c.word.ensures c.if-rest-lt2.false c.if-word-gt-FRAME.true

returns-3 : tie.Need-returns
returns-3 c = frame-cut _ c.word.ensures c.if-rest-lt2.false c.if-word-gt-FRAME.false

pub frame_spec : {M : Type 1} → statement M
frame_spec =
    tie.close
    (tie.spec
    returns (λ c. search rules) (λ c. search rules) (λ c κs. search rules) (λ c. search rules) returns-2
    returns-3)
