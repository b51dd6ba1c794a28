-- `recording::frame` meets its contract.
use Rattle.recording.proofs.Sections.{frame-cut, frame-long, frame-short, frame-whole}
use borrow.Author.Rules.{rules}
use Rattle.recording.proofs.frame.Statement.{statement}
use Rattle.recording.proofs.frame.Tie as tie

returns-2 : tie.Need-returns-then-length-gt-FRAME
returns-2 c = frame-long _ c.word-length.ensures c.if-n-lt2.false c.if-length-gt-FRAME.true

returns-3 : tie.Need-returns-then-n-length
returns-3 c =
    let c5 = c in
    frame-cut _ c.word-length.ensures c5.if-n-lt2.false c.if-length-gt-FRAME.false c.if-n-length.true

returns-4 : tie.Need-returns
returns-4 c =
    let c5 = c in
    frame-whole _ c.word-length.ensures c5.if-n-lt2.false c.if-length-gt-FRAME.false c.if-n-length.false

pub frame_spec : {M : Type 1} → statement M
frame_spec =
    tie.close
    (tie.spec
    (λ c. search rules) (λ c. frame-short _ c.if-n-lt2.true) (λ c. search rules) (λ c. search rules) (λ c κs. search rules)
    (λ c. search rules) returns-2 (λ c. search rules) (λ c. search rules) (λ c. search rules) returns-3 returns-4)
