use Rattle.std.proofs.Common.{◌≤◌, length, arith}
use Rattle.std.proofs.lemmas.Result.{err_from_is_err_and}
use Rattle.kiss_writer.proofs.Answers.{adds_up, refuses_2, refuses_51, refuses-bad, frames-good, refuses_50, writes}
use Rattle.kiss_writer.proofs.write.Goals.{then-room-n-via-then-room-n, then-room-n-via-else-room-n+then-room-n-2}
use Rattle.kiss_writer.proofs.write.Goals as goal

pub returns-then-from-gt-LONGEST_TIME : goal.returns-then-from-gt-LONGEST_TIME
returns-then-from-gt-LONGEST_TIME c = refuses_2 _ _ _ _ (omega (arith, c.from.ensures))

pub returns-then-wrong : goal.returns-then-wrong
returns-then-wrong c = refuses_51 _ _ _ _ (omega (arith, c.from.ensures)) c.wrong.ensures c.if-wrong.true

pub first_bad-requires : goal.first_bad-requires
first_bad-requires c = adds_up c.args.lengths.now (length c.args.octets.now) c.wrong.ensures c.if-wrong.false

pub returns-in_err-first_bad : goal.returns-in_err-first_bad
returns-in_err-first_bad c =
    let p = err_from_is_err_and c.from_residual.result c.from_residual.ensures.1 in
    rw (p.1, p.2)
    (refuses-bad _ _ _ _ (omega (arith, c.from.ensures)) c.wrong.ensures c.if-wrong.false c.first_bad.ensures c.in_err-first_bad.was)

pub all_escapes-escapes-requires : goal.all_escapes-escapes-requires
all_escapes-escapes-requires c =
    frames-good _ _ _ c.args.out.now (omega (arith, c.from.ensures)) c.wrong.ensures c.if-wrong.false c.first_bad.ensures
    c.in_ok-first_bad.was

pub returns-then-room-n : goal.returns-then-room-n
returns-then-room-n c =
    let e = c.all_escapes-escapes.ensures in
    let t : c.args.t ≤ 8 = omega (arith, c.from.ensures) in
    elim c.then-room-n.branch [
      | then-room-n-via-then-room-n w ↦
          refuses_50 _ _ _ _ t c.wrong.ensures c.if-wrong.false c.first_bad.ensures c.in_ok-first_bad.was (omega (arith, e))
      | then-room-n-via-else-room-n+then-room-n-2 w ↦
          refuses_50 _ _ _ _ t c.wrong.ensures c.if-wrong.false c.first_bad.ensures c.in_ok-first_bad.was (omega (arith, e))
    ]

pub lay-requires : goal.lay-requires
lay-requires c =
    record {
      frames = frames-good _ _ _ c.args.out.now (omega (arith, c.from.ensures)) c.wrong.ensures c.if-wrong.false
          c.first_bad.ensures c.in_ok-first_bad.was;
      room = omega (arith, c.all_escapes-escapes.ensures, c.if-room-n-2.false, c.if-room-n.false);
    }

pub returns : goal.returns
returns c =
    writes _ _ _ _ (omega (arith, c.from.ensures)) c.wrong.ensures c.if-wrong.false c.first_bad.ensures
    c.in_ok-first_bad.was
    (omega (arith, c.all_escapes-escapes.ensures, c.if-room-n-2.false, c.if-room-n.false)) (c.lay.ensures.value, c.lay.ensures.out_after)
