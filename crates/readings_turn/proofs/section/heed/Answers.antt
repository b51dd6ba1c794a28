-- `section::heed` meets its contract.
use native.Mathlib.Omega.{arith}
use Rattle.readings_frame.specs.Readings.{layouts_of}
use Rattle.readings_turn.proofs.Heeding.{quiet-heeded, refused-heeded, accepted-heeded}
use borrow.Author.Rules.{rules}
use Rattle.readings_turn.proofs.section.heed.Goals as goal

pub returns-in_default : goal.returns-in_default
returns-in_default c =
    let a = c.args in
    quiet-heeded (layouts_of a.text.now a.apids.now a.sids.now a.starts.now a.n a.codes.now a.froms.now
    a.tos.now) a.pull c.in_default.not-Answered (omega (arith, c.well_formed))

pub returns-in-Err : goal.returns-in-Err
returns-in-Err c =
    let a = c.args in
    refused-heeded (layouts_of a.text.now a.apids.now a.sids.now a.starts.now a.n a.codes.now a.froms.now
    a.tos.now) c.in-Answered.is c.in-Err.is c.count.ensures
    (omega (arith, c.well_formed))

pub returns-in-Ok : goal.returns-in-Ok
returns-in-Ok c =
    let a = c.args in
    accepted-heeded (layouts_of a.text.now a.apids.now a.sids.now a.starts.now a.n a.codes.now a.froms.now
    a.tos.now) c.in-Answered.is c.in-Ok.is c.frame.ensures
