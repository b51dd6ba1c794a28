-- `transmit_recording::lay` meets its contract.
use Rattle.std.proofs.Common.{arith, rules}
use Rattle.transmit_recording.proofs.Laying.{lays_nothing, lays_all}
use Rattle.transmit_recording.proofs.lay.Statement.{statement}
use Rattle.transmit_recording.proofs.lay.Tie as tie

returns : tie.Need-returns-then-out-lt9
returns c =
    let a = c.args in
    lays_nothing a.t a.made.now a.frames.now a.out.now (omega (arith, c.if-out-lt9.true))

returns-2 : tie.Need-returns-then-room-made
returns-2 c =
    let a = c.args in
    lays_nothing a.t a.made.now a.frames.now a.out.now (omega (arith, c.if-room-made.true, c.if-out-lt9.false))

returns-3 : tie.Need-returns-then-room-made-2
returns-3 c =
    let c6 = c in
    let a = c6.args in
    lays_nothing a.t a.made.now a.frames.now a.out.now
    (omega (arith, c.if-room-made-2.true, c.if-room-made.false, c.if-out-lt9.false))

lay-frames-requires : tie.Need-lay_frames-requires
lay-frames-requires c κs =
    let i = c in
    omega (arith, i.if-room-made-2.false, i.if-room-made.false, i.if-out-lt9.false, c.put.auto.out)

returns-4 : tie.Need-returns
returns-4 c =
    let p = c in
    let i = p in
    let a = i.args in
    lays_all a.t a.made.now a.frames.now a.out.now
    (omega (arith, i.if-room-made-2.false, i.if-room-made.false, i.if-out-lt9.false))
    p.head-first.ensures p.put.ensures c.lay_frames.ensures

pub lay_spec : {M : Type 1} → statement M
lay_spec =
    tie.close
    (tie.spec
    returns (λ c. search rules) returns-2 (λ c. search rules) returns-3 (λ c κs. search rules) (λ c. search rules)
    (λ c κs. search rules) lay-frames-requires (λ c. search rules) returns-4)
