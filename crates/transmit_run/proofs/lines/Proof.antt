-- `transmit_run::lines` meets its contract.
use Rattle.std.proofs.Common.{length, ap, arith, rules}
use Rattle.window.proofs.Hands.{take_short}
use Rattle.transmit_run.proofs.Ending.{ends-faulty, ends-whole}
use Rattle.transmit_run.proofs.lines.Statement.{statement}
use Rattle.transmit_run.proofs.lines.Tie as tie

returns : tie.Need-returns-then-faulty
returns c =
    let f = c in
    let o = f in
    ends-faulty o.over-ran.ensures c.none.result f.faulty.ensures c.if-faulty.true c.none.ensures

hand-on-requires : tie.Need-hand_on-written-requires
hand-on-requires c κs =
    let c14 = c in
    let o = c14 in
    let k = o.over-ran.auto in
    omega (
      arith,
      ap length c.front.ensures,
      take_short o.over-ran.result.place.state.made.count
          o.over-ran.new.frames,
      k.made,
      k.frames,
      o.requires,
    )

returns-2 : tie.Need-returns
returns-2 c =
    let i = c in
    let h = c in
    let f = i in
    let o = f in
    ends-whole o.over-ran.ensures h.hand_on-written.result f.faulty.ensures i.if-faulty.false h.front.ensures
    h.hand_on-written.ensures

pub lines_spec : {M : Type 1} → statement M
lines_spec =
    tie.close
    (tie.spec
    (λ c κs. search rules) (λ c κs. search rules) (λ c κs. search rules) (λ c κs. search rules) (λ c. search rules)
    (λ c. search rules) (λ c. search rules) (λ c. search rules) (λ c. search rules) returns (λ c κs. search rules)
    hand-on-requires (λ c. search rules) (λ c. search rules) (λ c. search rules)
    (λ c. search rules) (λ c. search rules) (λ c. search rules) returns-2)
