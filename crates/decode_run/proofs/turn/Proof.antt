-- `decode_run::turn` meets its contract.
use Rattle.std.proofs.Common.{sym, refl, ◌∙◌, arith, rules}
use Rattle.decode_run.specs.Turns.{listed}
use Rattle.decode_run.proofs.Turning.{used-left, turned-failed, turned-full, turned-over, turned_more}
use Rattle.decode_run.proofs.turn.Statement.{statement}
use Rattle.decode_run.proofs.turn.Tie as tie

add-from : tie.Need-overflow_add-from
add-from c =
    let p4 = c in
    let p7 = p4 in
    let p13 = p7 in
    let a = p13.args in
    let g = p13.well_formed in
    let u = used-left a.state a.input.now a.kept.now p7.hand.ensures p4.next-listed.ensures in
    omega (arith, u, g.1.1.0, g.1.1.1.1.1.0)

emit-requires : tie.Need-emit-written-requires
emit-requires c κs =
    let p5 = c in
    listed p5.next-listed.ensures refl

returns : tie.Need-returns-then-failed
returns c =
    let p2 = c in
    let p3 = p2 in
    let p9 = p3 in
    let p12 = p9 in
    let p18 = p12 in
    let a = p18.args in
    turned-failed a.state a.input.now a.kept.now p12.hand.ensures
    p9.next-listed.ensures p3.emit-written.result p3.emit-written.ensures
    p2.none-read.ensures (sym c.failed.ensures ∙ c.if-failed.true)

returns-2 : tie.Need-returns-in-Full
returns-2 c =
    let p2 = c in
    let p3 = p2 in
    let p4 = p3 in
    let p5 = p4 in
    let p11 = p5 in
    let p14 = p11 in
    let p20 = p14 in
    let a = p20.args in
    turned-full a.state a.input.now a.kept.now p14.hand.ensures
    p11.next-listed.ensures p5.emit-written.result p5.emit-written.ensures
    (sym p3.failed.ensures ∙ p2.if-failed.false) p4.none-read.ensures p20.requires
    c.in-Full.is

returns-3 : tie.Need-returns-in-Over
returns-3 c =
    let p2 = c in
    let p3 = p2 in
    let p4 = p3 in
    let p5 = p4 in
    let p11 = p5 in
    let p14 = p11 in
    let p20 = p14 in
    let a = p20.args in
    turned-over a.state a.input.now a.kept.now p14.hand.ensures
    p11.next-listed.ensures p5.emit-written.result p5.emit-written.ensures
    (sym p3.failed.ensures ∙ p2.if-failed.false) p4.none-read.ensures
    c.in-Over.is

returns-4 : tie.Need-returns-in-Missing
returns-4 c =
    let p2 = c in
    let p5 = p2 in
    let p7 = p5 in
    let p9 = p7 in
    let p10 = p9 in
    let p12 = p10 in
    let p18 = p12 in
    let p21 = p18 in
    let p27 = p21 in
    let a = p27.args in
    turned_more a.state a.input.now a.kept.now p21.hand.ensures
    p18.next-listed.ensures p12.emit-written.result p12.emit-written.ensures
    (sym p10.failed.ensures ∙ p9.if-failed.false)
    p5.refill-read.ensures p7.in-Missing.is
    p2.have.ensures c.came.ensures c.failed-in-Missing.ensures

pub turn_spec : {M : Type 1} → statement M
turn_spec =
    tie.close
    (tie.spec
    (λ c κs. search rules) (λ c κs. search rules) add-from emit-requires (λ c κs. search rules)
    (λ c κs. search rules) (λ c. search rules) (λ c. search rules) returns (λ c. search rules)
    (λ c. search rules) (λ c. search rules) (λ c κs. search rules) (λ c κs. search rules) (λ c κs. search rules)
    (λ c κs. search rules) (λ c. search rules) (λ c. search rules) returns-2 (λ c. search rules)
    (λ c. search rules) returns-3 (λ c. search rules) (λ c. search rules) returns-4)
