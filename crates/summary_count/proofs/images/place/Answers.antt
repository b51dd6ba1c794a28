-- `images::place` meets its contract.
use Prim.Native.Nat.{ℕ}
use native.Mathlib.Omega.{arith}
use mathlib.Core.Path.{◌≡◌, sym, ◌∙◌}
use Rattle.summary_count.proofs.Noting.{from_first, found_here, further-on, none_found}
use borrow.Author.Rules.{rules}
use Rattle.summary_count.proofs.images.place.Goals as goal

pub loop-i-init : goal.loop-i-init
loop-i-init c = from_first _ _

pub returns-then-held-key : goal.returns-then-held-key
returns-then-held-key c =
    found_here c.args.key c.args.counts.now c.loop-i.i c.loop-i.invariant (search rules) c.number-held.ensures
    c.if-held-key.true

pub loop-i-preserved : goal.loop-i-preserved
loop-i-preserved c =
    further-on c.args.key c.args.counts.now c.loop-i.i c.loop-i.invariant (search rules) c.number-held.ensures
    c.if-held-key.false

pub returns : goal.returns
returns c =
    let all : c.loop-i.i ≡ 1024 = omega arith in
    sym all ∙ none_found c.args.key c.args.counts.now c.loop-i.i c.loop-i.invariant (omega arith)
