use Rattle.std.proofs.Common.{arith, length-append}
use Rattle.decimal.specs.Text.{decimal}
use Rattle.decimal.proofs.Decimal.{behind-laid}
use Rattle.decimal.proofs.lay.Goals as goal

pub returns : goal.returns
returns c =
    let a = c.args in
    let p = c.places-k in
    record {
      leaves = rw (c.digits.ensures, p.ensures.value) (behind-laid a.out.now a.at (decimal a.n) a.after (omega (arith, p.ensures)));
      behind = simp length-append (omega arith);
      near = omega (arith, p.ensures);
    }
