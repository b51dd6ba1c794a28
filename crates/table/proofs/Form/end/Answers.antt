-- `table::Form::end` meets its contract.
use native.Mathlib.Omega.{arith}
use mathlib.Core.Path.{◌≡◌, sym, ◌∙◌}
use lib.ListN.{length}
use Rattle.table.proofs.Forming.{few, starts, starts-refused}
use borrow.Author.Rules.{rules}
use Rattle.table.proofs.Form.end.Goals as goal

pub badly_formed-requires : goal.badly_formed-requires
badly_formed-requires c =
    let l : length c.args.self.head ≡ 72 = search rules in
    omega (arith, l)

pub returns-then-badly_formed : goal.returns-then-badly_formed
returns-then-badly_formed c = starts-refused _ (sym c.badly_formed.ensures ∙ c.if-badly_formed.true)

pub four_at-columns-requires : goal.four_at-columns-requires
four_at-columns-requires c =
    let l : length c.args.self.head ≡ 72 = search rules in
    omega (arith, l)

pub four_at-rows-requires : goal.four_at-rows-requires
four_at-rows-requires c =
    let l : length c.args.self.head ≡ 72 = search rules in
    omega (
      arith,
      l,
      few c.args.self c.badly_formed.ensures c.if-badly_formed.false
          c.four_at-columns.ensures,
    )

pub overflow_cast-check : goal.overflow_cast-check
overflow_cast-check c =
    omega (
      arith,
      few c.args.self c.badly_formed.ensures c.if-badly_formed.false
          c.four_at-columns.ensures,
    )

pub returns : goal.returns
returns c =
    starts _ c.badly_formed.ensures c.if-badly_formed.false c.four_at-columns.ensures c.four_at-rows.ensures
