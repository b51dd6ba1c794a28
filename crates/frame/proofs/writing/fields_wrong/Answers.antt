use borrow.Author.Tests.{le-ltb}
use Rattle.octets.proofs.Tests.{tests}
use Rattle.frame.specs.Write.{fields_wrong}
use Rattle.frame.proofs.writing.fields_wrong.Goals as goal

pub returns-then-t-gt-LONGEST_TIME : goal.returns-then-t-gt-LONGEST_TIME
unfolding fields_wrong
returns-then-t-gt-LONGEST_TIME c = search tests

pub returns : goal.returns
unfolding fields_wrong
returns c =
    simp (
      le-ltb _ _ c.if-t-gt-LONGEST_TIME.false,
      c.pointer_wrong.ensures,
      c.unfit.ensures,
      c.unfit-2.ensures,
    )
