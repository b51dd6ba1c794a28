-- `Session::open` is the definition's choice.
use borrow.Author.Tests.{lt-ltb, le-ltb}
use Rattle.octets.specs.Pick.{pick}
use Rattle.session.specs.Open.{opening}
use Rattle.session.proofs.Session.open.Goals as goal

pub returns-then-t-gt-TIME : goal.returns-then-t-gt-TIME
unfolding opening pick
returns-then-t-gt-TIME c = record {
  session = simp (lt-ltb _ _ c.if-t-gt-TIME.true) c.fresh.ensures;
  answers = simp (lt-ltb _ _ c.if-t-gt-TIME.true);
}

pub returns : goal.returns
unfolding opening pick
returns c = record {
  session = simp (le-ltb _ _ c.if-t-gt-TIME.false) c.fresh-2.ensures;
  answers = simp (le-ltb _ _ c.if-t-gt-TIME.false);
}
