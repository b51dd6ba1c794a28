-- `picture_run::ending::instead` meets its contract.
use mathlib.Core.Path.{◌∙◌}
use Rattle.picture_run.proofs.Whole.{line-put}
use borrow.Author.Rules.{rules}
use Rattle.picture_run.proofs.ending.instead.Goals as goal

pub tell-requires : goal.tell-requires
tell-requires c =
    c.part.ensures ∙ line-put (search rules) c.line-n.ensures

pub returns : goal.returns
returns c = c.tell.ensures
