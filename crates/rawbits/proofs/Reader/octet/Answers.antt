-- `Reader::octet` meets its contract.
use borrow.Author.Rules.{rules}
use Rattle.rawbits.proofs.Eights.{octet-at-once}
use Rattle.rawbits.proofs.Reader.octet.Goals as goal

pub returns-then-self-entry : goal.returns-then-self-entry
returns-then-self-entry c =
    octet-at-once _ _ _ _ c.requires (search rules) c.from.ensures c.if-self-entry.true (search rules) c.eight-reader.ensures
