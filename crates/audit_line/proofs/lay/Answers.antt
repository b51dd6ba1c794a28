-- `audit_line::lay` meets its contract.
use Rattle.audit_line.proofs.Lines.{text-laid}
use Rattle.audit_line.proofs.lay.Goals as goal

pub returns : goal.returns
returns c =
    text-laid c.requires.longest_words_in_bounds c.requires.text_len_bound c.put.ensures
