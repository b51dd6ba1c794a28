use native.Mathlib.Omega.{arith}
use Rattle.audit_line.proofs.Lines.{form_words, order_words, packet_words, value_words, claim_words, no_words, words_laid}
use Rattle.audit_line.proofs.words.Goals as goal

pub returns-in-70 : goal.returns-in-70
returns-in-70 c = words_laid _ (form_words c.in-70.is) c.lay.ensures

pub returns-in-71 : goal.returns-in-71
returns-in-71 c = words_laid _ (order_words c.in-71.is) c.lay-in-71.ensures

pub returns-in-72 : goal.returns-in-72
returns-in-72 c = words_laid _ (packet_words c.in-72.is) c.lay-in-72.ensures

pub returns-in-73 : goal.returns-in-73
returns-in-73 c = words_laid _ (value_words c.in-73.is) c.lay-in-73.ensures

pub returns-in-74 : goal.returns-in-74
returns-in-74 c = words_laid _ (claim_words c.in-74.is) c.lay-in-74.ensures

pub returns-in_default : goal.returns-in_default
returns-in_default c =
    words_laid _ (no_words _ (omega arith) (omega arith) (omega arith) (omega arith) (omega arith)) c.lay-in_default.ensures
