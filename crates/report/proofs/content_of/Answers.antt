-- Each return is its case of the definition.
use Rattle.std.proofs.Common.{refl, sym, ◌∙◌}
use Rattle.report.proofs.Read.{success-read, failure-read, housekeeping-read, available-read, line_read}
use Rattle.report.proofs.content_of.Goals as goal

pub returns-then-success : goal.returns-then-success
returns-then-success c =
    success-read c.args.p _ c.word-first.ensures c.word-second.ensures
    c.word-third.ensures
    (c.success.ensures _ refl refl) c.if-success.true

pub returns-then-failure : goal.returns-then-failure
returns-then-failure c =
    failure-read c.args.p _ c.word-first.ensures c.word-second.ensures
    c.word-third.ensures
    (c.failure.ensures _ refl refl) c.if-failure.true

pub returns-then-housekeeping : goal.returns-then-housekeeping
returns-then-housekeeping c =
    housekeeping-read c.args.p _ c.octet.ensures (c.housekeeping.ensures _ refl refl) c.if-housekeeping.true

pub returns-then-available : goal.returns-then-available
returns-then-available c =
    available-read c.args.p _ c.word-first.ensures c.word-second.ensures
    c.word-third.ensures
    (c.available.ensures _ refl refl) c.if-available.true

pub returns : goal.returns
returns c =
    line_read c.args.p _ c.word-first.ensures c.octet-2.ensures
    (sym (c.success.ensures _ refl refl) ∙ c.if-success.false)
    (sym (c.failure.ensures _ refl refl) ∙ c.if-failure.false)
    (sym (c.housekeeping.ensures _ refl refl) ∙ c.if-housekeeping.false)
    (sym (c.available.ensures _ refl refl) ∙ c.if-available.false)
