-- No two answers of the reader are told alike, and a refusal tells 0 in every field.
use Rattle.std.specs.Prelude.{Ok, Err}
use Prim.Native.Nat.{ℕ}
use mathlib.Core.Path.{◌≡◌, refl, ap, ap₂}
use mathlib.Core.List.{List}
use mathlib.Core.Bool.{true≢false}
use lib.ListN.{take, drop}
use lib.Dec.{eqb}
use Rattle.octets.specs.Numbers.{at}
use Rattle.octets.specs.Pick.{pick}
use Rattle.answer.specs.Told.{TellsNothing, NoneLeftOut}
use Rattle.answer.proofs.Told.{same-fields, same-reason, accept_or_refuse, refuse_or_accept, had_back}
use Rattle.report.specs.Report.{content_numbers, report_numbers, told, RefusalsTellNothing}
use Rattle.report.specs.declared.Content.{Content}
use Rattle.report.specs.declared.Content.TheVariants as content
use Rattle.report.specs.declared.Report.{Report}
use Rattle.report.specs.Answers.{ReportRead}
use Rattle.packet.proofs.Told.{none-left-out as packet-none-left-out}

pub told_apart : (x y : ReportRead) → told x ≡ told y → x ≡ y
told_apart (Ok r) (Ok q) h = ap Ok (same-fields h)
told_apart (Err n) (Err m) h = ap Err (same-reason n m h)
told_apart (Ok r) (Err m) h = accept_or_refuse h
told_apart (Err n) (Ok q) h = refuse_or_accept h

-- a content can be had back from its numbers
abbrev content_from : List ℕ → Content
content_from l =
    pick (eqb (at l 0) 0) (content.Success (record { id = at l 1; control = at l 2 }))
    (pick (eqb (at l 0) 1) (content.Failure (record { id = at l 1; control = at l 2; code = at l 3 }))
    (pick (eqb (at l 0) 2) (content.Housekeeping (record { sid = at l 1; length = at l 2 }))
    (pick (eqb (at l 0) 3) (content.Available (record { image = at l 1; ticks = at l 2 }))
    (content.Line (record { image = at l 1; line = at l 2 })))))

from-numbers : (c : Content) → content_from (content_numbers c) ≡ c
unfolding pick
from-numbers (content.Success c) = refl
from-numbers (content.Failure c) = refl
from-numbers (content.Housekeeping c) = refl
from-numbers (content.Available c) = refl
from-numbers (content.Line c) = refl

-- so a report, whose first six numbers are those of its packet
pub none-left-out : NoneLeftOut report_numbers
none-left-out r q h =
    let packet : r.packet ≡ q.packet = packet-none-left-out r.packet q.packet (ap (take 6) h) in
    let content : r.content ≡ q.content =
    had_back {numbers = content_numbers} content_from from-numbers r.content q.content (ap (drop 6) h) in
    ap₂ {C = Report} (λ p c. record { packet = p; content = c }) packet content

tell_nothing : TellsNothing told report_numbers
tell_nothing (Ok r) h = absurd (true≢false h)
tell_nothing (Err n) h = refl

pub refusals_tell_nothing : RefusalsTellNothing
refusals_tell_nothing = (none-left-out, tell_nothing)
