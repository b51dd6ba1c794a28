-- `recording::Reader::scan` meets its contract.
use mathlib.Core.Path.{ap, sym, ◌∙◌}
use Rattle.recording.specs.Reader.{scanned}
use Rattle.recording.specs.declared.Reader.{Reader}
use Rattle.recording.proofs.Scanning.{told-whole, told-bad, told-missing, stays-bad}
use borrow.Author.Rules.{rules}
use Rattle.recording.proofs.Reader.scan.Statement.{statement}
use Rattle.recording.proofs.Reader.scan.Tie as tie

returns : tie.Need-returns-in-Missing
returns c =
    let m = c in
    told-missing _ m.in-Settings.is m.settings.ensures c.in-Missing.is c.waits.ensures

returns-2 : tie.Need-returns-in-Bad-settings
returns-2 c =
    let m = c in
    told-bad _ m.in-Settings.is m.settings.ensures c.in-Bad-settings.is c.stopped.ensures

returns-3 : tie.Need-returns-in-Whole
returns-3 c =
    let m = c in
    told-whole _ m.in-Settings.is m.settings.ensures c.in-Whole.is

returns-4 : tie.Need-returns-in-Missing-count
returns-4 c =
    let m = c in
    told-missing _ m.in-Count.is m.count.ensures c.in-Missing-count.is c.waits-in-Missing-count.ensures

returns-5 : tie.Need-returns-in-Bad-count
returns-5 c =
    let m = c in
    told-bad _ m.in-Count.is m.count.ensures c.in-Bad-count.is c.stopped-in-Bad-count.ensures

returns-6 : tie.Need-returns-in-Whole-count
returns-6 c =
    let m = c in
    told-whole _ m.in-Count.is m.count.ensures c.in-Whole-count.is

returns-7 : tie.Need-returns-in-Frames
returns-7 c =
    let c5 = c in
    c.frames.ensures ∙ ap (λ (a : Reader). scanned a c5.args.window.now) (sym c.in-Frames.is)

returns-8 : tie.Need-returns-in-Bad
returns-8 c = stays-bad _ c.in-Bad.is

pub scan_spec : {M : Type 1} → statement M
scan_spec =
    tie.close
    (tie.spec
    (λ c. search rules) (λ c κs. search rules) (λ c. search rules) (λ c κs. search rules) (λ c. search rules)
    (λ c κs. search rules) (λ c. search rules) (λ c. search rules) (λ c κs. search rules) (λ c. search rules)
    (λ c κs. search rules) (λ c. search rules) (λ c κs. search rules) (λ c. search rules) (λ c. search rules)
    (λ c κs. search rules) (λ c. search rules) returns returns-2 returns-3 returns-4 returns-5 returns-6
    returns-7 returns-8)
