-- `packets::gap` meets its contract.
use Prim.Native.Nat.{ℕ, ◌+◌}
use mathlib.Core.Path.{◌≡◌, ap, ◌∙◌}
use Rattle.std.specs.Prelude.{Ok, Err}
use Rattle.summary_count.specs.Count.{added}
use Rattle.summary_count.proofs.Handing.{gap-missing, gap_restart, gap_unknown, gap-none}
use Rattle.summary_count.proofs.packets.gap.Goals as goal

pub returns-in_default : goal.returns-in_default
returns-in_default c =
    gap-none c.args.apid c.args.count.0 c.args.counts.now c.args.last.now c.missing.ensures c.in_default.is

pub returns-in-Missing : goal.returns-in-Missing
returns-in-Missing c =
    let counted : c.add.new.counts ≡ added c.args.counts.now (132096 + c.args.apid) c.in-Missing.n = cc in
    gap-missing c.args.apid c.args.count.0 c.args.counts.now c.args.last.now c.missing.ensures
    (c.in-Ok.is ∙ ap Ok c.in-Missing.is) counted

pub returns-in-Restart : goal.returns-in-Restart
returns-in-Restart c =
    let counted : c.add-in-Restart.new.counts ≡ added c.args.counts.now (134144 + c.args.apid) 1 = cc in
    gap_restart c.args.apid c.args.count.0 c.args.counts.now c.args.last.now c.missing.ensures
    (c.in-Ok.is ∙ ap Ok c.in-Restart.is) counted

pub returns-in-Unknown : goal.returns-in-Unknown
returns-in-Unknown c =
    gap_unknown c.args.apid c.args.count.0 c.args.counts.now c.args.last.now c.missing.ensures
    (c.in-Ok.is ∙ ap Ok c.in-Unknown.is)
