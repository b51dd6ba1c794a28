use Rattle.std.proofs.Common.{ℕ, ◌+◌, ◌-◌, min, ap, ◌∙◌}
use Rattle.transmit_recording.proofs.Laying.{behind-least}
use Rattle.transmit_recording.proofs.behind.Goals as goal

pub returns : goal.returns
returns c =
    ap (λ (k : ℕ). c.args.at + k) (c.min.ensures ∙ ap (λ (k : ℕ). min k (c.args.end - c.args.at)) c.from.ensures)
    ∙ behind-least c.args.at c.args.n c.args.end c.requires
