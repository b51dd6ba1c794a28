use Rattle.std.proofs.Common.{ℕ, ◌∙◌, ap, take}
use Rattle.std.proofs.lemmas.List.{take_min}
use Rattle.transmit_steps.proofs.front.Goals as goal

pub returns : goal.returns
returns c = ap (λ (k : ℕ). take k c.args.list.now) c.min.ensures ∙ take_min c.args.n c.args.list.now
