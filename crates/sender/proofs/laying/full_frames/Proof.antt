use Rattle.sender.proofs.Refusals.{full-none}
use Rattle.std.proofs.Common.{rules}
use Rattle.sender.proofs.laying.full_frames.Statement.{statement}
use Rattle.sender.proofs.laying.full_frames.Tie as tie

returns : tie.Need-returns-then-n-eq0
returns c = full-none _ _ (search rules)

pub full_frames_spec : {M : Type 1} → statement M
full_frames_spec = tie.close
    (tie.spec
    returns (λ c. search rules) (λ c. search rules) (λ c. search rules))
