-- `export_kiss_run::run` meets its contract.
use mir.Syntax.{w32}
use Rattle.std.proofs.Common.{◌∙◌, to_z-of_z, rules}
use Rattle.export_kiss_run.proofs.run.Goals as goal

pub returns : goal.returns
returns c =
    record {
      input = _;
      stopped = _;
      input' = _;
      looped = c.turns-stopped.ensures;
      says = to_z-of_z {w = w32} (search rules) ∙ c.status.ensures;
    }
