-- `layouts::wrong::marked` meets its contract.
use Prim.Native.Nat.{ℕ}
use mathlib.Core.Path.{ap, ◌∙◌}
use mathlib.Core.List.{List}
use Rattle.octets.specs.Same.{same}
use Rattle.layouts.specs.Reason.{byte_order_mark}
use Rattle.layouts.proofs.wrong.marked.Goals as goal

pub returns : goal.returns
returns c = c.same.ensures ∙ ap (λ (s : List ℕ). same s byte_order_mark) c.part.ensures
