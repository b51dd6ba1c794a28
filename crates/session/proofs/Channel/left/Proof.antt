-- `Channel::left` meets its contract.
use borrow.Author.Rules.{rules}
use mathlib.Core.Path.{ap, ◌∙◌}
use mathlib.Core.List.{List}
use mathlib.Core.Bool.{Bool}
use Prim.Native.Nat.{ℕ}
use Rattle.rules.specs.Channel.{held_of, cleared}
use Rattle.session.specs.Channel.{channel_of, stored}
use Rattle.session.specs.declared.Channel.{Channel}
use Rattle.session.proofs.Keeping.{left-all, left-all-short, left-some, left-some-short}
use Rattle.session.proofs.Channel.left.Statement.{statement}
use Rattle.session.proofs.Channel.left.Tie as tie

-- what is held of the argument's octets
abbrev with : ℕ → Bool → ℕ → List ℕ → Channel
with count in_step first l = stored (channel_of count in_step (cleared (held_of first l)))

holding-requires : tie.Need-holding-requires
holding-requires c κs = left-all-short _ _ _ c.requires c.if-n-k.true

returns : tie.Need-returns-then-n-k
returns c =
    let a = c.args in
    c.holding.ensures ∙ ap (with a.count.0 a.instep a.first) (left-all _ _ _ c.requires c.if-n-k.true)

holding-requires-2 : tie.Need-holding-requires-2
holding-requires-2 c κs = left-some-short _ _ _ c.requires c.if-n-k.false

returns-2 : tie.Need-returns
returns-2 c =
    let a = c.args in
    c.holding-2.ensures ∙ ap (with a.count.0 a.instep a.first) (left-some _ _ _ c.requires c.if-n-k.false)

pub left_spec : {M : Type 1} → statement M
left_spec =
    tie.close
    (tie.spec
    holding-requires returns (λ c. search rules) (λ c. search rules) (λ c. search rules) (λ c. search rules) holding-requires-2
    returns-2)
