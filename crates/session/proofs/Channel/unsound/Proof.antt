-- `Channel::unsound` meets its contract: nothing held is never wrong, and else the tests in their order.
use borrow.Author.Rules.{rules}
use mathlib.Core.Path.{sym}
use Rattle.session.proofs.Soundness.{none-wrong, wrong-at-once, few-right, length-wrong}
use Rattle.session.proofs.Channel.unsound.Statement.{statement}
use Rattle.session.proofs.Channel.unsound.Tie as tie

returns : tie.Need-returns-then-n-eq0
returns c = sym (none-wrong _ _ _ c.if-n-eq0.true)

returns-2 : tie.Need-returns-then-n-self
returns-2 c = sym (wrong-at-once _ _ _ c.if-n-eq0.false c.if-n-self.true)

returns-3 : tie.Need-returns-then-n-lt6
returns-3 c = sym (few-right _ _ _ c.if-n-eq0.false c.if-n-self.false c.if-n-lt6.true)

returns-4 : tie.Need-returns
returns-4 c =
    let c3 = c in
    let c4 = c3 in
    let c5 = c4 in
    rw c.word.ensures (sym (length-wrong _ _ _ c5.if-n-eq0.false c4.if-n-self.false c3.if-n-lt6.false))

pub unsound_spec : {M : Type 1} → statement M
unsound_spec =
    tie.close
    (tie.spec
    (λ c. search rules) returns returns-2 returns-3 (λ c. search rules) (λ c. search rules) (λ c κs. search rules) (λ c. search rules)
    (λ c. search rules)
    returns-4)
