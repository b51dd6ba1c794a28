-- `Session::unsound` is refusal 4: t above 8, or a channel of which it holds.
use Rattle.std.proofs.Common.{◌||◌, refl, sym, ◌∙◌, rules, tests}
use Rattle.std.specs.List.{list_any}
use Rattle.std.proofs.lemmas.Iterator.{YieldsList-from_slice}
use Rattle.std.proofs.lemmas.Iterator.Search.{any_from_yields_List}
use Rattle.std.proofs.lemmas.List.Recursion.{same_from_clauses}
use borrow.Author.Tests.{lt-ltb}
use Rattle.session.specs.Channel.{channel_unsound, any_unsound}
use Rattle.session.proofs.Soundness.{unsound-time, unsound_channels}
use Rattle.session.proofs.Session.unsound.Goals as goal

pub returns-then-self-gt-TIME : goal.returns-then-self-gt-TIME
returns-then-self-gt-TIME c = lt-ltb _ _ c.if-self-gt-TIME.true ∙ sym (unsound-time c.args.self.now c.if-self-gt-TIME.true)

pub returns-else-self-gt-TIME : goal.returns-else-self-gt-TIME
returns-else-self-gt-TIME c =
    let xs = c.args.self.now.channels in
    any_from_yields_List channel_unsound _ _ _ c.any.ensures.ran (YieldsList-from_slice xs (search rules)) (λ x b q k. search (rules, tests))
    ∙ same_from_clauses (list_any channel_unsound) any_unsound (λ x r. channel_unsound x || r) refl (λ _ _. refl) (λ _ _. refl) xs
    ∙ sym (unsound_channels c.args.self.now c.if-self-gt-TIME.false)
