-- `picture_images::known` meets its contract.
use borrow.Author.Rules.{rules}
use Rattle.picture_images.proofs.Noting.{known-at}
use Rattle.picture_images.proofs.known.Goals as goal

pub returns : goal.returns
returns c = known-at _ _ (search rules) (λ k h. search rules) (λ h. search rules)
