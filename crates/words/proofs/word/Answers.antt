use Rattle.words.proofs.Splitting.{word-front}
use Rattle.words.proofs.word.Goals as goal

pub returns : goal.returns
returns c = rw c.spaced.ensures.value (word-front c.args.s.now)
