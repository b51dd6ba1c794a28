use Rattle.transmit_settings.proofs.Setting.{sent_is}
use Rattle.transmit_settings.proofs.State.sent.Goals as goal

pub returns : goal.returns
returns c = sent_is c.args.self c.args.s _ _ c.counted-next.ensures c.more-next.ensures
