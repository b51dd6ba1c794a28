use Rattle.transmit_settings.proofs.Setting.{channel-counted, no_channel_counted}
use Rattle.transmit_settings.proofs.State.counted.Goals as goal

pub returns-then-v-lt8 : goal.returns-then-v-lt8
returns-then-v-lt8 c = channel-counted c.args.self c.args.count _ c.from-v.ensures c.if-v-lt8.true

pub returns : goal.returns
returns c = no_channel_counted c.args.self c.args.count _ c.from-v.ensures c.if-v-lt8.false
