use Rattle.std.proofs.Common.{rules, ◌≡◌, ◌∙◌, length, slice_index_or}
use Rattle.transmit_settings.proofs.Setting.{channel-count}
use Rattle.transmit_settings.proofs.State.count.Goals as goal

pub returns : goal.returns
returns c =
    let e : c.unwrap_or.result ≡ slice_index_or c.args.self.counts c.from.result 0 = search rules in
    let l : length c.args.self.counts ≡ 8 = search rules in
    e ∙ channel-count c.args.self _ c.from.ensures l
