use Rattle.std.proofs.Common.{rules, ◌≡◌, ap, ◌∙◌, ◌%◌}
use Rattle.std.specs.Prelude.{count_by, nat_lt}
use Rattle.transmit_recording.proofs.Losing.{counted}
use Rattle.transmit_recording.proofs.arriving.Goals as goal

pub returns : goal.returns
returns c =
    let e : c.count-n.result ≡ count_by (λ n. nat_lt n 32768) c.args.frames.now = search rules in
    ap (λ n. n % 4294967296) (e ∙ counted c.args.frames.now)
