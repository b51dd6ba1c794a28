-- A frame hands out at most 16 packets and 501 octets and completes at most 17 headers.
use mathlib.Core.Path.{◌≡◌, ap, ◌∙◌}
use mathlib.Core.List.{List}
use native.Mathlib.Omega.{arith}
use lib.ListN.{length}
use Rattle.answer.specs.Told.{Told}
use Rattle.rules.specs.Channel.{Handed}
use Rattle.rules.specs.Packets.{bare, joined}
use Rattle.session.specs.declared.Accepted.{Accepted}
use Rattle.session.specs.Step.{Outcome}
use Rattle.session.specs.Statements.{offered}
use Rattle.session.proofs.Few.{Few, offer-few}
use Rattle.about_delivery.specs.Run.{read_out, packets_of}
use Rattle.about_delivery.specs.Further.{FewEach}
use Rattle.about_delivery.proofs.Calls.{read_back}

pub few-each : FewEach
few-each s c g =
    let o : Outcome = offered s c.offer c.lent in
    let k : Few o = offer-few s c.offer c.lent in
    let read : packets_of c ≡ o.packets =
    ap (λ (a : Told Accepted). read_out a.fields.arrival a.fields.packets c.left) g.answers
    ∙ ap (read_out o.answer.fields.arrival o.answer.fields.packets) g.leaves
    ∙ read_back o.answer.fields.arrival o.answer.fields.packets o.packets c.lent k.under k.count in
    record {
      packets = omega (arith, ap (λ (ps : List Handed). length (bare ps)) read, k.packets);
      octets = omega (arith, ap (λ (ps : List Handed). length (joined (bare ps))) read, k.octets);
      headers = omega (arith, ap (λ (a : Told Accepted). a.fields.headers) g.answers, k.headers);
    }
