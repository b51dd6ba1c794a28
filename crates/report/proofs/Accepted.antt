-- What is known of a report that was accepted.
use Rattle.std.specs.Prelude.{Some, None}
use Prim.Native.Nat.{ℕ}
use mathlib.Core.Path.{◌≡◌, refl, sym, subst}
use mathlib.Core.List.{List}
use mathlib.Core.Bool.{Bool, true, false}
use Rattle.octets.specs.Pick.{pick}
use Rattle.octets.proofs.Choices.{not_picked}
use Rattle.answer.specs.Told.{Told, accept, refuse}
use Rattle.answer.proofs.Told.{same-fields, refuse_or_accept}
use Rattle.packet.specs.Packet.{read_packet}
use Rattle.packet.proofs.Told.{accepts}
use Rattle.report.specs.Table.{find_pair}
use Rattle.report.specs.Report.{content_of, length_wrong, line_above, no_report, in_pair, read_content, read_report}
use Rattle.report.proofs.Known.{Kind, kind}
use Rattle.packet.specs.declared.Packet.{Packet}
use Rattle.report.specs.Answers.{Found}
use Rattle.report.specs.declared.Report.{Report}

pub record Accepted (s : List ℕ) (r : Report) : Type 0 where
  pub packet : read_packet s ≡ accept r.packet
  pub kind : Kind r.packet
  pub below : line_above r.packet s ≡ false
  pub content : r.content ≡ content_of r.packet s

-- the pair was found, and neither length nor line refused
in_pair_lem : (f : Found) (p : Packet) (s : List ℕ) {r : Report} → f ≡ find_pair p.service p.subtype → in_pair f p s ≡ accept r
    → Kind p × (line_above p s ≡ false) × (record { packet = p; content = content_of p s } ≡ r)
unfolding in_pair
in_pair_lem None p s e h = refuse_or_accept h
in_pair_lem (Some q) p s e h =
    let a = not_picked (length_wrong p q) _ _ _ h refuse_or_accept in
    let b = not_picked (line_above p s) _ _ _ a.1 refuse_or_accept in
    (kind p (sym e) a.0, b.0, same-fields b.1)

-- so was the packet
of_packet : (b : Bool) (x : Told Report) (n : ℕ) {r : Report} → pick b x (refuse no_report n) ≡ accept r → (b ≡ true) × (x ≡ accept r)
unfolding pick
of_packet true x n h = (refl, h)
of_packet false x n h = refuse_or_accept h

pub accepted : (s : List ℕ) (r : Report) → read_report s ≡ accept r → Accepted s r
unfolding read_report read_content
accepted s r h =
    let p : Packet = (read_packet s).fields in
    let a = of_packet (read_packet s).accepted (read_content p s) (read_packet s).refusal h in
    let b = in_pair_lem (find_pair p.service p.subtype) p s refl a.1 in
    subst (Accepted s) b.2
    (record { packet = accepts s a.0; kind = b.0; below = b.1; content = refl })
