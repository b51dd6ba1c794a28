-- `faults::start::seen` meets its contract.
use Rattle.std.proofs.Common.{sym, refl, ◌∙◌, rules}
use Rattle.octets.proofs.Choices.{picked, passed}
use Rattle.faults.specs.Look.{look_of}
use Rattle.faults.proofs.start.seen.Statement.{statement}
use Rattle.faults.proofs.start.seen.Tie as tie

returns : tie.Need-returns-then-starts_kiss
unfolding look_of
returns c = picked _ _ _ (sym c.starts_kiss.ensures ∙ c.if-starts_kiss.true)

returns-2 : tie.Need-returns-then-bit_octets
unfolding look_of
returns-2 c =
    let p2 = c in
    passed _ _ _ _ (sym p2.starts_kiss.ensures ∙ p2.if-starts_kiss.false)
    (picked _ _ _ (sym c.bit_octets.ensures ∙ c.if-bit_octets.true))

returns-3 : tie.Need-returns-then-starts_recording
unfolding look_of
returns-3 c =
    let p2 = c in
    let p4 = p2 in
    passed _ _ _ _ (sym p4.starts_kiss.ensures ∙ p4.if-starts_kiss.false)
    (passed _ _ _ _ (sym p2.bit_octets.ensures ∙ p2.if-bit_octets.false)
    (picked _ _ _ (sym c.starts_recording.ensures ∙ c.if-starts_recording.true)))

returns-4 : tie.Need-returns
unfolding look_of
returns-4 c =
    let p2 = c in
    let p4 = p2 in
    passed _ _ _ _ (sym p4.starts_kiss.ensures ∙ p4.if-starts_kiss.false)
    (passed _ _ _ _ (sym p2.bit_octets.ensures ∙ p2.if-bit_octets.false)
    (passed _ _ _ _ (sym c.starts_recording.ensures ∙ c.if-starts_recording.false) refl))

pub seen_spec : {M : Type 1} → statement M
seen_spec =
    tie.close
    (tie.spec
    (λ c κs. search rules) returns (λ c κs. search rules) returns-2 (λ c κs. search rules) returns-3 returns-4)
