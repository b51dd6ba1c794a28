-- `over` meets its contract. What is left to run from index at gives the whole.
use Rattle.std.proofs.Common.{◌≡◌, ◌-◌, length, ◌∙◌, rules}
use Rattle.transmit_steps.specs.Step.{lent}
use Rattle.transmit_run.specs.Turn.{fresh_place, running}
use Rattle.transmit_run.proofs.Turning.{Sofar, started, finished, stops, goes_on_lem}
use Rattle.transmit_run.proofs.over.Statement.{statement}
use Rattle.transmit_run.proofs.over.Tie as tie

abbrev invariant-loop : tie.invariant-loop-at
invariant-loop script stamp₀ packets₀ lengths₀ made₀ frames₀ place₀ lines₀ at₀ stamp packets lengths made frames place lines at =
    (length stamp ≡ length stamp₀) × (length packets ≡ length packets₀) × (length lengths ≡ length lengths₀)
    × (length made ≡ length made₀) × (length frames ≡ length frames₀)
    × Sofar script (running (length script) fresh_place script 0 0 (lent stamp₀ packets₀ lengths₀ made₀ frames₀))
    (lent stamp packets lengths made frames) place lines at

abbrev decreases-loop : tie.decreases-loop-at
decreases-loop script stamp₀ packets₀ lengths₀ made₀ frames₀ place₀ lines₀ at₀ stamp packets lengths made frames place lines at =
    length script - at

loop-holds : tie.Need-loop-at-init invariant-loop decreases-loop
loop-holds c =
    let a = c.args in (
      search rules,
      search rules,
      search rules,
      search rules,
      search rules,
      started a.script.now (lent a.stamp.now a.packets.now a.lengths.now a.made.now a.frames.now)
          c.fresh.ensures,
    )

returns : tie.Need-returns-then-faulty invariant-loop decreases-loop
returns c =
    let k = c in
    let o = k.loop-at in
    stops _ _ _ _ _ o.at o.invariant.5 k.loop-at-test.true k.line_end-end.result k.line_end-end.ensures _ _
    c.turn-place.ensures _
    c.wrapping_add_u64-lines.ensures _ c.faulty.ensures c.if-faulty.true

loop-again : tie.Need-loop-at-preserved invariant-loop decreases-loop
loop-again c =
    let k = c in
    let o = k.loop-at in (
      c.stamp-1.given ∙ o.invariant.0,
      search rules,
      search rules,
      search rules,
      search rules,
      goes_on_lem _ _ _ _ _ o.at o.invariant.5 k.loop-at-test.true k.line_end-end.result k.line_end-end.ensures _ _
          c.turn-place.ensures _
          c.wrapping_add_u64-lines.ensures _ c.faulty.ensures c.if-faulty.false,
    )

returns-2 : tie.Need-returns invariant-loop decreases-loop
returns-2 c = finished _ _ _ _ _ c.loop-at.at c.loop-at.invariant.5 c.loop-at-test.false

pub over_spec : {M : Type 1} → statement M
over_spec =
    tie.close
    (tie.spec
    invariant-loop decreases-loop (λ c κs. search rules) loop-holds (λ c κs. search rules) (λ c κs. search rules) (λ c κs. search rules)
    (λ c κs. search rules) (λ c. search rules) (λ c. search rules) (λ c. search rules) (λ c. search rules) (λ c. search rules) returns
    (λ c. search rules) (λ c. search rules) loop-again (λ c. search rules) (λ c. search rules) (λ c. search rules) (λ c. search rules)
    (λ c. search rules) returns-2)
