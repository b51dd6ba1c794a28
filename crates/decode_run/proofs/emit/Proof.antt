-- `decode_run::emit` meets its contract.
use Rattle.std.proofs.Common.{ℕ, ◌-◌, List, take, ap, ◌∙◌, rules}
use native.Mathlib.Nat.{sub-zero}
use Rattle.window.proofs.Hands.{take_own}
use Rattle.decode_run.proofs.emit.Statement.{statement}
use Rattle.decode_run.proofs.emit.Tie as tie

returns : tie.Need-returns
returns c =
    let p3 = c in
    let a = p3.args in
    let first : ℕ → List ℕ = λ k. take k a.out.now in
    ap first c.write.ensures ∙ take_own (a.size - 0) a.out.now ∙ ap first (sub-zero a.size)

pub emit_spec : {M : Type 1} → statement M
emit_spec = tie.close (tie.spec (λ c κs. search rules) returns)
