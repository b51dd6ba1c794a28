-- `transmit_run::run` meets its contract.
use mir.Syntax.{w32}
use Rattle.std.proofs.Common.{sym, refl, ◌∙◌, true≢false, arith, to_z-of_z, rules}
use Rattle.transmit_run.proofs.Whole.{made-said}
use Rattle.transmit_run.proofs.run.Goals as goal

pub returns-then-failed : goal.returns-then-failed
returns-then-failed c =
    let t = sym c.failed.ensures ∙ c.if-failed.true in
    record {
      script = _;
      filled = _;
      script' = _;
      reads = c.fill-filled.ensures;
      failed = λ _. refl;
      long = λ f _. absurd (true≢false (sym t ∙ f));
      whole = λ f _. absurd (true≢false (sym t ∙ f));
    }

pub returns-then-have-ge65536 : goal.returns-then-have-ge65536
returns-then-have-ge65536 c =
    let f = sym c.failed.ensures ∙ c.if-failed.false in
    let h = c.if-have-ge65536.true in
    record {
      script = _;
      filled = _;
      script' = _;
      reads = c.fill-filled.ensures;
      failed = λ t. absurd (true≢false (sym t ∙ f));
      long = λ _ _. refl;
      whole = λ _ k. absurd (omega (arith, h, k));
    }

pub returns : goal.returns
returns c =
    let f = sym c.failed.ensures ∙ c.if-failed.false in
    let h = c.if-have-ge65536.false in
    record {
      script = _;
      filled = _;
      script' = _;
      reads = c.fill-filled.ensures;
      failed = λ t. absurd (true≢false (sym t ∙ f));
      long = λ _ k. absurd (omega (arith, h, k));
      whole = λ _ _. made-said c.hand.ensures (to_z-of_z {w = w32} (search rules)) c.made_of.ensures;
    }
