use Rattle.std.proofs.Common.{ℕ, ◌≡◌, ◌+◌, ◌-◌, List, refl, ap, ◌∙◌, subst, length-set, arith, rules}
use Rattle.decimal.specs.Text.{decimal}
use Rattle.decimal.proofs.Decimal.{last_digits, Putting, none-put, one-put, decimal-last}
use Rattle.decimal.proofs.digits.Goals as goal

pub loop-i-init : goal.loop-i-init
loop-i-init c =
    let a = c.args in (
      refl,
      subst (λ (d : List ℕ). Putting d a.out.now a.at a.k a.n a.out.now)
          (ap (λ (k : ℕ). last_digits k a.n) c.requires.k_value ∙ decimal-last a.n) (none-put a.k a.n a.out.now a.at),
    )

pub loop-i-preserved : goal.loop-i-preserved
loop-i-preserved c =
    let l = c.loop-i in
    let a = c.args in
    let i : ℕ = l.i - 1 in
    let e : l.i ≡ i + 1 = omega arith in
    let many = c.requires.k_value in (
      simp length-set (search rules),
      one-put (decimal a.n) a.out.now a.at i l.rest l.out (omega arith) (omega arith)
          (subst (λ (x : ℕ). Putting (decimal a.n) a.out.now a.at x l.rest l.out) e l.invariant.1),
    )
