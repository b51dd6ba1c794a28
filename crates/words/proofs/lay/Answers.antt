use Rattle.std.proofs.Common.{rules, arith, ℕ, ◌≡◌, ◌+◌, ◌*◌, List, ap, ◌∙◌, sym, length-set}
use lib.ListN.{set}
use Rattle.octets.specs.Numbers.{at}
use Rattle.words.specs.Octets.{digit_of, octets_of}
use Rattle.words.proofs.Pairing.{digit_at, many, octet-at, laid_on, all_laid}
use Rattle.words.proofs.lay.Goals as goal

-- two digits make an octet
pub overflow_mul-out : goal.overflow_mul-out
overflow_mul-out c =
    let i = c.loop-i.i in
    omega (arith, c.digit.ensures, digit_at c.args.s.now (2 * i) c.requires.2 (search rules))

pub overflow_add-out : goal.overflow_add-out
overflow_add-out c =
    let s = c.args.s.now in
    let i = c.loop-i.i in
    omega (
      arith,
      c.digit.ensures,
      c.digit-in-loop-i.ensures,
      digit_at s (2 * i) c.requires.2 (search rules),
      digit_at s (2 * i + 1) c.requires.2 (search rules),
    )

pub loop-i-preserved : goal.loop-i-preserved
loop-i-preserved c =
    let s = c.args.s.now in
    let l = c.loop-i in
    let v = c.digit.result * 16 + c.digit-in-loop-i.result in
    let e : v ≡ digit_of (at s (2 * l.i)) * 16 + digit_of (at s (2 * l.i + 1)) = simp (c.digit.ensures, c.digit-in-loop-i.ensures) in (
      simp length-set (search rules),
      ap (λ (x : List ℕ). set x l.i v) l.invariant.1
          ∙ laid_on c.args.out.now (octets_of s) l.i v (e ∙ sym (octet-at l.i c.args.n s c.requires.0 (search rules))) (search rules)
          (omega (arith, many c.args.n s c.requires.0)),
    )

pub returns : goal.returns
returns c = c.loop-i.invariant.1 ∙ all_laid c.args.out.now c.args.s.now c.args.n c.loop-i.i c.requires.0 (search rules)
