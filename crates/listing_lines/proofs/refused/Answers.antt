use Rattle.std.proofs.Common.{refl, [], ◌∷◌, arith}
use Rattle.listing_lines.specs.Text.{refused_line}
use Rattle.decimal.proofs.Laid.{resaid, numbers-laid}
use Rattle.listing_lines.proofs.Lines.{numbers-text}
use Rattle.listing_lines.proofs.refused.Goals as goal

pub overflow_add-result : goal.overflow_add-result
overflow_add-result c =
    omega (
      arith,
      c.requires,
      (numbers-laid 32 (c.args.arrival ∷ c.args.refusal ∷ []) (omega (arith, c.requires)) c.numbers-next.ensures).near,
    )

pub returns : goal.returns
unfolding refused_line
returns c =
    resaid refl (omega arith)
    (numbers-text (c.args.arrival ∷ c.args.refusal ∷ []) (45 ∷ 32 ∷ 45 ∷ 32 ∷ 45 ∷ 32 ∷ 45 ∷ 10 ∷ [])
    (omega (arith, c.requires)) c.numbers-next.auto.out c.numbers-next.ensures c.put.ensures)
