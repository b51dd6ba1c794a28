use Rattle.std.proofs.Common.{refl, [], ◌∷◌, arith}
use Rattle.decimal.proofs.Laid.{resaid, joined, put-laid}
use Rattle.listing_lines.proofs.Lines.{numbers_then}
use Rattle.listing_lines.proofs.lettered.Goals as goal

pub returns : goal.returns
returns c =
    resaid refl (omega (arith, c.requires))
    (joined (omega (arith, c.requires)) (put-laid {text = c.args.x ∷ 32 ∷ []} (omega (arith, c.requires)) c.put.ensures)
    (numbers_then c.args.list.now c.args.size 10 (omega (arith, c.requires, c.put.auto.out))
    c.numbers-next.auto.out c.numbers-next.ensures c.number.ensures))
