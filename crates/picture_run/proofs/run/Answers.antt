-- `picture_run::run` meets its contract.
use mathlib.Core.Path.{refl}
use native.Mathlib.Omega.{arith}
use mir.Syntax.{w32}
use mir.Facts.{to_z-of_z}
use Rattle.picture_run.proofs.Whole.{shown-said}
use borrow.Author.Rules.{rules}
use Rattle.picture_run.proofs.run.Goals as goal

pub returns-then-wanted-gt-LAST_IMAGE : goal.returns-then-wanted-gt-LAST_IMAGE
returns-then-wanted-gt-LAST_IMAGE c =
    let n = c.number-wanted.ensures in
    let h = c.if-wanted-gt-LAST_IMAGE.true in
    record { wrong = λ _. refl; right = λ k. absurd (omega (arith, n, h, k)) }

pub returns : goal.returns
returns c =
    let n = c.number-wanted.ensures in
    let h = c.if-wanted-gt-LAST_IMAGE.false in
    record { wrong = λ k. absurd (omega (arith, n, h, k)); right = λ _. shown-said n (to_z-of_z {w = w32} (search rules)) c.show_image.ensures }
