-- No two answers, with what they leave, are told alike, and a refusal leaves all that was lent.
use Rattle.std.specs.Prelude.{Ok, Err}
use mathlib.Core.Path.{◌≡◌, refl, sym, ap, subst}
use mathlib.Core.Bool.{true≢false}
use Rattle.octets.proofs.Choices.{picks}
use Rattle.answer.proofs.Told.{same-fields, same-reason, accept_or_refuse, refuse_or_accept}
use Rattle.image.specs.Line.{Image}
use Rattle.greymap.specs.Outcome.{Outcome, Leaves}
use Rattle.greymap.specs.Writing as writing
use Rattle.greymap.specs.Reading as reading
use Rattle.greymap.specs.declared.Lengths.{Lengths}
use Rattle.greymap.specs.Answers.{PictureRead}
use Rattle.greymap.specs.Answers.{PictureWritten}

written_apart : (x y : PictureWritten) → writing.told x ≡ writing.told y → x ≡ y
written_apart (Ok n) (Ok m) h = ap Ok (same-fields h)
written_apart (Err n) (Err m) h = ap Err (same-reason n m h)
written_apart (Ok n) (Err m) h = accept_or_refuse h
written_apart (Err n) (Ok m) h = refuse_or_accept h

read_apart : (x y : PictureRead) → reading.told x ≡ reading.told y → x ≡ y
read_apart (Ok u) (Ok v) h = ap Ok (same-fields h)
read_apart (Err n) (Err m) h = ap Err (same-reason n m h)
read_apart (Ok u) (Err m) h = accept_or_refuse h
read_apart (Err n) (Ok u) h = refuse_or_accept h

pub one_written : {x y : PictureWritten} {i j : writing.Outputs} → writing.observed x i ≡ writing.observed y j
    → ◌≡◌ {A = PictureWritten × writing.Outputs} (x, i) (y, j)
one_written {x} {y} h =
    simp (
      written_apart x y (ap (λ (o : Outcome Lengths writing.Outputs). o.answer) h),
      ap
          (λ (o : Outcome Lengths writing.Outputs). o.lent) h,
    )

pub one-read : {x y : PictureRead} {i j : Image} → reading.observed x i ≡ reading.observed y j → ◌≡◌ {A = PictureRead × Image} (x, i) (y, j)
one-read {x} {y} h =
    simp (read_apart x y (ap (λ (o : Outcome (Unit {0}) Image). o.answer) h), ap (λ (o : Outcome (Unit {0}) Image). o.lent) h)

-- a refusal leaves all that was lent
pub write_refusal_leaves_all : writing.WriteRefusalLeavesAll
unfolding writing.writing
write_refusal_leaves_all image out answer out' e =
    let none : Lengths = writing.lengths 0 0 in
    subst (Leaves none out) (sym e)
    (picks (Leaves none out) _ _ _ (λ t h. (refl, refl))
    (λ f. picks (Leaves none out) _ _ _ (λ t h. (refl, refl)) (λ g h. absurd (true≢false h))))

pub read-refusal-leaves-all : reading.ReadRefusalLeavesAll
unfolding reading.reading
read-refusal-leaves-all grey text before answer after e =
    subst (Leaves tt before) (sym e)
    (picks (Leaves tt before) _ _ _ (λ t h. (refl, refl))
    (λ f. picks (Leaves tt before) _ _ _ (λ t h. (refl, refl))
    (λ g. picks (Leaves tt before) _ _ _ (λ t h. (refl, refl))
    (λ k. picks (Leaves tt before) _ _ _ (λ t h. (refl, refl)) (λ l h. absurd (true≢false h))))))
