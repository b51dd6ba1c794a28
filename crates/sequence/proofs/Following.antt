-- The entry that an accepted call leaves tells its count to the next one.
use Prim.Native.Nat.{ℕ, ◌+◌, ◌≤◌}
use native.Mathlib.Omega.{arith}
use mathlib.Core.Path.{◌≡◌, refl, sym, ap, ◌∙◌}
use mathlib.Core.Bool.{true, true≢false, ◌||◌}
use mathlib.Core.List.{List}
use lib.ListN.{length, set, length-set}
use lib.Dec.{ltb}
use lib.Seq.{get_or-set_same}
use borrow.Author.Tests.{ltb-false}
use Rattle.octets.specs.Numbers.{at}
use Rattle.octets.proofs.Choices.{picks}
use Rattle.octets.proofs.Tests.{or_left, or_right}
use Rattle.sequence.specs.Sequence.{Outcome, outcome}
use Rattle.sequence.specs.Statements.{Passed}
use Rattle.sequence.specs.Following.{between_counts, NextTellsGap}
use Rattle.sequence.proofs.EachWhen.{later}

-- what an accepted call passed, and what it leaves
module _ (apid count : ℕ) (list : List ℕ) where
  abbrev Went : Outcome → Type 0
  Went o = o.answer.accepted ≡ true → Passed apid count list × (o.list ≡ set list apid (count + 1))

  went : Went (outcome apid count list)
  unfolding outcome
  went =
      picks Went (ltb (length list) 2048) _ _ (λ t h. absurd (true≢false (sym h)))
      (λ l. picks Went (ltb 2047 apid || ltb 16383 count) _ _ (λ t h. absurd (true≢false (sym h)))
      (λ r. picks Went (ltb 16384 (at list apid)) _ _ (λ t h. absurd (true≢false (sym h)))
      (λ q h. (
        record {
          long = ltb-false _ _ l;
          apids = ltb-false _ _ (or_left (ltb 2047 apid) (ltb 16383 count) r);
          counts = ltb-false _ _ (or_right (ltb 2047 apid) (ltb 16383 count) r);
          entry = ltb-false _ _ q;
        },
        refl,
      ))))

module _ (apid first second : ℕ) (before : List ℕ) (p : Passed apid first before) (low : second ≤ 16383) where
  abbrev left : List ℕ
  left = set before apid (first + 1)

  holds : at left apid ≡ first + 1
  holds = get_or-set_same before apid (first + 1) 0 (omega (arith, p.long, p.apids))

  passes : Passed apid second left
  passes = record {
    long = simp length-set p.long;
    apids = p.apids;
    counts = low;
    entry = omega (arith, holds, p.counts);
  }

  next-tells : (outcome apid second left).answer ≡ between_counts first second
  unfolding between_counts
  next-tells = later apid second left passes first holds

pub next-tells-gap : NextTellsGap
next-tells-gap apid first second before answer between h a low next after k =
    let w = went apid first before (ap (λ (o : Outcome). o.answer.accepted) (sym h) ∙ a) in
    let left : between ≡ set before apid (first + 1) = ap (λ (o : Outcome). o.list) h ∙ w.1 in
    ap (λ (o : Outcome). o.answer) k ∙ ap (λ (l : List ℕ). (outcome apid second l).answer) left
    ∙ next-tells apid first second before w.0 low
