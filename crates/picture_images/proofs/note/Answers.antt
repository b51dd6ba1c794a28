-- `picture_images::note` meets its contract.
use Prim.Native.Nat.{ℕ, ◌+◌, ◌-◌, ◌<◌}
use mathlib.Core.Path.{◌≡◌, refl, sym, ap, ◌∙◌}
use mathlib.Core.List.{List}
use native.Mathlib.Omega.{arith}
use lib.ListN.{length, set}
use Rattle.std.proofs.lemmas.List.{set-get_or}
use Rattle.octets.specs.Numbers.{at}
use Rattle.picture_images.proofs.Noting.{put-here, held-here, not_here, none_free}
use Rattle.picture_images.proofs.note.Goals as goal

pub loop-place-init : goal.loop-place-init
loop-place-init c = (refl, refl)

pub returns-then-place-eq0 : goal.returns-then-place-eq0
returns-then-place-eq0 c =
    let l = c.loop-place in
    let i = l.place-index in
    let all = c.args.images.now in
    let e : l.images ≡ all = l.invariant.0 in
    let z : at all i ≡ 0 = ap (λ (x : List ℕ). at x i) (sym e) ∙ c.if-place-eq0.true in
    ap (λ (x : List ℕ). set x i (c.from-held.result + 1)) e
    ∙ ap (λ (n : ℕ). set all i (n + 1)) c.from-held.ensures
    ∙ put-here all c.args.image i l.invariant.1 c.loop-place-test.true z

-- a place that stays as it is
stays : (s all : List ℕ) (i : ℕ) → s ≡ all → set s i (at s i) ≡ all
stays s all i e = set-get_or s i 0 ∙ e

pub returns-then-place-held : goal.returns-then-place-held
returns-then-place-held c =
    let l = c.loop-place in
    let i = l.place-index in
    let all = c.args.images.now in
    let same : at l.images i ≡ at all i = ap (λ (x : List ℕ). at x i) l.invariant.0 in
    stays l.images all i l.invariant.0
    ∙ held-here all c.args.image i l.invariant.1 c.loop-place-test.true (λ z. c.if-place-eq0.false (same ∙ z))
    (sym same ∙ c.if-place-held.true ∙ ap (λ (n : ℕ). n + 1) c.from-held.ensures)

pub loop-place-preserved : goal.loop-place-preserved
loop-place-preserved c =
    let l = c.loop-place in
    let i = l.place-index in
    let all = c.args.images.now in
    let same : at l.images i ≡ at all i = ap (λ (x : List ℕ). at x i) l.invariant.0 in (
      stays l.images all i l.invariant.0,
      not_here all c.args.image i l.invariant.1 c.loop-place-test.true (λ z. c.if-place-eq0.false (same ∙ z))
          (λ z. c.if-place-held.false (same ∙ z ∙ ap (λ (n : ℕ). n + 1) (sym c.from-held.ensures))),
    )

pub returns : goal.returns
returns c =
    let l = c.loop-place in
    let e : l.images ≡ c.args.images.now = l.invariant.0 in
    e ∙ none_free c.args.images.now c.args.image l.place-index l.invariant.1 (omega (arith, c.loop-place-test.false, ap length e))
