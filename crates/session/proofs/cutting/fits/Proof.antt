-- `cutting::fits` meets its contract.
use borrow.Author.Rules.{rules}
use native.Mathlib.Omega.{arith}
use mathlib.Core.Path.{◌≡◌, ap, ◌∙◌, subst}
use mathlib.Core.Bool.{false}
use mathlib.Core.List.{◌++◌}
use Prim.Native.Nat.{ℕ, ◌-◌, ◌≤◌}
use lib.ListN.{length}
use lib.Dec.{eqb}
use Rattle.rules.specs.Channel.{allowed, length_in, pointer_to}
use Rattle.session.proofs.Fitting.{Within, outside, within, less_than_said, fits-empty, fits-unknown, fits-wrong, fits-known}
use Rattle.session.proofs.cutting.fits.Statement.{statement}
use Rattle.session.proofs.cutting.fits.Tie as tie

returns : tie.Need-returns-then-k-eq0
returns c = c.points.ensures ∙ fits-empty _ _ _ c.if-k-eq0.true

returns-2 : tie.Need-returns-then-k-n-lt6
returns-2 c = c.points-then-k-n-lt6.ensures ∙ fits-unknown _ _ _ c.if-k-eq0.false c.if-k-n-lt6.true

returns-3 : tie.Need-returns-then-whole
returns-3 c =
    fits-wrong _ _ _ c.if-k-eq0.false c.if-k-n-lt6.false
    (subst (λ (n : ℕ). allowed n ≡ false) c.length_at-whole.ensures (outside c.length_at-whole.result c.if-whole.true))

-- the length is known and right
known : (c : tie.Else-whole) → Within (length_in
    (c.args.held.now ++
    c.args.«data».now))
known c = subst Within c.length_at-whole.ensures (within c.length_at-whole.result c.if-whole.false)

sub-points : tie.Need-overflow_sub-whole
sub-points c =
    let c6 = c in
    let a = c6.args in
    let n = c.length_at-whole.ensures in
    let l = less_than_said a.held.now a.«data».now c6.requires.unfinished (known c).least in
    let g : length a.held.now ≤ c.length_at-whole.result = omega (arith, n, l) in
    g

returns-4 : tie.Need-returns
returns-4 c =
    let c3 = c in
    let c4 = c3 in
    let c7 = c4 in
    let a = c7.args in
    c.points-2.ensures
    ∙ ap (λ (n : ℕ). eqb a.pointer (pointer_to (n - length a.held.now) (length a.«data».now)))
    c.length_at-whole.ensures
    ∙ fits-known _ _ _ c4.if-k-eq0.false c3.if-k-n-lt6.false (known c.before)

pub fits_spec : {M : Type 1} → statement M
fits_spec =
    tie.close
    (tie.spec
    (λ c κs. search rules) returns (λ c. search rules) (λ c κs. search rules) returns-2 (λ c κs. search rules) returns-3 sub-points
    (λ c κs. search rules) returns-4)
