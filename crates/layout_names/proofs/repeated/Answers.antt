-- `layout_names::repeated` meets its contract.
use Prim.Native.Nat.{ℕ, ◌-◌}
use native.Mathlib.Omega.{arith}
use mathlib.Core.Path.{◌≡◌, ap, sym, ◌∙◌}
use Rattle.layout_names.specs.Names.{names_of, in_layouts, first_repeated}
use Rattle.layout_names.proofs.Repeats.{in_layout, in_none, in_here, in_later, found_as}
use Rattle.layout_names.proofs.repeated.Goals as goal

pub loop-i-init : goal.loop-i-init
unfolding first_repeated
loop-i-init c =
    let a = c.args in
    let e : a.n ≡ a.n - 0 = omega arith in
    ap (λ (m : ℕ). in_layouts (in_layout (names_of a.text.now a.froms.now a.tos.now) a.starts.now) m 0) e

pub returns-in-Some : goal.returns-in-Some
returns-in-Some c =
    let l = c.loop-i in
    let a = c.args in
    let names = names_of a.text.now a.froms.now a.tos.now in
    sym (l.invariant ∙ in_here (in_layout names a.starts.now) l.i a.n c.loop-i-test.true
    (found_as names a.starts.now l.i c.element-from.ensures c.element-to.ensures c.within.ensures c.in-Some.is))

pub loop-i-preserved : goal.loop-i-preserved
loop-i-preserved c =
    let l = c.loop-i in
    let a = c.args in
    let names = names_of a.text.now a.froms.now a.tos.now in
    l.invariant ∙ in_later (in_layout names a.starts.now) l.i a.n c.loop-i-test.true
    (found_as names a.starts.now l.i c.element-from.ensures c.element-to.ensures c.within.ensures c.in_default.is)

pub returns : goal.returns
returns c =
    let l = c.loop-i in
    let a = c.args in
    sym (l.invariant ∙ in_none (in_layout (names_of a.text.now a.froms.now a.tos.now) a.starts.now) l.i a.n c.loop-i-test.false)
