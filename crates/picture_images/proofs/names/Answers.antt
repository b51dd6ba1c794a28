-- `picture_images::names` meets its contract.
use Prim.Native.Nat.{ℕ, ◌-◌, ◌≤◌, ◌<◌}
use mathlib.Core.Path.{◌≡◌, sym, ap, ◌∙◌}
use mathlib.Core.List.{List}
use native.Mathlib.Omega.{arith}
use lib.ListN.{length, take}
use lib.Seq.{length-take-le, get_or-take}
use Rattle.octets.specs.Numbers.{at}
use Rattle.picture_images.specs.Noted.{images_in}
use Rattle.picture_images.proofs.Noting.{number_at, images-inside}
use Rattle.picture_images.proofs.Naming.{Naming, none_named_lem, one-named, all_named}
use Rattle.picture_images.proofs.names.Goals as goal

-- so many are gone over
long : (places : List ℕ) (named : ℕ) → named ≤ length (images_in places) → length (take named places) ≡ named
long places named h = length-take-le named places (omega (arith, images-inside places))

pub slice_bounds-place-items-end : goal.slice_bounds-place-items-end
slice_bounds-place-items-end c = sym (long c.args.images.now c.args.named c.requires.held)

pub loop-i-init : goal.loop-i-init
loop-i-init c =
    none_named_lem (take c.args.named (images_in c.args.images.now)) c.args.more c.args.out.now c.args.at

pub name-next-requires : goal.name-next-requires
name-next-requires c =
    omega (arith, long c.args.images.now c.args.named c.requires.held, c.loop-i.invariant.laid.near, c.requires.room, c.loop-i-test.true)

pub loop-i-preserved : goal.loop-i-preserved
loop-i-preserved c =
    let l = c.loop-i in
    let named = c.args.named in
    let places = c.args.images.now in
    let images = images_in places in
    let inside : l.i < named = omega (arith, long places named c.requires.held, c.loop-i-test.true) in
    let many : length (take named images) ≡ named = length-take-le named images c.requires.held in
    let place : at (take named places) l.i ≡ at places l.i = get_or-take named places l.i 0 inside in
    let image : at (take named images) l.i ≡ at images l.i = get_or-take named images l.i 0 inside in
    one-named (take named images) c.args.more l.i l.invariant (omega (arith, inside, many)) (omega (arith, c.requires.room))
    (c.saturating_sub-image.ensures ∙ ap (λ (p : ℕ). p - 1) place
    ∙ sym (image ∙ number_at places l.i (omega (arith, inside, c.requires.held))))
    (omega (arith, many)) c.name-next.ensures

pub returns : goal.returns
returns c =
    let l = c.loop-i in
    let named = c.args.named in
    let images = images_in c.args.images.now in
    all_named (take named images) c.args.more l.i l.invariant
    (omega (arith, long c.args.images.now named c.requires.held, c.loop-i-test.false, length-take-le named images c.requires.held))
    (omega (arith, long c.args.images.now named c.requires.held))
