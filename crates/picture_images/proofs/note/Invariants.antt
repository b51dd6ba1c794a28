-- `picture_images::note` meets its contract. The image stands at no place before one, and none of them is free.
use mathlib.Core.Path.{◌≡◌}
use mathlib.Core.List.{◌++◌}
use lib.ListN.{take, drop}
use Rattle.picture_images.specs.Noted.{noted}
use Rattle.picture_images.proofs.note.Given as goal

abbrev pub invariant-loop-place : goal.invariant-loop-place
invariant-loop-place l =
    (l.images ≡ l.initial.images)
    × (noted l.initial.images l.image ≡ take l.place-index l.initial.images ++ noted (drop l.place-index l.initial.images) l.image)
