-- `picture_images::names` meets its contract. The loop has named the first i images.
use lib.ListN.{take}
use Rattle.picture_images.specs.Noted.{images_in}
use Rattle.picture_images.proofs.Naming.{Naming}
use Rattle.picture_images.proofs.names.Given as goal

abbrev pub invariant-loop-i : goal.invariant-loop-i
invariant-loop-i l = Naming (take l.named (images_in l.images)) l.more l.i l.initial.out l.at l.out l.next
