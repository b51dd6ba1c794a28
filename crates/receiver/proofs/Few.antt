-- What a call tells of the packets that it hands out: how many they are, and under which arrival number.
use Prim.Native.Nat.{ℕ, ◌-◌}
use mathlib.Core.Path.{◌≡◌}
use mathlib.Core.List.{List}
use lib.ListN.{length, take, drop}
use Rattle.stretch.specs.Stretch.{found, unread}
use Rattle.rules.specs.Channel.{Handed}
use Rattle.rules.specs.Bounds.{Under}
use Rattle.source.specs.declared.Taken.{Taken}
use Rattle.source.specs.declared.Taken.TheVariants as taken
use Rattle.session.specs.Lent.{Lent}
use Rattle.session.specs.Step.{Outcome}
use Rattle.session.specs.declared.Session.{Session}
use Rattle.session.proofs.Few.{Few, offer-few}
use Rattle.receiver.specs.Receive.{Tells, missing, bad, over, opened, nothing, answered, heard}

abbrev pub Few_told : Tells → List Handed → Type 0
Few_told (missing n) ps = Unit {0}
Few_told bad ps = Unit {0}
Few_told over ps = Unit {0}
Few_told opened ps = Unit {0}
Few_told nothing ps = Unit {0}
Few_told (answered t) ps = (t.fields.packets ≡ length ps) × Under t.fields.arrival ps

few_of : (o : Outcome) → Few o → Few_told (answered o.answer) o.packets
few_of o f = (f.count, f.under)

pub heard-few : (z : Session) (kept w : List ℕ) (l : Lent) (t : Taken)
    → Few_told (heard z kept w l t).tells (heard z kept w l t).packets
heard-few z kept w l (taken.Missing n) = tt
heard-few z kept w l taken.Bad = tt
heard-few z kept w l taken.Over = tt
heard-few z kept w l (taken.Opened t) = tt
heard-few z kept w l taken.Nothing = tt
heard-few z kept w l (taken.Here from to) = few_of _ (offer-few z (found (take (to - from) (drop from w))) l)
heard-few z kept w l (taken.Kept n) = few_of _ (offer-few z (found (take n kept)) l)
heard-few z kept w l (taken.Refused n) = few_of _ (offer-few z (unread n) l)
