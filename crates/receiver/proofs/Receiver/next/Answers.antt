-- `receiver::Receiver::next` meets its contract.
use Rattle.std.proofs.Common.{refl, arith}
use Rattle.receiver.proofs.Receiving.{small-t, gives-quiet, gives-opened, gives-offered}
use Rattle.receiver.specs.declared.Event.TheVariants as event
use Rattle.receiver.proofs.Receiver.next.Goals as goal
use Rattle.receiver.proofs.Offering.{offered}

pub overflow_cast-t : goal.overflow_cast-t
overflow_cast-t c = omega (arith, small-t c.scan-scanned.ensures c.in-Opened.is)

pub returns-in-Missing : goal.returns-in-Missing
returns-in-Missing c = gives-quiet _ c.scan-scanned.ensures (event.Missing _) c.in-Missing.is refl

pub returns-in-Bad : goal.returns-in-Bad
returns-in-Bad c = gives-quiet _ c.scan-scanned.ensures event.Bad c.in-Bad.is refl

pub returns-in-Over : goal.returns-in-Over
returns-in-Over c = gives-quiet _ c.scan-scanned.ensures event.Over c.in-Over.is refl

pub returns-in-Opened : goal.returns-in-Opened
returns-in-Opened c = gives-opened _ c.scan-scanned.ensures c.in-Opened.is c.open-opened.ensures.session

pub returns-in-Nothing : goal.returns-in-Nothing
returns-in-Nothing c = gives-quiet _ c.scan-scanned.ensures event.Nothing c.in-Nothing.is refl

pub returns-in-Here : goal.returns-in-Here
returns-in-Here c = gives-offered _ c.scan-scanned.ensures (offered c.in-Here.is) c.offer-stepped.ensures
