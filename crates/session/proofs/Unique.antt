-- No second result satisfies a contract of this crate's public functions.
use mathlib.Core.Path.{ap}
use Rattle.octets.specs.Unique.{Fixes}
use Rattle.session.specs.Lent.{Lent, lent}
use Rattle.session.specs.declared.Stepped.{Stepped}
use Rattle.session.proofs.Told.{one-opened, one-stepped}
use Rattle.session.proofs.Session.open.Kinds as kopen
use Rattle.session.proofs.Session.open.Reads as ropen
use Rattle.session.proofs.Session.step.Kinds as kstep
use Rattle.session.proofs.Session.step.Reads as rstep
use Rattle.session.proofs.Session.turn_away.Kinds as kturn
use Rattle.session.proofs.Session.turn_away.Reads as rturn

pub open_fixed : Fixes kopen.ps kopen.r ropen.Post (λ κs x s. x)
open_fixed κs a x y s t p q = one-opened p q

-- the result, and what was lent afterwards
pub step_fixed : Fixes kstep.ps kstep.r {A = Stepped × Lent} rstep.Post
    (λ κs x s. (x, lent s.1.1.0.now s.1.1.1.0.now s.1.1.1.1.0.now))
step_fixed κs a x y s t p q = one-stepped p q

pub turn_away_fixed : Fixes kturn.ps kturn.r rturn.Post (λ κs x s. x)
turn_away_fixed κs a x y s t p q = ap (λ (w : Stepped × Lent). w.0) (one-stepped p q)
