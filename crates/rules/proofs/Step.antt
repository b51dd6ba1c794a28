-- What each field of a step is; every packet handed out carries the frame's arrival number.
use mathlib.Core.Path.{◌≡◌, refl}
use mathlib.Core.List.{List, [], ◌∷◌, ◌++◌}
use mathlib.Core.Bool.{Bool, true, false, ◌&&◌, cond}
use Prim.Native.Nat.{ℕ, zero, suc}
use lib.ListN.{drop}
use lib.Dec.{eqb}
use Rattle.counts.specs.Lost.{lost_since, number}
use Rattle.rules.specs.Channel.{Held, nothing, cleared, grown, Handed, given, Standing, unfinished, whole, wrong, standing, Work}
use Rattle.rules.specs.Channel.{holding, settle, sixth, push, feed, fits, enter, follow, after_loss, step}
use Rattle.rules.specs.Step.{StepFields}
use Rattle.rules.specs.Bounds.{Under, StepArrivals, StepFirst}

under_more : (a : ℕ) (ps : List Handed) (p : Handed) → Under a ps → p.arrival ≡ a → Under a (ps ++ p ∷ [])
under_more a [] p u e = (e, tt)
under_more a (q ∷ ps) p u e = (u.0, under_more a ps p u.1 e)

settle_under : (a : ℕ) (st : Standing) (h : Held) (ps : List Handed) (n : ℕ) → Under a ps → Under a (settle a st h ps n).packets
settle_under a unfinished h ps n u = u
settle_under a wrong h ps n u = u
settle_under a whole h ps n u = under_more a ps (given a h) u refl

push_under : (a : ℕ) (b : Bool) (h : Held) (ps : List Handed) (n x : ℕ) → Under a ps
    → Under a (push a (record { in_step = b; held = h; packets = ps; headers = n }) x).packets
unfolding push
push_under a true h ps n x u = settle_under a (standing (grown a h x).octets) (grown a h x) ps (sixth h.octets n) u
push_under a false h ps n x u = u

feed_under : (a : ℕ) (xs : List ℕ) (w : Work) → Under a w.packets → Under a (feed a w xs).packets
feed_under a [] w u = u
feed_under a (x ∷ xs) w u = feed_under a xs (push a w x) (push_under a w.in_step w.held w.packets w.headers x u)

either : (a : ℕ) (b : Bool) (x y : Work) → Under a x.packets → Under a y.packets → Under a (cond b x y).packets
either a true x y u v = u
either a false x y u v = v

follow_under : (a : ℕ) (b : Bool) (h : Held) (pointer : ℕ) (xs : List ℕ) → Under a (follow a b h pointer xs).packets
unfolding follow enter
follow_under a b h pointer xs =
    either a (eqb pointer 254) _ _ tt
    (either a (b && fits h.octets pointer xs) _ _ (feed_under a xs (holding h [] 0) tt)
    (either a (eqb pointer 255) _ _ tt (feed_under a (drop pointer xs) (holding nothing [] _) tt)))

loss_under : (a n : ℕ) (b : Bool) (h : Held) (pointer : ℕ) (xs : List ℕ) → Under a (after_loss a n b h pointer xs).packets
loss_under a zero b h pointer xs = follow_under a b h pointer xs
loss_under a (suc n) b h pointer xs = follow_under a false nothing pointer xs

pub step-fields : StepFields
unfolding step
step-fields a c f = record { lost = refl; headers = refl; packets = refl; last = refl; in_step = refl; held = refl }

pub step-arrivals : StepArrivals
step-arrivals a c f =
    rw (step-fields a c f).packets (loss_under a (number (lost_since c.last f.count)) c.in_step c.held f.pointer f.octets)

none-cleared : (h : Held) → (cleared h).octets ≡ [] → (cleared h).first ≡ 0
none-cleared h e = rw e

pub step-first : StepFirst
step-first a c f =
    rw (step-fields a c f).held (none-cleared
    (after_loss a (number (lost_since c.last f.count)) c.in_step c.held f.pointer f.octets).held)
