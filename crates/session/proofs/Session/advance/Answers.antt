-- `Session::advance` is the gate, then what the frame's reader tells, then the frame's channel.
use Rattle.std.proofs.Common.{◌≡◌, ◌<◌, length, sym, arith, rules}
use Rattle.frame.specs.Back.{Accepted}
use Rattle.frame.proofs.Accepts.{accepts}
use Rattle.session.specs.Channel.{fresh}
use Rattle.session.specs.Lent.{lent}
use Rattle.session.specs.Step.{counted, outcome}
use Rattle.session.proofs.Soundness.{length_mapped, within-list, sound-at}
use Rattle.session.proofs.Admitting.{bars, opens, passes}
use Rattle.session.proofs.Stepping.{gives-accepted, asked, not_read, read}
use Rattle.session.proofs.Session.advance.Goals as goal
use Rattle.session.proofs.Session.advance.Goals.{In-Ok}

-- ---- the gate

pub returns-in-Some : goal.returns-in-Some
unfolding outcome
returns-in-Some c =
    let a = c.args in
    bars a.self.now (lent a.octets.now a.lengths.now a.firsts.now) c.barred.ensures c.in-Some.is _

pub overflow_add-self : goal.overflow_add-self
overflow_add-self c =
    let a = c.args in
    let n = (opens a.self.now (lent a.octets.now a.lengths.now a.firsts.now) c.barred.ensures c.in_default.is).numbers in
    search rules

pub returns-in-Err : goal.returns-in-Err
unfolding outcome
returns-in-Err c =
    let a = c.args in
    let l = lent a.octets.now a.lengths.now a.firsts.now in
    passes a.self.now l c.barred.ensures c.in_default.is _ _ _
    (not_read (counted a.self.now) a.frame.now l c.in-Err.reason c.in-Err.ensures c.of.ensures)

-- ---- an accepted frame

-- what is known of it
seen : (c : In-Ok) → Accepted c.args.self.now.t c.args.frame.now c.in-Ok.f
seen c = accepts c.args.self.now.t c.args.frame.now c.in-Ok.f (sym c.in-Ok.ensures)

-- its channel is one of the eight
low : (c : In-Ok) → c.in-Ok.f.channel < 8
low c = let w = seen c in omega arith

one : (c : In-Ok) → c.in-Ok.f.channel < length c.args.self.now.channels
one c =
    let n : length c.args.self.now.channels ≡ 8 = search (rules, length_mapped) in
    omega (arith, low c)

pub bounds-self-i : goal.bounds-self-i
bounds-self-i c = low (goal.at.bounds-self-i c).In-Ok

pub heed-heeded-requires : goal.heed-heeded-requires
heed-heeded-requires c =
    let a = c.args in
    let l = lent a.octets.now a.lengths.now a.firsts.now in
    let p = opens a.self.now l c.barred.ensures c.in_default.is in
    let w = (goal.at.heed-heeded-requires c).In-Ok in
    asked a.self.now.t a.frame.now l p.room c.in-Ok.f c.of-head.ensures c.«data».result.now _ (seen w) c.«data».ensures
    (sound-at a.self.now c.in-Ok.f.channel _ (one w) p.sound)

pub bounds-self-i-2 : goal.bounds-self-i-2
bounds-self-i-2 c = low (goal.at.bounds-self-i-2 c).In-Ok

pub returns : goal.returns
unfolding outcome
returns c =
    let a = c.args in
    let l = lent a.octets.now a.lengths.now a.firsts.now in
    let h = c.heed-heeded in
    let l' = lent h.new.octets h.new.lengths h.new.firsts in
    let f = c.in-Ok.f in
    passes a.self.now l c.barred.ensures c.in_default.is _ _ l'
    (read (counted a.self.now) a.frame.now l f c.«data».result.now _ l' c.in-Ok.ensures c.«data».ensures
    (gives-accepted (counted a.self.now) f c.«data».result.now c.lost-master.result _
    (within-list a.self.now.channels f.channel _ fresh (one (goal.at.returns c).In-Ok))
    c.lost-master.ensures c.of-head.ensures h.result l l' h.ensures))
