-- `channels::follow` is rules 2 to 5.
use Rattle.std.proofs.Common.{◌≡◌, ◌+◌, ◌≤◌, Bool, true, false, ◌&&◌, length, sym, ap, ◌∙◌, arith}
use lib.Seq.{length-take-le}
use Rattle.session.specs.Lent.{lent}
use Rattle.session.proofs.Following.{Parts, follows_raw, follows_taken, to-fit, parts_all, parts_none, parts-entered}
use Rattle.session.proofs.channels.follow.Goals.{Joined-instep-fits, then-instep-fits, else-instep-fits+then-head-eq-NONE_STARTS, else-instep-fits+else-head-eq-NONE_STARTS}
use Rattle.session.proofs.channels.follow.Goals as goal

pub holding-requires : goal.holding-requires
holding-requires c =
    let a = c.args in
    let s = (to-fit a.instep a.first a.held.now a.head.arrival a.head.pointer a.«data».now _ c.requires).short in
    let g : length a.held.now + 0 ≤ 250 = omega arith in
    g

pub returns-then-head-eq-RAW_DATA : goal.returns-then-head-eq-RAW_DATA
returns-then-head-eq-RAW_DATA c =
    let a = c.args in
    follows_raw a.instep a.first a.held.now a.head.arrival a.head.pointer a.«data».now a.head.count.0 _
    c.holding.result c.if-head-eq-RAW_DATA.true c.holding.ensures

pub dropped-dropped-requires : goal.dropped-dropped-requires
dropped-dropped-requires c =
    let a = c.args in
    to-fit a.instep a.first a.held.now a.head.arrival a.head.pointer a.«data».now _ c.requires

pub fits-requires : goal.fits-requires
fits-requires c =
    let a = c.args in
    to-fit a.instep a.first a.held.now a.head.arrival a.head.pointer a.«data».now _ c.requires

-- the test is the definition's
tested : (i r s b : Bool) → r ≡ s → (i && r) ≡ b → (i && s) ≡ b
tested i r s b e h = ap (λ (x : Bool). i && x) (sym e) ∙ h

-- what rule 5 is given, whichever way it came
abbrev Given : Joined-instep-fits → Type 0
Given c =
    let a = c.args in
    Parts a.instep a.first a.held.now a.head.arrival a.head.pointer a.«data».now
    (lent a.octets.now a.lengths.now a.firsts.now) c.if-instep-fits.k c.if-instep-fits.dropped c.if-instep-fits.from c.if-instep-fits.at c.if-instep-fits.on

given : (c : Joined-instep-fits) → Given c
given c =
    let a = c.args in
    let t = c.fits in
    let d = c.dropped-dropped.ensures in
    let n = c.if-head-eq-RAW_DATA.false in
    elim c.if-instep-fits.branch [
      | then-instep-fits w ↦
          parts_all a.instep a.first a.held.now a.head.arrival a.head.pointer a.«data».now _ c.requires c.if-instep-fits.k
          c.if-instep-fits.dropped c.if-instep-fits.from c.if-instep-fits.at c.if-instep-fits.on n
          (tested a.instep t.result _ true t.ensures w.if-instep-fits.true) w.k-is w.dropped-is (w.from-is ∙ c.begun-begun.ensures)
          w.at-is w.on-is
      | else-instep-fits+then-head-eq-NONE_STARTS w ↦
          parts_none a.instep a.first a.held.now a.head.arrival a.head.pointer a.«data».now _ c.requires c.if-instep-fits.k
          c.if-instep-fits.dropped c.if-instep-fits.from c.if-instep-fits.at c.if-instep-fits.on n
          (tested a.instep t.result _ false t.ensures w.if-instep-fits.false) w.k-is (w.dropped-is ∙ d) w.from-is
          w.if-head-eq-NONE_STARTS.true w.at-is w.on-is
      | else-instep-fits+else-head-eq-NONE_STARTS w ↦
          parts-entered a.instep a.first a.held.now a.head.arrival a.head.pointer a.«data».now _ c.requires c.if-instep-fits.k
          c.if-instep-fits.dropped c.if-instep-fits.from c.if-instep-fits.at c.if-instep-fits.on n
          (tested a.instep t.result _ false t.ensures w.if-instep-fits.false) w.k-is (w.dropped-is ∙ d) w.from-is
          w.if-head-eq-NONE_STARTS.false w.at-is w.on-is
    ]

pub slice_bounds-take-end : goal.slice_bounds-take-end
slice_bounds-take-end c = sym (length-take-le _ _ (given c).front)

pub take-requires : goal.take-requires
take-requires c = (given (goal.at.take-requires c).Joined-instep-fits).taken

pub returns : goal.returns
returns c =
    let t = c.take in
    let a = c.args in
    let j = c.if-instep-fits in
    follows_taken a.head a.instep a.first a.held.now a.«data».now
    (lent a.octets.now a.lengths.now a.firsts.now)
    (lent t.new.octets t.new.lengths t.new.firsts)
    j.k j.dropped j.from j.at j.on t.result (given (goal.at.returns c).Joined-instep-fits) t.ensures
