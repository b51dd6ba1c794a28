-- `Channel::heed` drops what is held after a loss, and goes on by rules 2 to 5.
use Rattle.std.proofs.Common.{◌≡◌, length, arith, rules}
use Rattle.counts.specs.Lost.{number}
use Rattle.session.specs.Lent.{lent}
use Rattle.session.proofs.Following.{Carries, carries-none, carries-all, known_number, steps}
use Rattle.session.proofs.Channel.heed.Goals as goal
use Rattle.session.proofs.Channel.heed.Goals.{Joined-unwrap_or-gt0, then-unwrap_or-gt0, else-unwrap_or-gt0}

-- what rules 2 to 5 go on from, whether frames were lost or not
carried : (c : Joined-unwrap_or-gt0) → Carries c.args.self (number c.lost-lost.result) c.if-unwrap_or-gt0.k c.if-unwrap_or-gt0.instep
carried c =
    let n = known_number c.lost-lost.result in
    let l : length c.args.self.held ≡ 250 = search rules in
    elim c.if-unwrap_or-gt0.branch [
      | then-unwrap_or-gt0 w ↦
          carries-none c.args.self _ c.if-unwrap_or-gt0.k c.if-unwrap_or-gt0.instep (omega (arith, n, w.if-unwrap_or-gt0.true)) w.k-is w.instep-is
      | else-unwrap_or-gt0 w ↦
          carries-all c.args.self _ c.if-unwrap_or-gt0.k c.if-unwrap_or-gt0.instep c.requires.sound l
          (omega (arith, n, w.if-unwrap_or-gt0.false)) w.k-is w.instep-is
    ]

pub shared_ref_as_front-follow : goal.shared_ref_as_front-follow
shared_ref_as_front-follow c =
    let l : length c.args.self.held ≡ 250 = search rules in
    omega (arith, (carried (goal.at.shared_ref_as_front-follow c).Joined-unwrap_or-gt0).within)

pub follow-followed-requires : goal.follow-followed-requires
follow-followed-requires c = record {
  sound = (carried (goal.at.follow-followed-requires c).Joined-unwrap_or-gt0).sound;
  heard = c.requires.heard;
}

pub returns : goal.returns
returns c =
    let a = c.args in
    let f = c.follow-followed in
    steps a.self c.lost-lost.result c.if-unwrap_or-gt0.k c.if-unwrap_or-gt0.instep
    (carried (goal.at.returns c).Joined-unwrap_or-gt0) a.head a.«data».now
    f.result
    (lent a.octets.now a.lengths.now a.firsts.now)
    (lent f.new.octets f.new.lengths f.new.firsts)
    c.lost-lost.ensures f.ensures
