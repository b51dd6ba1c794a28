-- What one call of a step says of a channel.
use mathlib.Core.Path.{◌≡◌, refl, sym, ap, ◌∙◌}
use mathlib.Core.List.{List, [], ◌∷◌, ◌++◌}
use mathlib.Core.Bool.{◌&&◌}
use Prim.Native.Nat.{ℕ, ◌<◌}
use native.Mathlib.Omega.{arith}
use lib.ListN.{length, get_or, set, replicate, length-map, get_or-replicate}
use lib.Seq.{get_or-set_same, get_or-set_other}
use lib.Dec.{eqb}
use Rattle.answer.specs.Told.{Told}
use Rattle.frame.specs.declared.Frame.{Frame}
use Rattle.rules.specs.Channel as rules
use Rattle.rules.specs.Packets.{bare, firsts}
use Rattle.rules.specs.Bounds.{Under}
use Rattle.rules.proofs.Lengths.{found-again}
use Rattle.session.specs.declared.Session.{Session}
use Rattle.session.specs.Channel.{view, stored, fresh}
use Rattle.session.specs.declared.Accepted.{Accepted}
use Rattle.session.specs.Lent.{Lent, laid}
use Rattle.session.specs.Step.{Outcome, channel_at, ruled, accepted, Gives}
use Rattle.session.proofs.Few.{ruled-arrivals}
use Rattle.session.proofs.Staying.{view-stored}
use Rattle.sender.specs.Sender.{when}
use Rattle.about_delivery.specs.Delivered.{Report}
use Rattle.about_delivery.specs.Channels.{report}
use Rattle.about_delivery.specs.Run.{Call, numbered, read_out, took, report_of}

numbered-back : (a : ℕ) (ps : List rules.Handed) (ns : List ℕ) → Under a ps → numbered a (bare ps) (firsts ps ++ ns) ≡ ps
numbered-back a [] ns u = refl
numbered-back a (p ∷ ps) ns u =
    ap (λ (n : ℕ). rules.given n (rules.held_of p.first p.packet) ∷ numbered a (bare ps) (firsts ps ++ ns)) (sym u.0)
    ∙ ap (λ (l : List rules.Handed). p ∷ l) (numbered-back a ps ns u.1)

-- packets handed out under one arrival number are read out again
pub read_back : (a n : ℕ) (ps : List rules.Handed) (l : Lent) → Under a ps → n ≡ length ps → read_out a n (laid ps l) ≡ ps
read_back a n ps l u e =
    let count : n ≡ length (bare ps) = e ∙ sym (length-map ps (λ (x : rules.Handed). x.packet)) in
    ap (λ (qs : List (List ℕ)). numbered a qs (laid ps l).firsts) (found-again (bare ps) _ _ n count)
    ∙ numbered-back a ps _ u

-- what an answer and what was lent say of channel v
abbrev pub said : ℕ → Told Accepted → Lent → List Report
said v a l =
    when (a.accepted && eqb a.fields.channel v)
    (record {
      arrival = a.fields.arrival;
      lost = a.fields.lost;
      headers = a.fields.headers;
      packets = read_out a.fields.arrival a.fields.packets l;
    })

module _ (v : ℕ) (c : Call) (o : Outcome) (g : Gives o c.result c.lent c.left) where
  pub call-says : when (took v c) (report_of c) ≡ said v o.answer (laid o.packets c.lent)
  call-says = ap (λ (a : Told Accepted). said v a c.left) g.answers ∙ ap (said v o.answer) g.leaves

-- ---- the session afterwards

pub fresh_viewed : (v : ℕ) → v < 8 → view (get_or (replicate 8 fresh) v fresh) ≡ rules.fresh
fresh_viewed v l = ap view (get_or-replicate 8 v fresh fresh l) ∙ view-stored rules.fresh

module _ (v : ℕ) (s : Session) (f : Frame) (d : List ℕ) where
  pub accepted-here : f.channel ≡ v → v < length s.channels → view (channel_at (accepted s f d).session v) ≡ (ruled s f d).next
  unfolding accepted
  accepted-here e l =
      ap (λ (i : ℕ). view (get_or (set s.channels f.channel (stored (ruled s f d).next)) i fresh)) (sym e)
      ∙ ap view (get_or-set_same s.channels f.channel (stored (ruled s f d).next) fresh (omega arith))
      ∙ view-stored (ruled s f d).next

  pub accepted-other : (v ≡ f.channel → ⊥) → view (channel_at (accepted s f d).session v) ≡ view (channel_at s v)
  unfolding accepted
  accepted-other n = ap view (get_or-set_other s.channels f.channel v (stored (ruled s f d).next) fresh n)

  pub accepted-time : (accepted s f d).session.t ≡ s.t
  unfolding accepted
  accepted-time = refl

  pub accepted-number : (accepted s f d).session.arrival ≡ s.arrival
  unfolding accepted
  accepted-number = refl

  -- an accepted frame's packets are read out of what was lent
  pub accepted-says : (l : Lent)
      → said v (accepted s f d).answer (laid (accepted s f d).packets l) ≡ when (eqb f.channel v) (report s.arrival (ruled s f d))
  unfolding accepted
  accepted-says l =
      ap (λ (ps : List rules.Handed). when (eqb f.channel v)
      (record { arrival = s.arrival; lost = (ruled s f d).lost; headers = (ruled s f d).headers; packets = ps }))
      (read_back s.arrival _ (ruled s f d).packets l (ruled-arrivals s f d) refl)
