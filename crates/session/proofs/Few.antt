-- A step completes at most 17 headers and hands out at most 16 packets and 501 octets, all under its arrival number, and tells how many.
use mathlib.Core.Path.{◌≡◌, refl}
use mathlib.Core.List.{List}
use mathlib.Core.Bool.{false}
use Prim.Native.Nat.{ℕ, ◌≤◌}
use native.Mathlib.Omega.{arith}
use lib.ListN.{length}
use Rattle.octets.proofs.Choices.{picks}
use Rattle.frame.specs.declared.Frame.{Frame}
use Rattle.frame.specs.Frame.{read_frame}
use Rattle.rules.specs.Packets.{bare, joined}
use Rattle.rules.specs.Bounds.{Bounded, Under}
use Rattle.rules.proofs.Step.{step-arrivals}
use Rattle.session.specs.Channel.{view, unsound}
use Rattle.session.specs.Lent.{Lent}
use Rattle.session.specs.Step.{Outcome, refused_at, counted, channel_at, piece_of, ruled, accepted, heeded, outcome, turned_away}
use Rattle.stretch.specs.Stretch.{Stretch, found, unread}
use Rattle.session.specs.Statements.{offered}
use Rattle.session.specs.declared.Session.{Session}
use Rattle.session.proofs.Admitting.{admitted_picks}
use Rattle.session.proofs.Staying.{ruled_bounded, counted-sound, few-read}

pub record Few (o : Outcome) : Type 0 where
  pub count : o.answer.fields.packets ≡ length o.packets
  pub under : Under o.answer.fields.arrival o.packets
  pub used : Under o.session.arrival o.packets
  pub packets : length (bare o.packets) ≤ 16
  pub octets : length (joined (bare o.packets)) ≤ 501
  pub headers : o.answer.fields.headers ≤ 17

refused-few : (s : Session) (n octet : ℕ) → Few (refused_at s n octet)
refused-few s n octet = record { count = refl; under = tt; used = tt; packets = omega arith; octets = omega arith; headers = omega arith }

pub ruled-arrivals : (s : Session) (f : Frame) (d : List ℕ) → Under s.arrival (ruled s f d).packets
unfolding ruled
ruled-arrivals s f d = step-arrivals s.arrival (view (channel_at s f.channel)) (piece_of f d)

accepted-few : (s : Session) (f : Frame) (d : List ℕ) → unsound s ≡ false → length d ≤ 251 → Few (accepted s f d)
unfolding accepted
accepted-few s f d u l =
    let b : Bounded (ruled s f d) = ruled_bounded s f d u l in
    record {
      count = refl;
      under = ruled-arrivals s f d;
      used = ruled-arrivals s f d;
      packets = b.packets;
      octets = b.octets;
      headers =
          b.headers;
    }

heeded-few : (s : Session) (frame : List ℕ) → unsound s ≡ false → Few (heeded s frame (read_frame s.t frame))
heeded-few s frame u =
    picks Few (read_frame s.t frame).accepted _ _
    (λ a. accepted-few s (read_frame s.t frame).fields _ u (few-read s.t frame a))
    (λ a. refused-few s _ _)

pub step-few : (s : Session) (frame : List ℕ) (l : Lent) → Few (outcome s frame l)
unfolding outcome
step-few s frame l =
    admitted_picks Few s l _ (λ a. heeded-few (counted s) frame (counted-sound s a.sound)) (λ n e. refused-few s n 0)

pub offer-few : (s : Session) (x : Stretch) (l : Lent) → Few (offered s x l)
unfolding turned_away
offer-few s (found x) l = step-few s x l
offer-few s (unread n) l = admitted_picks Few s l _ (λ a. refused-few (counted s) n 0) (λ m e. refused-few s m 0)
