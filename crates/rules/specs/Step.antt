-- What each field of a step's answer is.
use Rattle.std.specs.Prelude.{ℕ, ◌≡◌}
use Rattle.std.proofs.Math.Option.{some}
use Rattle.counts.specs.Lost.{lost_since, number}
use Rattle.rules.specs.Channel.{Piece, cleared, Channel, Work, after_loss, step}

-- What rules 1 to 5 make of the frame f, offered under the arrival number a.
abbrev pub worked : ℕ → Channel → Piece → Work
worked a c f = after_loss a (number (lost_since c.last f.count)) c.in_step c.held f.pointer f.octets

pub record Fields (a : ℕ) (c : Channel) (f : Piece) : Type 0 where
  pub lost : (step a c f).lost ≡ lost_since c.last f.count
  pub headers : (step a c f).headers ≡ (worked a c f).headers
  pub packets : (step a c f).packets ≡ (worked a c f).packets
  pub last : (step a c f).next.last ≡ some f.count
  pub in_step : (step a c f).next.in_step ≡ (worked a c f).in_step
  pub held : (step a c f).next.held ≡ cleared (worked a c f).held

abbrev pub StepFields : Type 0
StepFields = (a : ℕ) (c : Channel) (f : Piece) → Fields a c f
