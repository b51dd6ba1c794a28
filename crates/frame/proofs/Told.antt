-- No two answers of the reader are told alike, and a refusal tells 0 in every field.
use Rattle.std.specs.Prelude.{Ok, Err}
use Prim.Native.Nat.{ℕ, ◌+◌}
use mathlib.Core.Path.{◌≡◌, refl, ap}
use mathlib.Core.List.{List}
use mathlib.Core.Bool.{true≢false}
use Rattle.octets.specs.Numbers.{at}
use Rattle.answer.specs.Told.{TellsNothing, NoneLeftOut}
use Rattle.answer.proofs.Told.{same-fields, same-reason, accept_or_refuse, refuse_or_accept, had_back}
use Rattle.frame.specs.Frame.{frame_numbers, told, RefusalsTellNothing}
use Rattle.frame.specs.declared.Address.{Address}
use Rattle.frame.specs.Answers.{FrameRead}

pub told_apart : (x y : FrameRead) → told x ≡ told y → x ≡ y
told_apart (Ok f) (Ok g) h = ap Ok (same-fields h)
told_apart (Err n) (Err m) h = ap Err (same-reason n m h)
told_apart (Ok f) (Err m) h = accept_or_refuse h
told_apart (Err n) (Ok g) h = refuse_or_accept h

-- the address whose numbers stand from index i on
abbrev address_from : ℕ → List ℕ → Address
address_from i l =
    record {
      callsign = record { 0 = at l i; 1 = at l (i + 1); 2 = at l (i + 2); 3 = at l (i + 3); 4 = at l (i + 4); 5 = at l (i + 5) };
      ssid = at l (i + 6);
    }

-- a frame can be had back from its numbers
pub none-left-out : NoneLeftOut frame_numbers
none-left-out =
    had_back {numbers = frame_numbers}
    (λ l. record {
      destination = address_from 0 l;
      source = address_from 7 l;
      channel = at l 14;
      master = record { 0 = at l 15 };
      count = record { 0 = at l 16 };
      pointer = at l 17;
      telecommands = at l 18;
      length = at l 19;
    })
    (λ f. refl)

tell_nothing : TellsNothing told frame_numbers
tell_nothing (Ok f) h = absurd (true≢false h)
tell_nothing (Err n) h = refl

pub refusals_tell_nothing : RefusalsTellNothing
refusals_tell_nothing = (none-left-out, tell_nothing)
