-- No two answers of the reader are told alike, and a refusal tells 0 in every field.
use Rattle.std.specs.Prelude.{Ok, Err}
use Prim.Native.Nat.{ℕ}
use mathlib.Core.Path.{◌≡◌, refl, ap}
use mathlib.Core.List.{List}
use mathlib.Core.Bool.{Bool, true, false, true≢false, false≢true}
use Rattle.octets.specs.Numbers.{at}
use Rattle.octets.specs.Pick.{pick}
use Rattle.octets.proofs.Choices.{picks}
use Rattle.answer.specs.Told.{Told, accept, refuse, TellsNothing, NoneLeftOut}
use Rattle.answer.proofs.Told.{same-fields, same-reason, accept_or_refuse, refuse_or_accept, had_back}
use Rattle.bits.specs.Rows.{zeros}
use Rattle.bits.specs.Rows.Order.{high_first}
use Rattle.crc.specs.Check.{check_wrong}
use Rattle.packet.specs.Packet.{length_wrong, bits_wrong, fields_of, no_packet, packet_numbers, told, RefusalsTellNothing, read_packet}
use Rattle.packet.specs.declared.Packet.{Packet}
use Rattle.packet.specs.Answers.{PacketRead}

pub told_apart : (x y : PacketRead) → told x ≡ told y → x ≡ y
told_apart (Ok p) (Ok q) h = ap Ok (same-fields h)
told_apart (Err n) (Err m) h = ap Err (same-reason n m h)
told_apart (Ok p) (Err m) h = accept_or_refuse h
told_apart (Err n) (Ok q) h = refuse_or_accept h

-- a packet can be had back from its numbers
pub none-left-out : NoneLeftOut packet_numbers
none-left-out =
    had_back {numbers = packet_numbers}
    (λ l. record { apid = at l 0; sequence = record { 0 = at l 1 }; service = at l 2; subtype = at l 3; time = at l 4; length = at l 5 })
    (λ p. refl)

tell_nothing : TellsNothing told packet_numbers
tell_nothing (Ok p) h = absurd (true≢false h)
tell_nothing (Err n) h = refl

pub refusals_tell_nothing : RefusalsTellNothing
refusals_tell_nothing = (none-left-out, tell_nothing)

-- an answer that accepts tells no refusal
whole : (a b c : Bool) (l m n : ℕ) (p : Packet)
    → (pick a (refuse no_packet l) (pick b (refuse no_packet m) (pick c (refuse no_packet n) (accept p)))).accepted ≡ true
    → pick a (refuse no_packet l) (pick b (refuse no_packet m) (pick c (refuse no_packet n) (accept p)))
    ≡ accept (pick a (refuse no_packet l) (pick b (refuse no_packet m) (pick c (refuse no_packet n) (accept p)))).fields
unfolding pick
whole true b c l m n p h = absurd (false≢true h)
whole false true c l m n p h = absurd (false≢true h)
whole false false true l m n p h = absurd (false≢true h)
whole false false false l m n p h = refl

pub accepts : (s : List ℕ) → (read_packet s).accepted ≡ true → read_packet s ≡ accept (read_packet s).fields
unfolding read_packet
accepts s h = whole (length_wrong s) (check_wrong high_first (zeros 16) s) (bits_wrong s) 20 21 22 (fields_of s) h

-- the reader tells no octet
abbrev Untold : Told Packet → Type 0
Untold t = t.octet ≡ 0

pub no-octet : (s : List ℕ) → Untold (read_packet s)
unfolding read_packet
no-octet s =
    picks Untold _ _ _ (λ h. refl) (λ h. picks Untold _ _ _ (λ k. refl) (λ k. picks Untold _ _ _ (λ l. refl) (λ l. refl)))
