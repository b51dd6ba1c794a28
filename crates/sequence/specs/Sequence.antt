-- Document 01, 'Image and sequence': the sequence gap over a list of one number an APID, 0 for none yet, else last count + 1.
use Rattle.std.specs.Prelude.{ℕ, ◌+◌, ◌-◌, ◌≡◌, Bool, false, not, ◌&&◌, ◌||◌, List, length, set, ltb, eqb, Result, Ok, Err}
use Rattle.octets.specs.Numbers.{at}
use Rattle.octets.specs.Pick.{pick}
use Rattle.answer.specs.Told.{Told, accept, refuse, refuse_for}
use Rattle.answer.specs.declared.Reason.{Reason}
use Rattle.answer.specs.Refusals.{list_short, entry, count_range}
use Rattle.counts.specs.Gap.{gap}
use Rattle.sequence.specs.declared.Gap.{Gap}
use Rattle.sequence.specs.declared.Gap.TheVariants.{Unknown, Restart, Missing}

-- One entry an APID.
abbrev pub entries : ℕ
entries = 2048

-- What lies between the last count and this one: unknown without a last count; a restart of the sender's counter; or so many packets.
pub data Between : Type 0 where
  unknown restart : Between
  missing : ℕ → Between

-- An answer tells it, or the refusal and 0.
abbrev pub told : Result Gap Reason → Told Between
told (Ok Unknown) = accept unknown
told (Ok Restart) = accept restart
told (Ok (Missing n)) = accept (missing n)
told (Err r) = refuse_for (missing 0) r

-- Count 0 after any last count but 16,383.
abbrev pub restarts : ℕ → ℕ → Bool
restarts last count = eqb count 0 && not (eqb last 16383)

-- Unknown at the first; then a restart, or (count - last - 1) modulo 16,384 missing. An entry is the last count and one more.
unfoldable pub since : ℕ → ℕ → Told Between
since held count =
    pick (eqb held 0) (accept unknown)
    (pick (restarts (held - 1) count) (accept restart) (accept (missing (gap 16384 count (held - 1)))))

-- What the call answers, and the list as it leaves it: as it is to be, and as a caller observes it.
pub record Outcome : Type 0 where
  pub answer : Told Between
  pub list : List ℕ

abbrev pub observed : Result Gap Reason → List ℕ → Outcome
observed answer list = record { answer = told answer; list = list }

-- A refusal: its number, and the list stays.
abbrev pub refused : ℕ → List ℕ → Outcome
refused n list = record { answer = refuse (missing 0) n; list = list }

-- Refusals 44, 46, 45, and the list stays; else the gap, and that APID's entry becomes count + 1.
unfoldable pub outcome : ℕ → ℕ → List ℕ → Outcome
outcome apid count list =
    pick (ltb (length list) entries) (refused list_short list)
    (pick (ltb 2047 apid || ltb 16383 count) (refused count_range list)
    (pick (ltb 16384 (at list apid)) (refused entry list)
    (record { answer = since (at list apid) count; list = set list apid (count + 1) })))

-- A refusal tells 0 in every other field, and the list stays.
abbrev pub RefusalLeavesAll : Type 0
RefusalLeavesAll =
    (apid count : ℕ) (before : List ℕ) (answer : Result Gap Reason) (after : List ℕ) → observed answer after ≡ outcome apid count before
    → (told answer).accepted ≡ false → ((told answer).fields ≡ missing 0) × (after ≡ before)
