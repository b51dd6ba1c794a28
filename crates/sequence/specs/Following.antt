-- Two calls for one APID, one after another.
use Rattle.std.specs.Prelude.{ℕ, ◌≤◌, ◌≡◌, true, List, Result}
use Rattle.octets.specs.Pick.{pick}
use Rattle.answer.specs.Told.{Told, accept}
use Rattle.answer.specs.declared.Reason.{Reason}
use Rattle.counts.specs.Gap.{gap}
use Rattle.sequence.specs.Sequence.{Between, restart, missing, restarts, told, observed, outcome}
use Rattle.sequence.specs.declared.Gap.{Gap}

-- What lies between two counts, the first of them the last one before the second: a restart, or so many packets.
unfoldable pub between_counts : ℕ → ℕ → Told Between
between_counts first second = pick (restarts first second) (accept restart) (accept (missing (gap 16384 second first)))

-- After a call that was accepted, the next call for that APID tells what lies between the two counts, whatever was in the list before.
abbrev pub NextTellsGap : Type 0
NextTellsGap =
    (apid first second : ℕ) (before : List ℕ) (answer : Result Gap Reason) (between : List ℕ) → observed answer between ≡ outcome apid first before
    → (told answer).accepted ≡ true → second ≤ 16383
    → (next : Result Gap Reason) (after : List ℕ) → observed next after ≡ outcome apid second between → told next ≡ between_counts first second
