-- A script, a line after another.
use Rattle.std.specs.Prelude.{◌≡◌, ℕ, zero, suc, ◌+◌, ◌-◌, ◌%◌, ◌^◌, ◌≤◌, Bool, true, false, List, [], ◌∷◌, length, drop, ◌==◌, nat_le}
use Rattle.octets.specs.Pick.{pick}
use Rattle.octets.specs.Parts.{part}
use Rattle.octets.specs.Same.{same}
use Rattle.words.specs.Words.{word_of, rest_of}
use Rattle.transmit_settings.specs.State.{fresh_state}
use Rattle.transmit_settings.specs.declared.Fault.{Fault}
use Rattle.transmit_settings.specs.declared.Fault.TheVariants.{Nothing, Word, Value, Room, Refused}
use Rattle.transmit_settings.specs.declared.State.{State}
use Rattle.transmit_steps.specs.Step.{Lent, lent, Outcome, stepping}
use Rattle.transmit_recording.specs.Recording.{losing}
use Rattle.transmit_run.specs.declared.Place.{Place}

-- A line feed.
abbrev pub line_feed : ℕ
line_feed = 10

-- The octets before the first line feed; all if there is none.
unfoldable pub line_of : List ℕ → List ℕ
line_of [] = []
line_of (x ∷ s) = pick (x == line_feed) [] (x ∷ line_of s)

-- Where the line ends that stands at an index of a script: within it, and so no index is too large to be counted.
pub record LineEnds (s : List ℕ) (at r : ℕ) : Type 0 where
  pub is : r ≡ at + length (line_of (drop at s))
  pub behind : at ≤ r
  pub inside : r ≤ length s
  pub counted : r ≤ 9223372036854775807

-- link
abbrev pub link_word : List ℕ
link_word = 108 ∷ 105 ∷ 110 ∷ 107 ∷ []

abbrev pub place : State → ℕ → ℕ → Fault → Place
place s link signs fault = record { state = s; link = link; signs = signs; fault = fault }

-- Where a script stands, and what is lent.
pub record Turned : Type 0 where
  pub place : Place
  pub lent : Lent

abbrev pub turned : Place → Lent → Turned
turned p l = record { place = p; lent = l }

-- A step, and the signs of the link for the frames that it made, one each: they are used up from the first on. An index has 64 bits.
abbrev pub used_up : Place → List ℕ → Outcome → Turned
used_up before script o =
    let first = before.state.made.count in
    let more = o.stepped.state.made.count - first in
    turned (place o.stepped.state ((before.link + more) % 2 ^ 64) (before.signs - more) o.stepped.fault)
    (lent o.lent.stamp o.lent.packets o.lent.lengths o.lent.made
    (losing more (part script before.link before.signs) o.lent.frames first))

-- A line from one index of the script up to another. A line `link` gives the signs that stand behind its word and a space; any other is a
-- step.
unfoldable pub turning : Place → List ℕ → ℕ → ℕ → Lent → Turned
turning before script at end l =
    let line = part script at (end - at) in
    pick (same (word_of line) link_word)
    (turned (place before.state ((at + 5) % 2 ^ 64) (length (rest_of line)) before.fault) l)
    (used_up before script (stepping before.state line l))

-- ---- all lines

abbrev pub is_fault : Fault → Bool
is_fault Nothing = false
is_fault Word = true
is_fault Value = true
is_fault Room = true
is_fault (Refused n) = true

-- Before the first line: nothing is set, and there are no signs.
abbrev pub fresh_place : Place
fresh_place = place fresh_state 0 0 Nothing

-- Where a script stands after so many lines, and what is lent; a number of lines has 64 bits.
pub record Run : Type 0 where
  pub place : Place
  pub lines : ℕ
  pub lent : Lent

abbrev pub run : Place → ℕ → Lent → Run
run p n l = record { place = p; lines = n; lent = l }

-- The lines from an index on, one after another, up to the first that has a fault; k is not less than their octets.
unfoldable pub running : ℕ → Place → List ℕ → ℕ → ℕ → Lent → Run
running zero p script at n l = run p n l
running (suc k) p script at n l =
    let end = at + length (line_of (drop at script)) in
    let t = turning p script at end l in
    let m = (n + 1) % 2 ^ 64 in
    pick (nat_le (length script) at) (run p n l)
    (pick (is_fault t.place.fault) (run t.place m t.lent) (running k t.place script (end + 1) m t.lent))
