-- Why a recording is bad: the section at which its reader stops, and what is wrong with the octets that stand there.
use Rattle.std.specs.Prelude.{ℕ, zero, suc, Bool, true, false, List, length, drop, ◌==◌, nat_lt}
use Rattle.octets.specs.Numbers.{at, four}
use Rattle.octets.specs.Pick.{pick}
use Rattle.recording.specs.Sections.{longest_frame, length_at}
use Rattle.recording.specs.Reader.{scanned}
use Rattle.recording.specs.declared.Reader.{Reader}
use Rattle.recording.specs.declared.Reader.TheVariants as reader
use Rattle.recording.specs.declared.Taken.{Taken}
use Rattle.recording.specs.declared.Taken.TheVariants as taken
use Rattle.faults.specs.declared.Why.{Why}
use Rattle.faults.specs.declared.Why.TheVariants as why

-- Settings that are not whole, or not right: the count is 1, t at most 8.
unfoldable pub settings_why : List ℕ → Why
settings_why w =
    pick (nat_lt (length w) 4) why.SettingsCut
    (pick (four (at w 0) (at w 1) (at w 2) (at w 3) == 1) (pick (nat_lt (length w) 5) why.SettingsCut why.TimeLong) why.CountNotOne)

-- A frame that is not whole, or longer than a recording can hold.
unfoldable pub frame_why : List ℕ → Why
frame_why w = pick (nat_lt (length w) 2) why.FramesMissing (pick (nat_lt longest_frame (length_at w)) why.FrameLong why.FrameCut)

-- Why a reader stops at these octets, behind which none come or which are bad. Behind the last frame nothing may stand.
abbrev pub why_at : Reader → List ℕ → Why
why_at reader.Settings w = settings_why w
why_at reader.Count w = why.CountCut
why_at (reader.Frames n) w = pick (n == 0) (pick (length w == 0) why.Nothing why.Behind) (frame_why w)
why_at reader.Bad w = why.Nothing

-- How many octets of the section stand before the one that is wrong: the settings' count before t.
abbrev pub before : Why → ℕ
before why.TimeLong = 4
before why.Nothing = 0
before why.SettingsCut = 0
before why.CountNotOne = 0
before why.CountCut = 0
before why.FramesMissing = 0
before why.FrameLong = 0
before why.FrameCut = 0
before why.Behind = 0

-- Whether a section is whole, so that the next may follow.
abbrev pub goes_on : Taken → Bool
goes_on (taken.Missing n) = false
goes_on taken.Bad = false
goes_on taken.Over = false
goes_on (taken.Opened t) = true
goes_on taken.Nothing = true
goes_on (taken.Here from to) = true

-- The reader at the first section of the octets at hand that is not whole, or behind them all; they have n octets at most.
unfoldable pub stops_at : ℕ → Reader → List ℕ → Reader
stops_at zero a w = a
stops_at (suc n) a w =
    pick (goes_on (scanned a w).taken) (stops_at n (scanned a w).reader (drop (scanned a w).used w)) a
