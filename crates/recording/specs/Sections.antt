-- Document 01, 'The program and its listing': the sections of a recording, each looked for at the start of the octets at hand.
use Rattle.std.specs.Prelude.{ℕ, ◌+◌, ◌-◌, List, Bool, true, false, length, ltb, eqb}
use Rattle.octets.specs.Numbers.{at, word, four}
use Rattle.octets.specs.Pick.{pick}
use Rattle.recording.specs.declared.Section.{Section}
use Rattle.recording.specs.declared.Section.TheVariants.{Missing, Bad, Whole}

-- The greatest length of a recording's frame, and of what must be at hand to tell more: a frame and its length.
abbrev pub longest_frame : ℕ
longest_frame = 1024

abbrev pub least_window : ℕ
least_window = 2 + longest_frame

-- Whether a section stands there whole, whether what stands there is bad, and a number: the section's, 0 if bad,
-- else how many octets are missing before more can be told.
pub record Seen : Type 0 where
  pub whole : Bool
  pub bad : Bool
  pub number : ℕ

abbrev pub whole : ℕ → Seen
whole n = record { whole = true; bad = false; number = n }

abbrev pub wrong : Seen
wrong = record { whole = false; bad = true; number = 0 }

abbrev pub missing : ℕ → Seen
missing n = record { whole = false; bad = false; number = n }

abbrev pub told : Section → Seen
told (Missing n) = missing n
told Bad = wrong
told (Whole n) = whole n

-- Settings: count 1, one octet t, which is at most 8. The number is t.
unfoldable pub settings_at : List ℕ → Seen
settings_at w =
    pick (ltb (length w) 4) (missing (4 - length w))
    (pick (eqb (four (at w 0) (at w 1) (at w 2) (at w 3)) 1)
    (pick (ltb (length w) 5) (missing (5 - length w)) (pick (ltb 8 (at w 4)) wrong (whole (at w 4)))) wrong)

-- Frames: first their count, four octets.
unfoldable pub count_at : List ℕ → Seen
count_at w = pick (ltb (length w) 4) (missing (4 - length w)) (whole (four (at w 0) (at w 1) (at w 2) (at w 3)))

abbrev pub length_at : List ℕ → ℕ
length_at w = word (at w 0) (at w 1)

-- A frame: a length of two octets, at most 1,024, then as many octets. The number is the length.
unfoldable pub frame_at : List ℕ → Seen
frame_at w =
    pick (ltb (length w) 2) (missing (2 - length w))
    (pick (ltb longest_frame (length_at w)) wrong
    (pick (ltb (length w) (2 + length_at w)) (missing (2 + length_at w - length w)) (whole (length_at w))))
