-- All that readings hand to the write: the header, and the lines of all packets that the octets read hand out.
use Rattle.std.specs.Prelude.{ℕ, ◌≤◌, ◌≡◌, false, List, ◌++◌, length}
use Rattle.readings_csv.specs.Text.{header, longest_line}
use Rattle.receiver.specs.declared.Receiver.{Receiver}
use Rattle.readings_frame.specs.Readings.{Layouts}
use Rattle.readings_turn.specs.Written.{none_kept, Reported, handed_on, not_done}
use Rattle.readings_turn.specs.declared.Stopped.{Stopped}
use Rattle.about_readings.specs.Listed.{to_add}

-- If no read and no write failed, and the turns came to an end, then what was handed to the write is the header and, in their order, the
-- lines of all packets that the octets read hand out; and what was counted is theirs.
pub record Readings (l : Layouts) (a : Receiver) (counts octets handed counts' : List ℕ) : Type 0 where
  pub text : handed ≡ header ++ (to_add l a none_kept octets 0 counts).text
  pub counted : counts' ≡ (to_add l a none_kept octets 0 counts).counts

abbrev pub WritesReadings : Type 0
WritesReadings =
    (l : Layouts) (a : Receiver) (input out counts : List ℕ) (r : Stopped) (input' out' counts' : List ℕ)
    → (h : Reported l a input out counts r input' out' counts') → longest_line ≤ length out → not_done r.standing ≡ false
    → Readings l a counts h.looped.octets (handed_on h) counts'
