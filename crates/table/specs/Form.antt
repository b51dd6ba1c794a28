-- The first reading of a table file, in pieces: what is kept of it, and the check that it starts.
use Rattle.std.specs.Prelude.{ℕ, ◌+◌, ◌-◌, min, ◌≡◌, true, false, List, ◌++◌, length, take, drop, replicate}
use Rattle.octets.specs.Parts.{put}
use Rattle.octets.specs.Pick.{pick}
use Rattle.table.specs.Table.{Column, column_count, row_count, columns_in, badly_formed}
use Rattle.table.specs.declared.Form.{Form}
use Rattle.table.specs.declared.Check.{Check}

-- The octets that hold both counts and up to 32 columns.
abbrev pub head_octets : ℕ
head_octets = 72

-- The longest table has 32 columns and 4,294,967,295 rows; a longer one is counted as one octet more.
abbrev pub most_counted : ℕ
most_counted = 73014444088

-- What is kept of the octets read so far: the first 72, with zeros behind them, and how many there are.
unfoldable pub known : List ℕ → Form
known s = record { head = take head_octets s ++ replicate (head_octets - length s) 0; length = min (length s) most_counted }

-- A piece more.
unfoldable pub grown : Form → List ℕ → Form
grown f piece =
    record { head = put f.head f.length (take (head_octets - f.length) piece); length = min (f.length + length piece) most_counted }

-- However a file is cut into pieces, the same is kept.
abbrev pub KeepsOn : Type 0
KeepsOn = (s piece : List ℕ) → grown (known s) piece ≡ known (s ++ piece)

-- The check of a table that begins so: no row looked at, and packet 1 comes next.
abbrev pub ready : List ℕ → Check
ready head = record { formed = true; head = head; columns = column_count head; rows = row_count head; row = 0; least = 0; number = 1 }

-- Of one that is badly formed.
abbrev pub refused : List ℕ → Check
refused head = record { formed = false; head = head; columns = 0; rows = 0; row = 0; least = 0; number = 1 }

unfoldable pub started : Form → Check
started f = pick (badly_formed f.head f.length) (refused f.head) (ready f.head)

-- The columns that a check holds.
abbrev pub columns_held : Check → List Column
columns_held c = columns_in c.columns (drop 4 c.head)
