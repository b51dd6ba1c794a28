-- The packets that a frame hands out, as they stand in what was lent.
use Rattle.std.specs.Prelude.{ℕ, ◌+◌, List, [], ◌∷◌, take, Ok, Err}
use Rattle.octets.specs.Parts.{part}
use Rattle.rules.specs.Channel.{Handed}
use Rattle.session.specs.Answers.{StepAnswer}
use Rattle.table.specs.Look.{handed}

-- Packets with that arrival number that stand end to end in octets from an index on, by their lengths.
abbrev pub handed_from : ℕ → List ℕ → ℕ → List ℕ → List Handed
handed_from arrival octets from [] = []
handed_from arrival octets from (n ∷ ns) = handed (part octets from n) arrival ∷ handed_from arrival octets (from + n) ns

-- So many of them, from the start on.
abbrev pub handed_in : ℕ → ℕ → List ℕ → List ℕ → List Handed
handed_in arrival packets octets lengths = handed_from arrival octets 0 (take packets lengths)

-- Those of a frame that was answered so: a refused one hands none out.
abbrev pub handed_by : StepAnswer → List ℕ → List ℕ → List Handed
handed_by (Ok a) octets lengths = handed_in a.arrival a.packets octets lengths
handed_by (Err r) octets lengths = []
