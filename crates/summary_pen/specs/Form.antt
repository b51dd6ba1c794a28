-- A form of the summary: text or CSV.
use Rattle.std.specs.Prelude.{ℕ, List}

-- What a form of the summary says of each thing that there is something to tell of. The numbers are, in this order,
-- for all frames those accepted and refused, for all packets those read and turned away, for a refusal its number and how often it was met,
-- for a channel its number, its frames, those lost and the losses that are unknown, over all channels the same without a number,
-- for a key the key and its packets, for an APID its packets missing and how often its count started again, for an image its lines.
pub record Form : Type 0 where
  pub begins : List ℕ
  pub frames : ℕ → ℕ → List ℕ
  pub refused : ℕ → ℕ → List ℕ
  pub channel : ℕ → ℕ → ℕ → ℕ → List ℕ
  pub over_all : ℕ → ℕ → ℕ → List ℕ
  pub packets : ℕ → ℕ → List ℕ
  pub key : ℕ → ℕ → List ℕ
  pub others : ℕ → List ℕ
  pub away : ℕ → ℕ → List ℕ
  pub apid : ℕ → ℕ → ℕ → List ℕ
  pub image : ℕ → ℕ → List ℕ
  pub other_lines : ℕ → List ℕ
  pub bad : ℕ → List ℕ
