-- Demand 2 for frames: reader and writer undo one another, for every t from 0 to 8. (Over the calls, by their generated contracts:
-- proofs/Calls.)
use Rattle.std.specs.Prelude.{ℕ, ◌+◌, ◌≤◌, ◌<◌, ◌≡◌, List, false, ◌⊎◌, length}
use Rattle.octets.specs.Numbers.{at}
use Rattle.answer.specs.Told.{accept}
use Rattle.frame.specs.Limits.{least_length, greatest_length, longest_time, longest_data, none_starts, raw_data}
use Rattle.frame.specs.Address.{unfit, address_wrong, address_octets}
use Rattle.frame.specs.Frame.{read_frame, data_of, time_of}
use Rattle.frame.specs.Write.{fields_wrong, frame_octets}
use Rattle.frame.specs.declared.Address.{Address}
use Rattle.frame.specs.declared.Frame.{Frame}

-- What was written is accepted and reads back to the same fields, data and time. (Fields that aren't wrong have t from 0 to 8.)
pub record ReadBack (f : Frame) (t : ℕ) (d m : List ℕ) : Type 0 where
  pub fields : read_frame t (frame_octets f t d m) ≡ accept f
  pub «data» : data_of f (frame_octets f t d m) ≡ d
  pub time : time_of f t (frame_octets f t d m) ≡ m

abbrev pub ReadsBack : Type 0
ReadsBack = (f : Frame) (t : ℕ) (d m : List ℕ) → fields_wrong f t (length d) (length m) ≡ false → ReadBack f t d m

-- What was accepted is what the writer gives for its fields, data and time, and the writer accepts them.
pub record WrittenBack (f : Frame) (t : ℕ) (s : List ℕ) : Type 0 where
  pub accepts : fields_wrong f t (length (data_of f s)) (length (time_of f t s)) ≡ false
  pub octets : frame_octets f t (data_of f s) (time_of f t s) ≡ s

abbrev pub WritesBack : Type 0
WritesBack = (t : ℕ) (s : List ℕ) (f : Frame) → ((i : ℕ) → at s i < 256) → read_frame t s ≡ accept f → WrittenBack f t s

-- Seven octets are what the writer gives for some address that is fit.
pub record WrittenFor (s : List ℕ) (last : ℕ) : Type 0 where
  pub address : Address
  pub fit : unfit address ≡ false
  pub octets : address_octets address last ≡ s

-- That is exactly when the reader finds none of them wrong.
abbrev pub RightIsWritten : Type 0
RightIsWritten =
    (s : List ℕ) (last : ℕ) → length s ≡ 7 → last ≤ 1
    → (address_wrong s last ≡ false → WrittenFor s last) × (WrittenFor s last → address_wrong s last ≡ false)

-- A pointer that is right for n octets of data.
abbrev pub PointerRight : ℕ → ℕ → Type 0
PointerRight pointer n = (pointer < n) ⊎ ((pointer ≡ none_starts) ⊎ ((pointer ≡ raw_data) × (0 < n)))

-- What a caller may rely on when a frame was accepted.
pub record Accepted (t : ℕ) (s : List ℕ) (f : Frame) : Type 0 where
  pub time : t ≤ longest_time
  pub least : least_length + t ≤ length s
  pub greatest : length s ≤ greatest_length
  pub channel : f.channel < 8
  pub telecommands : f.telecommands < 4
  pub parts : f.length + least_length + t ≡ length s
  pub «data» : length (data_of f s) ≡ f.length
  pub few : f.length ≤ longest_data t
  pub pointer : PointerRight f.pointer f.length

abbrev pub Accepts : Type 0
Accepts = (t : ℕ) (s : List ℕ) (f : Frame) → read_frame t s ≡ accept f → Accepted t s f
