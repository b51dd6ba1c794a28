-- 2. The sender: frames of all eight channels, and the octets that the frame writer gives for them.
use Rattle.std.specs.Prelude.{◌≡◌, ℕ, ◌<◌, ◌≤◌, Bool, true, false, List, [], ◌∷◌, ◌++◌, length, ◌==◌}
use Rattle.answer.specs.Writer.{Written}
use Rattle.answer.specs.Writer.{Wrote, Gave}
use Rattle.frame.specs.declared.Frame.{Frame}
use Rattle.frame.specs.Write.{fields_wrong, frame_octets}
use Rattle.rules.specs.Limits.{virtual_channels}
use Rattle.rules.specs.Channel.{Piece}
use Rattle.rules.specs.Packets.{AllGood}
use Rattle.sender.specs.Stream.{Choice, next_count, frames_by}

-- A frame as it is sent: its fields, its data and its time octets.
pub record Framed : Type 0 where
  pub fields : Frame
  pub «data» : List ℕ
  pub time : List ℕ

-- What the frame writer gives for it and a time of t octets.
abbrev pub sent_octets : ℕ → Framed → List ℕ
sent_octets t f = frame_octets f.fields t f.«data» f.time

-- Which is what `Frame::write` promises of a well-formed frame and an output that is long enough.
abbrev pub WriterGives : Type 0
WriterGives = (t : ℕ) (f : Framed) (out : List ℕ) (r : Written) (out' : List ℕ)
    → fields_wrong f.fields t (length f.«data») (length f.time) ≡ false → length (sent_octets t f) ≤ length out
    → Wrote (fields_wrong f.fields t (length f.«data») (length f.time)) (sent_octets t f) out r out'
    → Gave (sent_octets t f) r out'

-- Well-formed: the writer finds no field out of range. Addresses, telecommand counts and time octets are any.
abbrev pub AllWellFormed : ℕ → List Framed → Type 0
AllWellFormed t [] = Unit {0}
AllWellFormed t (f ∷ fs) = (fields_wrong f.fields t (length f.«data») (length f.time) ≡ false) × AllWellFormed t fs

-- The master count goes up by one modulo 256, over all channels.
abbrev pub Mastered : ℕ → List Framed → Type 0
Mastered m [] = Unit {0}
Mastered m (f ∷ fs) = (f.fields.master.0 ≡ m) × Mastered (next_count m) fs

-- One element if so, else none.
abbrev pub when : {A : Type 0} → Bool → A → List A
when true x = x ∷ []
when false x = []

-- Whether a frame is of channel v.
abbrev pub of_channel : ℕ → Framed → Bool
of_channel v f = f.fields.channel == v

-- The channel counts, pointers and data of the frames of channel v.
abbrev pub piece_of : Framed → Piece
piece_of f = record { count = f.fields.count.0; pointer = f.fields.pointer; octets = f.«data» }

abbrev pub pieces_of : ℕ → List Framed → List Piece
pieces_of v [] = []
pieces_of v (f ∷ fs) = when (of_channel v f) (piece_of f) ++ pieces_of v fs

-- Channel v is written by the rules: packets of 16 to 251 octets whose C is their own length less 7, cut by some choices, from some count
-- on.
pub record Stream (v : ℕ) (frames : List Framed) : Type 0 where
  pub packets : List (List ℕ)
  pub good : AllGood packets
  pub choices : List Choice
  pub first : ℕ
  pub small : first < 256
  pub sent : pieces_of v frames ≡ frames_by packets 0 first choices

-- A sender by the rules: well-formed frames, all of one t, with the master counts of some first one on, and eight such channels.
pub record Sender (t : ℕ) (frames : List Framed) : Type 0 where
  pub well_formed : AllWellFormed t frames
  pub master : ℕ
  pub small : master < 256
  pub masters : Mastered master frames
  pub streams : (v : ℕ) → v < virtual_channels → Stream v frames
