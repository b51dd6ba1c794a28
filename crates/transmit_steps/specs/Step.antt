-- The step that a line of a script is: what it sets, the packets that wait, the frames that it makes.
use Rattle.std.specs.Prelude.{ℕ, ◌-◌, ◌%◌, Bool, ◌||◌, List, [], ◌∷◌, ◌++◌, length, take, drop, set, eqb, ltb, leb}
use Rattle.octets.specs.Numbers.{at}
use Rattle.octets.specs.Pick.{pick}
use Rattle.octets.specs.Parts.{part}
use Rattle.octets.specs.Same.{same}
use Rattle.answer.specs.Told.{Told, accept, refuse}
use Rattle.answer.specs.Refusals.{field_range, output_short}
use Rattle.answer.specs.Writer.{left}
use Rattle.sender.specs.Frames.{Wanted}
use Rattle.sender.specs.Send as sender
use Rattle.sender.specs.declared.Sent.{Sent}
use Rattle.words.specs.Octets.{hex_count, hex_left}
use Rattle.words.specs.Words.{word_of, rest_of}
use Rattle.transmit_settings.specs.State.{count_of, no_row, more, with_waiting, with_made, after_sent}
use Rattle.transmit_settings.specs.Setting.{stopped, going, Set, setting}
use Rattle.transmit_settings.specs.declared.Fault.TheVariants.{Value, Room, Refused}
use Rattle.transmit_settings.specs.declared.State.{State}
use Rattle.transmit_settings.specs.declared.Stepped.{Stepped}

-- ---- the words, as ASCII codes

-- packet
abbrev pub packet_word : List ℕ
packet_word = 112 ∷ 97 ∷ 99 ∷ 107 ∷ 101 ∷ 116 ∷ []

-- send
abbrev pub send_word : List ℕ
send_word = 115 ∷ 101 ∷ 110 ∷ 100 ∷ []

-- empty
abbrev pub empty_word : List ℕ
empty_word = 101 ∷ 109 ∷ 112 ∷ 116 ∷ 121 ∷ []

-- frame
abbrev pub frame_word : List ℕ
frame_word = 102 ∷ 114 ∷ 97 ∷ 109 ∷ 101 ∷ []

-- The sign #.
abbrev pub remark : ℕ
remark = 35

-- ---- a list from an index on changed

-- What stands before index i, then what became of the rest.
abbrev pub behind : ℕ → List ℕ → List ℕ → List ℕ
behind i d rest = take i d ++ rest

-- A length at a place of a list, if it has that place; a length has 16 bits.
abbrev pub entered : List ℕ → ℕ → ℕ → List ℕ
entered d i n = set d i (n % 65536)

-- ---- a packet more

-- What a step gives, and the packets' octets and lengths afterwards.
pub record Queued : Type 0 where
  pub stepped : Stepped
  pub packets : List ℕ
  pub lengths : List ℕ

abbrev pub queued : Stepped → List ℕ → List ℕ → Queued
queued r packets lengths = record { stepped = r; packets = packets; lengths = lengths }

-- Its octets stand behind those that wait, its length behind theirs. No room for it: fault Room; no octets, or above 65,535: fault Value.
unfoldable pub queuing : State → List ℕ → List ℕ → List ℕ → Queued
queuing s value packets lengths =
    let i = s.waiting.octets in
    let n = hex_count value (length packets - i) in
    let packets' = behind i packets (hex_left value (drop i packets)) in
    pick (ltb (length packets) i) (queued (stopped s Room) packets lengths)
    (pick (leb (length lengths) s.waiting.count) (queued (stopped s Room) packets lengths)
    (pick (ltb 65535 n) (queued (stopped s Value) packets' lengths)
    (queued (going (with_waiting s (more s.waiting n 1))) packets' (entered lengths s.waiting.count n))))

-- ---- frames

-- What a step gives, the room for frames and the list of the frames' lengths afterwards.
pub record Laid : Type 0 where
  pub stepped : Stepped
  pub out : List ℕ
  pub frames : List ℕ

abbrev pub laid : Stepped → List ℕ → List ℕ → Laid
laid r out frames = record { stepped = r; out = out; frames = frames }

-- By the sender's answer: the state with what it sent, or its refusal stops the script.
unfoldable pub answered : State → Told Sent → (Sent → State) → Stepped
answered s told next = pick told.accepted (going (next told.fields)) (stopped s (Refused told.refusal))

-- What is wanted of the sender: the settings, the time's octets, the packets that wait.
abbrev pub wanted_of : State → List ℕ → List ℕ → List ℕ → Wanted
wanted_of s stamp packets lengths =
    record {
      common = s.common;
      master = s.master;
      count = count_of s;
      time = part stamp 0 s.stamp;
      octets = part packets 0 s.waiting.octets;
      lengths = take s.waiting.count lengths;
      size = s.size;
    }

-- The frames of the packets that wait, as the sender makes them; then none waits.
unfoldable pub sending : State → List ℕ → List ℕ → List ℕ → List ℕ → List ℕ → Laid
sending s stamp packets lengths out list =
    let o = sender.sending (wanted_of s stamp packets lengths) (sender.lent out list) in
    laid (answered s o.answer (λ (t : Sent). with_waiting (after_sent s t) no_row)) o.lent.octets o.lent.lengths

-- Their lengths stand behind those of the frames made.
unfoldable pub sending_all : State → List ℕ → List ℕ → List ℕ → List ℕ → List ℕ → Laid
sending_all s stamp packets lengths out frames =
    let i = s.made.count in
    let l = sending s stamp packets lengths out (drop i frames) in
    pick (ltb (length frames) i) (laid (stopped s Room) out frames) (laid l.stepped l.out (behind i frames l.frames))

-- One empty frame: 51, then 50, else the frame and its length.
abbrev pub empty_wrong : State → List ℕ → Bool
empty_wrong s stamp = sender.common_wrong s.common s.master (count_of s) (part stamp 0 s.stamp)

abbrev pub empty_octets : State → List ℕ → List ℕ
empty_octets s stamp = sender.empty_octets s.common s.master (count_of s) (part stamp 0 s.stamp)

unfoldable pub empty_told : State → List ℕ → List ℕ → Told Sent
empty_told s stamp out =
    pick (empty_wrong s stamp) (refuse sender.no_sent field_range)
    (pick (ltb (length out) (length (empty_octets s stamp))) (refuse sender.no_sent output_short)
    (accept (sender.tells s.master (count_of s) 1 (length (empty_octets s stamp)))))

unfoldable pub emptying : State → List ℕ → List ℕ → List ℕ → Laid
emptying s stamp out frames =
    let told = empty_told s stamp out in
    laid (answered s told (after_sent s)) (left (empty_wrong s stamp) (empty_octets s stamp) out)
    (pick told.accepted (entered frames s.made.count told.fields.octets) frames)

-- A frame as it stands. The longest that a recording holds has 1,024 octets.
unfoldable pub framing : State → List ℕ → List ℕ → List ℕ → Laid
framing s value out frames =
    let n = hex_count value (length out) in
    pick (ltb 1024 n) (laid (stopped s Value) (hex_left value out) frames)
    (laid (going (with_made s (more s.made n 1))) (hex_left value out) (entered frames s.made.count n))

-- ---- a step

-- What is lent: the time's octets, the packets that wait and their lengths, the frames' octets and their lengths.
pub record Lent : Type 0 where
  pub stamp : List ℕ
  pub packets : List ℕ
  pub lengths : List ℕ
  pub made : List ℕ
  pub frames : List ℕ

abbrev pub lent : List ℕ → List ℕ → List ℕ → List ℕ → List ℕ → Lent
lent stamp packets lengths made frames =
    record { stamp = stamp; packets = packets; lengths = lengths; made = made; frames = frames }

pub record Outcome : Type 0 where
  pub stepped : Stepped
  pub lent : Lent

abbrev pub outcome : Stepped → Lent → Outcome
outcome r l = record { stepped = r; lent = l }

abbrev pub made_in : Lent → Laid → Outcome
made_in l a = outcome a.stepped (lent l.stamp l.packets l.lengths a.out a.frames)

abbrev pub queued_in : Lent → Queued → Outcome
queued_in l a = outcome a.stepped (lent l.stamp a.packets a.lengths l.made l.frames)

abbrev pub set_in : Lent → Set → Outcome
set_in l a = outcome a.stepped (lent a.stamp l.packets l.lengths l.made l.frames)

-- A line that makes frames, or sets something: there is room for one more in the list of frames. Frames go to the start of the lent octets.
unfoldable pub making : State → List ℕ → Lent → Outcome
making s line l =
    pick (leb (length l.frames) s.made.count) (outcome (stopped s Room) l)
    (pick (same line send_word) (made_in l (sending_all s l.stamp l.packets l.lengths l.made l.frames))
    (pick (same line empty_word) (made_in l (emptying s l.stamp l.made l.frames))
    (pick (same (word_of line) frame_word) (made_in l (framing s (rest_of line) l.made l.frames))
    (set_in l (setting s (word_of line) (rest_of line) l.stamp)))))

-- The same with the octets behind those of the frames made.
unfoldable pub making_behind : State → List ℕ → Lent → Outcome
making_behind s line l =
    let i = s.made.octets in
    let o = making s line (lent l.stamp l.packets l.lengths (drop i l.made) l.frames) in
    pick (ltb (length l.made) i) (outcome (stopped s Room) l)
    (outcome o.stepped (lent o.lent.stamp o.lent.packets o.lent.lengths (behind i l.made o.lent.made)
    o.lent.frames))

-- Nothing is done of an empty line, and of one that begins with #.
unfoldable pub stepping : State → List ℕ → Lent → Outcome
stepping s line l =
    pick (eqb (length line) 0 || eqb (at line 0) remark) (outcome (going s) l)
    (pick (same (word_of line) packet_word) (queued_in l (queuing s (rest_of line) l.packets l.lengths))
    (making_behind s line l))
