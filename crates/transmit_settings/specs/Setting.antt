-- 2. The lines that set something: a word, and its value behind a space.
use Rattle.std.specs.Prelude.{ℕ, Bool, ◌||◌, List, [], ◌∷◌, length, ◌==◌, nat_lt, slice_index_or}
use Rattle.octets.specs.Pick.{pick}
use Rattle.octets.specs.Same.{same}
use Rattle.frame.specs.declared.Address.{Address}
use Rattle.words.specs.Octets.{hex_left, hex_count}
use Rattle.words.specs.Words.{space, word_of, rest_of, number_of, largest}
use Rattle.transmit_settings.specs.State.{
  to_destination,
  from_source,
  on_channel,
  after_telecommands,
  of_time,
  with_common,
  with_size,
  with_stamp,
  with_master,
  with_count,
}
use Rattle.transmit_settings.specs.declared.Fault.{Fault}
use Rattle.transmit_settings.specs.declared.Fault.TheVariants.{Nothing, Word, Value}
use Rattle.transmit_settings.specs.declared.State.{State}
use Rattle.transmit_settings.specs.declared.Stepped.{Stepped}

-- It goes on, or it stops with a fault.
abbrev pub stopped : State → Fault → Stepped
stopped s fault = record { state = s; fault = fault }

abbrev pub going : State → Stepped
going s = stopped s Nothing

-- ---- the words, as ASCII codes

-- destination
abbrev pub destination_word : List ℕ
destination_word = 100 ∷ 101 ∷ 115 ∷ 116 ∷ 105 ∷ 110 ∷ 97 ∷ 116 ∷ 105 ∷ 111 ∷ 110 ∷ []

-- source
abbrev pub source_word : List ℕ
source_word = 115 ∷ 111 ∷ 117 ∷ 114 ∷ 99 ∷ 101 ∷ []

-- time
abbrev pub time_word : List ℕ
time_word = 116 ∷ 105 ∷ 109 ∷ 101 ∷ []

-- size
abbrev pub size_word : List ℕ
size_word = 115 ∷ 105 ∷ 122 ∷ 101 ∷ []

-- t
abbrev pub t_word : List ℕ
t_word = 116 ∷ []

-- channel
abbrev pub channel_word : List ℕ
channel_word = 99 ∷ 104 ∷ 97 ∷ 110 ∷ 110 ∷ 101 ∷ 108 ∷ []

-- count
abbrev pub count_word : List ℕ
count_word = 99 ∷ 111 ∷ 117 ∷ 110 ∷ 116 ∷ []

-- master
abbrev pub master_word : List ℕ
master_word = 109 ∷ 97 ∷ 115 ∷ 116 ∷ 101 ∷ 114 ∷ []

-- telecommands
abbrev pub telecommands_word : List ℕ
telecommands_word = 116 ∷ 101 ∷ 108 ∷ 101 ∷ 99 ∷ 111 ∷ 109 ∷ 109 ∷ 97 ∷ 110 ∷ 100 ∷ 115 ∷ []

-- ---- a number

-- With a number that may be this large it goes on so; a larger one, or none, is no value.
unfoldable pub up_to : ℕ → ℕ → State → State → Stepped
up_to most n s next = pick (nat_lt most n) (stopped s Value) (going next)

-- One octet holds it.
abbrev pub octet : ℕ → State → State → Stepped
octet n s next = up_to 255 n s next

-- t is the recording's: it is set before the first frame.
unfoldable pub set_number : State → List ℕ → ℕ → Stepped
set_number s word n =
    pick (same word size_word) (up_to largest n s (with_size s n))
    (pick (same word t_word) (pick (s.made.count == 0) (octet n s (with_common s (of_time s.common n))) (stopped s Value))
    (pick (same word channel_word) (octet n s (with_common s (on_channel s.common n)))
    (pick (same word count_word) (octet n s (with_count s n))
    (pick (same word master_word) (octet n s (with_master s n))
    (pick (same word telecommands_word) (octet n s (with_common s (after_telecommands s.common n)))
    (stopped s Word))))))

-- ---- an address: a callsign of at most six characters, and an SSID of one octet

-- Spaces stand behind the callsign's last character.
abbrev pub address_of : List ℕ → ℕ → Address
address_of s ssid =
    record {
      callsign =
          record {
            0 = slice_index_or s 0 space;
            1 = slice_index_or s 1 space;
            2 = slice_index_or s 2 space;
            3 = slice_index_or s 3 space;
            4 = slice_index_or s 4 space;
            5 = slice_index_or s 5 space;
          };
      ssid = ssid;
    }

unfoldable pub address_wrong : List ℕ → Bool
address_wrong value = nat_lt 6 (length (word_of value)) || nat_lt 255 (number_of (rest_of value))

unfoldable pub set_address : State → List ℕ → List ℕ → Stepped
set_address s word value =
    let a = address_of (word_of value) (number_of (rest_of value)) in
    pick (address_wrong value) (stopped s Value)
    (going (pick (same word source_word) (with_common s (from_source s.common a)) (with_common s (to_destination s.common a))))

-- ---- the time's octets, of which there is room for so many; the number that says none is above every room

unfoldable pub set_time : State → List ℕ → ℕ → Stepped
set_time s value room = up_to room (hex_count value room) s (with_stamp s (hex_count value room))

-- ---- a setting

-- What a line gives, and the time's octets afterwards.
pub record Set : Type 0 where
  pub stepped : Stepped
  pub stamp : List ℕ

abbrev pub observed : Stepped → List ℕ → Set
observed r stamp = record { stepped = r; stamp = stamp }

unfoldable pub setting : State → List ℕ → List ℕ → List ℕ → Set
setting s word value stamp =
    pick (same word destination_word || same word source_word) (observed (set_address s word value) stamp)
    (pick (same word time_word) (observed (set_time s value (length stamp)) (hex_left value stamp))
    (observed (set_number s word (number_of value)) stamp))
