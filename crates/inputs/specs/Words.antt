-- The words of a command that name its input.
use Rattle.std.specs.Prelude.{ℕ, ◌-◌, Bool, not, ◌&&◌, ◌||◌, List, [], ◌∷◌, length, ◌==◌, nat_lt}
use Rattle.octets.specs.Numbers.{at}
use Rattle.octets.specs.Pick.{pick}
use Rattle.octets.specs.Same.{same}
use Rattle.source.specs.Scan.{fresh_kiss, fresh_bits}
use Rattle.receiver.specs.Receive.{fresh, fresh_stream}
use Rattle.receiver.specs.declared.Receiver.{Receiver}

-- "--kiss" and "--bits".
abbrev pub kiss_word : List ℕ
kiss_word = 45 ∷ 45 ∷ 107 ∷ 105 ∷ 115 ∷ 115 ∷ []

abbrev pub bits_word : List ℕ
bits_word = 45 ∷ 45 ∷ 98 ∷ 105 ∷ 116 ∷ 115 ∷ []

-- t by one digit, 0 to 8; 9 of any other word.
unfoldable pub time_of : List ℕ → ℕ
time_of word = pick (not (length word == 1)) 9 (pick (nat_lt (at word 0) 48) 9 (pick (nat_lt 56 (at word 0)) 9 (at word 0 - 48)))

-- No words name a recording; else the first names a stream, and the second its t.
unfoldable pub wrong_words : List ℕ → List ℕ → Bool
wrong_words kind word = not (length kind == 0) && (not (same kind kiss_word || same kind bits_word) || time_of word == 9)

-- The same of words as they were read: of a first word that is there, but empty or too long, nothing was read.
unfoldable pub none_named : Bool → List ℕ → List ℕ → Bool
none_named there kind word = (there && length kind == 0) || wrong_words kind word

unfoldable pub receiver_of : List ℕ → List ℕ → Receiver
receiver_of kind word =
    pick (same kind kiss_word) (fresh_stream fresh_kiss (time_of word)) (pick (same kind bits_word) (fresh_stream fresh_bits (time_of word)) fresh)
