-- Which of the frames made the link loses, and the recording of those that arrive.
use Rattle.std.specs.Prelude.{ℕ, zero, suc, ◌+◌, ◌-◌, ◌%◌, ◌^◌, Bool, List, [], ◌∷◌, ◌++◌, drop, ◌==◌, nat_lt, slice_set}
use Rattle.octets.specs.Numbers.{at, word_of, four_of}
use Rattle.octets.specs.Parts.{part}
use Rattle.octets.specs.Pick.{pick}

-- The link's sign for a frame that is lost: -.
abbrev pub lost_sign : ℕ
lost_sign = 45

-- Whether the sign at an index says that a frame is lost; beyond the last sign all arrive.
abbrev pub lost_at : List ℕ → ℕ → Bool
lost_at link i = at link i == lost_sign

-- Added to the length of a frame that is lost; no length is so large.
abbrev pub lost_mark : ℕ
lost_mark = 32768

-- The frames' lengths with that of a lost one marked, if they have that place; a length has 16 bits.
unfoldable pub marked : List ℕ → ℕ → Bool → List ℕ
marked frames i lost = pick lost (slice_set frames i ((at frames i + lost_mark) % 2 ^ 16)) frames

-- The same of n frames from index i on, each by its sign, the first by the first.
unfoldable pub losing : ℕ → List ℕ → List ℕ → ℕ → List ℕ
losing zero link frames i = frames
losing (suc n) link frames i = losing n (drop 1 link) (marked frames i (lost_at link 0)) (suc i)

-- How many of the frames arrive: 1 for each whose length is not marked.
unfoldable pub arrivals_of : ℕ → ℕ
arrivals_of n = pick (nat_lt n lost_mark) 1 0

unfoldable pub arrivals : List ℕ → ℕ
arrivals [] = 0
arrivals (n ∷ frames) = arrivals_of n + arrivals frames

-- A recording's first nine octets: the settings 0, 0, 0, 1 and t, and the number of frames in four octets.
unfoldable pub head_of : ℕ → List ℕ → List ℕ
head_of t frames = 0 ∷ 0 ∷ 0 ∷ 1 ∷ t ∷ four_of (arrivals frames % 2 ^ 32)

-- What is recorded of a frame whose octets stand first among those made: its length in two octets and its octets, if it arrives.
unfoldable pub one_of : List ℕ → ℕ → List ℕ
one_of made n = pick (nat_lt n lost_mark) (word_of n ++ part made 0 n) []

-- The same of frames whose octets stand end to end; a mark is no part of a length.
unfoldable pub frames_of : List ℕ → List ℕ → List ℕ
frames_of made [] = []
frames_of made (n ∷ frames) = one_of made n ++ frames_of (drop (n % lost_mark) made) frames

-- A recording.
abbrev pub recording_of : ℕ → List ℕ → List ℕ → List ℕ
recording_of t made frames = head_of t frames ++ frames_of made frames

-- Where the octets behind a frame start among so many.
unfoldable pub behind_of : ℕ → ℕ → ℕ → ℕ
behind_of at n end = pick (nat_lt (end - at) (n % lost_mark)) end (at + n % lost_mark)
