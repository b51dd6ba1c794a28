-- Parts of lent octets.
use Rattle.std.specs.Prelude.{ℕ, ◌+◌, List, [], ◌++◌, length, take, drop, ltb}
use Rattle.octets.specs.Pick.{pick}

-- The n octets of s from index at on; none if s has not all of them.
unfoldable pub part : List ℕ → ℕ → ℕ → List ℕ
part s at n = pick (ltb (length s) (at + n)) [] (take n (drop at s))

-- d with the octets s from index at on.
abbrev pub overlay : List ℕ → ℕ → List ℕ → List ℕ
overlay d at s = take at d ++ s ++ drop (at + length s) d

-- The same if they fit there; else d.
unfoldable pub put : List ℕ → ℕ → List ℕ → List ℕ
put d at s = pick (ltb (length d) (at + length s)) d (overlay d at s)

-- out with the elements s at its start, and beyond them what it held.
abbrev pub written : List ℕ → List ℕ → List ℕ
written s out = s ++ drop (length s) out
