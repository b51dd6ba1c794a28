-- A reader of a KISS stream: what it makes of octets, one after another, with room for one frame.
use Rattle.std.specs.Prelude.{ℕ, suc, ◌+◌, ◌-◌, ◌≤◌, ◌<◌, min, ◌≡◌, List, [], ◌∷◌, ◌++◌, map, Bool, true, false, not, ◌&&◌, ◌||◌, length, take, drop, set, ltb, eqb}
use Rattle.std.proofs.lemmas.List.Edits.{sets}
use Rattle.octets.specs.Pick.{pick}
use Rattle.bits.specs.Rows.Order.{low_first}
use Rattle.crc.specs.Check.{frame_check, octets_of}
use Rattle.answer.specs.declared.Reason.TheVariants.{Escape, TypeOctet}
use Rattle.stretch.specs.Stretch.{Stretch, most_kept, clipped, told, Fits}
use Rattle.stretch.specs.declared.Found.{Found}
use Rattle.stretch.specs.declared.Found.TheVariants.{Nothing, Frame, Refused}
use Rattle.kiss.specs.Stream.{mark, escape, for_mark, for_escape, data_frame, stretches_in}
use Rattle.kiss.specs.declared.Reader.{Reader}
use Rattle.kiss.specs.declared.Scanned.{Scanned}

-- A reader, and the octets that are kept for it.
pub record Standing : Type 0 where
  pub reader : Reader
  pub kept : List ℕ

abbrev pub standing : Reader → List ℕ → Standing
standing a kept = record { reader = a; kept = kept }

abbrev pub reader : Bool → Bool → Bool → Bool → ℕ → Reader
reader marked escaping wrong other count =
    record { marked = marked; escaping = escaping; wrong = wrong; other = other; count = count }

-- Nothing has come since the last 0xC0, or since the start.
abbrev pub begun : Bool → Reader
begun marked = reader marked false false false 0

abbrev pub fresh : Reader
fresh = begun false

-- ---- an octet other than 0xC0

-- What an octet stands for behind 0xDB, and whether it may not stand there.
unfoldable pub meant : ℕ → ℕ
meant x = pick (eqb x for_mark) mark (pick (eqb x for_escape) escape x)

abbrev pub misplaced : ℕ → Bool
misplaced x = not (eqb x for_mark) && not (eqb x for_escape)

-- One octet more with its escape taken off: the type octet first, then the frame's, of which the first 275 are kept.
unfoldable pub taking : Reader → List ℕ → ℕ → Standing
taking a kept x =
    pick (eqb a.count 0) (standing (reader a.marked a.escaping a.wrong (not (eqb x data_frame)) 1) kept)
    (pick (ltb most_kept a.count) (standing a kept)
    (standing (reader a.marked a.escaping a.wrong a.other (a.count + 1)) (set kept (a.count - 1) x)))

unfoldable pub after : Reader → List ℕ → ℕ → Standing
after a kept x =
    pick a.escaping (taking (reader a.marked false (a.wrong || misplaced x) a.other a.count) kept (meant x))
    (pick (eqb x escape) (standing (reader a.marked true a.wrong a.other a.count) kept) (taking a kept x))

-- ---- a 0xC0

-- Something stands before it.
abbrev pub holds : Reader → Bool
holds a = a.marked && (a.wrong || a.escaping || not (eqb a.count 0))

-- How many of the frame's octets are kept, if so many octets have come with the type octet.
abbrev pub frame_length : ℕ → ℕ
frame_length count = min (count - 1) most_kept

-- The octets kept, with the check of the first n of them behind those as far as there is room.
unfoldable pub sealed : ℕ → List ℕ → List ℕ
sealed n kept = sets kept n (octets_of low_first (frame_check (take n kept)))

-- What a scan answers by which the reader stands so.
abbrev pub scanned_by : Reader → ℕ → Found → Scanned
scanned_by a used f = record { reader = a; used = used; found = f }

-- What a scan tells, how many octets of the window are used with it, and how the reader stands then.
pub record Outcome : Type 0 where
  pub standing : Standing
  pub used : ℕ
  pub found : Found

abbrev pub outcome : Scanned → List ℕ → Outcome
outcome r kept = record { standing = standing r.reader kept; used = r.used; found = r.found }

abbrev pub tells : Found → ℕ → List ℕ → Outcome
tells f used kept = record { standing = standing (begun true) kept; used = used; found = f }

-- 18, then 19, else the frame.
unfoldable pub closed : Reader → ℕ → List ℕ → Outcome
closed a used kept =
    pick (a.wrong || a.escaping) (tells (Refused Escape) used kept)
    (pick a.other (tells (Refused TypeOctet) used kept)
    (tells (Frame (min (frame_length a.count + 2) (length kept))) used (sealed (frame_length a.count) kept)))

-- ---- all octets

abbrev pub further : Outcome → Outcome
further r = record { standing = r.standing; used = suc r.used; found = r.found }

-- The contract of a scan: up to the 0xC0 at which something is told, or up to the window's end.
unfoldable pub scanned : Standing → List ℕ → Outcome
scanned a [] = record { standing = a; used = 0; found = Nothing }
scanned a (x ∷ w) =
    pick (eqb x mark)
    (pick (holds a.reader) (closed a.reader 1 a.kept) (further (scanned (standing (begun true) a.kept) w)))
    (further (scanned (after a.reader a.kept x) w))

-- What a reader tells of all the octets that come.
abbrev pub told_by : Outcome → List Stretch
told_by r = told r.found r.standing.kept

unfoldable pub to_find : Standing → List ℕ → List Stretch
to_find a [] = []
to_find a (x ∷ w) =
    pick (eqb x mark)
    (pick (holds a.reader) (told_by (closed a.reader 1 a.kept) ++ to_find (closed a.reader 1 a.kept).standing w)
    (to_find (standing (begun true) a.kept) w))
    (to_find (after a.reader a.kept x) w)

-- ---- statements

-- A scan finds the first of what there is to be found, whatever octets p come behind the window.
pub record Finds (a : Standing) (w : List ℕ) (r : Outcome) : Type 0 where
  pub next : (p : List ℕ) → to_find a (w ++ p) ≡ told_by r ++ to_find r.standing (drop r.used w ++ p)
  pub inside : r.used ≤ length w
  -- some of the window is used, if there is any
  pub some : 0 < length w → 0 < r.used
  -- where nothing is told all of it is used, and nothing is left to be found
  pub all : r.found ≡ Nothing → r.used ≡ length w
  pub none : r.found ≡ Nothing → to_find r.standing [] ≡ []
  -- a frame is among the octets kept, which are as many as before
  pub kept : Fits r.found r.standing.kept
  pub same : length r.standing.kept ≡ length a.kept

abbrev pub ScansFind : Type 0
ScansFind = (a : Standing) (w : List ℕ) → Finds a w (scanned a w)

-- A new reader finds what the stream holds, whatever stood where it keeps octets.
abbrev pub FindsStream : Type 0
FindsStream = (kept s : List ℕ) → length kept ≡ most_kept → to_find (standing fresh kept) s ≡ map clipped (stretches_in s)
