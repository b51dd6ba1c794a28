-- What readers find: the stretches of the whole recording, in whatever pieces its octets come.
use Rattle.std.specs.Prelude.{ℕ, ◌≤◌, ◌<◌, ◌≡◌, Bool, true, List, [], ◌∷◌, ◌++◌, map, length, take, drop}
use Rattle.octets.specs.Pick.{pick}
use Rattle.bits.specs.Rows.{bits_of_all}
use Rattle.bits.specs.Rows.Order.{high_first}
use Rattle.stretch.specs.Stretch.{Stretch, most_kept, clipped, told, Fits}
use Rattle.stretch.specs.declared.Found.TheVariants.{Nothing}
use Rattle.rawbits.specs.Recording.{stretches_in}
use Rattle.rawbits.specs.Reader.{Standing, standing, begun, fresh, ends, closed, after, Outcome, scanned}

-- What a scan tells.
abbrev pub told_by : Outcome → List Stretch
told_by r = told r.found r.standing.kept

-- What a reader tells of all the bits that come, and of octets: what each flag tells that ends in them.
unfoldable pub told_of : Standing → List Bool → List Stretch
told_of a [] = []
told_of a (b ∷ s) =
    pick (ends a.reader b) (told (closed (length a.kept) a.reader) a.kept ++ told_of (standing (begun true) a.kept) s)
    (told_of (after a b) s)

abbrev pub to_find : Standing → List ℕ → List Stretch
to_find a w = told_of a (bits_of_all high_first w)

-- A scan finds the first of what there is to be found, whatever octets p come behind the window.
pub record Finds (a : Standing) (w : List ℕ) (r : Outcome) : Type 0 where
  pub next : (p : List ℕ) → to_find a (w ++ p) ≡ told_by r ++ to_find r.standing (drop r.used w ++ p)
  pub inside : r.used ≤ length w
  -- some of the window is used, if there is any
  pub some : 0 < length w → 0 < r.used
  -- where nothing is told all of it is used, and nothing is left to be found
  pub all : r.found ≡ Nothing → r.used ≡ length w
  pub none : r.found ≡ Nothing → to_find r.standing [] ≡ []
  -- a frame is among the octets kept, which are as many as before
  pub kept : Fits r.found r.standing.kept
  pub same : length r.standing.kept ≡ length a.kept

abbrev pub ScansFind : Type 0
ScansFind = (a : Standing) (w : List ℕ) → Finds a w (scanned a w)

-- A new reader finds what the recording holds, whatever stood where it keeps octets.
abbrev pub FindsStream : Type 0
FindsStream = (kept s : List ℕ) → length kept ≡ most_kept → to_find (standing fresh kept) s ≡ map clipped (stretches_in s)

-- Scans one after another by a reader that was new, each of any window: the octets that they used, what they told, and how the reader
-- stands
-- then.
pub data Scans : List ℕ → List Stretch → Standing → Type 0 where
  none : {kept : List ℕ} → length kept ≡ most_kept → Scans [] [] (standing fresh kept)
  more : {s : List ℕ} {found : List Stretch} {a : Standing} → Scans s found a → (w : List ℕ)
      → Scans (s ++ take (scanned a w).used w) (found ++ told_by (scanned a w)) (scanned a w).standing

-- However the octets come in pieces, what was told so far are the stretches of all octets used so far: each is told as soon as the octet is
-- in
-- in which its closing flag ends.
abbrev pub PiecesGiveTheWhole : Type 0
PiecesGiveTheWhole = (s : List ℕ) (found : List Stretch) (a : Standing) → Scans s found a → found ≡ map clipped (stretches_in s)
