-- A scan of a source: what it makes of the octets at hand.
use Rattle.answer.specs.Told.{number_of}
use Rattle.std.specs.Prelude.{ℕ, zero, suc, ◌+◌, ◌-◌, ◌≤◌, ◌<◌, ◌≡◌, List, [], ◌++◌, true, false, length, take, drop}
use Rattle.stretch.specs.Stretch.{found, unread}
use Rattle.recording.specs.Sections.{least_window}
use Rattle.recording.specs.Reader as recording
use Rattle.recording.specs.declared.Reader.TheVariants as reader
use Rattle.recording.specs.declared.Taken.{Taken as Section}
use Rattle.recording.specs.declared.Taken.TheVariants as section
use Rattle.recording.specs.declared.Scanned.{Scanned as SectionScanned}
use Rattle.source.specs.Found.{opens, offers, Found, nothing, one, joined, found_in, cut_at}
use Rattle.stretch.specs.declared.Found.{Found as Stretched}
use Rattle.stretch.specs.declared.Found.TheVariants as stretched
use Rattle.kiss.specs.Reader as kiss
use Rattle.rawbits.specs.Reader as rawbits
use Rattle.source.specs.declared.Source.{Source}
use Rattle.source.specs.declared.Source.TheVariants as source
use Rattle.source.specs.declared.Taken.{Taken}
use Rattle.source.specs.declared.Taken.TheVariants as taken
use Rattle.source.specs.declared.Scanned.{Scanned}

-- A recording, a KISS stream, and raw bits, of which nothing is read yet.
abbrev pub fresh : Source
fresh = source.Recording reader.Settings

abbrev pub fresh_kiss : Source
fresh_kiss = source.Kiss kiss.fresh

abbrev pub fresh_bits : Source
fresh_bits = source.Bits rawbits.fresh

abbrev pub taken_of : Section → Taken
taken_of (section.Missing n) = taken.Missing n
taken_of section.Bad = taken.Bad
taken_of section.Over = taken.Over
taken_of (section.Opened t) = taken.Opened t
taken_of section.Nothing = taken.Nothing
taken_of (section.Here from to) = taken.Here from to

abbrev pub section_scanned : SectionScanned → Scanned
section_scanned r = record { source = source.Recording r.reader; used = r.used; taken = taken_of r.taken }

abbrev pub stretch_taken : Stretched → Taken
stretch_taken stretched.Nothing = taken.Nothing
stretch_taken (stretched.Frame n) = taken.Kept n
stretch_taken (stretched.Refused r) = taken.Refused (number_of r)

-- What a stream's reader found in so many octets: with none at hand one is missing.
unfoldable pub stream_taken : ℕ → Stretched → Taken
stream_taken zero f = taken.Missing 1
stream_taken (suc n) f = stretch_taken f

abbrev pub stream_scanned : Source → ℕ → ℕ → Stretched → Scanned
stream_scanned s used size f = record { source = s; used = used; taken = stream_taken size f }

abbrev pub of_kiss : kiss.Outcome → ℕ → Scanned
of_kiss r size = stream_scanned (source.Kiss r.standing.reader) r.used size r.found

abbrev pub of_bits : rawbits.Outcome → ℕ → Scanned
of_bits r size = stream_scanned (source.Bits r.standing.reader) r.used size r.found

-- What a scan of w answers, by a source that keeps these octets, and what it keeps then: a recording's reader keeps nothing.
unfoldable pub scanned : Source → List ℕ → List ℕ → Scanned
scanned (source.Recording a) kept w = section_scanned (recording.scanned a w)
scanned (source.Kiss a) kept w = of_kiss (kiss.scanned (kiss.standing a kept) w) (length w)
scanned (source.Bits a) kept w = of_bits (rawbits.scanned (rawbits.standing a kept) w) (length w)

unfoldable pub kept_by : Source → List ℕ → List ℕ → List ℕ
kept_by (source.Recording a) kept w = kept
kept_by (source.Kiss a) kept w = (kiss.scanned (kiss.standing a kept) w).standing.kept
kept_by (source.Bits a) kept w = (rawbits.scanned (rawbits.standing a kept) w).standing.kept

-- The contract of a scan: kept and kept' are the octets kept before and after.
pub record Scans (s : Source) (kept w : List ℕ) (r : Scanned) (kept' : List ℕ) : Type 0 where
  pub answers : r ≡ scanned s kept w
  pub keeps : kept' ≡ kept_by s kept w

-- What a scan of w tells, by which these octets are kept.
abbrev pub tells : Taken → List ℕ → List ℕ → Found
tells (taken.Missing n) kept w = nothing
tells taken.Bad kept w = record { items = []; bad = true; cut = false }
tells taken.Over kept w = nothing
tells (taken.Opened t) kept w = one (opens t)
tells taken.Nothing kept w = nothing
tells (taken.Here from to) kept w = one (offers (found (take (to - from) (drop from w))))
tells (taken.Kept n) kept w = one (offers (found (take n kept)))
tells (taken.Refused n) kept w = one (offers (unread n))

-- Nothing can be found yet in w, and the least window has room for the n that are missing.
pub record Waits (s : Source) (kept w : List ℕ) (n : ℕ) : Type 0 where
  pub none : found_in s kept w ≡ record { items = []; bad = false; cut = cut_at s }
  pub some : 0 < n
  pub room : length w + n ≤ least_window

-- Nothing is found any more.
abbrev pub Over : Source → List ℕ → Type 0
Over s kept = (w : List ℕ) → found_in s kept w ≡ nothing

-- Nothing is used, and the source stays.
abbrev pub Stays : Source → List ℕ → Scanned → List ℕ → Type 0
Stays s kept r kept' = (r.source ≡ s) × (kept' ≡ kept) × (r.used ≡ 0)

-- What is known by what was found.
abbrev pub Told : Source → List ℕ → List ℕ → Scanned → List ℕ → Taken → Type 0
Told s kept w r kept' (taken.Missing n) = Stays s kept r kept' × Waits s kept w n
Told s kept w r kept' taken.Bad = (r.used ≡ 0) × Over r.source kept'
Told s kept w r kept' taken.Over = Stays s kept r kept' × Over s kept
Told s kept w r kept' (taken.Opened t) = (0 < r.used) × (t ≤ 8)
Told s kept w r kept' taken.Nothing = 0 < r.used
Told s kept w r kept' (taken.Here from to) = (0 < r.used) × (from ≤ to) × (to ≤ length w)
Told s kept w r kept' (taken.Kept n) = (0 < r.used) × (n ≤ length kept')
Told s kept w r kept' (taken.Refused n) = 0 < r.used

-- A scan finds the first of what there is to be found, whatever octets p come behind the window.
pub record Finds (s : Source) (kept w : List ℕ) (r : Scanned) (kept' : List ℕ) : Type 0 where
  pub next : (p : List ℕ) → found_in s kept (w ++ p) ≡ joined (tells r.taken kept' w) (found_in r.source kept' (drop r.used w ++ p))
  pub inside : r.used ≤ length w
  pub told : Told s kept w r kept' r.taken

pub record ScansFind : Type 0 where
  pub finds : {s : Source} {kept w : List ℕ} {r : Scanned} {kept' : List ℕ} → Scans s kept w r kept' → Finds s kept w r kept'
