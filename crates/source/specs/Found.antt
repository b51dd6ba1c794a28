-- What is found in a source's octets, as far as they have come.
use Rattle.std.specs.Prelude.{ℕ, List, [], ◌∷◌, ◌++◌, map, Bool, true, false, not, ◌||◌, eqb}
use Rattle.stretch.specs.Stretch.{Stretch, found}
use Rattle.recording.specs.Pieces as recording
use Rattle.recording.specs.Reader.{state_of}
use Rattle.recording.specs.declared.Reader.{Reader}
use Rattle.recording.specs.declared.Reader.TheVariants as reader
use Rattle.kiss.specs.Reader as kiss
use Rattle.rawbits.specs.Reader as rawbits
use Rattle.rawbits.specs.Finding.{to_find}
use Rattle.source.specs.declared.Source.{Source}
use Rattle.source.specs.declared.Source.TheVariants as source

-- What a source tells, one after another: t of a session that is opened, and what the session is offered.
pub data Item : Type 0 where
  opens : ℕ → Item
  offers : Stretch → Item

-- All that the octets tell; whether they were found bad; and whether they are bad if the input ends with them.
pub record Found : Type 0 where
  pub items : List Item
  pub bad : Bool
  pub cut : Bool

abbrev pub nothing : Found
nothing = record { items = []; bad = false; cut = false }

abbrev pub one : Item → Found
one x = record { items = x ∷ []; bad = false; cut = false }

-- What was found first, then what was found after it.
abbrev pub joined : Found → Found → Found
joined a b = record { items = a.items ++ b.items; bad = a.bad || b.bad; cut = b.cut }

-- ---- a recording

abbrev pub is_bad : recording.State → Bool
is_bad (recording.settings w) = false
is_bad (recording.count w) = false
is_bad (recording.frames n w) = false
is_bad recording.bad = true

-- A section is cut, or frames are missing.
abbrev pub is_cut : recording.State → Bool
is_cut (recording.settings w) = true
is_cut (recording.count w) = true
is_cut (recording.frames n w) = not (eqb n 0)
is_cut recording.bad = false

-- First t, then the frames.
unfoldable pub of_recording : recording.Found → Found
of_recording f = record {
  items = map opens f.t ++ map (λ x. offers (found x)) f.frames;
  bad = is_bad f.state;
  cut = is_cut f.state;
}

-- Of a recording that was found bad nothing more is told.
abbrev pub found_by : Reader → List ℕ → Found
found_by reader.Settings w = of_recording (recording.found (state_of reader.Settings w))
found_by reader.Count w = of_recording (recording.found (state_of reader.Count w))
found_by (reader.Frames n) w = of_recording (recording.found (state_of (reader.Frames n) w))
found_by reader.Bad w = nothing

-- ---- a stream

-- All that is found is offered, and a stream may end anywhere.
abbrev pub of_stream : List Stretch → Found
of_stream xs = record { items = map offers xs; bad = false; cut = false }

-- ---- any source

-- All that can be found by a source that keeps these octets, w being at hand.
abbrev pub found_in : Source → List ℕ → List ℕ → Found
found_in (source.Recording a) kept w = found_by a w
found_in (source.Kiss a) kept w = of_stream (kiss.to_find (kiss.standing a kept) w)
found_in (source.Bits a) kept w = of_stream (to_find (rawbits.standing a kept) w)

-- Whether the input may not end where a source stands.
abbrev pub cut_at : Source → Bool
cut_at (source.Recording a) = is_cut (state_of a [])
cut_at (source.Kiss a) = false
cut_at (source.Bits a) = false
