-- The counts as text or as CSV, written part after part.
use Rattle.std.specs.Prelude.{ℕ, ◌≡◌, List, Bool, true, false, not, ◌||◌, eqb, ltb, length, take, drop}
use Rattle.window.specs.Turns.{Loops}
use Rattle.window.specs.Window.{unwritten}
use Rattle.summary_count.specs.Count.{largest, saturated, Tally}
use Rattle.summary_text.specs.Text.{summary_of, csv_of}
use Rattle.summary_run.specs.declared.showing.Page.{Page}
use Rattle.summary_run.specs.declared.showing.Told.{Told}

-- The text of a tally: CSV, or lines to read.
abbrev pub text_of : Bool → Tally → List ℕ
text_of true t = csv_of t.counts t.keys t.many
text_of false t = summary_of t.counts t.keys t.many

-- The part of a text behind what is written of it, as much as there is room for.
abbrev pub next_of : List ℕ → ℕ → Page → List ℕ
next_of text room p = take room (drop p.skip text)

-- The contract of a part, which hands these octets to a write. It is the last if it did not fill the room; no other follows if the write
-- failed.
pub record ShowedAs (text : List ℕ) (room : ℕ) (p : Page) (said : List ℕ) (r : Page) : Type 0 where
  pub says : said ≡ next_of text room p
  pub size : r.written.size ≡ length said
  pub skip : r.skip ≡ saturated p.skip (length said)
  pub whole : r.whole ≡ ltb (length said) room
  pub going : r.going ≡ not (r.written.failed || (r.whole || eqb r.skip largest))

abbrev pub Showed : List ℕ → ℕ → Page → Page → Type 0
Showed text room p r = ShowedAs text room p (next_of text room p) r

abbrev pub first : Page
first = record { skip = 0; written = unwritten; whole = false; going = true }

abbrev pub going_on : Page → Bool
going_on p = p.going

-- The contract of the whole: parts one after another, until one says stop.
pub record Shown (text : List ℕ) (room : ℕ) (r : Told) : Type 0 where
  pub loops : Loops going_on (ShowedAs text room) first r.made r.page

-- All that was handed to the write, in its order.
abbrev pub handed_on : {text : List ℕ} {room : ℕ} {r : Told} → Shown text room r → List ℕ
handed_on s = s.loops.made.text

-- Whether not all of the text was written.
abbrev pub not_shown : Told → Bool
not_shown r = not r.page.whole || r.page.written.failed

-- What is handed to the write is a first part of the text; if the last part was reached it is the text.
pub record ShowsAll : Type 0 where
  pub first : {text : List ℕ} {room : ℕ} {r : Told} (s : Shown text room r) → handed_on s ≡ take (length (handed_on s)) text
  pub all : {text : List ℕ} {room : ℕ} {r : Told} (s : Shown text room r) → r.page.whole ≡ true → handed_on s ≡ text
