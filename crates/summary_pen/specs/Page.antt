-- A part of a text that is put into lent octets: what stands from an index of the text on, as far as there is room.
use Rattle.std.specs.Prelude.{ℕ, ◌+◌, ◌-◌, ◌≡◌, List, [], ◌∷◌, length, take, drop, set, ltb}
use Rattle.octets.specs.Parts.{written}
use Rattle.octets.specs.Pick.{pick}
use Rattle.summary_pen.specs.declared.pen.Pen.{Pen}

-- The part of a text from index skip on that has room in out.
abbrev pub shown : List ℕ → ℕ → List ℕ → List ℕ
shown text skip out = take (length out) (drop skip text)

-- It stands at the start of out, beyond it what out held, and r is its length.
pub record Shows (text : List ℕ) (skip : ℕ) (out out' : List ℕ) (r : ℕ) : Type 0 where
  pub leaves : out' ≡ written (shown text skip out) out
  pub many : r ≡ length (shown text skip out)

-- Lent octets, and where in them the next octet goes.
pub record Page : Type 0 where
  pub out : List ℕ
  pub pen : Pen

abbrev pub page : List ℕ → Pen → Page
page out pen = record { out = out; pen = pen }

-- An octet of the text: skipped, put, or left out where there is no room.
unfoldable pub octet : ℕ → Page → Page
octet c p =
    pick (ltb 0 p.pen.skip) (page p.out (record { skip = p.pen.skip - 1; at = p.pen.at }))
    (pick (ltb p.pen.at (length p.out))
    (page (set p.out p.pen.at c) (record { skip = p.pen.skip; at = p.pen.at + 1 }))
    p)

-- All octets of a text, one after another.
unfoldable pub said : List ℕ → Page → Page
said [] p = p
said (c ∷ text) p = said text (octet c p)

-- A text was said, and left one page of another.
pub record Says (text : List ℕ) (p q : Page) : Type 0 where
  pub leaves : q ≡ said text p
