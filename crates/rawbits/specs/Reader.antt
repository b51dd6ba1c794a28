-- A reader of raw bits: what the next bit makes of it and of the octets that it keeps, and what a scan of octets comes to.
use Rattle.std.specs.Prelude.{ℕ, suc, ◌+◌, ◌*◌, ◌/◌, min, Bool, true, false, not, ◌&&◌, length, set, ltb, eqb}
use mathlib.Core.List.{List, [], ◌∷◌, foldl}
use Rattle.octets.specs.Pick.{pick}
use Rattle.bits.specs.Rows.{digit, bits_of}
use Rattle.bits.specs.Rows.Order.{high_first}
use Rattle.answer.specs.declared.Reason.TheVariants.{StretchOctets, StretchAbandoned}
use Rattle.stretch.specs.declared.Found.{Found}
use Rattle.stretch.specs.declared.Found.TheVariants.{Nothing, Frame, Refused}
use Rattle.rawbits.specs.declared.Row.{Row}
use Rattle.rawbits.specs.declared.Reader.{Reader}
use Rattle.rawbits.specs.declared.Scanned.{Scanned}
use Rattle.rawbits.specs.declared.Passed.{Passed}

-- A reader, and the octets that are kept for it.
pub record Standing : Type 0 where
  pub reader : Reader
  pub kept : List ℕ

abbrev pub standing : Reader → List ℕ → Standing
standing a kept = record { reader = a; kept = kept }

-- ---- a frame's bits

abbrev pub row : ℕ → ℕ → ℕ → Row
row last begun whole = record { last = last; begun = begun; whole = whole }

-- The last eight, with one more.
abbrev pub latest : Row → Bool → ℕ
latest r b = r.last / 2 + 128 * digit b

-- One octet more is counted where there is room for it.
unfoldable pub counted : ℕ → ℕ → ℕ
counted most n = pick (ltb n most) (n + 1) n

-- One bit more, where so many octets can be kept; and these, with the one that it makes whole if there is room.
unfoldable pub added : ℕ → Row → Bool → Row
added most r b =
    pick (ltb r.begun 7) (row (latest r b) (r.begun + 1) r.whole)
    (row (latest r b) 0 (counted most r.whole))

unfoldable pub stored : Row → Bool → List ℕ → List ℕ
stored r b kept = pick (ltb r.begun 7) kept (set kept r.whole (latest r b))

-- ---- a bit

-- Nothing has come since the last flag, or since the start, where none is seen.
abbrev pub begun : Bool → Reader
begun seen = record { seen = seen; ones = 0; abandoned = false; mark = 0; row = row 0 0 0 }

abbrev pub fresh : Reader
fresh = begun false

-- A 0 behind six 1s that a 0 stands before ends a flag.
abbrev pub ends : Reader → Bool → Bool
ends a b = not b && eqb a.ones 6

-- What the stretch before it was: nothing without a flag before that; 17, then 16, nothing if it has no bits, else a frame, of which so
-- many
-- octets are kept at most.
unfoldable pub closed : ℕ → Reader → Found
closed most a =
    pick (not a.seen) Nothing
    (pick a.abandoned (Refused StretchAbandoned)
    (pick (not (eqb a.mark 0)) (Refused StretchOctets)
    (pick (eqb a.row.whole 0) Nothing (Frame (min a.row.whole most)))))

-- Of the frame five bits have come.
abbrev pub five : Row → Bool
five r = eqb r.begun 5 && eqb r.whole 0

abbrev pub with_one : ℕ → Reader → ℕ → Bool → Reader
with_one most a ones lost = record { seen = a.seen; ones = ones; abandoned = lost; mark = a.mark; row = added most a.row true }

-- A 1: the sixth in a row may be a flag's, unless the stretch begins with it and five more; that abandons it, as does the seventh.
unfoldable pub after_one : ℕ → Reader → Reader
after_one most a =
    pick (ltb a.ones 5) (with_one most a (a.ones + 1) a.abandoned)
    (pick (eqb a.ones 5 && not (five a.row)) (with_one most a 6 a.abandoned) (with_one most a 7 true))

-- A 0 that ends no flag: behind five 1s it is no bit of the frame.
unfoldable pub after_zero : ℕ → Reader → Reader
after_zero most a =
    record {
      seen = a.seen;
      ones = 0;
      abandoned = a.abandoned;
      mark = a.row.begun;
      row = pick (eqb a.ones 5) a.row (added most a.row false);
    }

unfoldable pub after : Standing → Bool → Standing
after a true = standing (after_one (length a.kept) a.reader) (stored a.reader.row true a.kept)
after a false =
    standing (after_zero (length a.kept) a.reader)
    (pick (eqb a.reader.ones 5) a.kept (stored a.reader.row false a.kept))

-- How a reader stands behind some bits, and what the last flag in them told.
pub record Passing : Type 0 where
  pub standing : Standing
  pub found : Found

abbrev pub passing : Passed → List ℕ → Passing
passing r kept = record { standing = standing r.reader kept; found = r.found }

unfoldable pub passed : Passing → Bool → Passing
passed a b =
    pick (ends a.standing.reader b)
    (record { standing = standing (begun true) a.standing.kept; found = closed (length a.standing.kept) a.standing.reader })
    (record { standing = after a.standing b; found = a.found })

-- ---- a scan

-- All bits of an octet.
unfoldable pub octet_passed : Standing → ℕ → Passing
octet_passed a x = foldl passed (record { standing = a; found = Nothing }) (bits_of high_first 8 x)

-- What a scan tells, how many octets of the window are used with it, and how the reader stands then.
pub record Outcome : Type 0 where
  pub standing : Standing
  pub used : ℕ
  pub found : Found

abbrev pub outcome : Scanned → List ℕ → Outcome
outcome r kept = record { standing = standing r.reader kept; used = r.used; found = r.found }

abbrev pub further : Outcome → Outcome
further r = record { standing = r.standing; used = suc r.used; found = r.found }

abbrev pub nothing : Found → Bool
nothing Nothing = true
nothing (Frame n) = false
nothing (Refused n) = false

-- The contract of a scan: up to the octet in which something is told, or up to the window's end.
unfoldable pub scanned : Standing → List ℕ → Outcome
scanned a [] = record { standing = a; used = 0; found = Nothing }
scanned a (x ∷ w) =
    pick (nothing (octet_passed a x).found) (further (scanned (octet_passed a x).standing w))
    (record { standing = (octet_passed a x).standing; used = 1; found = (octet_passed a x).found })
