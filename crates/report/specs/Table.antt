-- Document 01, 'Reports': the fixed table of pairs and their source data lengths.
use Rattle.std.specs.Prelude.{ℕ, List, [], ◌∷◌, Bool, ◌&&◌, ◌||◌, eqb, Some, None}
use Rattle.octets.specs.Pick.{pick}
use Rattle.packet.specs.Limits.{longest_source}
use Rattle.packet.specs.declared.Packet.{Packet}
use Rattle.report.specs.declared.table.Pair.{Pair}
use Rattle.report.specs.Answers.{Found}

-- Service type and subtype, the least and the greatest length.
abbrev pub pair : ℕ → ℕ → ℕ → ℕ → Pair
pair service subtype least greatest = record { service = service; subtype = subtype; least = least; greatest = greatest }

abbrev pub pairs : List Pair
pairs =
    pair 1 1 4 4 ∷ pair 1 3 4 4 ∷ pair 1 7 4 4 ∷ pair 1 2 6 6 ∷ pair 1 4 6 6 ∷ pair 1 8 6 6 ∷ pair 3 25 1 longest_source ∷
    pair 128 3 166 166 ∷ pair 128 7 191 191 ∷ []

-- The first pair of the list with this service type and subtype.
abbrev pub first : ℕ → ℕ → List Pair → Found
first service subtype [] = None
first service subtype (p ∷ ps) =
    pick (eqb p.service service && eqb p.subtype subtype) (Some p) (first service subtype ps)

unfoldable pub find_pair : ℕ → ℕ → Found
find_pair service subtype = first service subtype pairs

-- A packet of this pair.
abbrev pub is : Packet → ℕ → ℕ → Bool
is p service subtype = eqb p.service service && eqb p.subtype subtype

-- The pairs of each report: verification success and failure, housekeeping, available image, image line.
unfoldable pub success : Packet → Bool
success p = is p 1 1 || is p 1 3 || is p 1 7

unfoldable pub failure : Packet → Bool
failure p = is p 1 2 || is p 1 4 || is p 1 8

unfoldable pub housekeeping : Packet → Bool
housekeeping p = is p 3 25

unfoldable pub available : Packet → Bool
available p = is p 128 3

unfoldable pub image_line : Packet → Bool
image_line p = is p 128 7
