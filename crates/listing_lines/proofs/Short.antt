-- No line of a frame or a packet is longer than its greatest length.
use Rattle.std.specs.Prelude.{Some, None}
use Prim.Native.Nat.{ℕ, ◌+◌, ◌*◌, ◌≤◌}
use mathlib.Core.List.{List, [], ◌∷◌, ◌++◌}
use native.Mathlib.Omega.{arith}
use lib.ListN.{length, length-append}
use Rattle.decimal.specs.Text.{decimal, each}
use Rattle.decimal.proofs.Short.{either_short, decimal-short, each-short}
use Rattle.counts.specs.Loss.{Loss}
use Rattle.session.specs.declared.Accepted.{Accepted}
use Rattle.listing_lines.specs.Text.{shown, accepted_line, refused_line, packet_line, turned_away_line, LinesAreShort}

-- numbers, and a last one
numbers-short : (ns : List ℕ) (n : ℕ) → length (each 32 ns (decimal n ++ (10 ∷ []))) ≤ 11 * length ns + 11
numbers-short ns n = omega (arith, each-short 32 ns (decimal n ++ (10 ∷ [])), length-append (decimal n) (10 ∷ []), decimal-short n)

shown-short : (l : Loss) → length (shown l) ≤ 10
shown-short None = omega arith
shown-short (Some n) = decimal-short n

accepted-short : (arrival : ℕ) (a : Accepted) → length (accepted_line arrival a) ≤ 80
unfolding accepted_line
accepted-short arrival a =
    simp length-append
    (omega (
      arith,
      decimal-short arrival,
      decimal-short 0,
      decimal-short a.channel,
      shown-short a.lost,
      shown-short
          a.master,
      decimal-short a.packets,
    ))

pub lines_are_short : LinesAreShort
unfolding refused_line packet_line turned_away_line
lines_are_short = record {
  answers = λ arrival t. either_short t.accepted _ _
      (accepted-short arrival t.fields)
      (omega (arith, each-short 32 (arrival ∷ t.refusal ∷ []) (45 ∷ 32 ∷ 45 ∷ 32 ∷ 45 ∷ 32 ∷ 45 ∷ 10 ∷ [])));
  packets = λ first arrival size t. either_short t.accepted _ _
      (omega (
        arith,
        numbers-short (first ∷ arrival ∷ t.fields.apid ∷ t.fields.sequence.0 ∷ t.fields.service ∷ t.fields.subtype ∷
            []) size,
      ))
      (omega (arith, numbers-short (first ∷ arrival ∷ t.refusal ∷ []) size));
}
