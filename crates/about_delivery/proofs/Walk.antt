-- What is expected, an octet at a time.
use mathlib.Core.Path.{◌≡◌, refl, sym}
use mathlib.Core.List.{List, [], ◌∷◌, ◌++◌}
use mathlib.Core.Bool.{cond}
use Prim.Native.Nat.{ℕ, suc, ◌-◌}
use native.Mathlib.Omega.{arith}
use lib.ListN.{length, get_or, drop}
use lib.Dec.{leb, leb-zero, leb-suc-zero, leb-suc-suc}
use Rattle.rules.specs.Channel.{held_of, Handed, given}
use Rattle.rules.specs.Packets.{AllGood}
use Rattle.sender.specs.Sender.{when}
use Rattle.about_delivery.specs.Link.{Fate}
use Rattle.about_delivery.specs.Expected.{arrival_of, arrived, nowhere, expected_from}

-- the packet p, begun in frame i, was sent in the frames from i to j
abbrev pub one : List Fate → ℕ → List ℕ → ℕ → List Handed
one ss i p j = when (arrived ss i j) (given (arrival_of (get_or ss j nowhere)) (held_of (arrival_of (get_or ss i nowhere)) p))

-- the packet p was begun in frame i, r of it is unsent, the packets ps are not begun, and `own` are the owners of what is sent from here on
abbrev pub walk : List Fate → ℕ → List ℕ → List ℕ → List (List ℕ) → List ℕ → List Handed
walk ss i p [] ps own = expected_from ss ps own
walk ss i p (x ∷ r) ps [] = []
walk ss i p (x ∷ []) ps (j ∷ own) = one ss i p j ++ expected_from ss ps own
walk ss i p (x ∷ y ∷ r) ps (j ∷ own) = walk ss i p (y ∷ r) ps own

module _ (ss : List Fate) where
  walk_is : (i : ℕ) (p : List ℕ) (x : ℕ) (r : List ℕ) (ps : List (List ℕ)) (own : List ℕ)
      → walk ss i p (x ∷ r) ps own
      ≡ cond (leb (suc (length r)) (length own)) (one ss i p (get_or own (length r) 0) ++ expected_from ss ps (drop (suc (length r)) own)) []
  walk_is i p x [] ps [] = refl
  walk_is i p x (y ∷ r) ps [] = rw leb-suc-zero
  walk_is i p x [] ps (j ∷ own) = rw (leb-suc-suc, leb-zero)
  walk_is i p x (y ∷ r) ps (j ∷ own) = rw leb-suc-suc (walk_is i p y r ps own)

  pub begin : (x : ℕ) (q : List ℕ) (ps : List (List ℕ)) (j : ℕ) (own : List ℕ)
      → expected_from ss ((x ∷ q) ∷ ps) (j ∷ own) ≡ walk ss j (x ∷ q) (x ∷ q) ps (j ∷ own)
  begin x q ps j own =
      let less : suc (length q) - 1 ≡ length q = omega arith in
      rw less (sym (walk_is j (x ∷ q) x q ps (j ∷ own)))

  pub expected-none : (ps : List (List ℕ)) → AllGood ps → expected_from ss ps [] ≡ []
  expected-none [] g = refl
  expected-none ([] ∷ ps) g = absurd (omega (arith, g.0.least))
  expected-none ((x ∷ q) ∷ ps) g = rw leb-suc-zero
