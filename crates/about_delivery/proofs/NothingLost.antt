-- Where every frame arrived, every packet that was sent to its end is expected.
use mathlib.Core.Path.{◌≡◌, refl, ap, ◌∙◌}
use mathlib.Core.List.{List, [], ◌∷◌, ◌++◌}
use mathlib.Core.Bool.{true, false≢true}
use mathlib.Core.Option.{Option, none, some}
use Prim.Native.Nat.{ℕ, zero, suc, ◌+◌, ◌-◌, ◌≤◌}
use native.Mathlib.Omega.{arith}
use lib.ListN.{length, get_or, take, drop, length-append, length-drop}
use borrow.Author.Tests.{le-leb}
use Rattle.counts.specs.Lost.{number}
use Rattle.rules.specs.Packets.{bare, joined}
use Rattle.about_delivery.specs.Link.{Fate, lost, got, fates}
use Rattle.about_delivery.specs.Expected.{all_got, arrived, expected_from, told_as, losses_after, AtMost, most_lost}
use Rattle.about_delivery.specs.Further.{NothingLost}
use Rattle.about_delivery.proofs.Recording.{demand_3}

pub got-take : (n : ℕ) (ss : List Fate) → all_got ss ≡ true → all_got (take n ss) ≡ true
got-take zero ss g = refl
got-take (suc n) [] g = refl
got-take (suc n) (lost f ∷ ss) g = absurd (false≢true g)
got-take (suc n) (got a f ∷ ss) g = got-take n ss g

pub got-drop : (n : ℕ) (ss : List Fate) → all_got ss ≡ true → all_got (drop n ss) ≡ true
got-drop zero ss g = g
got-drop (suc n) [] g = refl
got-drop (suc n) (lost f ∷ ss) g = absurd (false≢true g)
got-drop (suc n) (got a f ∷ ss) g = got-drop n ss g

all-expected : (ss : List Fate) → all_got ss ≡ true → (ps : List (List ℕ)) (own : List ℕ) → length (joined ps) ≤ length own
    → bare (expected_from ss ps own) ≡ ps
all-expected ss g [] own l = refl
all-expected ss g (p ∷ ps) own l =
    let sum : length (p ++ joined ps) ≡ length p + length (joined ps) = length-append p (joined ps) in
    let j : ℕ = get_or own (length p - 1) 0 in
    let ok : arrived ss (get_or own 0 0) j ≡ true = got-drop (get_or own 0 0) (take (suc j) ss) (got-take (suc j) ss g) in
    rw (le-leb (length p) (length own) (omega arith), ok)
    (ap (λ (qs : List (List ℕ)). p ∷ qs) (all-expected ss g ps (drop (length p) own) (omega (arith, length-drop (length p) own))))

-- and nothing is missing between two arrivals
pub no_gaps : (so : Option ℕ) (ss : List Fate) → all_got ss ≡ true → number (told_as so) ≤ most_lost → AtMost most_lost (losses_after so ss)
no_gaps so [] g l = tt
no_gaps so (lost f ∷ ss) g l = absurd (false≢true g)
no_gaps so (got a f ∷ ss) g l = (l, no_gaps (some 0) ss g (omega arith))

pub nothing-lost : NothingLost
nothing-lost r v l g sent =
    let ss : List Fate = fates v r.last r.link r.frames in
    ap bare (demand_3 r v l (no_gaps none ss g (omega arith))).handed_out_lem ∙ all-expected ss g (r.sender.streams v l).packets _ sent
