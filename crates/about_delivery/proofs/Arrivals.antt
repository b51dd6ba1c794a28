-- Where every frame arrives: the packets are sent to the last octet, and which frame carries which.
use Prim.Native.Nat.{ℕ, zero, suc, ◌+◌, ◌-◌, ◌*◌, ◌/◌, ◌≤◌, ◌<◌}
use mathlib.Core.Path.{◌≡◌, refl, sym, ap, ◌∙◌}
use mathlib.Core.List.{List, [], ◌∷◌, ◌++◌, map}
use mathlib.Core.Bool.{Bool, true, false, cond}
use native.Mathlib.Omega.{arith}
use native.Mathlib.Nat.{div-eq_of_lt, div-eq-sub-div}
use lib.ListN.{length, get_or, take, drop, replicate, length-append, length-take, length-drop, length-replicate, get_or-replicate}
use lib.ListN.{get_or-append}
use lib.Seq.{get_or-append-add}
use lib.Dec.{eqb}
use borrow.Author.Tests.{le-leb, ne_eqb, eq-eqb}
use Rattle.rules.specs.Channel.{Piece, Handed}
use Rattle.rules.specs.Packets.{joined}
use Rattle.rules.proofs.Standing.{Order, up_to, past, order}
use Rattle.sender.specs.Stream.{heads, first_from, Choice, raw, next, next_count, frames_by}
use Rattle.sender.specs.Sender.{Framed, when, of_channel, piece_of}
use Rattle.sender.specs.Frames.{framed_from}
use Rattle.sender.specs.Calls.{taken}
use Rattle.sender.specs.declared.Common.{Common}
use Rattle.sender.proofs.Joining.{heads-length}
use Rattle.about_delivery.specs.Link.{Fate, got, Passing, Strays, arrives, fates}
use Rattle.about_delivery.specs.Expected.{piece, all_got, arrival_of, nowhere, carries, owners, arrived, expected_from}
use Rattle.about_delivery.proofs.Facts.{nil-cons, drop_suc, drop_get}
use Rattle.about_delivery.proofs.NothingLost.{got-take, got-drop}
use Rattle.about_delivery.proofs.OneChannel.{AllShort}
use Rattle.about_delivery.specs.Returned.{arrivals_of, all_back}

-- ---- the link

abbrev pub all_arrive : List Framed → List Passing
all_arrive [] = []
all_arrive (f ∷ fs) = arrives ∷ all_arrive fs

-- nothing else comes
pub no_strays : (t : ℕ) (fs : List Framed) → Strays t (all_arrive fs)
no_strays t [] = tt
no_strays t (f ∷ fs) = no_strays t fs

got-when : (b : Bool) (a : ℕ) (p : Piece) (ss : List Fate) → all_got ss ≡ true → all_got (when b (got a p) ++ ss) ≡ true
got-when true a p ss g = g
got-when false a p ss g = g

pub all-got : (v last : ℕ) (fs : List Framed) → all_got (fates v last (all_arrive fs) fs) ≡ true
all-got v last [] = refl
all-got v last (f ∷ fs) = got-when (of_channel v f) (last + 1) (piece_of f) (fates v (last + 1) (all_arrive fs) fs) (all-got v (last + 1) fs)

-- ---- all is sent

-- a place found is one of them, or 255
not_raw : (b : List Bool) (i : ℕ) → i + length b ≤ 254 → eqb (first_from i b) 254 ≡ false
not_raw [] i h = refl
not_raw (true ∷ b) i h = ne_eqb i 254 (λ e. omega arith)
not_raw (false ∷ b) i h = not_raw b (suc i) (omega arith)

-- what a frame of n of the packets' octets from o on carries
abbrev portion : List (List ℕ) → ℕ → ℕ → ℕ → Piece
portion ps o c n = record { count = c; pointer = first_from 0 (take n (drop o (heads ps))); octets = take n (drop o (joined ps)) }

carried : (ps : List (List ℕ)) (o c n : ℕ) → length (take n (drop o (joined ps))) ≤ 251 → carries (portion ps o c n) ≡ length
    (take n (drop o (joined ps)))
carried ps o c n h =
    let same : length (take n (drop o (heads ps))) ≡ length (take n (drop o (joined ps))) =
    simp (length-take, length-drop) (omega (arith, heads-length ps)) in
    rw (not_raw (take n (drop o (heads ps))) 0 (omega arith))

pub all_owned : (ps : List (List ℕ)) (ss : List Fate) (cs : List Choice) (o c k : ℕ) → map piece ss ≡ frames_by ps o c cs → AllShort
    (map piece ss)
    → length (joined ps) - o ≤ taken cs → length (joined ps) - o ≤ length (owners k ss)
all_owned ps [] [] o c k e s h = h
all_owned ps [] (raw xs ∷ cs) o c k e s h = absurd (nil-cons e)
all_owned ps [] (next n ∷ cs) o c k e s h = absurd (nil-cons e)
all_owned ps (f ∷ ss) [] o c k e s h = absurd (nil-cons (sym e))
all_owned ps (f ∷ ss) (raw xs ∷ cs) o c k e s h =
    let here : piece f ≡ record { count = c; pointer = 254; octets = xs } = cc in
    let rest : map piece ss ≡ frames_by ps o (next_count c) cs = cc in
    rw here (all_owned ps ss cs o (next_count c) (suc k) rest s.1 h)
all_owned ps (f ∷ ss) (next n ∷ cs) o c k e s h =
    let here : piece f ≡ portion ps o c n = cc in
    let rest : map piece ss ≡ frames_by ps (o + n) (next_count c) cs = cc in
    let few : length (take n (drop o (joined ps))) ≤ 251 = omega (arith, s.0, ap (λ (p : Piece). length p.octets) here) in
    let size : length (take n (drop o (joined ps))) ≤ 251 = few in
    let m : ℕ = carries (piece f) in
    let is : m ≡ length (take n (drop o (joined ps))) = ap carries here ∙ carried ps o c n few in
    omega (
      arith,
      is,
      length-take n (drop o (joined ps)),
      length-drop o (joined ps),
      length-append (replicate m k) (owners (suc k) ss),
      length-replicate m k,
      all_owned ps ss cs (o + n) (next_count c) (suc k) rest s.1 (omega arith),
    )

-- ---- which frame carries which octet

stamps : List Fate → List ℕ
stamps [] = []
stamps (s ∷ ss) = replicate (carries (piece s)) (arrival_of s) ++ stamps ss

abbrev pub stamp_in : List Fate → ℕ → ℕ
stamp_in ss k = arrival_of (get_or ss k nowhere)

map_replicate : (f : ℕ → ℕ) (n k : ℕ) → map f (replicate n k) ≡ replicate n (f k)
map_replicate f zero k = refl
map_replicate f (suc n) k = ap (λ (l : List ℕ). f k ∷ l) (map_replicate f n k)

map-append : (f : ℕ → ℕ) (xs ys : List ℕ) → map f (xs ++ ys) ≡ map f xs ++ map f ys
map-append f [] ys = refl
map-append f (x ∷ xs) ys = ap (λ (l : List ℕ). f x ∷ l) (map-append f xs ys)

owners_stamps : (all ss : List Fate) (k : ℕ) → drop k all ≡ ss → map (stamp_in all) (owners k ss) ≡ stamps ss
unfolding stamps
owners_stamps all [] k e = refl
owners_stamps all (s ∷ ss) k e =
    map-append (stamp_in all) (replicate (carries (piece s)) k) (owners (suc k) ss)
    ∙ ap (λ (l : List ℕ). l ++ map (stamp_in all) (owners (suc k) ss))
    (map_replicate (stamp_in all) (carries (piece s)) k ∙ ap (λ (f : Fate). replicate (carries (piece s)) (arrival_of f))
    (drop_get all k s ss e))
    ∙ ap (λ (l : List ℕ). replicate (carries (piece s)) (arrival_of s) ++ l) (owners_stamps all ss (suc k) (drop_suc all k s ss e))

stamps_when : (b : Bool) (a : ℕ) (p : Piece) (ss : List Fate) → stamps (when b (got a p) ++ ss) ≡ cond b
    (replicate (carries p) a) [] ++ stamps ss
unfolding stamps
stamps_when true a p ss = refl
stamps_when false a p ss = refl

stamps_are : (v last : ℕ) (fs : List Framed) → stamps (fates v last (all_arrive fs) fs) ≡ arrivals_of v last fs
unfolding stamps
stamps_are v last [] = refl
stamps_are v last (f ∷ fs) =
    stamps_when (of_channel v f) (last + 1) (piece_of f) (fates v (last + 1) (all_arrive fs) fs)
    ∙ ap (λ (l : List ℕ). cond (of_channel v f) (replicate (carries (piece_of f)) (last + 1)) [] ++ l) (stamps_are v (last + 1) fs)

pub owners-arrivals : (v last : ℕ) (fs : List Framed)
    → map (stamp_in (fates v last (all_arrive fs) fs)) (owners 0 (fates v last (all_arrive fs) fs)) ≡ arrivals_of v last fs
owners-arrivals v last fs = owners_stamps (fates v last (all_arrive fs) fs) (fates v last (all_arrive fs) fs) 0 refl ∙ stamps_are v last fs

-- ---- the packets

get_d_map : (f : ℕ → ℕ) (l : List ℕ) (i : ℕ) → i < length l → get_or (map f l) i 0 ≡ f (get_or l i 0)
get_d_map f [] i h = absurd (omega arith)
get_d_map f (x ∷ l) zero h = refl
get_d_map f (x ∷ l) (suc i) h = get_d_map f l i (omega arith)

drop-map : (f : ℕ → ℕ) (n : ℕ) (l : List ℕ) → drop n (map f l) ≡ map f (drop n l)
drop-map f zero l = refl
drop-map f (suc n) [] = refl
drop-map f (suc n) (x ∷ l) = drop-map f n l

-- every packet has an octet
abbrev pub Some : List (List ℕ) → Type 0
Some [] = Unit {0}
Some (p ∷ ps) = (0 < length p) × Some ps

pub expected-back : (ss : List Fate) → all_got ss ≡ true → (ps : List (List ℕ)) (own : List ℕ) → Some ps → length (joined ps) ≤ length own
    → expected_from ss ps own ≡ all_back ps (map (stamp_in ss) own)
expected-back ss g [] own begun l = refl
expected-back ss g (p ∷ ps) own begun l =
    let sum : length (p ++ joined ps) ≡ length p + length (joined ps) = length-append p (joined ps) in
    let j : ℕ = get_or own (length p - 1) 0 in
    let ok : arrived ss (get_or own 0 0) j ≡ true = got-drop (get_or own 0 0) (take (suc j) ss) (got-take (suc j) ss g) in
    let first : get_or (map (stamp_in ss) own) 0 0 ≡ stamp_in ss (get_or own 0 0) = get_d_map (stamp_in ss) own 0 (omega (arith, begun.0)) in
    let last : get_or (map (stamp_in ss) own) (length p - 1) 0 ≡ stamp_in ss j = get_d_map (stamp_in ss) own (length p - 1)
    (omega (arith, begun.0)) in
    let rest : expected_from ss ps (drop (length p) own) ≡ all_back ps (map (stamp_in ss) (drop (length p) own)) =
    expected-back ss g ps (drop (length p) own) begun.1 (omega (arith, length-drop (length p) own)) in
    rw (le-leb (length p) (length own) (omega arith), ok, first, last, drop-map (stamp_in ss) (length p) own)
    (ap (λ (l : List Handed). record { first = stamp_in ss (get_or own 0 0); arrival = stamp_in ss j; packet = p } ∷ l) rest)

-- ---- one call of `send`: frames of one size, and a last one

arrivals-framed : (c : Common) (time : List ℕ) (last m : ℕ) (p : Piece) (ps : List Piece)
    → arrivals_of c.channel last (framed_from c time m (p ∷ ps))
    ≡ replicate (carries p) (last + 1) ++ arrivals_of c.channel (last + 1) (framed_from c time (next_count m) ps)
arrivals-framed c time last m p ps = rw (eq-eqb c.channel c.channel refl)

module _ (c : Common) (time : List ℕ) (ps : List (List ℕ)) (size : ℕ) (least : 0 < size) (few : size ≤ 251) where
  abbrev arrivals : ℕ → ℕ → ℕ → ℕ → List Choice → List ℕ
  arrivals last m o n cs = arrivals_of c.channel last (framed_from c time m (frames_by ps o n cs))

  pub by_size : (j r last m o n i : ℕ) → r ≤ size → o + (j * size + r) ≤ length (joined ps) → i < j * size + r
      → get_or (arrivals last m o n (replicate j (next size) ++ (next r ∷ []))) i 0 ≡ last + 1 + i / size
  by_size zero r last m o n i h l k =
      let long : length (take r (drop o (joined ps))) ≡ r = simp (length-take, length-drop) (omega arith) in
      let is : carries (portion ps o n r) ≡ r = carried ps o n r (omega arith) ∙ long in
      let none : i / size ≡ 0 = div-eq_of_lt (omega arith) in
      let all : arrivals last m o n (next r ∷ []) ≡ replicate r (last + 1) ++ [] =
      arrivals-framed c time last m (portion ps o n r) [] ∙ ap (λ (q : ℕ). replicate q (last + 1) ++ []) is in
      ap (λ (x : List ℕ). get_or x i 0) all
      ∙ get_or-append (replicate r (last + 1)) [] 0 i (omega (arith, length-replicate r (last + 1)))
      ∙ get_or-replicate r i (last + 1) 0 (omega arith)
      ∙ (let z : last + 1 ≡ last + 1 + i / size = omega (arith, none) in z)
  by_size (suc j) r last m o n i h l k =
      let up : suc j * size ≡ size + j * size = omega arith in
      let long : length (take size (drop o (joined ps))) ≡ size = simp (length-take, length-drop) (omega arith) in
      let is : carries (portion ps o n size) ≡ size = carried ps o n size (omega arith) ∙ long in
      let rest : List ℕ = arrivals (last + 1) (next_count m) (o + size) (next_count n) (replicate j (next size) ++ (next r ∷ [])) in
      let all : arrivals last m o n (next size ∷ (replicate j (next size) ++ (next r ∷ []))) ≡ replicate size (last + 1) ++ rest =
      arrivals-framed c time last m (portion ps o n size) (frames_by ps (o + size) (next_count n) (replicate j (next size) ++ (next r ∷ [])))
      ∙ ap (λ (q : ℕ). replicate q (last + 1) ++ rest) is in
      ap (λ (x : List ℕ). get_or x i 0) all
      ∙ go (order size i) rest (λ q. by_size j r (last + 1) (next_count m) (o + size) (next_count n) (i - size) h (omega arith) q)
    where
      go : Order size i → (rest : List ℕ) → (i - size < j * size + r → get_or rest (i - size) 0 ≡ last + 1 + 1 + (i - size) / size)
          → get_or (replicate size (last + 1) ++ rest) i 0 ≡ last + 1 + i / size
      go (past q e) rest ih =
          let none : i / size ≡ 0 = div-eq_of_lt q in
          get_or-append (replicate size (last + 1)) rest 0 i (omega (arith, length-replicate size (last + 1)))
          ∙ get_or-replicate size i (last + 1) 0 q ∙ (let z : last + 1 ≡ last + 1 + i / size = omega (arith, none) in z)
      go (up_to q e) rest ih =
          let more : i / size ≡ (i - size) / size + 1 = div-eq-sub-div least q in
          let split : i ≡ length (replicate size (last + 1)) + (i - size) = omega (arith, length-replicate size (last + 1)) in
          ap (λ (x : ℕ). get_or (replicate size (last + 1) ++ rest) x 0) split
          ∙ get_or-append-add (replicate size (last + 1)) rest (i - size) 0
          ∙ ih (omega arith) ∙ (let z : last + 1 + 1 + (i - size) / size ≡ last + 1 + i / size = omega (arith, more) in z)
