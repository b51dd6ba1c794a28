-- Where packets start: found along their lengths, it is where the rules' heads stand.
use Rattle.std.proofs.Common.{◌≡◌, ℕ, zero, suc, ◌+◌, ◌-◌, ◌<◌, ◌≤◌, Bool, true, false, cond, ltb, List, [], ◌∷◌, ◌++◌, length, get_or, take, drop, replicate, sym, refl, ap, ◌∙◌, zero-add, arith, length-append, length-drop, length-take-le}
use lib.ListN.{length-replicate}
use lib.Dec.{leb-zero, leb-suc-zero, leb-suc-suc}
use Rattle.rules.specs.Channel.{pointer_to}
use Rattle.rules.specs.Packets.{AllGood, cut, total}
use Rattle.rules.proofs.Standing.{Order, up_to, past, order}
use Rattle.rules.proofs.Lengths.{total-front, total-split, total-all, total-next}
use Rattle.sender.specs.Stream.{heads, first_from}
use Rattle.sender.specs.Asked.{Begun, First, Within}

-- ---- the search along the lengths

module _ {ns : List ℕ} {at i start : ℕ} (b : Begun ns at i start) (w : Within ns at) (l : start < at) where
  pub begun-inside : i < length ns
  begun-inside = go (order (length ns) i)
    where
      go : Order (length ns) i → i < length ns
      go (up_to h e) = absurd (omega (arith, b.starts, total-all ns i h, w.within))
      go (past h e) = h

  pub begun-fits : start + get_or ns i 0 ≤ 18446744073709551615
  begun-fits = omega (arith, b.starts, total-next ns i begun-inside, total-front (i + 1) ns, w.counted)

  pub begun-next : Begun ns at (i + 1) (start + get_or ns i 0)
  begun-next =
      let back : i + 1 - 1 ≡ i = omega arith in
      record {
        inside = omega (arith, begun-inside);
        starts = omega (arith, b.starts, total-next ns i begun-inside);
        before = λ h. rw back (omega (arith, b.starts));
      }

pub found_first : {ns : List ℕ} {at i start : ℕ} → Begun ns at i start → at ≤ start → First ns at i start
found_first b l = record { begun = b; behind = l }

-- the first packet starts at 0
pub first-zero : (ns : List ℕ) → First ns 0 0 0
first-zero ns = record { begun = record { inside = omega arith; starts = refl; before = λ h. absurd (omega arith) }; behind = omega arith }

-- a packet whose predecessor started before a place did so before every later one
pub begun-later : {ns : List ℕ} {at i start : ℕ} (n : ℕ) → First ns at i start → Begun ns (at + n) i start
begun-later {ns} {at} {i} n f =
    record {
      inside = f.begun.inside;
      starts = f.begun.starts;
      before = λ h. (let k : total (take (i - 1) ns) < at = f.begun.before h in omega arith);
    }

-- ---- where the heads stand

-- every length is above 0
abbrev pub Some : List ℕ → Type 0
Some [] = Unit {0}
Some (n ∷ ns) = (0 < n) × Some ns

some-drop : (i : ℕ) (ns : List ℕ) → Some ns → Some (drop i ns)
some-drop zero ns s = s
some-drop (suc i) [] s = s
some-drop (suc i) (n ∷ ns) s = some-drop i ns s.1

-- heads by lengths
abbrev pub starts : List ℕ → List Bool
starts [] = []
starts (zero ∷ ns) = starts ns
starts (suc n ∷ ns) = true ∷ replicate n false ++ starts ns

-- a packet of n octets
heads-one : (p : List ℕ) (ps : List (List ℕ)) (n : ℕ) → length p ≡ suc n → heads (p ∷ ps) ≡ true ∷ replicate n false ++ heads ps
heads-one [] ps n e = absurd (omega arith)
heads-one (x ∷ p) ps n e = let k : length p ≡ n = omega arith in rw k

pub heads_are : (d ns : List ℕ) → total ns ≡ length d → Some ns → heads (cut d ns) ≡ starts ns
heads_are d [] e s = refl
heads_are d (zero ∷ ns) e s = absurd (omega (arith, s.0))
heads_are d (suc n ∷ ns) e s =
    heads-one (take (suc n) d) (cut (drop (suc n) d) ns) n (length-take-le (suc n) d (omega arith))
    ∙ ap (λ (b : List Bool). true ∷ replicate n false ++ b) (heads_are (drop (suc n) d) ns (omega (arith, length-drop (suc n) d)) s.1)

pub starts-length : (ns : List ℕ) → length (starts ns) ≡ total ns
starts-length [] = refl
starts-length (zero ∷ ns) = omega (arith, starts-length ns)
starts-length (suc n ∷ ns) = omega (arith, length-append (replicate n false) (starts ns), length-replicate n false, starts-length ns)

-- inside the first packet
drop_false : (a n : ℕ) (b : List Bool) → a ≤ n → drop a (replicate n false ++ b) ≡ replicate (n - a) false ++ b
drop_false zero n b h = let z : n - 0 ≡ n = omega arith in rw z
drop_false (suc a) zero b h = absurd (omega arith)
drop_false (suc a) (suc n) b h = let z : suc n - suc a ≡ n - a = omega arith in rw z (drop_false a n b (omega arith))

drop_past : (a n : ℕ) (b : List Bool) → drop (n + a) (replicate n false ++ b) ≡ drop a b
drop_past a zero b = let z : 0 + a ≡ a = omega arith in rw z
drop_past a (suc n) b = let z : suc n + a ≡ suc (n + a) = omega arith in rw z (drop_past a n b)

-- from a place on: nothing starts up to the first packet that starts there or behind
pub starts_from : (ns : List ℕ) (i at : ℕ) → Some ns → i ≤ length ns → at ≤ total (take i ns) → (0 < i → total (take (i - 1) ns) < at)
    → drop at (starts ns) ≡ replicate (total (take i ns) - at) false ++ starts (drop i ns)
starts_from ns zero zero s h l b = refl
starts_from ns zero (suc at) s h l b = absurd (omega arith)
starts_from [] (suc i) at s h l b = absurd (omega arith)
starts_from (zero ∷ ns) (suc i) at s h l b = absurd (omega (arith, s.0))
starts_from (suc n ∷ ns) (suc i) zero s h l b = absurd (omega (arith, b (omega arith)))
starts_from (suc n ∷ ns) (suc zero) (suc a) s h l b =
    let z : suc n + 0 - suc a ≡ n - a = omega arith in
    rw z (drop_false a n (starts ns) (omega arith))
starts_from (suc n ∷ ns) (suc (suc i)) (suc a) s h l b =
    let back : suc (suc i) - 1 ≡ suc i = omega arith in
    let far : suc n + total (take i ns) < suc a = rw back at (b (omega arith)) in
    let m : ℕ = a - n in
    let split : a ≡ n + m = omega arith in
    let less : suc n + total (take (suc i) ns) - suc a ≡ total (take (suc i) ns) - m = omega arith in
    let down : suc i - 1 ≡ i = omega arith in
    ap (λ (k : ℕ). drop k (replicate n false ++ starts ns)) split ∙ drop_past m n (starts ns)
    ∙ starts_from ns (suc i) m s.1 (omega arith) (omega arith) (λ k. rw down (omega arith))
    ∙ ap (λ (k : ℕ). replicate k false ++ starts (drop (suc i) ns)) (sym less)

-- ---- the pointer

some_good : (d ns : List ℕ) → total ns ≡ length d → AllGood (cut d ns) → Some ns
some_good d [] e g = tt
some_good d (n ∷ ns) e g =
    (omega (arith, g.0.least, length-take-le n d (omega arith)), some_good (drop n d) ns (omega (arith, length-drop n d)) g.1)

first_of : (n j k : ℕ) (ns : List ℕ) → Some ns → n ≤ k + total ns
    → first_from j (take n (replicate k false ++ starts ns)) ≡ cond (ltb k n) (j + k) 255
first_of zero j k ns s h = rw leb-suc-zero
first_of (suc n) j (suc k) ns s h =
    let move : suc j + k ≡ j + suc k = omega arith in
    first_of n (suc j) k ns s (omega arith) ∙ rw (leb-suc-suc, move)
first_of (suc n) j zero [] s h = absurd (omega arith)
first_of (suc n) j zero (zero ∷ ns) s h = absurd (omega (arith, s.0))
first_of (suc n) j zero (suc m ∷ ns) s h =
    let move : j + 0 ≡ j = omega arith in
    rw (leb-suc-suc, leb-zero, move)

-- the pointer of the frame of n octets from `at` on
pub pointer_is : (d ns : List ℕ) (at n : ℕ) {i start : ℕ} → total ns ≡ length d → AllGood (cut d ns) → at + n ≤ length d
    → First ns at i start
    → pointer_to (start - at) n ≡ first_from 0 (take n (drop at (heads (cut d ns))))
pointer_is d ns at n {i} {start} e g h f =
    let s : Some ns = some_good d ns e g in
    let k : total (take i ns) - at ≡ start - at = ap (λ (x : ℕ). x - at) (sym f.begun.starts) in
    let left : total ns ≡ total (take i ns) + total (drop i ns) = total-split ns i in
    sym (ap (λ (b : List Bool). first_from 0 (take n (drop at b))) (heads_are d ns e s)
    ∙ ap (λ (b : List Bool). first_from 0 (take n b))
    (starts_from ns i at s f.begun.inside (omega (arith, f.begun.starts, f.behind)) f.begun.before)
    ∙ first_of n 0 (total (take i ns) - at) (drop i ns) (some-drop i ns s) (omega arith)
    ∙ rw (k, zero-add))
