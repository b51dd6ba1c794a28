-- An address's octets and its fields undo one another.
use Prim.Native.Nat.{ℕ, zero, suc, ◌+◌, ◌*◌, ◌/◌, ◌%◌, ◌≤◌, ◌<◌}
use native.Mathlib.Omega.{arith}
use mathlib.Core.Path.{◌≡◌, refl, sym, ap, ◌∙◌}
use mathlib.Core.List.{List, [], ◌++◌}
use mathlib.Core.Bool.{Bool, true, false, not, ◌||◌, true≢false}
use mathlib.Core.Logic.{◌⊎◌, inl, inr, ⊎_elim}
use borrow.Author.Tests.{eq-eqb, ne_eqb, le-ltb, eqb-true, eqb-false, not-false, ltb-false}
use lib.ListN.{length, drop, drop_of_length-le}
use lib.Dec.{eqb, ltb}
use Rattle.octets.specs.Numbers.{at}
use Rattle.octets.specs.Pick.{pick}
use Rattle.octets.proofs.Choices.{passed}
use Rattle.octets.proofs.Runs.{run, run_is}
use Rattle.octets.proofs.Tests.{facts, or_left, or_right, and_false}
use Rattle.frame.specs.Address.{sign, space, breaks, callsign_wrong, unfit, shifted_sign, start_wrong, next_wrong, ssid_wrong, wrong_behind}
use Rattle.frame.specs.Address.{first_wrong, address_wrong, callsign_of, address_of, address_octets}
use Rattle.frame.specs.Back.{RightIsWritten}
use Rattle.frame.specs.declared.Address.{Address}

half : (x : ℕ) → 2 * x / 2 ≡ x
half x = omega arith

even : (x : ℕ) → 2 * x % 2 ≡ 0
even x = omega arith

pub twice : (x : ℕ) → x % 2 ≡ 0 → 2 * (x / 2) ≡ x
twice x h = omega arith

-- a character is a space if its octet is one, shifted
blank_as : (x : ℕ) (b : Bool) → eqb x space ≡ b → eqb (2 * x) 64 ≡ b
blank_as x true h = eq-eqb (2 * x) 64 (omega (arith, eqb-true x space h))
blank_as x false h = ne_eqb (2 * x) 64 (λ e. eqb-false x space h (omega arith))

pub blank_of : (x : ℕ) → eqb (2 * x) 64 ≡ eqb x space
blank_of x = blank_as x _ refl

-- an octet is wrong behind another where its character may not stand
next_of : (before x : ℕ) → next_wrong (2 * before) (2 * x) ≡ breaks before x
next_of before x = simp (blank_of, half, even)

-- a letter or digit is no space
no_space : (x : ℕ) → sign x ≡ true → eqb (2 * x) 64 ≡ false
no_space x h = blank_as x false (ne_eqb x space (λ e. true≢false (sym h ∙ ap sign e)))

-- ---- what is written is right, and reads back

-- the SSID octet's parts; the last bit is 0 or 1, which omega is told case by case
record Parts (n last : ℕ) : Type 0 where
  top : (96 + 2 * n + last) / 32 ≡ 3
  low : (96 + 2 * n + last) % 2 ≡ last
  ssid : (96 + 2 * n + last) / 2 % 16 ≡ n

parts : (n last : ℕ) → n ≤ 15 → last ≤ 1 → Parts n last
parts n zero h l = record { top = omega arith; low = omega arith; ssid = omega arith }
parts n (suc zero) h l = record { top = omega arith; low = omega arith; ssid = omega arith }
parts n (suc (suc m)) h l = absurd (omega arith)

six : (a b c d e f : Bool) → (a || b || c || d || e || f) ≡ false → (a ≡ false) × (b ≡ false) × (c ≡ false) × (d ≡ false) × (e ≡ false) ×
    (f ≡ false)
six a b c d e f h = search facts

module _ (a : Address) (last : ℕ) (callsign : callsign_wrong a.callsign ≡ false) (ssid : a.ssid ≤ 15) (low : last ≤ 1) where
  pub octets-right : address_wrong (address_octets a last) last ≡ false
  unfolding first_wrong wrong_behind
  octets-right =
      let k = parts a.ssid last ssid low in
      let c = a.callsign in
      let r = six (not (sign c.0)) (breaks c.0 c.1) (breaks c.1 c.2) (breaks c.2 c.3) (breaks c.3 c.4)
      (breaks c.4 c.5) callsign in
      let first : sign c.0 ≡ true = not-false _ r.0 in
      let filled = no_space c.0 first in
      let start : start_wrong (2 * c.0) ≡ false = simp (filled, half, even, first) in
      let end : ssid_wrong (96 + 2 * a.ssid + last) last ≡ false = simp (k.top, k.low, eq-eqb last last refl) in
      ap (λ (x : ℕ). ltb x 7)
      (sym
      (passed _ _ _ _ start
      (passed _ _ _ _ (next_of c.0 c.1 ∙ r.1)
      (passed _ _ _ _ (next_of c.1 c.2 ∙ r.2)
      (passed _ _ _ _ (next_of c.2 c.3 ∙ r.3)
      (passed _ _ _ _ (next_of c.3 c.4 ∙ r.4)
      (passed _ _ _ _ (next_of c.4 c.5 ∙ r.5)
      (passed _ _ _ _ filled (passed _ _ _ _ end refl)))))))))

  pub octets-back : address_of (address_octets a last) ≡ a
  octets-back = let k = parts a.ssid last ssid low in simp (half, k.ssid)

-- ---- what is accepted

-- a choice that came to n or more was none of a smaller number
pub later : (b : Bool) (k rest : ℕ) {n : ℕ} → k < n → n ≤ pick b k rest → (b ≡ false) × (n ≤ rest)
unfolding pick
later true k rest l h = absurd (omega arith)
later false k rest l h = (refl, h)

-- the octet of a letter or digit
pub record Signed (x : ℕ) : Type 0 where
  pub even : x % 2 ≡ 0
  pub sign : sign (x / 2) ≡ true

signed : (x : ℕ) → not (shifted_sign x) ≡ false → Signed x
signed x h = search facts

-- a space and a letter or digit have the low bit 0
even_of : (x : ℕ) → (not (eqb x 64) ≡ false) ⊎ (not (shifted_sign x) ≡ false) → x % 2 ≡ 0
even_of x h = ⊎_elim (λ p. omega (arith, eqb-true x 64 (not-false _ p))) (λ p. (signed x p).even) h

-- a first octet that isn't wrong
pub record Start (x : ℕ) : Type 0 where
  pub even : x % 2 ≡ 0
  pub filled : eqb x 64 ≡ false → Signed x

pub start : (x : ℕ) → start_wrong x ≡ false → Start x
start x h =
    let p = and_false (not (eqb x 64)) _ h in
    record { even = even_of x p; filled = λ e. ⊎_elim (λ q. absurd (true≢false (sym (not-false _ q) ∙ e))) (signed x) p }

-- a later character's octet that isn't wrong
pub record Next (before x : ℕ) : Type 0 where
  pub even : x % 2 ≡ 0
  pub follows : breaks (before / 2) (x / 2) ≡ false

next : (before x : ℕ) → before % 2 ≡ 0 → next_wrong before x ≡ false → Next before x
next before x b h =
    let e = even_of x (⊎_elim inl (λ p. inr (or_right (eqb before 64) _ p)) (and_false (not (eqb x 64)) _ h)) in
    record { even = e; follows = sym (next_of (before / 2) (x / 2)) ∙ simp (twice before b, twice x e) h }

ssid_of : (x last : ℕ) → ssid_wrong x last ≡ false → 96 + 2 * (x / 2 % 16) + last ≡ x
ssid_of x last h =
    let top : x / 32 ≡ 3 = eqb-true _ _ (not-false _ (or_left (not (eqb (x / 32) 3)) _ h)) in
    let low : x % 2 ≡ last = eqb-true _ _ (not-false _ (or_right (not (eqb (x / 32) 3)) _ h)) in
    omega arith

-- the octets behind place i, as far as none below place k is wrong
abbrev pub Rights : List ℕ → ℕ → ℕ → ℕ → ℕ → Type 0
Rights s last k i zero = (i < k → eqb (at s 0) 64 ≡ false) × (6 < k → ssid_wrong (at s 6) last ≡ false)
Rights s last k i (suc n) = (i + 1 < k → Next (at s i) (at s (i + 1))) × Rights s last k (i + 1) n

rights : (s : List ℕ) (last k i n : ℕ) → i + n ≤ 5 → (i < k → at s i % 2 ≡ 0) → (i < k → k ≤ wrong_behind s last i n) → Rights s last k i n
unfolding wrong_behind
rights s last k i zero l e h = (
  (λ p. (later (eqb (at s 0) 64) 0 _ (omega arith) (h p)).0),
  (λ p. (later (ssid_wrong (at s 6) last) 6 7 p (later (eqb (at s 0) 64) 0 _ (omega arith) (h (omega arith))).1).0),
)
rights s last k i (suc n) l e h =
    let rest : i + 1 < k → _ = λ p. later (next_wrong (at s i) (at s (i + 1))) _ _ p (h (omega arith)) in
    let here : i + 1 < k → Next (at s i) (at s (i + 1)) = λ p. next (at s i) (at s (i + 1)) (e (omega arith)) (rest p).0 in
    (here, rights s last k (i + 1) n (omega arith) (λ p. (here p).even) (λ p. (rest p).1))

-- of an address: the octets before place k, none of which is wrong
pub record Until (s : List ℕ) (last k : ℕ) : Type 0 where
  pub first : 0 < k → Start (at s 0)
  pub rest : Rights s last k 0 5

pub until : (s : List ℕ) (last k : ℕ) → k ≤ first_wrong s last → Until s last k
unfolding first_wrong
until s last k h =
    let p : 0 < k → _ = λ l. later (start_wrong (at s 0)) 0 _ l h in
    let first : 0 < k → Start (at s 0) = λ l. start (at s 0) (p l).0 in
    record { first = first; rest = rights s last k 0 5 (omega arith) (λ l. (first l).even) (λ l. (p l).1) }

module _ (s : List ℕ) (last : ℕ) (h : address_wrong s last ≡ false) where
  record Accepted : Type 0 where
    first : Signed (at s 0)
    rest : Rights s last 7 0 5

  accepted : Accepted
  accepted =
      let u = until s last 7 (ltb-false _ _ h) in
      record { first = (u.first (omega arith)).filled (u.rest.1.1.1.1.1.0 (omega arith)); rest = u.rest }

  -- the callsign of a right address is right
  pub callsign_right : callsign_wrong (callsign_of s) ≡ false
  callsign_right =
      let r = accepted.rest in
      simp (
        accepted.first.sign,
        (r.0 (omega arith)).follows,
        (r.1.0 (omega arith)).follows,
        (r.1.1.0 (omega arith)).follows,
        (r.1.1.1.0 (omega arith)).follows,
        (r.1.1.1.1.0 (omega arith)).follows,
      )

  -- the octets of what stands in seven right octets are those
  pub octets_of_lem : length s ≡ 7 → address_octets (address_of s) last ≡ s
  octets_of_lem n =
      let r = accepted.rest in
      let z = ssid_of (at s 6) last (r.1.1.1.1.1.1 (omega arith)) in
      let end : drop 7 s ≡ [] = drop_of_length-le s {i = 7} (omega arith) in
      let same : address_octets (address_of s) last ≡ run 0 7 s =
      simp (
        twice (at s 0) accepted.first.even,
        twice (at s 1) (r.0 (omega arith)).even,
        twice (at s 2) (r.1.0 (omega arith)).even,
        twice (at s 3) (r.1.1.0 (omega arith)).even,
        twice (at s 4) (r.1.1.1.0 (omega arith)).even,
        twice (at s 5) (r.1.1.1.1.0 (omega arith)).even,
        z,
      ) in
      same ∙ sym (run_is 7 0 s (omega arith) ∙ ap (λ (x : List ℕ). run 0 7 s ++ x) end)

-- an address that is fit, as facts
pub record Fit (a : Address) : Type 0 where
  pub ssid : a.ssid ≤ 15
  pub callsign : callsign_wrong a.callsign ≡ false

pub fit : (a : Address) → unfit a ≡ false → Fit a
fit a h = record { ssid = ltb-false 15 _ (or_left (ltb 15 a.ssid) _ h); callsign = or_right (ltb 15 a.ssid) _ h }

-- right octets are those of the address that stands in them, and the writer's octets are right
pub right-is-written : RightIsWritten
right-is-written s last n low = (
  (λ h.
      let few : at s 6 / 2 % 16 ≤ 15 = omega arith in
      record { address = address_of s; fit = simp (le-ltb _ _ few, callsign_right s last h); octets = octets_of_lem s last h n }),
  (λ w.
      let k = fit w.address w.fit in
      ap (λ (x : List ℕ). address_wrong x last) (sym w.octets) ∙ octets-right w.address last k.callsign k.ssid low),
)
