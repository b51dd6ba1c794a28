-- The octet told of an address is the first that is wrong.
use Prim.Native.Nat.{ℕ, zero, suc, ◌+◌, ◌*◌, ◌/◌, ◌%◌, ◌≤◌, ◌<◌}
use native.Mathlib.Omega.{arith}
use mathlib.Core.Path.{◌≡◌, refl, sym, ap, subst, ◌∙◌}
use mathlib.Core.List.{List}
use mathlib.Core.Bool.{Bool, true, false, not, true≢false}
use mathlib.Core.Logic.{◌⊎◌, inl, inr, ⊎_elim}
use borrow.Author.Tests.{eq-eqb, lt-ltb, eqb-true, ltb-true, ltb-false, not-false}
use lib.ListN.{length, take, drop, replicate}
use lib.Seq.{length-take-le, get_or-take, ext_get_or, take_at}
use lib.Dec.{eqb, ltb}
use Rattle.octets.specs.Numbers.{at}
use Rattle.octets.specs.Pick.{pick}
use Rattle.octets.proofs.Choices.{picks}
use Rattle.octets.proofs.Runs.{run, run_is}
use Rattle.octets.proofs.Tests.{or_left, and_false}
use Rattle.frame.specs.Address.{sign, space, breaks, unfit, start_wrong, next_wrong, ssid_wrong, wrong_behind, first_wrong, address_octets}
use Rattle.frame.specs.Octet.{AllBlank, blank_callsign, StandsIn, TellsFirst}
use Rattle.frame.specs.declared.Callsign.{Callsign}
use Rattle.frame.specs.declared.Address.{Address}
use Rattle.frame.proofs.AddressTrip.{blank_of, later, twice, Until, until, octets-right, fit, right-is-written}

-- ---- octets that agree below a place

abbrev Agree : ℕ → List ℕ → List ℕ → Type 0
Agree n s z = (i : ℕ) → i < n → at s i ≡ at z i

agree : (n : ℕ) (s z : List ℕ) → take n s ≡ take n z → Agree n s z
agree n s z e i l = sym (get_or-take n s i 0 l) ∙ ap (λ (x : List ℕ). at x i) e ∙ get_or-take n z i 0 l

agreed : (n : ℕ) (s z : List ℕ) → n ≤ length s → n ≤ length z → Agree n s z → take n s ≡ take n z
agreed n s z l m h =
    let long = length-take-le n s l in
    ext_get_or 0 (take n s) (take n z) (long ∙ sym (length-take-le n z m))
    (λ i k.
    let below : i < n = subst (λ (x : ℕ). i < x) long k in
    get_or-take n s i 0 below ∙ h i below ∙ sym (get_or-take n z i 0 below))

-- ---- the octets before it: an address that has them, and spaces behind them

-- the character at place i, if it is below place k
abbrev character : ℕ → List ℕ → ℕ → ℕ
character k s i = pick (ltb i k) (at s i / 2) space

-- a character may stand behind the one before, a space always
joins : (k i x y : ℕ) → (i + 1 < k → breaks x y ≡ false) → breaks (pick (ltb i k) x space) (pick (ltb (i + 1) k) y space) ≡ false
unfolding pick
joins k i x y h = go (ltb (i + 1) k) refl
  where
    go : (b : Bool) → ltb (i + 1) k ≡ b → breaks (pick (ltb i k) x space) (pick (ltb (i + 1) k) y space) ≡ false
    go true e = let l : i + 1 < k = ltb-true _ _ e in rw (e, lt-ltb i k (omega arith)) (h l)
    go false e = rw e

-- behind a space only a space may stand
stays : (x y : ℕ) → breaks x y ≡ false → x ≡ space → y ≡ space
stays x y h e =
    ⊎_elim (λ p. eqb-true _ _ (not-false _ p)) (λ p. absurd (true≢false (sym (eq-eqb x space e) ∙ or_left (eqb x space) _ p)))
    (and_false (not (eqb y space)) _ h)

-- a character below place k, shifted, is its octet
shown : (k i x : ℕ) → i < k → x % 2 ≡ 0 → 2 * pick (ltb i k) (x / 2) space ≡ x
unfolding pick
shown k i x l e = rw (lt-ltb i k l) (twice x e)

module _ (s : List ℕ) (last k : ℕ) (l : k ≤ 6) (u : Until s last k) where
  c : ℕ → ℕ
  c i = character k s i

  one : breaks (c 0) (c 1) ≡ false
  unfolding c
  one = joins k 0 _ _ (λ p. (u.rest.0 p).follows)

  two : breaks (c 1) (c 2) ≡ false
  unfolding c
  two = joins k 1 _ _ (λ p. (u.rest.1.0 p).follows)

  three : breaks (c 2) (c 3) ≡ false
  unfolding c
  three = joins k 2 _ _ (λ p. (u.rest.1.1.0 p).follows)

  four : breaks (c 3) (c 4) ≡ false
  unfolding c
  four = joins k 3 _ _ (λ p. (u.rest.1.1.1.0 p).follows)

  five : breaks (c 4) (c 5) ≡ false
  unfolding c
  five = joins k 4 _ _ (λ p. (u.rest.1.1.1.1.0 p).follows)

  with_spaces : Address
  with_spaces = record { callsign = record { 0 = c 0; 1 = c 1; 2 = c 2; 3 = c 3; 4 = c 4; 5 = c 5 }; ssid = 0 }

  -- its first character is a space, and then all are, or a letter or digit
  filled : eqb (c 0) space ≡ false → sign (c 0) ≡ true
  unfolding c pick
  filled e = go (ltb 0 k) refl
    where
      go : (b : Bool) → ltb 0 k ≡ b → sign (c 0) ≡ true
      go true f =
          let x = at s 0 / 2 in
          let begun = u.first (ltb-true _ _ f) in
          let no : eqb x space ≡ false = ap (λ (b : Bool). eqb (pick b x space) space) (sym f) ∙ e in
          rw f (begun.filled (ap (λ (y : ℕ). eqb y 64) (sym (twice (at s 0) begun.even)) ∙ blank_of x ∙ no)).sign
      go false f = absurd (true≢false (sym (rw f) ∙ e))

  fits : (unfit with_spaces ≡ false) ⊎ (with_spaces.callsign ≡ blank_callsign)
  unfolding with_spaces
  fits = go (eqb (c 0) space) refl
    where
      go : (b : Bool) → eqb (c 0) space ≡ b → (unfit with_spaces ≡ false) ⊎ (with_spaces.callsign ≡ blank_callsign)
      go true e =
          let e₀ : c 0 ≡ space = eqb-true _ _ e in
          let e₁ : c 1 ≡ space = stays _ _ one e₀ in
          let e₂ : c 2 ≡ space = stays _ _ two e₁ in
          let e₃ : c 3 ≡ space = stays _ _ three e₂ in
          let e₄ : c 4 ≡ space = stays _ _ four e₃ in
          let e₅ : c 5 ≡ space = stays _ _ five e₄ in
          inr (simp (e₀, e₁, e₂, e₃, e₄, e₅))
      go false e = inl (simp (filled e, one, two, three, four, five))

  -- its octets below place k are those of s
  same : Agree k (address_octets with_spaces last) s
  unfolding c with_spaces
  same zero h = shown k 0 _ h (u.first h).even
  same (suc zero) h = shown k 1 _ h (u.rest.0 h).even
  same (suc (suc zero)) h = shown k 2 _ h (u.rest.1.0 h).even
  same (suc (suc (suc zero))) h = shown k 3 _ h (u.rest.1.1.0 h).even
  same (suc (suc (suc (suc zero)))) h = shown k 4 _ h (u.rest.1.1.1.0 h).even
  same (suc (suc (suc (suc (suc zero))))) h = shown k 5 _ h (u.rest.1.1.1.1.0 h).even
  same (suc (suc (suc (suc (suc (suc i)))))) h = absurd (omega arith)

  pub stands : length s ≡ 7 → StandsIn k s last
  stands n =
      record { address = with_spaces; fit = fits; octets = agreed k (address_octets with_spaces last) s (omega arith) (omega arith) same }

-- ---- the octet itself: no address has it behind them

-- a right address does not agree up to it
clashes : (s z : List ℕ) (last k i n : ℕ) → i + n ≤ 5 → k < 7 → Agree (k + 1) s z → 7 ≤ wrong_behind z last i n → wrong_behind s last i n ≡ k
    → ⊥
unfolding wrong_behind
clashes s z last k i zero l m g h =
    let p = later (eqb (at z 0) 64) 0 _ (omega arith) h in
    let q = later (ssid_wrong (at z 6) last) 6 7 (omega arith) p.1 in
    picks (λ (x : ℕ). x ≡ k → ⊥) (eqb (at s 0) 64) 0 _
    (λ b e. true≢false (sym b ∙ ap (λ (x : ℕ). eqb x 64) (g 0 (omega arith)) ∙ p.0))
    (λ b. picks (λ (x : ℕ). x ≡ k → ⊥) (ssid_wrong (at s 6) last) 6 7
    (λ b e. true≢false (sym b ∙ ap (λ (x : ℕ). ssid_wrong x last) (g 6 (omega arith)) ∙ q.0))
    (λ b e. omega arith))
clashes s z last k i (suc n) l m g h =
    let p = later (next_wrong (at z i) (at z (i + 1))) (i + 1) _ (omega arith) h in
    picks (λ (x : ℕ). x ≡ k → ⊥) (next_wrong (at s i) (at s (i + 1))) (i + 1) _
    (λ b e.
    true≢false
    (sym b ∙ ap (λ (x : ℕ). next_wrong x (at s (i + 1))) (g i (omega arith)) ∙ ap (next_wrong (at z i)) (g (i + 1) (omega arith)) ∙ p.0))
    (λ b. clashes s z last k (i + 1) n (omega arith) m g p.1)

not_right : (s z : List ℕ) (last : ℕ) → first_wrong s last < 7 → Agree (first_wrong s last + 1) s z → 7 ≤ first_wrong z last → ⊥
unfolding first_wrong
not_right s z last m g h =
    let k = first_wrong s last in
    let p = later (start_wrong (at z 0)) 0 _ (omega arith) h in
    picks (λ (x : ℕ). x ≡ k → ⊥) (start_wrong (at s 0)) 0 (wrong_behind s last 0 5)
    (λ b e. true≢false (sym b ∙ ap start_wrong (g 0 (omega arith)) ∙ p.0))
    (λ b. clashes s z last k 0 5 (omega arith) m g p.1) refl

-- nor does a blank callsign, but with another: behind a space only a space is right
abbrev Blanks : List ℕ → ℕ → ℕ → Type 0
Blanks s i zero = Unit {0}
Blanks s i (suc n) = (at s (i + 1) ≡ 64) × Blanks s (i + 1) n

next-blank : (x y : ℕ) → x ≡ 64 → next_wrong x y ≡ false → y ≡ 64
next-blank x y e h =
    ⊎_elim (λ p. eqb-true _ _ (not-false _ p)) (λ p. absurd (true≢false (sym (eq-eqb x 64 e) ∙ or_left (eqb x 64) _ p)))
    (and_false (not (eqb y 64)) _ h)

blanks : (s : List ℕ) (last k i n : ℕ) → i + n ≤ 5 → at s i ≡ 64 → ((j : ℕ) → j ≤ k → j < 6 → at s j ≡ 64) → wrong_behind s last i n ≡ k
    → Blanks s i n
unfolding wrong_behind
blanks s last k i zero l e g = λ w. tt
blanks s last k i (suc n) l e g =
    picks (λ (x : ℕ). x ≡ k → Blanks s i (suc n)) (next_wrong (at s i) (at s (i + 1))) (i + 1) _
    (λ b w.
    let y : at s (i + 1) ≡ 64 = g (i + 1) (omega arith) (omega arith) in
    absurd (true≢false (sym b ∙ rw y)))
    (λ b w.
    let y = next-blank (at s i) (at s (i + 1)) e b in
    (y, blanks s last k (i + 1) n (omega arith) y g w))

six : (s : List ℕ) → length s ≡ 7 → at s 0 ≡ 64 → Blanks s 0 5 → AllBlank s
six s n e b =
    let w : run 0 6 s ≡ replicate 6 64 = simp (e, b.0, b.1.0, b.1.1.0, b.1.1.1.0, b.1.1.1.1.0) in
    ap (take 6) (run_is 6 0 s (omega arith)) ∙ take_at (run 0 6 s) (drop 6 s) 6 refl ∙ w

not_blank : (s : List ℕ) (last : ℕ) → length s ≡ 7 → ((j : ℕ) → j ≤ first_wrong s last → j < 6 → at s j ≡ 64) → AllBlank s
unfolding first_wrong
not_blank s last n g =
    let k = first_wrong s last in
    let e : at s 0 ≡ 64 = g 0 (omega arith) (omega arith) in
    picks (λ (x : ℕ). x ≡ k → AllBlank s) (start_wrong (at s 0)) 0 (wrong_behind s last 0 5)
    (λ b w. absurd (true≢false (sym b ∙ rw e)))
    (λ b w. six s n e (blanks s last k 0 5 (omega arith) e g w)) refl

-- the octets of a blank callsign
blank-at : (last : ℕ) (a : Address) → a.callsign ≡ blank_callsign → (j : ℕ) → j < 6 → at (address_octets a last) j ≡ 64
blank-at last a e j l =
    ap (λ (c : Callsign). at (address_octets (record { callsign = c; ssid = a.ssid }) last) j) e ∙ spaces j l
  where
    spaces : (j : ℕ) → j < 6 → at (address_octets (record { callsign = blank_callsign; ssid = a.ssid }) last) j ≡ 64
    spaces zero l = refl
    spaces (suc zero) l = refl
    spaces (suc (suc zero)) l = refl
    spaces (suc (suc (suc zero))) l = refl
    spaces (suc (suc (suc (suc zero)))) l = refl
    spaces (suc (suc (suc (suc (suc zero))))) l = refl
    spaces (suc (suc (suc (suc (suc (suc i)))))) l = absurd (omega arith)

-- ---- the statement

blank-first : (s : List ℕ) (last : ℕ) → AllBlank s → first_wrong s last ≡ 0
unfolding first_wrong wrong_behind pick
blank-first s last b =
    let a = agree 6 s (replicate 6 64) b in
    rw (a 0 (omega arith), a 1 (omega arith), a 2 (omega arith), a 3 (omega arith), a 4 (omega arith), a 5 (omega arith))

before : (s : List ℕ) (last : ℕ) → length s ≡ 7 → last ≤ 1 → StandsIn (first_wrong s last) s last
before s last n low = go (ltb (first_wrong s last) 7) refl
  where
    go : (b : Bool) → ltb (first_wrong s last) 7 ≡ b → StandsIn (first_wrong s last) s last
    go true e =
        let m : first_wrong s last < 7 = ltb-true _ _ e in stands s last (first_wrong s last) (omega arith)
        (until s last (first_wrong s last) (omega arith)) n
    go false e =
        let w = (right-is-written s last n low).0 e in
        record { address = w.address; fit = inl w.fit; octets = ap (take (first_wrong s last)) w.octets }

wrong : (s : List ℕ) (last : ℕ) → length s ≡ 7 → last ≤ 1 → (AllBlank s → ⊥) → first_wrong s last < 7 → StandsIn
    (first_wrong s last + 1) s last → ⊥
wrong s last n low some m w =
    let z = address_octets w.address last in
    let a = agree (first_wrong s last + 1) s z (sym w.octets) in
    ⊎_elim
    (λ f. let k = fit w.address f in not_right s z last m a (ltb-false _ _ (octets-right w.address last k.callsign k.ssid low)))
    (λ f. some (not_blank s last n (λ j h l. a j (omega arith) ∙ blank-at last w.address f j l)))
    w.fit

pub tells_first : TellsFirst
tells_first s last n low = record { blank = blank-first s last; before = before s last n low; wrong = wrong s last n low }
