-- Laws of the frames that a link loses, and of those that arrive.
use Rattle.std.proofs.Common.{◌≡◌, ℕ, suc, ◌+◌, ◌-◌, ◌%◌, ◌^◌, ◌<◌, ◌≤◌, Bool, true, false, cond, eqb, ltb, List, [], ◌∷◌, length, drop, set, sym}
use Rattle.std.proofs.Common.{refl, ap, ◌∙◌, add-zero, zero-add, add-one, arith, get_or-drop, drop-drop}
use Rattle.std.specs.Prelude.{count_by}
use Rattle.std.proofs.lemmas.List.Recursion.{is_count_by}
use Rattle.octets.specs.Pick.{pick}
use lib.ListN.{get_or-eq_default}
use lib.Seq.{set_out}
use Rattle.octets.specs.Numbers.{at, four_of}
use Rattle.octets.proofs.Choices.{picked, passed}
use Rattle.transmit_recording.specs.Recording.{lost_sign, lost_at, lost_mark, marked, losing, arrivals_of, arrivals, head_of}

pub no_sign : (link : List ℕ) (i : ℕ) → length link ≤ i → false ≡ lost_at link i
no_sign link i h = sym (ap (λ (x : ℕ). eqb x lost_sign) (get_or-eq_default link 0 h))

module _ (frames : List ℕ) (i : ℕ) (lost : Bool) where
  pub marks : lost ≡ true → {n : ℕ} → n ≡ (at frames i + lost_mark) % 2 ^ 16 → set frames i n ≡ marked frames i lost
  unfolding marked
  marks h e = ap (set frames i) e ∙ picked _ _ _ h

  pub marks_none : lost ≡ true → length frames ≤ i → frames ≡ marked frames i lost
  unfolding marked
  marks_none h l = sym (set_out frames i _ l) ∙ picked _ _ _ h

  pub arrives : lost ≡ false → frames ≡ marked frames i lost
  unfolding marked
  arrives h = passed _ _ _ _ h refl

-- ---- the frames before index i have had their signs

pub record Signed (link frames : List ℕ) (from to : ℕ) (now : List ℕ) (i : ℕ) : Type 0 where
  pub upto : from ≤ i
  pub rest : losing (to - from) link frames from ≡ losing (to - i) (drop (i - from) link) now i

pub begun : (link frames : List ℕ) (from to : ℕ) → Signed link frames from to frames from
begun link frames from to =
    let e : from - from ≡ 0 = omega arith in
    record { upto = omega arith; rest = ap (λ (k : ℕ). losing (to - from) (drop k link) frames from) (sym e) }

module _ (link frames : List ℕ) (from to : ℕ) (now : List ℕ) (i : ℕ) (s : Signed link frames from to now i) where
  pub one_more : i < to → {lost : Bool} {next : List ℕ} → lost ≡ lost_at link (i - from) → next ≡ marked now i lost
      → Signed link frames from to next (i + 1)
  unfolding losing
  one_more l {lost} {next} p q =
      let u : from ≤ i = s.upto in
      let k : ℕ = i - from in
      let n : to - i ≡ suc (to - (i + 1)) = omega arith in
      let sign : lost_at (drop k link) 0 ≡ lost_at link k =
      ap (λ (x : ℕ). eqb x lost_sign) (get_or-drop k link 0 0 ∙ ap (at link) (add-zero k)) in
      let signs : drop 1 (drop k link) ≡ drop ((i + 1) - from) link =
      drop-drop 1 k link ∙ ap (λ (j : ℕ). drop j link) (let j : k + 1 ≡ (i + 1) - from = omega arith in j) in
      let e : marked now i (lost_at (drop k link) 0) ≡ next = ap (marked now i) (sign ∙ sym p) ∙ sym q in
      record {
        upto = omega arith;
        rest = s.rest ∙ ap (λ (m : ℕ). losing m (drop k link) now i) n
            ∙ ap (λ (x : List ℕ). losing (to - (i + 1)) (drop 1 (drop k link)) x (suc i)) e
            ∙ ap (λ (x : List ℕ). losing (to - (i + 1)) x next (suc i)) signs
            ∙ ap (losing (to - (i + 1)) (drop ((i + 1) - from) link) next) (sym (add-one i));
      }

  pub all-signed : to ≤ i → now ≡ losing (to - from) link frames from
  unfolding losing
  all-signed l =
      let n : to - i ≡ 0 = omega arith in
      sym (s.rest ∙ ap (λ (m : ℕ). losing m (drop (i - from) link) now i) n)

-- ---- the frames that arrive are those whose length is not marked

one_or_none : (b : Bool) (k : ℕ) → pick b 1 0 + k ≡ cond b (1 + k) k
unfolding pick
one_or_none true k = refl
one_or_none false k = zero-add k

pub counted : (frames : List ℕ) → count_by (λ n. ltb n lost_mark) frames ≡ arrivals frames
unfolding arrivals arrivals_of
counted frames = sym (is_count_by arrivals (λ n. ltb n lost_mark) refl (λ n ns. one_or_none (ltb n lost_mark) (arrivals ns)) frames)

-- ---- the first octets

pub head_is : (t : ℕ) (frames count : List ℕ) (n : ℕ) → n ≡ arrivals frames % 2 ^ 32 → count ≡ four_of n
    → ◌≡◌ {A = List ℕ} (0 ∷ 0 ∷ 0 ∷ 1 ∷ t ∷ at count 0 ∷ at count 1 ∷ at count 2 ∷ at count 3 ∷ []) (head_of t frames)
unfolding head_of
head_is t frames count n p q =
    ap (λ (x : List ℕ). 0 ∷ 0 ∷ 0 ∷ 1 ∷ t ∷ at x 0 ∷ at x 1 ∷ at x 2 ∷ at x 3 ∷ []) q
    ∙ ap (λ (k : ℕ). 0 ∷ 0 ∷ 0 ∷ 1 ∷ t ∷ four_of k) p
