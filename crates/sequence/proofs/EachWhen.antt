-- Each answer is given exactly when its line holds.
use Prim.Native.Nat.{ℕ, zero, suc, ◌+◌, ◌-◌}
use native.Mathlib.Omega.{arith}
use native.Mathlib.Numerals.{add-one}
use mathlib.Core.Path.{◌≡◌, refl, sym, ap, ◌∙◌, subst}
use mathlib.Core.Bool.{Bool, true, false, ◌||◌}
use mathlib.Core.Logic.{inl, inr, ⊎_elim}
use mathlib.Core.List.{List}
use lib.ListN.{length}
use lib.Dec.{ltb, eqb}
use borrow.Author.Tests.{lt-ltb, le-ltb, ltb-true, ltb-false, eq-eqb, ne_eqb, eqb-true, eqb-false}
use Rattle.octets.specs.Numbers.{at}
use Rattle.octets.specs.Pick.{pick}
use Rattle.octets.proofs.Choices.{picks}
use Rattle.octets.proofs.Tests.{or_true, or_left, or_right}
use Rattle.answer.specs.Told.{Told, accept}
use Rattle.answer.specs.Refusals.{list_short, entry, count_range}
use Rattle.counts.specs.Gap.{gap}
use Rattle.sequence.specs.Sequence.{Between, restart, missing, restarts, since, Outcome, refused, outcome}
use Rattle.sequence.specs.Statements.{Passed, Given, short, range, high, first, restarted, followed, EachWhen}

module _ (apid count : ℕ) (list : List ℕ) where
  abbrev Fits : Told Between → Type 0
  Fits a = Given apid count list a

  abbrev FitsAll : Outcome → Type 0
  FitsAll o = Fits o.answer

  -- ---- one is given

  by_count : Passed apid count list → (last : ℕ) → at list apid ≡ last + 1 → (c z : Bool) → eqb count 0 ≡ c → eqb last 16383 ≡ z
      → Fits (pick (restarts last count) (accept restart) (accept (missing (gap 16384 count last))))
  unfolding pick
  by_count w last e true true c z = rw (c, z) (followed w last e (λ q. eqb-true _ _ z))
  by_count w last e true false c z = rw (c, z) (restarted w last e (eqb-true _ _ c) (eqb-false _ _ z))
  by_count w last e false z c q = rw c (followed w last e (λ r. absurd (eqb-false _ _ c r)))

  since-later : (last : ℕ) → since (last + 1) count ≡ pick (restarts last count) (accept restart) (accept (missing (gap 16384 count last)))
  unfolding since pick
  since-later last =
      let some : eqb (last + 1) 0 ≡ false = ne_eqb (last + 1) 0 (λ e. omega arith) in
      let less : last + 1 - 1 ≡ last = omega arith in
      rw (some, less)

  by_entry : Passed apid count list → (n : ℕ) → at list apid ≡ n → Fits (since n count)
  unfolding since pick
  by_entry w zero e = first w e
  by_entry w (suc last) e =
      subst (λ (n : ℕ). Fits (since n count)) (add-one last)
      (subst Fits (sym (since-later last)) (by_count w last (e ∙ sym (add-one last)) (eqb count 0) (eqb last 16383) refl refl))

  one-given : Fits (outcome apid count list).answer
  unfolding outcome
  one-given =
      picks FitsAll (ltb (length list) 2048) (refused list_short list) _ (λ h. short (ltb-true _ _ h))
      (λ h. picks FitsAll (ltb 2047 apid || ltb 16383 count) (refused count_range list) _
      (λ r. range (ltb-false _ _ h) (⊎_elim (λ x. inl (ltb-true _ _ x)) (λ x. inr (ltb-true _ _ x))
      (or_true (ltb 2047 apid) (ltb 16383 count) r)))
      (λ r. picks FitsAll (ltb 16384 (at list apid)) (refused entry list) _
      (λ q. high (ltb-false _ _ h) (ltb-false _ _ (or_left (ltb 2047 apid) (ltb 16383 count) r))
      (ltb-false _ _ (or_right (ltb 2047 apid) (ltb 16383 count) r)) (ltb-true _ _ q))
      (λ q. by_entry (record {
        long = ltb-false _ _ h;
        apids = ltb-false _ _ (or_left (ltb 2047 apid) (ltb 16383 count) r);
        counts = ltb-false _ _ (or_right (ltb 2047 apid) (ltb 16383 count) r);
        entry = ltb-false _ _ q;
      }) (at list apid) refl)))

  -- ---- and no other

  accepts : Passed apid count list → (outcome apid count list).answer ≡ since (at list apid) count
  unfolding outcome pick
  accepts w =
      rw (
        le-ltb (length list) 2048 w.long,
        le-ltb 2047 apid w.apids,
        le-ltb 16383 count w.counts,
        le-ltb 16384 (at list apid)
            w.entry,
      )

  ored : (b : Bool) → (b || true) ≡ true
  ored true = refl
  ored false = refl

  not_restarts : (last : ℕ) → (count ≡ 0 → last ≡ 16383) → restarts last count ≡ false
  not_restarts last n = go (eqb count 0) refl
    where
      go : (c : Bool) → eqb count 0 ≡ c → restarts last count ≡ false
      go true c = rw (c, eq-eqb last 16383 (n (eqb-true count 0 c)))
      go false c = rw c

  pub later : Passed apid count list → (last : ℕ) → at list apid ≡ last + 1
      → (outcome apid count list).answer ≡ pick (restarts last count) (accept restart) (accept (missing (gap 16384 count last)))
  later w last e = accepts w ∙ ap (λ (n : ℕ). since n count) e ∙ since-later last

  no_other : (a : Told Between) → Fits a → a ≡ (outcome apid count list).answer
  unfolding outcome since pick
  no_other a (short h) = rw (lt-ltb (length list) 2048 h)
  no_other a (range l (inl h)) = rw (le-ltb (length list) 2048 l, lt-ltb 2047 apid h)
  no_other a (range l (inr h)) = rw (le-ltb (length list) 2048 l, lt-ltb 16383 count h, ored (ltb 2047 apid))
  no_other a (high l p q h) =
      rw (le-ltb (length list) 2048 l, le-ltb 2047 apid p, le-ltb 16383 count q, lt-ltb 16384 (at list apid) h)
  no_other a (first w e) = sym (accepts w ∙ ap (λ (n : ℕ). since n count) e)
  no_other a (restarted w last e z n) = sym (later w last e ∙ rw (eq-eqb count 0 z, ne_eqb last 16383 n))
  no_other a (followed w last e n) = sym (later w last e ∙ rw (not_restarts last n))

pub each-when : EachWhen
each-when apid count list = record { given = one-given apid count list; alone = no_other apid count list }
