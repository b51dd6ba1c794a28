-- Each return tells the first wrong octet of those that are left.
use Rattle.std.proofs.Common.{ℕ, suc, ◌≡◌, ◌+◌, ◌-◌, ◌≤◌, ◌<◌, List, true, false, refl, ◌∙◌, arith}
use borrow.Author.Tests.{eq-eqb, ne_eqb}
use Rattle.octets.specs.Numbers.{at}
use Rattle.octets.proofs.Choices.{picked, passed, through}
use Rattle.frame.specs.Address.{next_wrong, ssid_wrong, wrong_behind, first_wrong}
use Rattle.frame.proofs.Reader.{wrong_at, none_wrong}
use Rattle.frame.proofs.addresses.first_wrong.Goals as goal

-- what is left behind place i, from what was found at the next
module _ (s : List ℕ) (last i : ℕ) where
  abbrev left : ℕ
  left = wrong_behind s last i (5 - i)

  here : i < 5 → next_wrong (at s i) (at s (i + 1)) ≡ true → i + 1 ≡ left
  unfolding wrong_behind
  here l h = let e : 5 - i ≡ suc (5 - (i + 1)) = omega arith in rw e (picked _ _ _ h)

  further : i < 5 → next_wrong (at s i) (at s (i + 1)) ≡ false → wrong_behind s last (i + 1) (5 - (i + 1)) ≡ left
  unfolding wrong_behind
  further l h = let e : 5 - i ≡ suc (5 - (i + 1)) = omega arith in rw e (passed _ _ _ _ h refl)

  all-blank : 5 ≤ i → at s 0 ≡ 64 → 0 ≡ left
  unfolding wrong_behind
  all-blank l b = let e : 5 - i ≡ 0 = omega arith in rw e (picked _ _ _ (eq-eqb _ _ b))

  ssid-here : 5 ≤ i → (at s 0 ≡ 64 → ⊥) → ssid_wrong (at s 6) last ≡ true → 6 ≡ left
  unfolding wrong_behind
  ssid-here l b h = let e : 5 - i ≡ 0 = omega arith in rw e (passed _ _ _ _ (ne_eqb _ _ b) (picked _ _ _ h))

  none : 5 ≤ i → (at s 0 ≡ 64 → ⊥) → ssid_wrong (at s 6) last ≡ false → 7 ≡ left
  unfolding wrong_behind
  none l b h = let e : 5 - i ≡ 0 = omega arith in rw e (passed _ _ _ _ (ne_eqb _ _ b) (passed _ _ _ _ h refl))

pub returns-then-start_wrong : goal.returns-then-start_wrong
unfolding first_wrong
returns-then-start_wrong c = wrong_at c.args.s.now c.args.last (omega arith) (picked _ _ _ (through c.start_wrong.ensures c.if-start_wrong.true))

pub loop-i-init : goal.loop-i-init
unfolding first_wrong
loop-i-init c = passed _ _ _ _ (through c.start_wrong.ensures c.if-start_wrong.false) refl

pub returns-then-next_wrong : goal.returns-then-next_wrong
returns-then-next_wrong c =
    let l = c.loop-i in
    let inside : l.i < 5 = omega arith in
    wrong_at c.args.s.now c.args.last (omega arith) (here _ _ _ inside (through c.next_wrong.ensures c.if-next_wrong.true) ∙ l.invariant)

pub loop-i-preserved : goal.loop-i-preserved
loop-i-preserved c =
    let l = c.loop-i in
    let inside : l.i < 5 = omega arith in
    further _ _ _ inside (through c.next_wrong.ensures c.if-next_wrong.false) ∙ l.invariant

pub returns-then-s-eq-BLANK : goal.returns-then-s-eq-BLANK
returns-then-s-eq-BLANK c =
    let l = c.loop-i in
    let end : 5 ≤ l.i = omega arith in
    wrong_at c.args.s.now c.args.last (omega arith) (all-blank _ _ _ end c.if-s-eq-BLANK.true ∙ l.invariant)

pub returns-then-ssid_wrong : goal.returns-then-ssid_wrong
returns-then-ssid_wrong c =
    let l = c.loop-i in
    let end : 5 ≤ l.i = omega arith in
    wrong_at c.args.s.now c.args.last (omega arith)
    (ssid-here _ _ _ end c.if-s-eq-BLANK.false (through c.ssid_wrong.ensures c.if-ssid_wrong.true) ∙ l.invariant)

pub returns : goal.returns
returns c =
    let l = c.loop-i in
    let end : 5 ≤ l.i = omega arith in
    none_wrong c.args.s.now c.args.last (none _ _ _ end c.if-s-eq-BLANK.false (through c.ssid_wrong.ensures c.if-ssid_wrong.false) ∙ l.invariant)
