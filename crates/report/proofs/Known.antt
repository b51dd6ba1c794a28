-- What is known of a packet whose pair is in the table.
use Rattle.std.specs.Prelude.{Some}
use Prim.Native.Nat.{ℕ, ◌≤◌}
use native.Mathlib.Omega.{arith}
use mathlib.Core.Path.{◌≡◌, refl, sym}
use mathlib.Core.List.{List}
use mathlib.Core.Bool.{Bool, true, false, ◌||◌}
use lib.Dec.{eqb}
use borrow.Author.Tests.{eqb-true}
use Rattle.octets.specs.Pick.{pick}
use Rattle.octets.proofs.Tests.{facts, and_true_left, and_true_right}
use Rattle.report.specs.Table.{pair, pairs, find_pair, is, success, failure, housekeeping, available, image_line}
use Rattle.report.specs.Report.{success_of, failure_of, housekeeping_of, available_of, line_of, content_of, length_wrong}
use Rattle.report.proofs.Search.{Each, hit}
use Rattle.packet.specs.declared.Packet.{Packet}
use Rattle.report.specs.declared.table.Pair.{Pair}
use Rattle.report.specs.declared.Content.{Content}
use Rattle.report.specs.declared.Content.TheVariants as content

-- which report, and how long its source data is
pub data Kind (p : Packet) : Type 0 where
  a-success : success p ≡ true → p.length ≡ 4 → Kind p
  a-failure : failure p ≡ true → p.length ≡ 6 → Kind p
  a-housekeeping : housekeeping p ≡ true → 1 ≤ p.length → Kind p
  an_available : available p ≡ true → p.length ≡ 166 → Kind p
  a-line : image_line p ≡ true → p.length ≡ 191 → Kind p

-- a packet of this pair, with a length that it may have, is a report
abbrev Reported : Packet → Pair → Type 0
Reported p e = p.service ≡ e.service → p.subtype ≡ e.subtype → e.least ≤ p.length → p.length ≤ e.greatest → Kind p

all-reported : (p : Packet) → Each (Reported p) pairs
unfolding success failure housekeeping available image_line
all-reported p = (
  λ a b l g. a-success (simp (a, b)) (omega arith),
  (
    λ a b l g. a-success (simp (a, b)) (omega arith),
    (
      λ a b l g. a-success (simp (a, b)) (omega arith),
      (
        λ a b l g. a-failure (simp (a, b)) (omega arith),
        (
          λ a b l g. a-failure (simp (a, b)) (omega arith),
          (
            λ a b l g. a-failure (simp (a, b)) (omega arith),
            (
              λ a b l g. a-housekeeping (simp (a, b)) (omega arith),
              (
                λ a b l g. an_available (simp (a, b)) (omega arith),
                (
                  λ a b l g. a-line (simp (a, b)) (omega arith),
                  tt,
                ),
              ),
            ),
          ),
        ),
      ),
    ),
  ),
)

-- the pair that the search found, and a length that is not refused
pub kind : (p : Packet) {q : Pair} → find_pair p.service p.subtype ≡ Some q → length_wrong p q ≡ false → Kind p
unfolding find_pair
kind p {q} e l =
    let h = hit (Reported p) p.service p.subtype pairs (all-reported p) e in
    let least : q.least ≤ p.length = search facts in
    let greatest : p.length ≤ q.greatest = search facts in
    h.holds (sym h.service) (sym h.subtype) least greatest

pub some-octets : (p : Packet) → Kind p → 1 ≤ p.length
some-octets p (a-success h l) = omega arith
some-octets p (a-failure h l) = omega arith
some-octets p (a-housekeeping h l) = l
some-octets p (an_available h l) = omega arith
some-octets p (a-line h l) = omega arith

-- what the table and the reader make of the packets of a report
pub record Of (p : Packet) (least greatest : ℕ) (line : Bool) (c : List ℕ → Content) : Type 0 where
  pub found : find_pair p.service p.subtype ≡ Some (pair p.service p.subtype least greatest)
  pub content : (s : List ℕ) → content_of p s ≡ c s
  pub lines : image_line p ≡ line

service_is : (p : Packet) (a b : ℕ) → is p a b ≡ true → p.service ≡ a
service_is p a b h = eqb-true _ _ (and_true_left (eqb p.service a) (eqb p.subtype b) h)

subtype_is : (p : Packet) (a b : ℕ) → is p a b ≡ true → p.subtype ≡ b
subtype_is p a b h = eqb-true _ _ (and_true_right (eqb p.service a) (eqb p.subtype b) h)

-- one of three pairs
of_three : (p : Packet) (a b c : Bool) {T : Type 0} → (a ≡ true → T) → (b ≡ true → T) → (c ≡ true → T) → (a || b || c) ≡ true → T
of_three p true b c f g h e = f refl
of_three p false true c f g h e = g refl
of_three p false false c f g h e = h e

module _ (p : Packet) where
  one : (a b : ℕ) {least greatest : ℕ} {line : Bool} {c : List ℕ → Content} → (p.service ≡ a → p.subtype ≡ b → Of p least greatest line c)
      → is p a b ≡ true → Of p least greatest line c
  one a b f h = f (service_is p a b h) (subtype_is p a b h)

  pub of_success : success p ≡ true → Of p 4 4 false (λ s. content.Success (success_of s))
  unfolding find_pair content_of pick success image_line
  of_success =
      of_three p (is p 1 1) (is p 1 3) (is p 1 7)
      (one 1 1 (λ e f. record { found = simp (e, f); content = λ s. simp (e, f); lines = simp (e, f) }))
      (one 1 3 (λ e f. record { found = simp (e, f); content = λ s. simp (e, f); lines = simp (e, f) }))
      (one 1 7 (λ e f. record { found = simp (e, f); content = λ s. simp (e, f); lines = simp (e, f) }))

  pub of_failure : failure p ≡ true → Of p 6 6 false (λ s. content.Failure (failure_of s))
  unfolding find_pair content_of pick success failure image_line
  of_failure =
      of_three p (is p 1 2) (is p 1 4) (is p 1 8)
      (one 1 2 (λ e f. record { found = simp (e, f); content = λ s. simp (e, f); lines = simp (e, f) }))
      (one 1 4 (λ e f. record { found = simp (e, f); content = λ s. simp (e, f); lines = simp (e, f) }))
      (one 1 8 (λ e f. record { found = simp (e, f); content = λ s. simp (e, f); lines = simp (e, f) }))

  pub of_housekeeping : housekeeping p ≡ true → Of p 1 235 false (λ s. content.Housekeeping (housekeeping_of p s))
  unfolding find_pair content_of pick success failure housekeeping image_line
  of_housekeeping = one 3 25 (λ e f. record { found = simp (e, f); content = λ s. simp (e, f); lines = simp (e, f) })

  pub of_available : available p ≡ true → Of p 166 166 false (λ s. content.Available (available_of s))
  unfolding find_pair content_of pick success failure housekeeping available image_line
  of_available = one 128 3 (λ e f. record { found = simp (e, f); content = λ s. simp (e, f); lines = simp (e, f) })

  pub of_line : image_line p ≡ true → Of p 191 191 true (λ s. content.Line (line_of s))
  unfolding find_pair content_of pick success failure housekeeping available image_line
  of_line = one 128 7 (λ e f. record { found = simp (e, f); content = λ s. simp (e, f); lines = simp (e, f) })
