-- Laws of the first reason against a row.
use Prim.Native.Nat.{ℕ, ◌+◌, ◌*◌, ◌≤◌, ◌<◌}
use mathlib.Core.Path.{◌≡◌, refl, sym, ap, ◌∙◌, subst}
use mathlib.Core.Bool.{Bool, true, false, not, ◌||◌}
use mathlib.Core.List.{List}
use mathlib.Core.Option.{Option, none, some}
use mathlib.Core.Logic.{⊎_elim}
use lib.ListN.{length, drop, get_elem?}
use lib.Dec.{eqb}
use borrow.Author.Tests.{lt-ltb, le-ltb, eq-eqb, ne_eqb, not-false, not-true, eqb-true, eqb-false}
use Rattle.octets.specs.Numbers.{at}
use Rattle.octets.specs.Parts.{part}
use Rattle.octets.specs.Pick.{pick}
use Rattle.octets.proofs.Choices.{picked, passed, picks}
use Rattle.octets.proofs.Tests.{or_left, or_right, or_true}
use Rattle.packet.specs.Packet.{read_packet}
use Rattle.rules.specs.Channel.{Handed}
use Rattle.table.specs.Table.{Column, Row, columns_in, row_in, stands, against}
use Rattle.table.specs.Form.{columns_held}
use Rattle.table.specs.Look.{at_hand, handed, reason_at}
use Rattle.table.specs.declared.Check.{Check}
use Rattle.table.proofs.Columns.{column_in, none-such, pair-none, pair-some}

pub no_packet_lem : (r : Row) (x : Option Column) → 72 ≡ against r x none
unfolding against
no_packet_lem r none = refl
no_packet_lem r (some c) = refl

turned-away : (r : Row) (x : Option Column) (h : Handed) → (read_packet h.packet).accepted ≡ false → 72 ≡ against r x (some h)
unfolding against pick
turned-away r none h e = refl
turned-away r (some c) h e = simp e

-- a row at the start of octets, with a packet that the packet reader accepts
module _ (head : List ℕ) (n : ℕ) (row packet : List ℕ) (a : ℕ) (ok : (read_packet packet).accepted ≡ true) where
  abbrev Said : ℕ → Type 0
  Said k = k ≡ against (row_in row) (get_elem? (columns_in n (drop 4 head)) (at row 4)) (some (handed packet a))

  module _ {i : ℕ} (d : i ≡ at row 4) where
    no_column : none ≡ get_elem? (columns_in n (drop 4 head)) (at row 4) → Said 72
    unfolding against
    no_column e = ap (λ (z : Option Column). against (row_in row) z (some (handed packet a))) e

    pub no_number : n ≤ i → Said 72
    no_number l = no_column (none-such n (at row 4) (drop 4 head) (rw d at l))

    module _ {c : List ℕ} (e : c ≡ part head (4 + 2 * i) 2) where
      pub no_octets : length c < 2 → Said 72
      no_octets l = no_column (pair-none head n d e l)

      module _ (l : i < n) (m : 2 ≤ length c) {v : List ℕ} (w : v ≡ part row 9 8) {s : Bool} (g : s ≡ stands (column_in c) packet v) where
        value : s ≡ stands (column_in c) packet (part row 9 8)
        value = g ∙ ap (stands (column_in c) packet) w

        pub not_there : not s ≡ true → Said 73
        unfolding against pick
        not_there p = rw (pair-some head n d e l m) (simp (ok, sym value, not-true s p))

        module _ (p : not s ≡ false) {k : ℕ} (q : k ≡ (row_in row).claim) where
          pub too_early_lem : k < a → Said 74
          unfolding against pick
          too_early_lem f = rw (pair-some head n d e l m) (simp (ok, sym value, not-false s p, lt-ltb _ _ (rw q at f)))

          pub nothing : a ≤ k → Said 0
          unfolding against pick
          nothing f = rw (pair-some head n d e l m) (simp (ok, sym value, not-false s p, le-ltb _ _ (rw q at f)))

-- 71, or what `against` says
module _ (c : Check) (x : Option Handed) (r : Row) {n : ℕ} (e : n ≡ r.packet) where
  pub out_of_order : n < c.least → 71 ≡ reason_at c x r
  unfolding reason_at
  out_of_order l = picked _ _ _ (lt-ltb _ _ (rw e at l))

  pub in_order : c.least ≤ n → {k : ℕ} → k ≡ against r (get_elem? (columns_held c) r.column) x → k ≡ reason_at c x r
  unfolding reason_at
  in_order o d = passed _ _ _ _ (le-ltb _ _ (rw e at o)) d

-- the packet at hand, in order
module _ (c : Check) (h : Handed) (r : Row) {n : ℕ} (e : n ≡ r.packet) (o : c.least ≤ n) where
  ordered : (x : Option Handed) {k : ℕ} → k ≡ against r (get_elem? (columns_held c) r.column) x → k ≡ reason_at c x r
  ordered x d = in_order c x r e o d

  other : (n ≡ c.number → ⊥) → none ≡ at_hand c h r
  other d = passed _ _ _ _ (ne_eqb _ _ (rw e at d)) refl

  this : n ≡ c.number → some h ≡ at_hand c h r
  this d = picked _ _ _ (eq-eqb _ _ (sym e ∙ d))

  pub elsewhere : {b : Bool} → b ≡ (read_packet h.packet).accepted → (not (eqb n c.number) || not b) ≡ true → 72 ≡ reason_at c
      (at_hand c h r) r
  elsewhere a t =
      ⊎_elim
      (λ p. subst (λ (x : Option Handed). 72 ≡ reason_at c x r) (other (eqb-false _ _ (not-true _ p))) (ordered none (no_packet_lem r _)))
      (λ p. picks (λ (x : Option Handed). 72 ≡ reason_at c x r) _ (some h) none
      (λ q. ordered (some h) (turned-away r _ h (sym a ∙ not-true _ p))) (λ q. ordered none (no_packet_lem r _)))
      (or_true _ _ t)

  module _ {b : Bool} (a : b ≡ (read_packet h.packet).accepted) (t : (not (eqb n c.number) || not b) ≡ false) where
    here : n ≡ c.number
    here = eqb-true _ _ (not-false _ (or_left _ _ t))

    pub ok : (read_packet h.packet).accepted ≡ true
    ok = sym a ∙ not-false _ (or_right (not (eqb n c.number)) _ t)

    pub so : {k : ℕ} → k ≡ against r (get_elem? (columns_held c) r.column) (some h) → k ≡ reason_at c (at_hand c h r) r
    so {k} d = subst (λ (x : Option Handed). k ≡ reason_at c x r) (this here) (ordered (some h) d)
