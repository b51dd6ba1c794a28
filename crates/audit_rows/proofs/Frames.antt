-- Laws of packets that are gone on beside one after the other.
use Prim.Native.Nat.{ℕ, suc, ◌+◌, ◌-◌, ◌*◌, ◌≤◌, ◌<◌, min}
use native.Mathlib.Decide.{dec_lt}
use native.Mathlib.Omega.{arith}
use native.Mathlib.Nat.{sub-zero}
use native.Mathlib.Numerals.{add-one}
use mathlib.Core.Path.{◌≡◌, sym, ap, ◌∙◌, subst}
use mathlib.Core.List.{List, [], ◌∷◌, ◌++◌, append-nil, append_assoc}
use lib.ListN.{length, take, drop, drop_of_length-le}
use lib.Seq.{drop-cons, take-nil}
use Rattle.octets.specs.Numbers.{at}
use Rattle.octets.specs.Parts.{part}
use Rattle.rules.specs.Channel.{Handed}
use Rattle.session.specs.Answers.{StepAnswer}
use Rattle.table.specs.Look.{handed}
use Rattle.audit_rows.specs.Goes.{Goes}
use Rattle.audit_rows.specs.Frame.{handed_from, handed_in, handed_by}
use Rattle.audit_rows.specs.declared.Audit.{Audit}
use Rattle.audit_rows.proofs.Reading.{goes_none, goes_then}

-- the first i packets are done
pub record Going (octets lengths : List ℕ) (packets arrival : ℕ) (a : Audit) (rows : List ℕ) (from i : ℕ) (b : Audit)
    (rows' : List ℕ) : Type 0 where
  pub past : List Handed
  pub goes : Goes a rows past b rows'
  pub cut : handed_in arrival packets octets lengths ≡ past ++ handed_from arrival octets from (take (packets - i) (drop i lengths))
  pub near : from ≤ 65535 * i
  pub most : i ≤ packets

module _ (octets lengths : List ℕ) (packets arrival : ℕ) (a : Audit) (rows : List ℕ) where
  pub none_done : Going octets lengths packets arrival a rows 0 0 a rows
  none_done = record {
    past = [];
    goes = goes_none a rows;
    cut = ap (λ (k : ℕ). handed_from arrival octets 0 (take k lengths)) (sym (sub-zero packets));
    near = omega arith;
    most = omega arith;
  }

  module _ (from i : ℕ) {b : Audit} {rows₁ : List ℕ} (g : Going octets lengths packets arrival a rows from i b rows₁) where
    pub one-done : {packet : List ℕ} {c : Audit} {rows₂ : List ℕ} → i < packets → i < length lengths → at lengths i ≤ 65535
        → packet ≡ part octets from (at lengths i)
        → Goes b rows₁ (handed packet arrival ∷ []) c rows₂ → Going octets lengths packets arrival a rows (from + at lengths i)
        (i + 1) c rows₂
    one-done {packet} h inside small p x =
        let k : ℕ = packets - (i + 1) in
        let m : packets - i ≡ suc k = omega arith in
        let n : ℕ = at lengths i in
        record {
          past = g.past ++ (handed packet arrival ∷ []);
          goes = goes_then g.goes x;
          cut = g.cut
              ∙ ap (λ (j : ℕ). g.past ++ handed_from arrival octets from (take j (drop i lengths))) m
              ∙ ap (λ (l : List ℕ). g.past ++ handed_from arrival octets from (take (suc k) l)) (drop-cons lengths i 0 inside)
              ∙ ap (λ (s : List ℕ). g.past ++ (handed s arrival ∷ handed_from arrival octets (from + n) (take k (drop (suc i) lengths))))
              (sym p)
              ∙ ap (λ (j : ℕ). g.past ++ (handed packet arrival ∷ handed_from arrival octets (from + n) (take k (drop j lengths))))
              (sym (add-one i))
              ∙ sym (append_assoc g.past (handed packet arrival ∷ [])
              (handed_from arrival octets (from + n) (take k (drop (i + 1) lengths))));
          near = omega (arith, g.near);
          most = omega arith;
        }

    all_past : take (packets - i) (drop i lengths) ≡ [] → Goes a rows (handed_in arrival packets octets lengths) b rows₁
    all_past e =
        subst (λ (ps : List Handed). Goes a rows ps b rows₁)
        (sym (g.cut ∙ ap (λ (l : List ℕ). g.past ++ handed_from arrival octets from l) e ∙ append-nil g.past)) g.goes

    pub all_done : min packets (length lengths) ≤ i → Goes a rows (handed_in arrival packets octets lengths) b rows₁
    all_done h = by (dec_lt i packets)
      where
        by : Dec (i < packets) → Goes a rows (handed_in arrival packets octets lengths) b rows₁
        by (yes l) = all_past (ap (take (packets - i)) (drop_of_length-le lengths (omega arith)) ∙ take-nil (packets - i))
        by (no l) =
            let z : packets - i ≡ 0 = omega (arith, l) in
            all_past (ap (λ (k : ℕ). take k (drop i lengths)) z)

-- by the answer
module _ {x y : StepAnswer} (a : Audit) (rows octets lengths : List ℕ) {b : Audit} {rows' : List ℕ} where
  pub answered : x ≡ y → Goes a rows (handed_by y octets lengths) b rows' → Goes a rows (handed_by x octets lengths) b rows'
  answered e g = subst (λ (z : StepAnswer). Goes a rows (handed_by z octets lengths) b rows') (sym e) g
