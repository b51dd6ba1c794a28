-- A verdict's line that was laid where it has room.
use Prim.Native.Nat.{ℕ, ◌+◌, ◌≤◌}
use mathlib.Core.Path.{◌≡◌, refl, ap}
use mathlib.Core.List.{List, [], ◌∷◌, ◌++◌, append_assoc}
use native.Mathlib.Omega.{arith}
use borrow.Author.Tests.{ne_eqb}
use lib.ListN.{length, length-append}
use Rattle.octets.specs.Pick.{pick}
use Rattle.octets.specs.Parts.{put}
use Rattle.octets.proofs.Choices.{picks}
use Rattle.decimal.specs.Text.{longest_number, decimal}
use Rattle.decimal.specs.Laid.{Laid, Puts}
use Rattle.decimal.proofs.Laid.{resaid, joined, put-laid, puts_laid, number-laid}
use Rattle.decimal.proofs.Short.{decimal-short}
use Rattle.table.specs.declared.Verdict.{Verdict}
use Rattle.table.specs.declared.Verdict.TheVariants.{Passes, Faulty}
use Rattle.audit_line.specs.Text.{badly_formed, out_of_order, no_packet, no_value, too_early, words_of, spoken, verdict_line, longest_words}
use Rattle.audit_line.specs.Text.{longest_verdict, VerdictsAreShort}

-- the words, by the number
pub form_words : {n : ℕ} → n ≡ 70 → badly_formed ≡ words_of n
unfolding words_of pick
form_words h = rw h

pub order_words : {n : ℕ} → n ≡ 71 → out_of_order ≡ words_of n
unfolding words_of pick
order_words h = rw h

pub packet_words : {n : ℕ} → n ≡ 72 → no_packet ≡ words_of n
unfolding words_of pick
packet_words h = rw h

pub value_words : {n : ℕ} → n ≡ 73 → no_value ≡ words_of n
unfolding words_of pick
value_words h = rw h

pub claim_words : {n : ℕ} → n ≡ 74 → too_early ≡ words_of n
unfolding words_of pick
claim_words h = rw h

pub no_words : (n : ℕ) → (n ≡ 70 → ⊥) → (n ≡ 71 → ⊥) → (n ≡ 72 → ⊥) → (n ≡ 73 → ⊥) → (n ≡ 74 → ⊥) → [] ≡ words_of n
unfolding words_of pick
no_words n a b c d e = simp (ne_eqb n 70 a, ne_eqb n 71 b, ne_eqb n 72 c, ne_eqb n 73 d, ne_eqb n 74 e)

pub words_laid : (n : ℕ) {words out out' : List ℕ} {at r : ℕ} → words ≡ words_of n → Laid longest_words (spoken words) out at out' r
    → Laid longest_words (spoken (words_of n)) out at out' r
words_laid n e l = resaid (ap spoken e) (omega arith) l

-- a text of no more octets than the words
pub text-laid : {text out out' : List ℕ} {at : ℕ} → at + longest_words ≤ length out → length text ≤ longest_words → out' ≡ put out at text
    → Laid longest_words text out at out' (at + length text)
text-laid room few e = resaid refl few (put-laid (omega (arith, room, few)) e)

-- the row's number ends early enough for all that follows
pub row_near : (at row : ℕ) {out₁ out₂ : List ℕ} {r : ℕ} → at + longest_verdict ≤ length out₁
    → Puts longest_number (decimal row ++ (58 ∷ [])) out₁ (at + 4) out₂ r → r ≤ at + 15
row_near at row room b = omega (arith, (number-laid row 58 (omega arith) b).near)

pub reason_near : (at n : ℕ) {out₃ out₄ : List ℕ} {r₁ r₂ : ℕ} → at + longest_verdict ≤ length out₃ → r₁ ≤ at + 15
    → Puts longest_number (decimal n ++ (58 ∷ [])) out₃ (r₁ + 1) out₄ r₂ → r₂ ≤ at + 27
reason_near at n room l d = omega (arith, (number-laid n 58 (omega arith) d).near)

-- the whole line
pub faulty-laid : {out out₁ out₂ out₃ out₄ out₅ : List ℕ} {at r₁ r₂ r₃ : ℕ} (n row : ℕ) → at + longest_verdict ≤ length out
    → length out₁ ≡ length out → length out₂ ≡ length out₁ → length out₃ ≡ length out₂
    → out₁ ≡ put out at (114 ∷ 111 ∷ 119 ∷ 32 ∷ []) → Puts longest_number (decimal row ++ (58 ∷ [])) out₁ (at + 4) out₂ r₁
    → out₃ ≡ put out₂ r₁ (32 ∷ []) → Puts longest_number (decimal n ++ (58 ∷ [])) out₃ (r₁ + 1) out₄ r₂
    → Laid longest_words (spoken (words_of n)) out₄ r₂ out₅ r₃ → Laid longest_verdict (verdict_line (Faulty n row)) out at out₅ r₃
faulty-laid n row room e₁ e₂ e₃ a b c d w =
    let x = put-laid {text = 114 ∷ 111 ∷ 119 ∷ 32 ∷ []} (omega arith) a in
    let y = number-laid row 58 (omega arith) b in
    let z = put-laid {text = 32 ∷ []} (omega (arith, y.near)) c in
    let u = number-laid n 58 (omega (arith, y.near)) d in
    resaid (simp append_assoc) (omega arith)
    (joined (omega arith) x (joined (omega arith) y (joined (omega (arith, y.near)) z (joined (omega (arith, y.near)) u w))))

-- by the verdict
pub passes-put : {v : Verdict} {out out' : List ℕ} {at : ℕ} → v ≡ Passes → at + longest_verdict ≤ length out → out' ≡ put out at
    (verdict_line Passes)
    → Puts longest_verdict (verdict_line v) out at out' (at + 7)
passes-put e room p = rw e (puts_laid room (resaid refl (omega arith) (put-laid (omega arith) p)))

pub faulty-put : {v : Verdict} {out out' : List ℕ} {at n row r : ℕ} → v ≡ Faulty n row → at + longest_verdict ≤ length out
    → Laid longest_verdict (verdict_line (Faulty n row)) out at out' r → Puts longest_verdict (verdict_line v) out at out' r
faulty-put e room l = rw e (puts_laid room l)

-- no line is longer
words_short : (n : ℕ) → length (words_of n) ≤ 58
unfolding words_of
words_short n =
    let P : List ℕ → Type 0 = λ (l : List ℕ). length l ≤ 58 in
    picks P _ _ _ (λ e. omega arith)
    (λ e. picks P _ _ _ (λ e. omega arith)
    (λ e. picks P _ _ _ (λ e. omega arith)
    (λ e. picks P _ _ _ (λ e. omega arith)
    (λ e. picks P _ _ _ (λ e. omega arith) (λ e. omega arith)))))

pub verdicts_are_short : VerdictsAreShort
verdicts_are_short Passes = omega arith
verdicts_are_short (Faulty n row) = simp length-append (omega (arith, decimal-short n, decimal-short row, words_short n))
