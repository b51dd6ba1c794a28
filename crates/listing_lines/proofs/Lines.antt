-- A line that was laid where it has room.
use Rattle.std.specs.Prelude.{Result, Ok, Err, Some, None}
use Prim.Native.Nat.{ℕ, ◌+◌, ◌*◌, ◌≤◌, ◌<◌}
use mathlib.Core.Path.{◌≡◌, refl, sym, ◌∙◌}
use mathlib.Core.List.{List, [], ◌∷◌, ◌++◌, append_assoc}
use mathlib.Core.Bool.{Bool, true, false}
use native.Mathlib.Omega.{arith}
use lib.Dec.{ltb}
use lib.ListN.{length, length-append}
use borrow.Author.Tests.{ltb-true, ltb-false}
use Rattle.octets.specs.Pick.{pick}
use Rattle.octets.specs.Parts.{put}
use Rattle.answer.specs.declared.Refusal.{Refusal}
use Rattle.decimal.specs.Text.{longest_number, decimal, each}
use Rattle.decimal.specs.Laid.{Laid, Puts}
use Rattle.decimal.proofs.Laid.{resaid, joined, behind-numbers, put-laid, puts_none, puts_laid, laid_puts, number-laid, numbers-laid}
use Rattle.decimal.proofs.Short.{decimal-short}
use Rattle.counts.specs.Loss.{Loss}
use Rattle.packet.specs.declared.Packet.{Packet}
use Rattle.session.specs.declared.Accepted.{Accepted}
use Rattle.session.specs.Answers.{StepAnswer}
use Rattle.listing_lines.specs.Text.{longest_line, shown, accepted_line, refused_line, packet_line, turned_away_line, packet_text}
use Rattle.listing_lines.specs.Text.{answer_text, numbered}
use Rattle.session.specs.Step.{told as toldStep}

-- numbers, and a last one
pub numbers_then : {out out₁ out₂ : List ℕ} {at r₁ r₂ : ℕ} (ns : List ℕ) (n after : ℕ)
    → at + longest_number * length ns + longest_number ≤ length out → length out₁ ≡ length out
    → Puts (longest_number * length ns) (each 32 ns []) out at out₁ r₁ → Puts longest_number (decimal n ++ (after ∷ [])) out₁ r₁ out₂ r₂
    → Laid (longest_number * length ns + longest_number) (each 32 ns (decimal n ++ (after ∷ []))) out at out₂ r₂
numbers_then ns n after room same x y =
    let l = numbers-laid 32 ns (omega arith) x in
    behind-numbers 32 ns (omega arith) l (number-laid n after (omega (arith, l.near)) y)

-- numbers, and a text behind them
pub numbers-text : {out out₁ out₂ : List ℕ} {at r₁ : ℕ} (ns text : List ℕ) → at + longest_number * length ns + length text ≤ length out
    → length out₁ ≡ length out
    → Puts (longest_number * length ns) (each 32 ns []) out at out₁ r₁ → out₂ ≡ put out₁ r₁ text
    → Laid (longest_number * length ns + length text) (each 32 ns text) out at out₂ (r₁ + length text)
numbers-text ns text room same x e =
    let l = numbers-laid 32 ns (omega arith) x in
    behind-numbers 32 ns (omega arith) l (put-laid (omega (arith, l.near)) e)

-- a question mark, where a number would have no room, and where it would
pub no_mark : {out : List ℕ} {at : ℕ} → length out < at + longest_number → Puts longest_number (63 ∷ 32 ∷ []) out at out at
no_mark h = puts_none h

pub mark-put : {out out' : List ℕ} {at : ℕ} → at + longest_number ≤ length out → out' ≡ put out at (63 ∷ 32 ∷ []) → Puts longest_number
    (63 ∷ 32 ∷ []) out at out' (at + 2)
mark-put h e = puts_laid h (resaid refl (omega arith) (put-laid (omega arith) e))

-- a loss, unknown or not
pub unknown-put : {lost : Loss} {out out' : List ℕ} {at r : ℕ} → lost ≡ None → Puts longest_number (63 ∷ 32 ∷ []) out at out' r
    → Puts longest_number (shown lost ++ (32 ∷ [])) out at out' r
unknown-put e p = rw e p

pub known-put : {lost : Loss} {n : ℕ} {out out' : List ℕ} {at r : ℕ} → lost ≡ Some n → Puts longest_number
    (decimal n ++ (32 ∷ [])) out at out' r → Puts longest_number (shown lost ++ (32 ∷ [])) out at out' r
known-put e p = rw e p

shown-short : (l : Loss) → length (shown l ++ (32 ∷ [])) ≤ longest_number
shown-short None = omega arith
shown-short (Some n) = simp length-append (omega (arith, decimal-short n))

-- three texts, each but the last with a space behind it
three : (a b c : List ℕ) {k m n : ℕ} {out out₁ out₂ out₃ : List ℕ} {at r₁ r₂ r₃ : ℕ} → at ≤ length out → r₁ ≤ length out₁ → Laid k
    (a ++ (32 ∷ [])) out at out₁ r₁
    → Laid m (b ++ (32 ∷ [])) out₁ r₁ out₂ r₂ → Laid n c out₂ r₂ out₃ r₃ → Laid (k + (m + n)) (a ++ (32 ∷ (b ++ (32 ∷ c)))) out at out₃ r₃
three a b c h g x y z = resaid (simp append_assoc) (omega arith) (joined h x (joined g y z))

-- numbers, two losses, and a last number
pub losses_then : {out out₁ out₂ out₃ out₄ : List ℕ} {at r₁ r₂ r₃ r₄ : ℕ} (ns : List ℕ) (lost master : Loss) (n : ℕ)
    → Puts (longest_number * length ns) (each 32 ns []) out at out₁ r₁ → Puts longest_number (shown lost ++ (32 ∷ [])) out₁ r₁ out₂ r₂
    → Puts longest_number (shown master ++ (32 ∷ [])) out₂ r₂ out₃ r₃ → Puts longest_number (decimal n ++ (10 ∷ [])) out₃ r₃ out₄ r₄
    → at + longest_number * length ns + 3 * longest_number ≤ length out → length out₁ ≡ length out → length out₂ ≡ length out₁
    → length out₃ ≡ length out₂
    → Laid (longest_number * length ns + 3 * longest_number)
    (each 32 ns (shown lost ++ (32 ∷ (shown master ++ (32 ∷ (decimal n ++ (10 ∷ []))))))) out at out₄ r₄
losses_then ns lost master n x y z w room e₁ e₂ e₃ =
    let l = numbers-laid 32 ns (omega arith) x in
    let a = laid_puts (omega (arith, l.near)) (shown-short lost) y in
    let b = laid_puts (omega (arith, l.near, a.near)) (shown-short master) z in
    let d = number-laid n 10 (omega (arith, l.near, a.near, b.near)) w in
    resaid refl (omega arith)
    (behind-numbers 32 ns (omega arith) l
    (three (shown lost) (shown master) (decimal n ++ (10 ∷ [])) (omega (arith, l.near)) (omega (arith, l.near, a.near)) a b d))

-- Where a line has no room, and where it has.
module _ (out : List ℕ) (at : ℕ) {b : Bool} (e : b ≡ ltb (length out) (at + longest_line)) where
  pub none-put : {text : List ℕ} → b ≡ true → Puts longest_line text out at out at
  none-put h = puts_none (ltb-true _ _ (sym e ∙ h))

  pub some-room : b ≡ false → at + longest_line ≤ length out
  some-room h = ltb-false _ _ (sym e ∙ h)

  pub line-put : {text out' : List ℕ} {r : ℕ} → b ≡ false → Laid longest_line text out at out' r → Puts longest_line text out at out' r
  line-put h l = puts_laid (some-room h) l

  -- words that are put
  pub words_put : (text : List ℕ) {out' : List ℕ} → b ≡ false → length text ≤ longest_line → out' ≡ put out at text
      → Puts longest_line text out at out' (at + length text)
  words_put text h few p =
      let room = some-room h in
      puts_laid room (resaid refl few (put-laid (omega arith) p))

module _ (first arrival size : ℕ) {at r : ℕ} {out out' : List ℕ} {read : Result Packet ℕ} where
  pub taken-line : {p : Packet} → read ≡ Ok p → Laid longest_line (packet_line first arrival p size) out at out' r
      → Laid longest_line (packet_text first arrival size (numbered read)) out at out' r
  unfolding pick
  taken-line e l = rw e l

  pub turned-away-line : {n : ℕ} → read ≡ Err n → Laid longest_line (turned_away_line first arrival n size) out at out' r
      → Laid longest_line (packet_text first arrival size (numbered read)) out at out' r
  unfolding pick
  turned-away-line e l = rw e l

module _ (arrival : ℕ) {at r : ℕ} {out out' : List ℕ} {answer : StepAnswer} where
  pub accepted-line : {a : Accepted} → answer ≡ Ok a → Laid longest_line (accepted_line arrival a) out at out' r
      → Laid longest_line (answer_text arrival (toldStep answer)) out at out' r
  unfolding pick
  accepted-line e l = rw e l

  pub refused-line : {n : Refusal} → answer ≡ Err n → Laid longest_line (refused_line arrival n.number) out at out' r
      → Laid longest_line (answer_text arrival (toldStep answer)) out at out' r
  unfolding pick
  refused-line e l = rw e l
