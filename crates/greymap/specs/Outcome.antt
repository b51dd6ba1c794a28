-- What a call answers, and how it leaves what was lent to it.
use Rattle.std.specs.Prelude.{ℕ, ◌≡◌, false}
use Rattle.answer.specs.Told.{Told, accept, refuse}

pub record Outcome (A B : Type 0) : Type 0 where
  pub answer : Told A
  pub lent : B

abbrev pub accepted : {A B : Type 0} → A → B → Outcome A B
accepted a lent = record { answer = accept a; lent = lent }

-- A refusal: its number, 0 in every other field (none says what that is), and nothing lent changes.
abbrev pub refused : {A B : Type 0} → A → ℕ → B → Outcome A B
refused none n lent = record { answer = refuse none n; lent = lent }

-- So leaves every refusal of a call: what was lent to it, as it was.
abbrev pub Leaves : {A B : Type 0} → A → B → Outcome A B → Type 0
Leaves none lent o = o.answer.accepted ≡ false → (o.answer.fields ≡ none) × (o.lent ≡ lent)
