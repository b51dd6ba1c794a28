-- What every writer answers and leaves.
use Rattle.std.specs.Prelude.{ℕ, ◌≤◌, ◌≡◌, List, [], ◌∷◌, Bool, false, length, take, ltb, Result, Ok, Err}
use Rattle.octets.specs.Pick.{pick}
use Rattle.octets.specs.Parts.{written}
use Rattle.answer.specs.Told.{Told, accept, refuse, refuse_for, TellsNothing}
use Rattle.answer.specs.Refusals.{output_short, field_range}
use Rattle.answer.specs.declared.Reason.{Reason}

-- What a writer answers: the length, or why it refused.
abbrev pub Written : Type 0
Written = Result ℕ Reason

-- A writer's answer tells the length, or the refusal and the length 0.
abbrev pub told : Written → Told ℕ
told (Ok n) = accept n
told (Err r) = refuse_for 0 r

abbrev pub RefusalsTellNothing : Type 0
RefusalsTellNothing = TellsNothing told (λ n. n ∷ [])

-- 51 where a field is wrong, then 50 where the output is too short, else the length.
unfoldable pub writing : Bool → List ℕ → List ℕ → Told ℕ
writing wrong octets out =
    pick wrong (refuse 0 field_range) (pick (ltb (length out) (length octets)) (refuse 0 output_short) (accept (length octets)))

-- The output afterwards: as it was, or the octets and what stood beyond them.
unfoldable pub left : Bool → List ℕ → List ℕ → List ℕ
left wrong octets out = pick wrong out (pick (ltb (length out) (length octets)) out (written octets out))

-- The contract of every writer: octets are what is to be written, out and out' the lent output before and after.
pub record Wrote (wrong : Bool) (octets out : List ℕ) (r : Written) (out' : List ℕ) : Type 0 where
  pub answers : told r ≡ writing wrong octets out
  pub leaves : out' ≡ left wrong octets out

-- What a writer gives: it answers the octets' number and leaves them at the output's start.
pub record Gave (octets : List ℕ) (r : Written) (out' : List ℕ) : Type 0 where
  pub answers : r ≡ Ok (length octets)
  pub leaves : take (length octets) out' ≡ octets

-- So it does where no field is wrong and the output has room.
abbrev pub Gives : Type 0
Gives =
    (wrong : Bool) (octets out : List ℕ) (r : Written) (out' : List ℕ)
    → wrong ≡ false → length octets ≤ length out → Wrote wrong octets out r out' → Gave octets r out'
