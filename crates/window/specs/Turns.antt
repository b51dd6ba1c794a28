-- A program's loop: turns one after another while the last one says to go on, of which each hands octets to a write.
use Rattle.std.specs.Prelude.{ℕ, suc, ◌≡◌, List, [], ◌++◌, Bool, true}

-- So many turns from a place on: what they wrote, end to end, and where they led.
pub data Turns {S : Type 0} (going : S → Bool) (Turn : S → List ℕ → S → Type 0) (s : S) : ℕ → List ℕ → S → Type 0 where
  none : Turns going Turn s 0 [] s
  more : {n : ℕ} {text said : List ℕ} {r t : S} → Turns going Turn s n text r → going r ≡ true → Turn r said t
      → Turns going Turn s (suc n) (text ++ said) t

-- The same, whatever was written.
pub record Made {S : Type 0} (going : S → Bool) (Turn : S → List ℕ → S → Type 0) (s : S) (n : ℕ) (r : S) : Type 0 where
  pub text : List ℕ
  pub turns : Turns going Turn s n text r

-- The most turns that a loop makes.
abbrev pub most : ℕ
most = 18446744073709551615

-- A whole loop of n turns: the last one said stop, unless that many were made.
pub record Loops {S : Type 0} (going : S → Bool) (Turn : S → List ℕ → S → Type 0) (s : S) (n : ℕ) (r : S) : Type 0 where
  pub made : Made going Turn s n r
  pub stops : going r ≡ true → n ≡ most
