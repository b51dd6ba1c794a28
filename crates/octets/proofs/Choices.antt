-- Laws of `pick`, by which a branch of the code is its case of a definition.
use mathlib.Core.Path.{◌≡◌, refl, sym, ◌∙◌}
use mathlib.Core.Bool.{Bool, true, false}
use Rattle.octets.specs.Pick.{pick}

pub picked : {A : Type 0} (b : Bool) (x y : A) → b ≡ true → x ≡ pick b x y
unfolding pick
picked b x y h = simp h

pub passed : {A : Type 0} (b : Bool) (x y z : A) → b ≡ false → z ≡ y → z ≡ pick b x y
unfolding pick
passed b x y z h e = simp (h, e)

-- what holds of both, each in its case, holds of the choice
pub picks : {A : Type 0} (P : A → Type 0) (b : Bool) (x y : A) → (b ≡ true → P x) → (b ≡ false → P y) → P (pick b x y)
unfolding pick
picks P true x y p q = p refl
picks P false x y p q = q refl

-- a choice that came to z, which x is not, was not x
pub not_picked : {A : Type 0} (b : Bool) (x y z : A) → pick b x y ≡ z → (x ≡ z → ⊥) → (b ≡ false) × (y ≡ z)
unfolding pick
not_picked true x y z h n = absurd (n h)
not_picked false x y z h n = (refl, h)

-- what a called function said of a test, and what the branch then found
pub through : {r b v : Bool} → r ≡ b → r ≡ v → b ≡ v
through p q = sym p ∙ q

pub ruleset answers = (picked, passed, through)
