-- A contract that says what a value is fixes it.
use Prim.Native.Nat.{ℕ}
use mathlib.Core.Path.{◌≡◌, sym, ◌∙◌}
use mathlib.Core.List.{List}
use contract.Lifetimes.{Lfts}
use denote.Triple.Clauses.{AtExit}
use borrow.Fn.Kinds.{ParamKind, ResultKind, Dens, Out, res_t, ended_of}
use Rattle.octets.specs.Unique.{Fixes}

-- The value is f of the arguments.
pub fixed : {n : ℕ} (ps : List (ParamKind n)) (r : ResultKind n) {A : Type 0} (post : Out n ps r)
    (v : (κs : Lfts n) → (res_t r κs).Denot → AtExit (ended_of n ps r) κs → A)
    (f : (κs : Lfts n) → Dens κs ps → A)
    → ((κs : Lfts n) (a : Dens κs ps) (x : (res_t r κs).Denot) (s : AtExit (ended_of n ps r) κs) → post κs a x s → v κs x s ≡ f κs a)
    → Fixes ps r post v
fixed ps r post v f e κs a x y s t p q = e κs a x s p ∙ sym (e κs a y t q)

-- What is told of the value is f of the arguments, and no two values are told alike.
pub fixed_told : {n : ℕ} (ps : List (ParamKind n)) (r : ResultKind n) {A B : Type 0} (post : Out n ps r)
    (v : (κs : Lfts n) → (res_t r κs).Denot → AtExit (ended_of n ps r) κs → A)
    (tell : A → B) → ((x y : A) → tell x ≡ tell y → x ≡ y)
    → (f : (κs : Lfts n) → Dens κs ps → B)
    → ((κs : Lfts n) (a : Dens κs ps) (x : (res_t r κs).Denot) (s : AtExit (ended_of n ps r) κs) → post κs a x s → tell (v κs x s) ≡ f κs a)
    → Fixes ps r post v
fixed_told ps r post v tell apart f e κs a x y s t p q = apart (v κs x s) (v κs y t) (e κs a x s p ∙ sym (e κs a y t q))
