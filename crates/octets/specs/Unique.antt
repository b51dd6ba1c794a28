-- No second result satisfies a contract: said of the contract that Rattle generates of a function.
use Rattle.std.specs.Prelude.{ℕ, ◌≡◌, List}
use contract.Lifetimes.{Lfts}
use denote.Triple.Clauses.{AtExit}
use borrow.Fn.Kinds.{ParamKind, ResultKind, Dens, Out, res_t, ended_of}

-- Whatever the arguments are, the contract post leaves one value of what v sees of the result and the parameters at exit.
abbrev pub Fixes : {n : ℕ} (ps : List (ParamKind n)) (r : ResultKind n) {A : Type 0} → Out n ps r
    → ((κs : Lfts n) → (res_t r κs).Denot → AtExit (ended_of n ps r) κs → A) → Type 0
Fixes {n} ps r post v =
    (κs : Lfts n) (a : Dens κs ps) (x y : (res_t r κs).Denot) (s t : AtExit (ended_of n ps r) κs)
    → post κs a x s → post κs a y t → v κs x s ≡ v κs y t
