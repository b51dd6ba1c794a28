-- A call of a function, by the contract that Rattle generates of it.
use Rattle.std.specs.Prelude.{ℕ, ◌≡◌, List}
use contract.Lifetimes.{Lfts}
use denote.Triple.Clauses.{AtExit}
use borrow.Fn.Kinds.{ParamKind, ResultKind, Dens, Out, res_t, ended_of}

-- Some call met the contract post, and what v sees of its arguments, its result and the parameters at exit is seen.
pub record Called {n : ℕ} (ps : List (ParamKind n)) (r : ResultKind n) (post : Out n ps r) {A : Type 0}
    (v : (κs : Lfts n) → Dens κs ps → (res_t r κs).Denot → AtExit (ended_of n ps r) κs → A) (seen : A) : Type 0 where
  pub lifetimes : Lfts n
  pub arguments : Dens lifetimes ps
  pub result : (res_t r lifetimes).Denot
  pub exit : AtExit (ended_of n ps r) lifetimes
  pub meets : post lifetimes arguments result exit
  pub sees : v lifetimes arguments result exit ≡ seen
