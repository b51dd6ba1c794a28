-- What a contract says of every call, it says of what is seen of one.
use Prim.Native.Nat.{ℕ}
use mathlib.Core.Path.{subst}
use mathlib.Core.List.{List}
use contract.Lifetimes.{Lfts}
use denote.Triple.Clauses.{AtExit}
use borrow.Fn.Kinds.{ParamKind, ResultKind, Dens, Out, res_t, ended_of}
use Rattle.answer.specs.Called.{Called}

pub of_call : {n : ℕ} {ps : List (ParamKind n)} {r : ResultKind n} {post : Out n ps r} {A : Type 0}
    {v : (κs : Lfts n) → Dens κs ps → (res_t r κs).Denot → AtExit (ended_of n ps r) κs → A} {seen : A} → Called ps r post v seen
    → (P : A → Type 0)
    → ((κs : Lfts n) (a : Dens κs ps) (x : (res_t r κs).Denot) (s : AtExit (ended_of n ps r) κs) → post κs a x s → P (v κs a x s))
    → P seen
of_call c P e = subst P c.sees (e c.lifetimes c.arguments c.result c.exit c.meets)
