-- No two answers are told alike, what refusals tell, and what the contracts leave.
use Rattle.std.specs.Prelude.{Ok, Err}
use Prim.Native.Nat.{ℕ}
use mathlib.Core.Path.{◌≡◌, refl, sym, ap, ◌∙◌}
use mathlib.Core.Bool.{true≢false}
use borrow.Author.Tests.{lt-ltb}
use Rattle.octets.specs.Pick.{pick}
use Rattle.answer.proofs.Told.{same-fields, same-reason, same-refusal-at, accept_or_refuse, refuse_or_accept}
use Rattle.session.specs.Open as opening
use Rattle.session.specs.Lent.{Lent}
use Rattle.session.specs.Step as stepping
use Rattle.session.specs.Statements.{RefusalsTell0, RefusedFresh}
use Rattle.session.specs.declared.Session.{Session}
use Rattle.session.specs.declared.Opened.{Opened}
use Rattle.session.specs.Answers.{OpenAnswer}
use Rattle.session.specs.declared.Stepped.{Stepped}
use Rattle.session.specs.Answers.{StepAnswer}

pub open_told_apart : (x y : OpenAnswer) → opening.told x ≡ opening.told y → x ≡ y
open_told_apart (Ok a) (Ok b) h = refl
open_told_apart (Err n) (Err m) h = ap Err (same-reason n m h)
open_told_apart (Ok a) (Err m) h = accept_or_refuse h
open_told_apart (Err n) (Ok b) h = refuse_or_accept h

pub step_told_apart : (x y : StepAnswer) → stepping.told x ≡ stepping.told y → x ≡ y
step_told_apart (Ok a) (Ok b) h = ap Ok (same-fields h)
step_told_apart (Err n) (Err m) h = ap Err (same-refusal-at n m h)
step_told_apart (Ok a) (Err m) h = accept_or_refuse h
step_told_apart (Err n) (Ok a) h = refuse_or_accept h

pub refusals_tell_0 : RefusalsTell0
refusals_tell_0 (Ok a) h = absurd (true≢false h)
refusals_tell_0 (Err n) h = record { arrival = refl; channel = refl; lost = refl; master = refl; packets = refl; headers = refl }

pub refused-fresh : RefusedFresh
unfolding opening.opening pick
refused-fresh t last h = rw (lt-ltb 8 t h)

both-opened : {r q : Opened} → r.session ≡ q.session → r.answer ≡ q.answer → r ≡ q
both-opened {r} {q} s n =
    ap {B = Opened} (λ (x : Session). record { session = x; answer = r.answer }) s
    ∙ ap {B = Opened} (λ (x : OpenAnswer). record { session = q.session; answer = x }) n

both-stepped : {r q : Stepped} → r.session ≡ q.session → r.answer ≡ q.answer → r ≡ q
both-stepped {r} {q} s n =
    ap {B = Stepped} (λ (x : Session). record { session = x; answer = r.answer }) s
    ∙ ap {B = Stepped} (λ (x : StepAnswer). record { session = q.session; answer = x }) n

-- the session and the answer of an opening
pub one-opened : {t last : ℕ} {r q : Opened} → opening.Opens t last r → opening.Opens t last q → r ≡ q
one-opened {r = r} {q = q} a b =
    let s : r.session ≡ q.session = a.session ∙ sym b.session in
    let n : r.answer ≡ q.answer = open_told_apart r.answer q.answer (a.answers ∙ sym b.answers) in
    both-opened s n

-- the session, the answer and what was lent of a step
pub one-stepped : {o : stepping.Outcome} {r q : Stepped} {l l₁ l₂ : Lent}
    → stepping.Gives o r l l₁ → stepping.Gives o q l l₂ → ◌≡◌ {A = Stepped × Lent} (r, l₁) (q, l₂)
one-stepped {r = r} {q = q} a b =
    let s : r.session ≡ q.session = a.session ∙ sym b.session in
    let n : r.answer ≡ q.answer = step_told_apart r.answer q.answer (a.answers ∙ sym b.answers) in
    simp (both-stepped s n, a.leaves, b.leaves)
