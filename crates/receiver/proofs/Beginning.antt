-- What the receivers of streams answer is the opening's answer.
use Prim.Native.Nat.{ℕ, ◌≤◌, ◌<◌}
use mathlib.Core.Path.{◌≡◌, refl, sym, ap, ◌∙◌}
use borrow.Author.Tests.{lt-ltb, le-ltb}
use Rattle.octets.proofs.Choices.{picked, passed}
use Rattle.answer.specs.Told.{accept, refuse}
use Rattle.answer.specs.Refusals.{time_length}
use Rattle.session.specs.Open.{Opening, opening}
use Rattle.session.specs.Answers.{OpenAnswer}
use Rattle.session.proofs.Told.{open_told_apart}
use Rattle.source.specs.declared.Source.{Source}
use Rattle.receiver.specs.Receive.{fresh_stream, Begins, TimeRefused}
use Rattle.receiver.specs.declared.Receiver.{Receiver}
use Rattle.receiver.specs.declared.Begun.{Begun}

-- of a source that is known to be another
pub of_source : {s z : Source} {t : ℕ} {r : Begun} → s ≡ z → Begins s t r → Begins z t r
of_source {t = t} e b = record { receiver = b.receiver ∙ ap (λ (x : Source). fresh_stream x t) e; answers = b.answers }

above : (t : ℕ) → 8 < t → (opening t 0).answer ≡ refuse tt time_length
unfolding opening
above t h = ap (λ (o : Opening). o.answer) (sym (picked _ _ _ (lt-ltb 8 t h)))

below : (t : ℕ) → t ≤ 8 → (opening t 0).answer ≡ accept tt
unfolding opening
below t h = ap (λ (o : Opening). o.answer) (sym (passed _ _ _ _ (le-ltb 8 t h) refl))

pub time-refused : TimeRefused
time-refused s t r b = (λ h. b.answers ∙ above t h, λ h. b.answers ∙ below t h)

pub one-begun : {s : Source} {t : ℕ} {r q : Begun} → Begins s t r → Begins s t q → r ≡ q
one-begun {r = r} {q = q} a b =
    ap {B = Begun} (λ (x : Receiver). record { receiver = x; answer = r.answer }) (a.receiver ∙ sym b.receiver)
    ∙ ap {B = Begun} (λ (x : OpenAnswer). record { receiver = q.receiver; answer = x })
    (open_told_apart r.answer q.answer (a.answers ∙ sym b.answers))
