-- No second result satisfies a contract of this crate's public functions.
use Rattle.std.specs.Prelude.{Ok, Err}
use Prim.Native.Nat.{ℕ}
use mathlib.Core.Path.{◌≡◌, refl, sym, ap, ◌∙◌}
use mathlib.Core.List.{List}
use Rattle.octets.specs.Unique.{Fixes}
use Rattle.octets.specs.Pick.{pick}
use Rattle.octets.proofs.Fixed.{fixed}
use Rattle.answer.specs.Told.{Told}
use Rattle.session.specs.Lent.{Lent, lent}
use Rattle.session.specs.Step.{told}
use Rattle.session.specs.declared.Accepted.{Accepted}
use Rattle.session.specs.Answers.{StepAnswer}
use Rattle.session.specs.declared.Stepped.{Stepped}
use Rattle.session.proofs.Told.{one-stepped}
use Rattle.receiver.specs.Receive.{Tells, missing, bad, over, opened, nothing, answered, told_of, Receipt, Gives}
use Rattle.receiver.specs.declared.Receiver.{Receiver}
use Rattle.receiver.specs.declared.Received.{Received}
use Rattle.receiver.specs.declared.Event.{Event}
use Rattle.receiver.specs.declared.Event.TheVariants as event
use Rattle.receiver.proofs.Beginning.{one-begun}
use Rattle.receiver.proofs.offer.Kinds as koffer
use Rattle.receiver.proofs.offer.Reads as roffer
use Rattle.receiver.proofs.Receiver.recording.Kinds as krecording
use Rattle.receiver.proofs.Receiver.recording.Reads as rrecording
use Rattle.receiver.proofs.Receiver.kiss.Kinds as kkiss
use Rattle.receiver.proofs.Receiver.kiss.Reads as rkiss
use Rattle.receiver.proofs.Receiver.bits.Kinds as kbits
use Rattle.receiver.proofs.Receiver.bits.Reads as rbits
use Rattle.receiver.proofs.Receiver.next.Kinds as knext
use Rattle.receiver.proofs.Receiver.next.Reads as rnext

pub recording_fixed : Fixes krecording.ps krecording.r rrecording.Post (λ κs x s. x)
recording_fixed = fixed krecording.ps krecording.r rrecording.Post _ _ (λ κs a x s p. p)

pub kiss_fixed : Fixes kkiss.ps kkiss.r rkiss.Post (λ κs x s. x)
kiss_fixed κs a x y s t p q = one-begun p q

pub bits_fixed : Fixes kbits.ps kbits.r rbits.Post (λ κs x s. x)
bits_fixed κs a x y s t p q = one-begun p q

-- the answer that tells so, and the event
answer_of : Told Accepted → StepAnswer
answer_of t = pick t.accepted (Ok t.fields) (Err (record { number = t.refusal; octet = t.octet }))

answer-told : (a : StepAnswer) → answer_of (told a) ≡ a
unfolding pick answer_of
answer-told (Ok a) = refl
answer-told (Err r) = refl

event_of : Tells → Event
event_of (missing n) = event.Missing n
event_of bad = event.Bad
event_of over = event.Over
event_of opened = event.Opened
event_of nothing = event.Nothing
event_of (answered t) = event.Answered (answer_of t)

event_told : (e : Event) → event_of (told_of e) ≡ e
unfolding event_of
event_told (event.Missing n) = refl
event_told event.Bad = refl
event_told event.Over = refl
event_told event.Opened = refl
event_told event.Nothing = refl
event_told (event.Answered a) = ap event.Answered (answer-told a)

-- no two events are told alike
told_apart : (x y : Event) → told_of x ≡ told_of y → x ≡ y
told_apart x y h = sym (event_told x) ∙ ap event_of h ∙ event_told y

same : {r q : Received} → r.receiver ≡ q.receiver → r.used ≡ q.used → r.event ≡ q.event → r ≡ q
same {r} {q} a b c =
    ap {B = Received} (λ (x : Receiver). record { receiver = x; used = r.used; event = r.event }) a
    ∙ ap {B = Received} (λ (n : ℕ). record { receiver = q.receiver; used = n; event = r.event }) b
    ∙ ap {B = Received} (λ (e : Event). record { receiver = q.receiver; used = q.used; event = e }) c

-- the answer, the octets kept and what was lent afterwards
one-received : {o : Receipt} {r q : Received} {k₁ k₂ : List ℕ} {l l₁ l₂ : Lent} → Gives o r k₁ l l₁ → Gives o q k₂ l l₂
    → ◌≡◌ {A = Received × List ℕ × Lent} (r, k₁, l₁) (q, k₂, l₂)
one-received {r = r} {q = q} a b =
    let n : r.event ≡ q.event = told_apart r.event q.event (a.tells ∙ sym b.tells) in
    simp (same (a.receiver ∙ sym b.receiver) (a.used ∙ sym b.used) n, a.keeps, b.keeps, a.leaves, b.leaves)

pub next_fixed : Fixes knext.ps knext.r {A = Received × List ℕ × Lent} rnext.Post
    (λ κs x s. (x, s.1.1.0.now, lent s.1.1.1.0.now s.1.1.1.1.0.now s.1.1.1.1.1.0.now))
next_fixed κs a x y s t p q = one-received p q

-- the answer, and what was lent afterwards
pub offer_fixed : Fixes koffer.ps koffer.r {A = Stepped × Lent} roffer.Post
    (λ κs x s. (x, lent s.1.1.1.1.0.now s.1.1.1.1.1.0.now s.1.1.1.1.1.1.0.now))
offer_fixed κs a x y s t p q = one-stepped p q
