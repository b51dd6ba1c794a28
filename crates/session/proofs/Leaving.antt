-- What a refused call leaves, over the contracts that Rattle generates of the calls.
use Prim.Native.Nat.{ℕ, ◌+◌}
use mathlib.Core.Path.{◌≡◌, refl, sym, ap, ◌∙◌}
use mathlib.Core.Bool.{Bool, true, false, true≢false}
use mathlib.Core.List.{List, []}
use lib.Dec.{eqb}
use Rattle.octets.specs.Pick.{pick}
use Rattle.octets.proofs.Choices.{picks}
use Rattle.answer.specs.Told.{Told}
use Rattle.answer.specs.Refusals as no
use Rattle.frame.specs.declared.Frame.{Frame}
use Rattle.frame.specs.Frame.{read_information, read_header, read_frame}
use Rattle.rules.specs.Limits.{last_number}
use Rattle.rules.specs.Channel.{Handed}
use Rattle.session.specs.Channel.{unsound}
use Rattle.session.specs.Lent.{Lent, lent, scant, laid}
use Rattle.session.specs.Step.{told, Outcome, counted, accepted, heeded, barred, admitted, outcome, turned_away, Gives}
use Rattle.session.specs.Statements.{nothing_taken_up, renumbered, RefusalLeaves, Always}
use Rattle.session.specs.declared.Accepted.{Accepted}
use Rattle.session.specs.declared.Session.{Session}
use Rattle.session.specs.declared.Stepped.{Stepped}
use Rattle.session.proofs.Session.step.Kinds as kstep
use Rattle.session.proofs.Session.step.Reads as rstep
use Rattle.session.proofs.Session.turn_away.Kinds as kturn
use Rattle.session.proofs.Session.turn_away.Reads as rturn

-- ---- the numbers

-- the gate's refusals are 1, 4 and 3
abbrev Barring : ℕ → Type 0
Barring n = eqb n 0 ≡ false → nothing_taken_up n ≡ true

barred_so : (s : Session) (l : Lent) → Barring (barred s l)
unfolding barred
barred_so s l =
    picks Barring (scant l) no.room _ (λ e h. refl)
    (λ e. picks Barring (unsound s) no.session _ (λ e h. refl)
    (λ e. picks Barring (eqb s.arrival last_number) no.arrivals 0 (λ e h. refl) (λ e h. absurd (true≢false h))))

-- and the frame reader's are others
abbrev Others : Told Frame → Type 0
Others r = r.accepted ≡ false → nothing_taken_up r.refusal ≡ false

read-others : (t : ℕ) (s : List ℕ) → Others (read_frame t s)
unfolding read_frame read_header read_information
read-others t s =
    picks Others _ _ _ (λ e h. refl)
    (λ e. picks Others _ _ _ (λ e h. refl)
    (λ e. picks Others _ _ _ (λ e h. refl)
    (λ e. picks Others _ _ _ (λ e h. refl)
    (λ e. picks Others _ _ _ (λ e h. refl)
    (λ e. picks Others _ _ _ (λ e h. refl)
    (λ e. picks Others _ _ _ (λ e h. refl)
    (λ e. picks Others _ _ _ (λ e h. refl)
    (λ e. picks Others _ _ _ (λ e h. refl)
    (λ e. picks Others _ _ _ (λ e h. refl)
    (λ e h. absurd (true≢false h)))))))))))

-- ---- what comes of it

record Leaves (s : Session) (o : Outcome) : Type 0 where
  handed : o.packets ≡ []
  counted : o.answer.fields.packets ≡ 0
  same : nothing_taken_up o.answer.refusal ≡ true → o.session ≡ s
  next : nothing_taken_up o.answer.refusal ≡ false → o.session ≡ renumbered (s.arrival + 1) s

abbrev IfRefused : Session → Outcome → Type 0
IfRefused s o = o.answer.accepted ≡ false → Leaves s o

heeded-leaves : (s : Session) (x : List ℕ) → IfRefused s (heeded (counted s) x (read_frame s.t x))
unfolding accepted pick
heeded-leaves s x = by (read_frame s.t x).accepted refl
  where
    by : (b : Bool) → (read_frame s.t x).accepted ≡ b → IfRefused s (heeded (counted s) x (read_frame s.t x))
    by true a h = let z : true ≡ false = rw a at h in absurd (true≢false z)
    by false a h =
        let other : nothing_taken_up (read_frame s.t x).refusal ≡ false = read-others s.t x a in
        record {
          handed = rw a;
          counted = rw a;
          same = λ g. let z : nothing_taken_up (read_frame s.t x).refusal ≡ true = rw a at g in absurd (true≢false (sym z ∙ other));
          next = λ g. rw a;
        }

-- the gate lets through what is refused afterwards, or refuses itself
admitted-leaves : (s : Session) (l : Lent) (o : Outcome) → IfRefused s o → IfRefused s (admitted s l o)
admitted-leaves s l o p =
    picks (IfRefused s) (eqb (barred s l) 0) o _ (λ e. p)
    (λ e h. record {
      handed = refl;
      counted = refl;
      same = λ b. refl;
      next = λ b. absurd (true≢false (sym (barred_so s l e) ∙ b));
    })

step_leaves_so : (s : Session) (x : List ℕ) (l : Lent) → IfRefused s (outcome s x l)
unfolding outcome
step_leaves_so s x l = admitted-leaves s l _ (heeded-leaves s x)

turn_leaves_so : (s : Session) (n : ℕ) (l : Lent) → nothing_taken_up n ≡ false → IfRefused s (turned_away s n l)
unfolding turned_away pick
turn_leaves_so s n l own = by (eqb (barred s l) 0) refl
  where
    by : (b : Bool) → eqb (barred s l) 0 ≡ b → IfRefused s (turned_away s n l)
    by true e h =
        record {
          handed = rw e;
          counted = rw e;
          same = λ g. let z : nothing_taken_up n ≡ true = rw e at g in absurd (true≢false (sym z ∙ own));
          next = λ g. rw e;
        }
    by false e h =
        record {
          handed = rw e;
          counted = rw e;
          same = λ g. rw e;
          next = λ g. let z : nothing_taken_up (barred s l) ≡ false = rw e at g in absurd (true≢false (sym (barred_so s l e) ∙ z));
        }

turn_refused : (s : Session) (n : ℕ) (l : Lent) → (turned_away s n l).answer.accepted ≡ false
unfolding turned_away
turn_refused s n l = picks (λ (o : Outcome). o.answer.accepted ≡ false) _ _ _ (λ e. refl) (λ e. refl)

-- what is given
given : (s : Session) (o : Outcome) (r : Stepped) (l l' : Lent) → Gives o r l l' → Leaves s o → RefusalLeaves s l r l'
given s o r l l' g w =
    let n : (told r.answer).refusal ≡ o.answer.refusal = ap (λ (a : Told Accepted). a.refusal) g.answers in
    record {
      packets = ap (λ (a : Told Accepted). a.fields.packets) g.answers ∙ w.counted;
      lent = g.leaves ∙ ap (λ (ps : List Handed). laid ps l) w.handed;
      same = λ h. g.session ∙ w.same (ap nothing_taken_up (sym n) ∙ h);
      next = λ h. g.session ∙ w.next (ap nothing_taken_up (sym n) ∙ h);
    }

-- ---- the calls

pub step-leaves : Always kstep.ps kstep.r rstep.Post (λ κs a x s. (told x.answer).accepted ≡ false
    → RefusalLeaves a.0 (lent a.1.1.0.now a.1.1.1.0.now a.1.1.1.1.0.now) x
    (lent s.1.1.0.now s.1.1.1.0.now s.1.1.1.1.0.now))
step-leaves κs a x s p h =
    given a.0 _ x _ _ p (step_leaves_so a.0 _ _ (sym (ap (λ (t : Told Accepted). t.accepted) p.answers) ∙ h))

-- turning a stretch away, with a refusal of its own that is none of these, is always a refusal
pub turn_away_leaves : Always kturn.ps kturn.r rturn.Post (λ κs a x s. nothing_taken_up a.1.0 ≡ false
    → ((told x.answer).accepted ≡ false)
    × RefusalLeaves a.0 (lent a.1.1.0.now a.1.1.1.0.now a.1.1.1.1.0.now) x
    (lent a.1.1.0.now a.1.1.1.0.now a.1.1.1.1.0.now))
turn_away_leaves κs a x s p b =
    let no : (turned_away a.0 a.1.0 _).answer.accepted ≡ false = turn_refused a.0 a.1.0 _ in
    (ap (λ (t : Told Accepted). t.accepted) p.answers ∙ no, given a.0 _ x _ _ p (turn_leaves_so a.0 a.1.0 _ b no))
