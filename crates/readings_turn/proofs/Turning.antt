-- What a turn leaves, and what it makes of a run.
use Prim.Native.Nat.{ℕ}
use mathlib.Core.Path.{◌≡◌, refl, sym, ap, subst, ◌∙◌}
use mathlib.Core.Bool.{Bool, false, not}
use mathlib.Core.List.{List, [], ◌++◌, append-nil, append_assoc}
use lib.ListN.{length}
use lib.Dec.{eqb}
use Rattle.octets.proofs.Choices.{picks}
use Rattle.source.specs.Found.{cut_at}
use Rattle.source.specs.declared.Source.{Source}
use Rattle.session.specs.Lent.{Lent}
use Rattle.receiver.specs.declared.Receiver.{Receiver}
use Rattle.receiver.specs.declared.Event.{Event}
use Rattle.receiver.specs.declared.Event.TheVariants as event
use Rattle.window.specs.Window.{unread}
use Rattle.feed.specs.Pull.{fresh, hand_of, at_end, pulled, Pulls}
use Rattle.feed.specs.declared.Feed.{Feed}
use Rattle.feed.specs.declared.Pull.{Pull}
use Rattle.feed.specs.declared.Pulled.{Pulled}
use Rattle.window.specs.declared.Refilled.{Refilled}
use Rattle.readings_lines.specs.Output.{pending, failed_in}
use Rattle.readings_lines.specs.Lines.{Added, adding}
use Rattle.readings_frame.specs.Readings.{Layouts, numbered}
use Rattle.readings_frame.specs.declared.State.{State}
use Rattle.readings_lines.specs.declared.Output.{Output}
use Rattle.readings_lines.proofs.Adding.{was_right}
use Rattle.readings_turn.specs.Turns.{pull_adds, pull_hands, event_adds, event_hands, goes_on, is_bad, Heeds, Clears, cleared, Run, reads}
use Rattle.readings_turn.specs.Turns.{takes, Turned, handed_by, TurnsGoOn}
use Rattle.readings_turn.specs.Written.{begins}
use Rattle.readings_turn.specs.declared.Standing.{Standing}
use Rattle.readings_turn.proofs.Heeding.{stay_failed, clear_goes, clear_packets}

abbrev pub standing : Feed → Receiver → State → Refilled → Bool → Bool → Standing
standing f a s r b g = record { feed = f; receiver = a; state = s; read = r; bad = b; going = g }

pub turned : (l : Layouts) {b : Standing} {input kept input' kept' out out' counts counts' w : List ℕ} {t t' : Lent} {q : Pulled}
    {s₁ s₂ : State} {bad g : Bool}
    → Pulls b.feed input b.receiver kept t q input' kept' t' → Heeds l q.pull t' out counts b.state out' counts' s₁
    → length out' ≡ length out
    → w ≡ hand_of q.feed input' → Clears (length w) out' s₁ s₂ → bad ≡ is_bad q.pull → g ≡ goes_on q.pull (failed_in s₂.output)
    → Turned l b input kept t out counts (standing q.feed q.receiver s₂ q.read bad g) input' kept' t' out' counts'
turned l {input' = input'} {out' = out'} {q = q} {s₁} {s₂} p h same e c d k = record {
  pulled = q;
  pulls = p;
  feed = refl;
  receiver = refl;
  read = refl;
  bad = d;
  heard = s₁;
  heeds = h;
  long = same;
  clears = subst (λ (x : List ℕ). Clears (length x) out' s₁ s₂) e c;
  going = k;
}

pub begun_as : (a : Receiver) (s : State) {f : Feed} {u : Refilled} {b : Bool} → f ≡ fresh → u ≡ unread → b ≡ failed_in s.output
    → standing f a s u false (not b) ≡ begins a s
begun_as a s {f} {u} {b} p q r =
    ap (λ (x : Feed). standing x a s u false (not b)) p
    ∙ ap (λ (x : Refilled). standing fresh a s x false (not b)) q
    ∙ ap (λ (x : Bool). standing fresh a s unread false (not x)) r

-- ---- of a run

module _ (l : Layouts) (t : Lent) (packets : ℕ) (counts : List ℕ) (s : Source) (failed : Bool) (n : ℕ) where
  pub same-adds : (e : Event) → pull_adds l (pulled e s failed n) t packets counts ≡ event_adds l e t packets counts
  unfolding at_end
  same-adds (event.Missing m) =
      picks (λ (p : Pull). pull_adds l p t packets counts ≡ adding [] counts) failed _ _ (λ _. refl)
      (λ _. picks (λ (p : Pull). pull_adds l p t packets counts ≡ adding [] counts) (eqb n 0) _ _
      (λ _. picks (λ (p : Pull). pull_adds l p t packets counts ≡ adding [] counts) (cut_at s) _ _ (λ _. refl) (λ _. refl)) (λ _. refl))
  same-adds event.Bad = refl
  same-adds event.Over = refl
  same-adds event.Opened = refl
  same-adds event.Nothing = refl
  same-adds (event.Answered a) = refl

pub same-hands : (s : Source) (failed : Bool) (n : ℕ) (e : Event) → pull_hands (pulled e s failed n) ≡ event_hands e
unfolding at_end
same-hands s failed n (event.Missing m) =
    picks (λ (p : Pull). pull_hands p ≡ 0) failed _ _ (λ _. refl)
    (λ _. picks (λ (p : Pull). pull_hands p ≡ 0) (eqb n 0) _ _
    (λ _. picks (λ (p : Pull). pull_hands p ≡ 0) (cut_at s) _ _ (λ _. refl) (λ _. refl)) (λ _. refl))
same-hands s failed n event.Bad = refl
same-hands s failed n event.Over = refl
same-hands s failed n event.Opened = refl
same-hands s failed n event.Nothing = refl
same-hands s failed n (event.Answered a) = refl

module _ {l : Layouts} {a₀ : Receiver} {kept₀ counts₀ : List ℕ} {packets₀ : ℕ} {t₀ : Lent} {octets : List ℕ} {kept : List ℕ} {t : Lent}
  where
    run_as : {text text' counts counts' : List ℕ} {packets packets' : ℕ} {a a' : Receiver} {w w' : List ℕ}
        → text ≡ text' → counts ≡ counts' → packets ≡ packets' → a ≡ a' → w ≡ w'
        → Run l a₀ kept₀ counts₀ packets₀ t₀ octets text counts packets a kept w t
        → Run l a₀ kept₀ counts₀ packets₀ t₀ octets text' counts' packets' a' kept w' t
    run_as {text} {text'} {counts} {counts'} {packets} {packets'} {a} {a'} {w} {w'} p q m n o r =
        subst (λ (x : List ℕ). Run l a₀ kept₀ counts₀ packets₀ t₀ octets text' counts' packets' a' kept x t) o
        (subst (λ (x : Receiver). Run l a₀ kept₀ counts₀ packets₀ t₀ octets text' counts' packets' x kept w t) n
        (subst (λ (x : ℕ). Run l a₀ kept₀ counts₀ packets₀ t₀ octets text' counts' x a kept w t) m
        (subst (λ (x : List ℕ). Run l a₀ kept₀ counts₀ packets₀ t₀ octets text' x packets a kept w t) q
        (subst (λ (x : List ℕ). Run l a₀ kept₀ counts₀ packets₀ t₀ octets x counts packets a kept w t) p r))))

pub turns_go_on : TurnsGoOn
turns_go_on l b input kept t out counts r input' kept' t' out' counts' m a₀ kept₀ counts₀ packets₀ t₀ octets text run =
    let p = m.pulls in
    let e = p.received.event in
    let failed : Bool = m.pulled.read.failed in
    let came : ℕ = m.pulled.read.came in
    let before : ℕ = b.state.packets in
    let adds-are : pull_adds l m.pulled.pull t' before counts ≡ event_adds l e t' before counts =
    ap (λ (q : Pull). pull_adds l q t' before counts) p.tells ∙ same-adds l t' before counts b.receiver.source failed came e in
    let hands-are : pull_hands m.pulled.pull ≡ event_hands e = ap pull_hands p.tells ∙ same-hands b.receiver.source failed came e in
    let first = m.heeds.leaves.fills.adds in
    let middle : Output = m.heard.output in
    let last : Output = r.state.output in
    record {
      run = run_as
          (ap (λ (x : Added). text ++ x.text) (sym adds-are))
          (ap (λ (x : Added). x.counts) (sym adds-are) ∙ sym m.heeds.leaves.counts)
          (ap (numbered before) (sym hands-are) ∙ sym (clear_packets m.clears ∙ m.heeds.packets))
          (sym (m.receiver ∙ p.receiver))
          (sym (ap (λ (f : Feed). hand_of f input') m.feed ∙ p.window))
          (reads p.piece (takes p.received kept' t' p.calls run));
      adds = record {
        failed = λ h. stay_failed m.clears (first.failed h);
        written = handed_by m;
        goes = λ room h.
            append_assoc first.written (cleared (length (hand_of r.feed input')) out' m.heard) (pending out' last)
            ∙ ap (λ (x : List ℕ). first.written ++ x) (clear_goes m.clears h ∙ append-nil (pending out' middle))
            ∙ first.goes room (was_right (failed_in middle) (failed_in last) (stay_failed m.clears) h);
      };
      hands = refl;
    }
