-- What the whole loop makes.
use Rattle.std.proofs.Common.{◌≡◌, ℕ, ◌+◌, ◌≤◌, Bool, true, false, not, ◌||◌, List, [], ◌++◌, length, take, ℤ, sym, refl, ap, ◌∙◌, subst, true≢false, append-nil}
use borrow.Author.Tests.{not-false}
use Rattle.octets.specs.Pick.{pick}
use Rattle.octets.proofs.Tests.{or_left, or_right}
use Rattle.decimal.specs.Laid.{Puts}
use Rattle.listing_lines.specs.Text.{longest_line, header}
use Rattle.receiver.specs.declared.Receiver.{Receiver}
use Rattle.window.specs.Turns.{Turns, none, more, Made, Loops}
use Rattle.window.specs.Status.{broken}
use Rattle.window.specs.Window.{unread, unwritten}
use Rattle.window.specs.declared.Written.{Written}
use Rattle.window.specs.declared.Refilled.{Refilled}
use Rattle.window.proofs.Looping.{at_first, one_more}
use Rattle.listing.specs.Promised.{to_come, at_end}
use Rattle.listing.specs.Whole.{Run, starts}
use Rattle.listing.proofs.Whole.{pieces_are_listed}
use Rattle.decode_run.specs.Turns.{hand_of, failed_in, Turned, Ends, Place, going_at, TurnedAt, start_of, place, Looped}
use Rattle.decode_run.specs.Turns.{status_of, Ran, all_written, Whole, LoopsList}
use Rattle.decode_run.specs.declared.State.{State}
use Rattle.decode_run.specs.declared.Stopped.{Stopped}
use Rattle.decode_run.proofs.Turning.{put_first}

-- Turns from a state on, with all that was read in them.
pub record Gone (s₀ : State) (input₀ kept₀ : List ℕ) (n : ℕ) (s : State) (input kept : List ℕ) : Type 0 where
  pub octets : List ℕ
  pub made : Made going_at TurnedAt (place s₀ input₀ kept₀ []) n (place s input kept octets)

module _ {s₀ : State} {input₀ kept₀ : List ℕ} where
  pub not_gone : Gone s₀ input₀ kept₀ 0 s₀ input₀ kept₀
  not_gone = record { octets = []; made = at_first }

  pub gone_on : {n : ℕ} {s : State} {input kept said : List ℕ} {r : State} {input' kept' : List ℕ} → Gone s₀ input₀ kept₀ n s input kept
      → s.going ≡ true → Turned s input kept said r input' kept' → Gone s₀ input₀ kept₀ (n + 1) r input' kept'
  gone_on g e t = record { octets = g.octets ++ t.piece; made = one_more g.made e (record { turned = t; read = refl }) }

-- What the turns wrote is what the calls left of all that was read; and how the last one ended.
record Sofar (a : Receiver) (kept text : List ℕ) (p : Place) : Type 0 where
  run : Run a kept p.octets text p.state.receiver p.kept (hand_of p.state p.input)
  ends : p.state.going ≡ false → failed_in p.state ≡ false
      → Ends p.state.over p.state.receiver p.kept (hand_of p.state p.input)

sofar : {a : Receiver} {o : Written} {input kept : List ℕ} {n : ℕ} {text : List ℕ} {p : Place}
    → Turns going_at TurnedAt (place (start_of a o) input kept []) n text p → Sofar a kept text p
sofar none = record { run = starts; ends = λ e d. absurd (true≢false (sym (not-false _ e) ∙ d)) }
sofar {a} {kept = kept} (more {text = text} {said} {r} {t} before g x) =
    let h = sofar before in
    record {
      run = subst (λ (o : List ℕ). Run a kept o (text ++ said) t.state.receiver t.kept (hand_of t.state t.input))
          (sym x.read) (x.turned.goes a kept r.octets text h.run);
      ends = λ e d. (x.turned.ends e d).0;
    }

-- with the last line
all : {a : Receiver} {kept octets text : List ℕ} {b : Receiver} {kept' w : List ℕ} (bad : Bool) → Run a kept octets text b kept' w
    → Ends bad b kept' w → {head last begun : List ℕ} → head ≡ begun → last ≡ pick false [] (pick bad [] (at_end b.source))
    → Whole bad (λ o ended. begun ++ to_come a kept o ended) octets (head ++ (text ++ last))
unfolding pick
all {text = text} true run e {head} {last} {begun} h l = λ p ended.
    ap (λ (x : List ℕ). x ++ (text ++ last)) h
    ∙ ap (λ (x : List ℕ). begun ++ (text ++ x)) l
    ∙ ap (λ (x : List ℕ). begun ++ x) (append-nil text ∙ pieces_are_listed.over run e p ended)
all {text = text} false run e {head} {last} {begun} h l =
    ap (λ (x : List ℕ). x ++ (text ++ last)) h
    ∙ ap (λ (x : List ℕ). begun ++ (text ++ x)) l
    ∙ ap (λ (x : List ℕ). begun ++ x) (pieces_are_listed.last e.n run e.waits)

-- ---- the status

-- what called functions said of a test, and what the branch then found
pub tested : (g : Bool) {x x' y y' v : Bool} → x ≡ x' → y ≡ y' → ((g || x) || y) ≡ v → ((g || x') || y') ≡ v
tested g {x} {x'} {y} {y'} p q h = ap (λ (b : Bool). (g || b) || y') (sym p) ∙ ap (λ (b : Bool). (g || x) || b) (sym q) ∙ h

pub tested_two : (g : Bool) {x x' v : Bool} → x ≡ x' → (g || x) ≡ v → (g || x') ≡ v
tested_two g p h = ap (λ (b : Bool). g || b) (sym p) ∙ h

-- a status that is not 2
whole_run : (b : Bool) (x : ℤ) {status : ℤ} → status ≡ pick b broken x → (status ≡ broken → ⊥) → b ≡ false
unfolding pick
whole_run true x e other = absurd (other e)
whole_run false x e other = refl

by_failed : (b : Bool) (x : List ℕ) {l : List ℕ} → b ≡ false → l ≡ pick b [] x → l ≡ pick false [] x
by_failed b x e h = h ∙ ap (λ (v : Bool). pick v [] x) e

pub loops-list : LoopsList
loops-list = record { lists = λ r other. lists r other; recording = λ r other. lists r other }
  where
    lists : {text : List ℕ} {a : Receiver} {status : ℤ} (r : Ran text a status) → (status ≡ broken → ⊥)
        → Whole r.stopped.state.over (λ octets ended. text ++ to_come a r.kept octets ended) r.looped.octets (all_written r)
    lists r other =
        let s = r.stopped.state in
        let well = whole_run _ _ r.says other in
        let ended = or_left _ _ well in
        let going = or_left _ _ ended in
        let good = or_right s.going _ ended in
        let h = sofar r.looped.loops.made.turns in
        all s.over h.run (h.ends going good) r.begins (by_failed _ _ good (r.looped.last going))

-- The loop from the start, of which the state says that nothing was read yet, by what the first write answered.
pub begun : (a : Receiver) (o : Written) {f : Refilled} {b : Bool} (input kept : List ℕ) {n : ℕ} {p : Place} → f ≡ unread → b ≡ o.failed
    → Loops going_at TurnedAt
    (place (record { receiver = a; at = 0; end = 0; used = 0; going = not b; over = false; read = f; written = o }) input kept []) n p
    → Loops going_at TurnedAt (place (start_of a o) input kept []) n p
begun a o input kept {n} {p} ef eb l = rw (ef, eb) at l

-- ---- the whole run

module _ {a : Receiver} {first : Written} {input kept : List ℕ} {stopped : Stopped} {input' kept' out' : List ℕ} {status : ℤ} where
  -- behind nothing, by a receiver that is a
  pub ran : {b : Receiver} → b ≡ a → first ≡ unwritten → Looped b first input kept stopped input' kept' out' → status ≡ status_of stopped
      → Ran [] a status
  ran e f l s = record {
    first = first;
    top = [];
    begins = ap (λ (o : Written). take {A = ℕ} o.size []) f;
    input = input;
    kept = kept;
    stopped = stopped;
    input' = input';
    kept' = kept';
    out' = out';
    looped = subst (λ (x : Receiver). Looped x first input kept stopped input' kept' out') e l;
    says = s;
  }

  -- behind the header, which was put at the output's start
  pub ran_behind : {before top : List ℕ} {n : ℕ} → Puts longest_line header before 0 top n → longest_line ≤ length before
      → take first.size top ≡ take n top → Looped a first input kept stopped input' kept' out' → status ≡ status_of stopped
      → Ran header a status
  ran_behind {top = top} p has e l s = record {
    first = first;
    top = top;
    begins = e ∙ put_first p has;
    input = input;
    kept = kept;
    stopped = stopped;
    input' = input';
    kept' = kept';
    out' = out';
    looped = l;
    says = s;
  }
