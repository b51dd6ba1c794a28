-- What the whole loop counts, and the exit status.
use Prim.Native.Nat.{ℕ, ◌+◌}
use mathlib.Core.Path.{◌≡◌, refl, sym, ap, ◌∙◌, subst}
use mathlib.Core.List.{List, [], ◌++◌, append_assoc, append-nil}
use mathlib.Core.Bool.{Bool, true, false, ◌||◌, true≢false}
use lib.IntN.{ℤ}
use lib.ListN.{replicate}
use Rattle.octets.proofs.Choices.{picked, passed}
use Rattle.sequence.specs.Sequence.{entries}
use Rattle.session.specs.Lent.{Lent}
use Rattle.receiver.specs.Run.{roomy}
use Rattle.receiver.specs.declared.Receiver.{Receiver}
use Rattle.feed.specs.Pull.{fresh}
use Rattle.feed.specs.declared.Feed.{Feed}
use Rattle.window.specs.Turns.{Turns, none, more, Made, most}
use Rattle.window.specs.Status.{done, against, broken}
use Rattle.window.specs.Window.{unread}
use Rattle.window.specs.declared.Refilled.{Refilled}
use Rattle.window.proofs.Looping.{at_first, one_more, stopped, all_made}
use Rattle.summary_count.specs.Count.{Ledger, Tally, ledger, with_counts, judged}
use Rattle.summary_run.specs.Counted.{at_hand, with_octets, bad_in, Turned}
use Rattle.summary_run.specs.Whole.{Place, going_at, TurnedAt, place, start_of, none_kept, Looped, Counts, CountsAll}
use Rattle.summary_run.specs.Shown.{text_of, Shown, not_shown, first}
use Rattle.summary_run.specs.Told.{broke, Finished, most_keys, no_counts, Runs}
use Rattle.summary_run.specs.declared.State.{State}
use Rattle.summary_run.specs.declared.Stopped.{Stopped}
use Rattle.summary_run.specs.declared.showing.Told.{Told}

-- ---- the loop

-- Turns from a state on, with all that was read in them.
pub record Gone (s₀ : State) (input₀ kept₀ : List ℕ) (l₀ : Lent) (g₀ : Ledger) (n : ℕ) (s : State) (input kept : List ℕ) (l : Lent)
    (g : Ledger)
    : Type 0 where
  pub octets : List ℕ
  pub made : Made going_at TurnedAt (place s₀ input₀ kept₀ l₀ g₀ []) n (place s input kept l g octets)

module _ {s₀ : State} {input₀ kept₀ : List ℕ} {l₀ : Lent} {g₀ : Ledger} where
  pub not_gone : Gone s₀ input₀ kept₀ l₀ g₀ 0 s₀ input₀ kept₀ l₀ g₀
  not_gone = record { octets = []; made = at_first }

  pub gone_on : {n : ℕ} {s : State} {input kept : List ℕ} {l : Lent} {g : Ledger} {r : State} {input' kept' : List ℕ} {l' : Lent}
      {g' : Ledger} → Gone s₀ input₀ kept₀ l₀ g₀ n s input kept l g → s.going ≡ true
      → Turned s input kept l g r input' kept' l' g' → Gone s₀ input₀ kept₀ l₀ g₀ (n + 1) r input' kept' l' g'
  gone_on x e t = record {
    octets = x.octets ++ t.pulls.piece;
    made = one_more x.made e (record { turned = t; says = refl; read = refl });
  }

-- The loop from the start, of which the state says that nothing was read yet.
module _ (a : Receiver) {f : Feed} {u : Refilled} (ef : f ≡ fresh) (er : u ≡ unread) {input : List ℕ} {g : Ledger} {n : ℕ} {r : State}
    {input' kept' : List ℕ} {l' : Lent} {g' : Ledger}
    (x : Gone (record { feed = f; receiver = a; going = true; bad = false; read = u }) input none_kept roomy g n r input' kept' l' g') where
  begun : Gone (start_of a) input none_kept roomy g n r input' kept' l' g'
  begun = rw (ef, er) at x

  pub looped : r.going ≡ false → Looped a g (record { state = r; made = n }) g'
  looped h = record {
    input = input;
    input' = input';
    kept' = kept';
    lends' = l';
    octets = begun.octets;
    loops = stopped begun.made h;
  }

  pub looped-all : n ≡ most → Looped a g (record { state = r; made = n }) g'
  looped-all h = record {
    input = input;
    input' = input';
    kept' = kept';
    lends' = l';
    octets = begun.octets;
    loops = all_made begun.made h;
  }

-- and then whether the recording is bad
pub counted : {a : Receiver} {g : Ledger} {r : Stopped} {b : Ledger} {counts : List ℕ} → Looped a g r b
    → counts ≡ judged r.state.bad b.tally.counts → Counts a g r (with_counts b counts)
counted {b = b} l e = record { behind = b; looped = l; judges = ap (λ (c : List ℕ). with_counts b c) e }

-- ---- what it comes to

-- Whatever comes, the whole comes to the same from the start on as from there on; and what is counted at the end.
record Sofar (a : Receiver) (kept : List ℕ) (g : Ledger) (p : Place) : Type 0 where
  goes : (x : List ℕ) → with_octets a kept (p.octets ++ x) g
      ≡ with_octets p.state.receiver p.kept (at_hand p.state p.input ++ x) p.counts
  judges : p.state.going ≡ true → (x : List ℕ) → bad_in a kept (p.octets ++ x)
      ≡ bad_in p.state.receiver p.kept (at_hand p.state p.input ++ x)
  ends : p.state.going ≡ false → p.state.read.failed ≡ false → p.counts ≡ with_octets a kept p.octets g
  judged : p.state.going ≡ false → p.state.read.failed ≡ false → p.state.bad ≡ bad_in a kept p.octets

sofar : {a : Receiver} {input kept : List ℕ} {l : Lent} {g : Ledger} {n : ℕ} {text : List ℕ} {p : Place}
    → Turns going_at TurnedAt (place (start_of a) input kept l g []) n text p → Sofar a kept g p
sofar none = record {
  goes = λ x. refl;
  judges = λ _ x. refl;
  ends = λ e _. absurd (true≢false e);
  judged = λ e _. absurd (true≢false e);
}
sofar {a} {kept = kept} {g = g} (more {r = r} {t} before on x) =
    let h = sofar before in
    let u = x.turned in
    let z = u.pulls.piece in
    let hand : List ℕ = at_hand r.state r.input in
    let all : (y : List ℕ) → t.octets ++ y ≡ r.octets ++ (z ++ y) =
    λ y. ap (λ (o : List ℕ). o ++ y) x.read ∙ append_assoc r.octets z y in
    let same : t.state.going ≡ false → t.state.read.failed ≡ false → r.octets ++ [] ≡ t.octets =
    λ e d. ap (λ (o : List ℕ). r.octets ++ o) (sym (u.none e d)) ∙ sym x.read in
    record {
      goes = λ y. ap (λ (o : List ℕ). with_octets a kept o g) (all y) ∙ h.goes (z ++ y) ∙ u.goes y;
      judges = λ e y. ap (λ (o : List ℕ). bad_in a kept o) (all y) ∙ h.judges on (z ++ y) ∙ u.judges e y;
      ends = λ e d. u.ends e
          ∙ ap (λ (o : List ℕ). with_octets r.state.receiver r.kept o r.counts) (sym (append-nil hand))
          ∙ sym (h.goes [])
          ∙ ap (λ (o : List ℕ). with_octets a kept o g) (same e d);
      judged = λ e d. u.judged e d
          ∙ ap (λ (o : List ℕ). bad_in r.state.receiver r.kept o) (sym (append-nil hand))
          ∙ sym (h.judges on [])
          ∙ ap (λ (o : List ℕ). bad_in a kept o) (same e d);
    }

pub counts_all : CountsAll
counts_all = record {
  counts = λ {a} {g} {r} c e d.
      let s = sofar c.looped.loops.made.turns in
      let octets : List ℕ = c.looped.octets in
      c.judges
      ∙ ap (λ (h : Ledger). with_counts h (judged r.state.bad h.tally.counts)) (s.ends e d)
      ∙ ap (λ (b : Bool). with_counts (with_octets a none_kept octets g) (judged b (with_octets a none_kept octets g).tally.counts))
      (s.judged e d);
}

-- ---- the exit status

module _ (csv : Bool) (r : Stopped) (t : Tally) where
  pub was_broken : {b : Bool} → b ≡ r.state.read.failed → (r.state.going || b) ≡ true → Finished csv r t broken
  was_broken e h =
      let u = ap (λ (x : Bool). r.state.going || x) (sym e) ∙ h in
      record {
        told = record { page = first; made = 0 };
        room = 0;
        shows = λ k. absurd (true≢false (sym u ∙ k));
        says = picked _ _ _ u;
      }

  module _ {b : Bool} (e : b ≡ r.state.read.failed) (h : (r.state.going || b) ≡ false) (room : ℕ) (o : Told)
      (s : Shown (text_of csv t) room o)
      {u : Bool} (f : u ≡ not_shown o) where
    whole : broke r ≡ false
    whole = ap (λ (x : Bool). r.state.going || x) (sym e) ∙ h

    pub was_unshown : u ≡ true → Finished csv r t broken
    was_unshown k = record { told = o; room = room; shows = λ _. s; says = passed _ _ _ _ whole (picked _ _ _ (sym f ∙ k)) }

    pub was_bad_lem : u ≡ false → r.state.bad ≡ true → Finished csv r t against
    was_bad_lem k j = record {
      told = o;
      room = room;
      shows = λ _. s;
      says = passed _ _ _ _ whole (passed _ _ _ _ (sym f ∙ k) (picked _ _ _ j));
    }

    pub was_good : u ≡ false → r.state.bad ≡ false → Finished csv r t done
    was_good k j = record {
      told = o;
      room = room;
      shows = λ _. s;
      says = passed _ _ _ _ whole (passed _ _ _ _ (sym f ∙ k) (passed _ _ _ _ j refl));
    }

-- ---- a run

pub ran : {csv : Bool} {a : Receiver} {counts : List ℕ} {r : Stopped} {g : Ledger} {status said : ℤ} → counts ≡ no_counts
    → Counts a (ledger counts (replicate most_keys 0) (replicate most_keys 0) (replicate entries 0)) r g → Finished csv r g.tally status
    → said ≡ status → Runs csv a said
ran {csv} {a} {r = r} {g = g} e c f h =
    let last : List ℕ = replicate entries 0 in
    let keys : List ℕ = replicate most_keys 0 in
    record {
      stopped = r;
      counts = g;
      counted = subst (λ (x : List ℕ). Counts a (ledger x keys keys last) r g) e c;
      finished = subst (λ (z : ℤ). Finished csv r g.tally z) (sym h) f;
    }
