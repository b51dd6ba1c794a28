-- What comes of a call, by what the receiver tells.
use Rattle.std.proofs.Common.{◌≡◌, ℕ, ◌+◌, ◌-◌, ◌%◌, ◌^◌, ◌≤◌, Bool, true, false, List, [], ◌++◌, length, drop, sym, refl, ap, ◌∙◌, subst, append-nil, arith, length-drop, eq-eqb, ne_eqb}
use Rattle.octets.specs.Pick.{pick}
use Rattle.session.specs.Lent.{Lent}
use Rattle.source.specs.Found.{cut_at}
use Rattle.source.specs.declared.Source.{Source}
use Rattle.receiver.specs.Receive.{Receives}
use Rattle.receiver.specs.declared.Receiver.{Receiver}
use Rattle.receiver.specs.declared.Received.{Received}
use Rattle.receiver.specs.declared.Event.{Event}
use Rattle.receiver.specs.declared.Event.TheVariants as event
use Rattle.receiver.proofs.Events.{used-inside}
use Rattle.window.specs.Window.{hand, unread, Refills}
use Rattle.window.specs.declared.Refilled.{Refilled}
use Rattle.window.proofs.Hands.{hand-behind, take_short}
use Rattle.feed.specs.Pull.{hand_of, at_end, pulled, Missed, Tells, ReadsOn, Pulls}
use Rattle.feed.specs.declared.Feed.{Feed}
use Rattle.feed.specs.declared.Pull.{Pull}
use Rattle.feed.specs.declared.Pull.TheVariants as pull
use Rattle.feed.specs.declared.Told.{Told}

-- By how a read ended.
module _ (s : Source) (failed : Bool) (came : ℕ) where
  pub read-failed : failed ≡ true → pull.Failed ≡ at_end s failed came
  unfolding at_end pick
  read-failed h = simp h

  module _ (h : failed ≡ false) where
    pub read_some : (came ≡ 0 → ⊥) → pull.More ≡ at_end s failed came
    unfolding at_end pick
    read_some n = simp (h, ne_eqb _ _ n)

    pub read-cut : came ≡ 0 → cut_at s ≡ true → pull.Cut ≡ at_end s failed came
    unfolding at_end pick
    read-cut n c = simp (h, eq-eqb _ _ n, c)

    pub read-end : came ≡ 0 → cut_at s ≡ false → pull.End ≡ at_end s failed came
    unfolding at_end pick
    read-end n c = simp (h, eq-eqb _ _ n, c)

module _ (input : List ℕ) (from end passed : ℕ) (s : Source) {e : Event} where
  -- nothing was read
  pub told : (d : Event) {read : Refilled} → Missed d read → read ≡ unread → e ≡ d
      → Tells input from end passed s e (record
      { feed = record { at = from; end = end; passed = passed }; pull = pulled d s false 0; read = read }) input
  told d {read} m u h = record {
    piece = [];
    window = sym (append-nil _);
    many = ap (λ (x : Refilled). x.came) (sym u);
    only = subst (λ (y : Event). Missed y read) (sym h) m;
    tells = ap (λ (x : Refilled). pulled d s x.failed x.came) (sym u) ∙ ap (λ (y : Event). pulled y s read.failed read.came)
        (sym h);
    passed = refl;
  }

  -- a read followed
  pub told-missing : {n : ℕ} {input' : List ℕ} {r : Told} → e ≡ event.Missing n → ReadsOn input from end passed s r input'
      → Tells input from end passed s e r input'
  told-missing {input' = input'} {r = r} h g = record {
    piece = g.refills.piece;
    window = ap (λ (f : Feed). hand_of f input') g.feed ∙ g.refills.window;
    many = g.refills.many;
    only = subst (λ (y : Event). Missed y r.read) (sym h) g.refills.tried;
    tells = g.tells ∙ ap (λ (y : Event). pulled y s r.read.failed r.read.came) (sym h);
    passed = ap (λ (f : Feed). f.passed) g.feed;
  }

-- A read, by what it left and how it ended.
pub reads_on : {input : List ℕ} {from end passed : ℕ} {s : Source} {have : ℕ} {input' : List ℕ} {r : Refilled} {p : Pull}
    → Refills input from end input' r → have ≡ r.have → p ≡ at_end s r.failed r.came
    → ReadsOn input from end passed s (record { feed = record { at = 0; end = have; passed = passed }; pull = p; read = r }) input'
reads_on {passed = passed} g k d = record {
  refills = g;
  feed = ap (λ (n : ℕ). record { at = 0; end = n; passed = passed }) k;
  tells = d;
}

module _ (f : Feed) (input : List ℕ) (a : Receiver) (kept : List ℕ) {w : List ℕ}
    (same : w ≡ hand_of f input) {l : Lent} {q : Received} {kept' : List ℕ} {l' : Lent}
    (y : Receives a kept w l q kept' l') where
  x : Receives a kept (hand_of f input) l q kept' l'
  x = subst (λ (v : List ℕ). Receives a kept v l q kept' l') same y

  pub used-left : q.used ≤ length input - f.at
  used-left =
      omega (arith, used-inside a kept (hand_of f input) x, take_short (f.end - f.at) (drop f.at input), length-drop f.at input)

  pub pulls : {input' : List ℕ} {t : Told} {passed : ℕ} → passed ≡ (f.passed + q.used) % 2 ^ 64
      → Tells input (f.at + q.used) f.end passed a.source q.event t input'
      → Pulls f input a kept l (record { feed = t.feed; receiver = q.receiver; pull = t.pull; read = t.read }) input' kept' l'
  pulls e g = record {
    received = q;
    piece = g.piece;
    calls = x;
    receiver = refl;
    window = g.window ∙ ap (λ (w : List ℕ). w ++ g.piece) (sym (hand-behind input f.at f.end q.used));
    many = g.many;
    only = g.only;
    tells = g.tells;
    passed = g.passed ∙ e;
  }
