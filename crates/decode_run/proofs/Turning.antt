-- What a turn makes of a run, and what the whole loop makes.
use Rattle.std.proofs.Common.{◌≡◌, ℕ, zero, suc, ◌+◌, ◌-◌, ◌<◌, ◌≤◌, Bool, true, false, not, ◌&&◌, ◌||◌, eqb, ltb, List, [], ◌∷◌, ◌++◌, length, take, drop, sym, refl, ap, ◌∙◌, subst, true≢false, append-nil, arith, length-drop, take_at, le-ltb, eqb-true}
use mathlib.Core.Bool.{false≢true}
use borrow.Author.Tests.{not-false}
use Rattle.octets.proofs.Choices.{passed}
use Rattle.octets.proofs.Tests.{or_left}
use Rattle.decimal.specs.Laid.{Puts}
use Rattle.source.specs.Scan.{Waits}
use Rattle.receiver.specs.declared.Receiver.{Receiver}
use Rattle.window.specs.Window.{hand, Refills, unread}
use Rattle.window.specs.declared.Written.{Written}
use Rattle.window.specs.declared.Refilled.{Refilled}
use Rattle.window.proofs.Hands.{hand-behind, take_short}
use Rattle.listing.specs.Next.{next_of, Nexts, Stops}
use Rattle.listing.specs.Promised.{room}
use Rattle.listing.proofs.Calls.{part_of}
use Rattle.listing.specs.declared.Stop.{Stop}
use Rattle.listing.specs.declared.Stop.TheVariants.{Missing, Full, Over}
use Rattle.listing.specs.Whole.{Run, reads, lists}
use Rattle.listing.specs.declared.Listed.{Listed}
use Rattle.decode_run.specs.Turns.{hand_of, Turned, Ends}
use Rattle.decode_run.specs.declared.State.{State}

empty : (l : List ℕ) → length l ≡ 0 → l ≡ []
empty [] h = refl
empty (x ∷ l) h = absurd (omega arith)

-- what says whether a read that brought c octets lets the run go on
moved : (b : Bool) (c k : ℕ) → (not b && not (eqb c 0)) ≡ true → 0 < c + k
moved true c k e = absurd (false≢true e)
moved false zero k e = absurd (false≢true e)
moved false (suc c) k e = omega arith

none_came : (b : Bool) (c : ℕ) → (not b && not (eqb c 0)) ≡ false → b ≡ false → c ≡ 0
none_came true c e d = absurd (true≢false d)
none_came false c e d = eqb-true c 0 (not-false _ e)

failed-stops : (b : Bool) (c : Bool) → b ≡ true → (not b && c) ≡ false
failed-stops true c e = refl
failed-stops false c e = absurd (false≢true e)

module _ (s : State) (input kept : List ℕ) {w : List ℕ} (same : w ≡ hand_of s input) {out : List ℕ} {r : Listed} {kept' out' : List ℕ}
    (m : Nexts s.receiver kept w out r kept' out') where
  n : Nexts s.receiver kept (hand_of s input) out r kept' out'
  n = subst (λ (v : List ℕ). Nexts s.receiver kept v out r kept' out') same m

  pub used-left : r.used ≤ length input - s.at
  used-left = omega (arith, (part_of n).inside, take_short (s.end - s.at) (drop s.at input), length-drop s.at input)

  abbrev from : ℕ
  from = s.at + r.used

  behind : drop r.used (hand_of s input) ≡ hand input from s.end
  behind = hand-behind input s.at s.end r.used

  -- the text has as many octets as were answered
  long : length (take r.size out') ≡ r.size
  long =
      let size = ap (λ (x : Listed). x.size) n.answers in
      let t = (next_of s.receiver kept (hand_of s input) (length out)).text in
      ap length (ap (take r.size) n.leaves ∙ take_at t (drop (length t) out) r.size (sym size)) ∙ sym size

  module _ (o : Written) (wrote : take o.size out' ≡ take r.size out') where
    abbrev said : List ℕ
    said = take o.size out'

    abbrev state : ℕ → ℕ → Bool → Bool → Refilled → State
    state at end going bad f =
        record { receiver = r.receiver; at = at; end = end; used = r.used; going = going; over = bad; read = f; written = o }

    -- the run with that call
    listed : (a₀ : Receiver) (kept₀ octets text : List ℕ) → Run a₀ kept₀ octets text s.receiver kept (hand_of s input)
        → Run a₀ kept₀ octets (text ++ said) r.receiver kept' (hand input from s.end)
    listed a₀ kept₀ octets text run =
        subst (λ (t : List ℕ). Run a₀ kept₀ octets (text ++ t) r.receiver kept' (hand input from s.end)) (sym wrote)
        (subst (Run a₀ kept₀ octets (text ++ take r.size out') r.receiver kept') behind (lists out kept' out' r n run))

    -- nothing was read
    turned : (going bad : Bool) {f : Refilled} → f ≡ unread
        → (going ≡ false → o.failed ≡ false → (bad ≡ true) × Ends bad r.receiver kept' (hand input from s.end))
        → (o.failed ≡ true → going ≡ false) → (going ≡ true → 0 < length said)
        → Turned s input kept said (state from s.end going bad f) input kept'
    turned going bad {f} e why stops says =
        let t : Turned s input kept said (state from s.end going bad unread) input kept' = record {
          piece = [];
          many = refl;
          window = sym behind ∙ sym (append-nil _);
          goes = λ a₀ kept₀ octets text run.
              subst (λ (x : List ℕ). Run a₀ kept₀ x (text ++ said) r.receiver kept' (hand input from s.end)) (sym (append-nil octets))
              (listed a₀ kept₀ octets text run);
          ends = λ g d. ((why g d).1, refl);
          asked = λ g d b. absurd (true≢false (sym (why g d).0 ∙ b));
          fails = stops;
          once = λ _. refl;
          moves = λ g. let n = says g in omega arith;
        } in
        subst (λ (x : Refilled). Turned s input kept said (state from s.end going bad x) input kept') (sym e) t

    pub turned-failed : {f : Refilled} → f ≡ unread → o.failed ≡ true
        → Turned s input kept said (state from s.end false false f) input kept'
    turned-failed e f = turned false false e (λ _ d. absurd (true≢false (sym f ∙ d))) (λ _. refl) (λ g. absurd (false≢true g))

    module _ (well : o.failed ≡ false) where
      never : {going : Bool} → o.failed ≡ true → going ≡ false
      never e = absurd (true≢false (sym e ∙ well))

      stopped : {t : Stop} → r.stop ≡ t → Stops r.receiver kept' (hand input from s.end) (length out - r.size) t
      stopped {t} e =
          subst (λ (v : List ℕ). Stops r.receiver kept' v (length out - r.size) t) behind
          (subst (Stops r.receiver kept' (drop r.used (hand_of s input)) (length out - r.size)) e (part_of n).stops)

      pub turned-full : {f : Refilled} → f ≡ unread → room ≤ length out → r.stop ≡ Full
          → Turned s input kept said (state from s.end true false f) input kept'
      turned-full u big e =
          turned true false u (λ g _. absurd (true≢false g)) never (λ _. omega (arith, ap length wrote, long, stopped e))

      pub turned-over : {f : Refilled} → f ≡ unread → r.stop ≡ Over
          → Turned s input kept said (state from s.end false true f) input kept'
      turned-over u e = turned false true u (λ _ _. (refl, stopped e)) never (λ g. absurd (false≢true g))

      -- a piece was read, or none came, or the read failed
      pub turned_more : {input' : List ℕ} {f : Refilled} → Refills input from s.end input' f → {k : ℕ} → r.stop ≡ Missing k
          → {h c : ℕ} {b : Bool} → h ≡ f.have → c ≡ f.came → b ≡ f.failed
          → Turned s input kept said (state 0 h (not b && not (eqb c 0)) false f) input' kept'
      turned_more {input'} {f} g {k} e eh ec eb = rw (eh, ec, eb) (record {
        piece = g.piece;
        many = g.many;
        window = g.window ∙ ap (λ (x : List ℕ). x ++ g.piece) (sym behind);
        goes = λ a₀ kept₀ octets text run.
            subst (Run a₀ kept₀ (octets ++ g.piece) (text ++ said) r.receiver kept') (sym g.window)
            (reads g.piece (listed a₀ kept₀ octets text run));
        ends = λ d t.
            let z : f.came ≡ 0 = none_came f.failed f.came d (or_left f.failed o.failed t) in
            let p : g.piece ≡ [] = empty g.piece (g.many ∙ z) in
            let v : hand input from s.end ≡ hand input' 0 f.have =
            sym (g.window ∙ ap (λ (x : List ℕ). hand input from s.end ++ x) p ∙ append-nil _) in
            (record { n = k; waits = subst (λ (x : List ℕ). Waits r.receiver.source kept' x k) v (stopped e) }, z);
        asked = λ _ _ _. g.tried;
        fails = λ t. failed-stops f.failed (not (eqb f.came 0)) (only f.failed t);
        once = λ t. absurd (true≢false (sym t ∙ well));
        moves = λ d. moved f.failed f.came (length said) d;
      })
        where
          only : (b : Bool) → (b || o.failed) ≡ true → b ≡ true
          only true t = refl
          only false t = absurd (true≢false (sym t ∙ well))

-- A text that was put at the output's start.
module _ {text out : List ℕ} {most n : ℕ} {out' : List ℕ} (p : Puts most text out 0 out' n) (has : most ≤ length out) where
  pub put_first : take n out' ≡ text
  put_first =
      let b : ltb (length out) (0 + most) ≡ false = le-ltb (length out) (0 + most) (omega arith) in
      let l : out' ≡ text ++ drop (0 + length text) out = p.leaves ∙ sym (passed _ out _ _ b refl) in
      let m : n ≡ 0 + length text = p.behind ∙ sym (passed _ 0 _ _ b refl) in
      ap (take n) l ∙ take_at text (drop (0 + length text) out) n (omega (arith, m))
