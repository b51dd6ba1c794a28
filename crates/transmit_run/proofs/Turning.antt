-- Laws of a script's lines.
use Rattle.std.proofs.Common.{◌≡◌, ℕ, zero, suc, ◌+◌, ◌-◌, ◌%◌, ◌^◌, ◌<◌, ◌≤◌, Bool, true, false, List, length, drop, sym, refl, ap, ◌∙◌}
use Rattle.std.proofs.Common.{add-one, arith, drop_of_length-le, drop-cons, eq-eqb, ne_eqb, le-leb}
use borrow.Author.Tests.{lt-leb}
use Rattle.octets.specs.Numbers.{at}
use Rattle.octets.specs.Pick.{pick}
use Rattle.octets.specs.Parts.{part}
use Rattle.octets.specs.Same.{same}
use Rattle.octets.proofs.Choices.{picked, passed}
use Rattle.words.specs.Words.{word_of, rest_of}
use Rattle.transmit_settings.specs.State.{fresh_state}
use Rattle.transmit_settings.specs.declared.Fault.TheVariants.{Nothing}
use Rattle.transmit_settings.specs.declared.State.{State}
use Rattle.transmit_settings.specs.declared.Stepped.{Stepped}
use Rattle.transmit_settings.proofs.Setting.{here, past}
use Rattle.transmit_steps.specs.Step.{Lent, lent, outcome, stepping}
use Rattle.transmit_recording.specs.Recording.{losing}
use Rattle.transmit_run.specs.Turn.{line_feed, line_of, LineEnds, link_word, place, Turned, turned, used_up, turning, is_fault, fresh_place}
use Rattle.transmit_run.specs.Turn.{Run, run, running}
use Rattle.transmit_run.specs.declared.Place.{Place}

-- the octets from index from up to i are no line feed
pub record Before (s : List ℕ) (from i : ℕ) : Type 0 where
  pub behind : from ≤ i
  pub inside : i ≤ length s
  pub line : from + length (line_of (drop from s)) ≡ i + length (line_of (drop i s))

pub begun : (s : List ℕ) (from : ℕ) → from ≤ length s → Before s from from
begun s from h = record { behind = omega arith; inside = h; line = refl }

module _ (s : List ℕ) (from i : ℕ) (b : Before s from i) where
  pub one_more : i < length s → (at s i ≡ line_feed → ⊥) → Before s from (i + 1)
  unfolding line_of pick
  one_more l n =
      let e : length (line_of (drop i s)) ≡ suc (length (line_of (drop (i + 1) s))) =
      rw (drop-cons s i 0 l, add-one) (simp (ne_eqb (at s i) line_feed n)) in
      record { behind = omega (arith, b.behind); inside = omega arith; line = omega (arith, b.line, e) }

  pub at-a-feed : i < length s → at s i ≡ line_feed → i ≡ from + length (line_of (drop from s))
  unfolding line_of pick
  at-a-feed l e =
      let z : length (line_of (drop i s)) ≡ 0 = rw (drop-cons s i 0 l) (simp (eq-eqb (at s i) line_feed e)) in
      omega (arith, b.line, z)

  pub at_the_end : length s ≤ i → i ≡ from + length (line_of (drop from s))
  unfolding line_of
  at_the_end l =
      let z : length (line_of (drop i s)) ≡ 0 = simp (drop_of_length-le s l) in
      omega (arith, b.line, z)

-- ---- a turn

module _ (before : Place) (script : List ℕ) (from end : ℕ) (l : Lent) {line w : List ℕ} (pl : line ≡ part script from (end - from))
    (pw : w ≡ word_of line)
    {b : Bool} (t : b ≡ same w link_word) where
  worded : b ≡ same (word_of (part script from (end - from))) link_word
  worded = t ∙ ap (λ (x : List ℕ). same x link_word) (pw ∙ ap word_of pl)

  pub linked : b ≡ true → {n : ℕ} {v : List ℕ} → n ≡ (from + 5) % 2 ^ 64 → v ≡ rest_of line
      → turned (place before.state n (length v) before.fault) l ≡ turning before script from end l
  unfolding turning
  linked k {n} {v} p q =
      here _ _ worded k
      (ap (λ (x : ℕ). turned (place before.state x (length v) before.fault) l) p
      ∙ ap (λ (x : List ℕ). turned (place before.state ((from + 5) % 2 ^ 64) (length x) before.fault) l) (q ∙ ap rest_of pl))

  module _ (k : b ≡ false) {r : Stepped} {stamp packets lengths made frames : List ℕ}
      (e : outcome r (lent stamp packets lengths made frames) ≡ stepping before.state line l)
      {signs frames' : List ℕ} (ps : signs ≡ part script before.link before.signs)
      (pf : frames' ≡ losing (r.state.made.count - before.state.made.count) signs frames before.state.made.count) where
    pub used : {more link left : ℕ} → more ≡ r.state.made.count - before.state.made.count → link ≡ (before.link + more) % 2 ^ 64
        → left ≡ before.signs - more
        → turned (place r.state link left r.fault) (lent stamp packets lengths made frames') ≡ turning before script from end l
    unfolding turning
    used {more} {link} {left} pm pk pe =
        let m : ℕ = r.state.made.count - before.state.made.count in
        let lk : link ≡ (before.link + m) % 2 ^ 64 = pk ∙ ap (λ (x : ℕ). (before.link + x) % 2 ^ 64) pm in
        let lf : left ≡ before.signs - m = pe ∙ ap (λ (x : ℕ). before.signs - x) pm in
        let fs : frames' ≡ losing m (part script before.link before.signs) frames before.state.made.count =
        pf ∙ ap (λ (x : List ℕ). losing m x frames before.state.made.count) ps in
        past _ _ worded k
        (ap (λ (x : ℕ). turned (place r.state x left r.fault) (lent stamp packets lengths made frames')) lk
        ∙ ap (λ (x : ℕ). turned (place r.state ((before.link + m) % 2 ^ 64) x r.fault) (lent stamp packets lengths made frames')) lf
        ∙ ap (λ (x : List ℕ). turned (place r.state ((before.link + m) % 2 ^ 64) (before.signs - m) r.fault)
        (lent stamp packets lengths made x)) fs
        ∙ ap (used_up before script) (e ∙ ap (λ (x : List ℕ). stepping before.state x l) pl))

-- ---- all lines

-- what is left to run from here gives the whole
pub record Sofar (script : List ℕ) (whole : Run) (l : Lent) (p : Place) (n from : ℕ) : Type 0 where
  pub fuel : ℕ
  pub enough : length script ≤ from + fuel
  pub rest : whole ≡ running fuel p script from n l

pub started : (script : List ℕ) (l : Lent) {s : State} → s ≡ fresh_state
    → Sofar script (running (length script) fresh_place script 0 0 l) l (place s 0 0 Nothing) 0 0
started script l {s} e =
    record {
      fuel = length script;
      enough = omega arith;
      rest = ap (λ (x : State). running (length script) (place x 0 0 Nothing) script 0 0 l) (sym e);
    }

module _ (script : List ℕ) (whole : Run) (l : Lent) (p : Place) (n from : ℕ) (s : Sofar script whole l p n from) where
  pub finished : length script ≤ from → run p n l ≡ whole
  unfolding running
  finished h = sym (s.rest ∙ go s.fuel)
    where
      go : (k : ℕ) → running k p script from n l ≡ run p n l
      go zero = refl
      go (suc k) = sym (picked _ _ _ (le-leb _ _ h))

  module _ (h : from < length script) (end : ℕ) (e : LineEnds script from end) (p' : Place) (l' : Lent)
      (t : turned p' l' ≡ turning p script from end l)
      (m : ℕ) (pm : m ≡ (n + 1) % 2 ^ 64) where
    abbrev onward : ℕ → ℕ → Turned → ℕ → Run
    onward k x y z = pick (is_fault y.place.fault) (run y.place z y.lent) (running k y.place script (x + 1) z y.lent)

    unrolled : whole ≡ onward (s.fuel - 1) end (turned p' l') m
    unfolding running
    unrolled =
        let k : ℕ = s.fuel - 1 in
        let f : s.fuel ≡ suc k = omega (arith, s.enough) in
        let x : ℕ = from + length (line_of (drop from script)) in
        let ex : x ≡ end = sym e.is in
        let one : running (suc k) p script from n l ≡ onward k x (turning p script from x l) ((n + 1) % 2 ^ 64) =
        sym (passed _ _ _ _ (lt-leb _ _ h) refl) in
        s.rest ∙ ap (λ (j : ℕ). running j p script from n l) f ∙ one
        ∙ ap (λ (j : ℕ). onward k j (turning p script from j l) ((n + 1) % 2 ^ 64)) ex
        ∙ ap (λ (y : Turned). onward k end y ((n + 1) % 2 ^ 64)) (sym t)
        ∙ ap (onward k end (turned p' l')) (sym pm)

    module _ (b : Bool) (pb : b ≡ is_fault p'.fault) where
      pub stops : b ≡ true → run p' m l' ≡ whole
      stops g = here _ _ pb g refl ∙ sym unrolled

      pub goes_on_lem : b ≡ false → Sofar script whole l' p' m (end + 1)
      goes_on_lem g =
          record {
            fuel = s.fuel - 1;
            enough = omega (arith, s.enough, e.behind);
            rest = unrolled ∙ sym (past _ _ pb g refl);
          }
