-- Laws of a turn: what it writes, what is left at hand, and how it ends.
use Rattle.std.proofs.Common.{◌≡◌, ℕ, ◌+◌, ◌-◌, ◌≤◌, Bool, true, false, not, ◌&&◌, ◌||◌, eqb, List, [], ◌∷◌, ◌++◌, length, drop, sym, refl}
use Rattle.std.proofs.Common.{ap, ◌∙◌, subst, true≢false, append_assoc, append-nil, arith, length-append, length-drop, take_all, eq-eqb}
use Rattle.std.proofs.Common.{eqb-true}
use mathlib.Core.Bool.{false≢true, and-false, or-false}
use types.Run.{OneOf, miss}
use denote.Enum.Declared.{tag_of}
use borrow.Author.Tests.{not-false}
use Rattle.octets.proofs.Tests.{or_left}
use Rattle.recording.specs.Reader.{scanned, Told}
use Rattle.recording.proofs.Scanning.{scans_find}
use Rattle.recording.specs.declared.Reader.{Reader}
use Rattle.recording.specs.declared.Taken.{Taken}
use Rattle.recording.specs.declared.Taken.TheVariants as taken
use Rattle.recording.specs.declared.Scanned.{Scanned}
use Rattle.recording.specs.contracts.Taken.{the_type}
use Rattle.window.specs.Window.{hand, Refills, unread, unwritten}
use Rattle.window.specs.declared.Refilled.{Refilled}
use Rattle.window.specs.declared.Written.{Written}
use Rattle.window.proofs.Hands.{hand-behind, take_short}
use Rattle.export_kiss_run.specs.Written.{written_of, to_write}
use Rattle.export_kiss_run.specs.Turns.{Leads, end_of, quiet, leads, led_to, led_by, hand_of, failed_in, Ends, Reads}
use Rattle.export_kiss_run.specs.Turns.{Turned}
use Rattle.export_kiss_run.specs.declared.Led.{Led}
use Rattle.export_kiss_run.specs.declared.State.{State}
use Rattle.export_kiss_run.proofs.Handing.{refused}
use Rattle.export_kiss_run.proofs.Turning.{from-there, told-bad}
use Rattle.std.specs.Result.{is_err}

-- ---- a turn

-- what says whether a read that brought c octets lets the run go on
none_came : (b : Bool) (c : ℕ) → (not b && not (eqb c 0)) ≡ false → b ≡ false → c ≡ 0
none_came true c e d = absurd (true≢false d)
none_came false c e d = eqb-true c 0 (not-false _ e)

no_more : (b : Bool) (c : ℕ) → c ≡ 0 → (not b && not (eqb c 0)) ≡ false
no_more b c e = ap (λ (v : Bool). not b && not v) (eq-eqb c 0 e) ∙ and-false (not b)

failed-stops : (b c : Bool) → b ≡ true → (not b && c) ≡ false
failed-stops true c e = refl
failed-stops false c e = absurd (false≢true e)

empty : (l : List ℕ) → length l ≡ 0 → l ≡ []
empty [] h = refl
empty (x ∷ l) h = absurd (omega arith)

-- all of some octets
pub whole-hand : (l : List ℕ) → hand l 0 (length l) ≡ l
whole-hand l = take_all (length l - 0) l (omega arith)

-- octets are missing, and a piece was read
module _ (both : Bool) {s : State} {input : List ℕ} {r : State} {input' w : List ℕ} {q : Scanned} {m : ℕ} (at-hand : w ≡ hand_of s input)
    (e : q ≡ scanned s.reader w) (d : q.taken ≡ taken.Missing m) (x : Reads s input r input') where
  abbrev piece : List ℕ
  piece = x.refills.piece

  window : hand_of r input' ≡ hand_of s input ++ piece
  window =
      ap (λ (k : ℕ). hand input' k r.end) x.at ∙ ap (λ (k : ℕ). hand input' 0 k) x.end ∙ x.refills.window

  -- nothing is found yet
  none_yet : to_write both s.t s.reader (hand_of s input) ≡ []
  none_yet =
      let k : Told s.reader w (scanned s.reader w) (taken.Missing m) =
      subst (Told s.reader w (scanned s.reader w)) (ap (λ (y : Scanned). y.taken) (sym e) ∙ d) (scans_find s.reader w).told in
      ap (to_write both s.t s.reader) (sym at-hand) ∙ ap (written_of both s.t) k.1.none

  led_on : led_by both s input ≡ quiet s.t s.frames true
  led_on =
      ap (λ (y : Taken). leads both s.t s.frames y (hand_of s input))
      (ap (λ (y : List ℕ). (scanned s.reader y).taken) (sym at-hand) ∙ ap (λ (y : Scanned). y.taken) (sym e) ∙ d)

  -- the reader and t stay
  same : (v : List ℕ) → to_write both s.t s.reader v ≡ to_write both r.t r.reader v
  same v = ap (λ (t : ℕ). to_write both t s.reader v) (sym x.t) ∙ ap (λ (a : Reader). to_write both r.t a v) (sym x.reader)

  only : (b c : Bool) → c ≡ false → (b || c) ≡ true → b ≡ true
  only true c h t = refl
  only false c h t = absurd (true≢false (sym t ∙ h))

  none : r.going ≡ false → failed_in r ≡ false → r.read.came ≡ 0
  none g h = none_came r.read.failed r.read.came (sym x.going ∙ g) (or_left _ _ h)

  pub read-on : Turned both s input r input'
  read-on = record {
    before = hand_of s input;
    piece = piece;
    many = x.refills.many;
    window = window;
    wrote = ap (λ (o : Written). o.size) x.none ∙ sym (ap (λ (y : Leads). length y.said) led_on);
    goes = λ p. ap (to_write both s.t s.reader)
        (sym (append_assoc (hand_of s input) piece p) ∙ ap (λ (y : List ℕ). y ++ p) (sym window))
        ∙ same (hand_of r input' ++ p)
        ∙ sym (ap (λ (y : Leads). y.said ++ to_write both r.t r.reader (hand_of r input' ++ p)) led_on);
    ends = λ g h.
        let z = none g h in
        let v : hand_of r input' ≡ hand_of s input =
        window ∙ ap (λ (y : List ℕ). hand_of s input ++ y) (empty piece (x.refills.many ∙ z)) ∙ append-nil _ in
        subst (λ (b : Bool). Ends both b r input') (sym x.over)
        (sym (same (hand_of r input')) ∙ ap (to_write both s.t s.reader) v ∙ none_yet, z);
    fails = λ h. x.going
        ∙ failed-stops r.read.failed _
        (only r.read.failed r.written.failed (ap (λ (o : Written). o.failed) x.none) h);
    once = λ h. absurd (true≢false (sym h ∙ ap (λ (o : Written). o.failed) x.none));
    time = x.t ∙ sym (ap (λ (y : Leads). y.t) led_on);
    counts = x.frames ∙ sym (ap (λ (y : Leads). y.frames) led_on);
    leaves = x.left ∙ sym (or-false s.left) ∙ sym (ap (λ (y : Leads). s.left || not (eqb y.refusal 0)) led_on);
    found = x.over ∙ sym (ap (λ (y : Leads). not y.going) led_on);
    stays = λ h. x.going
        ∙ no_more r.read.failed r.read.came
        (omega (arith, x.refills.many, ap length (sym window ∙ h), length-append (hand_of s input) piece));
  }

-- a section that leads on used octets
used-some : (both : Bool) (t n : ℕ) (a : Reader) (w : List ℕ) (q : Scanned) (x : Taken) → Told a w q x
    → OneOf (1 ∷ 2 ∷ 3 ∷ 4 ∷ 5 ∷ []) (tag_of the_type x) → q.used ≤ length w → drop q.used w ≡ w → (leads both t n x w).going ≡ false
used-some both t n a w q (taken.Missing m) k o i e = absurd (miss (1 ∷ 2 ∷ 3 ∷ 4 ∷ 5 ∷ []) 0 tt o)
used-some both t n a w q taken.Bad k o i e = refl
used-some both t n a w q taken.Over k o i e = refl
used-some both t n a w q (taken.Opened x) k o i e = absurd (omega (arith, k.0.some, ap length e, length-drop q.used w))
used-some both t n a w q taken.Nothing k o i e = absurd (omega (arith, k.some, ap length e, length-drop q.used w))
used-some both t n a w q (taken.Here from to) k o i e = absurd (omega (arith, k.0.some, ap length e, length-drop q.used w))

not_going : (a b : Bool) → a ≡ false → (a && b) ≡ false
not_going true b h = absurd (true≢false h)
not_going false b h = refl

failed_off : (a b : Bool) → b ≡ true → (a && not b) ≡ false
failed_off true true h = refl
failed_off false b h = refl
failed_off true false h = absurd (false≢true h)

going_off : (a b : Bool) → (a && not b) ≡ false → b ≡ false → a ≡ false
going_off true false g h = absurd (true≢false g)
going_off true true g h = absurd (true≢false h)
going_off false b g h = refl

module _ (s : State) (input : List ℕ) {w : List ℕ} {q : Scanned} (at-hand : w ≡ hand_of s input) (e : q ≡ scanned s.reader w) where
  pub used-left : q.used ≤ length input - s.at
  used-left =
      omega (
        arith,
        ap (λ (y : Scanned). y.used) e,
        (scans_find s.reader w).inside,
        ap length at-hand,
        take_short (s.end - s.at)
            (drop s.at input),
        length-drop s.at input,
      )

  module _ (both : Bool) {w' : List ℕ} (again : w' ≡ hand_of s input) (l : Led) (out : List ℕ)
      (d : led_to l out ≡ leads both s.t s.frames q.taken w') where
    abbrev v : List ℕ
    v = hand_of s input

    abbrev c : Scanned
    c = scanned s.reader v

    f : q ≡ c
    f = e ∙ ap (scanned s.reader) at-hand

    pub led_to_lem : led_to l out ≡ led_by both s input
    led_to_lem =
        d
        ∙ ap (λ (y : List ℕ). leads both s.t s.frames q.taken y) again
        ∙ ap (λ (y : Scanned). leads both s.t s.frames y.taken v) f

    module _ (passed : ℕ) {octets : List ℕ} (same : octets ≡ hand out l.from (end_of l.handed)) (o : Written) (wrote : o.size ≡ length octets)
        {b left : Bool} (eb : b ≡ o.failed) (el : left ≡ is_err l.handed) {u : Refilled} (eu : u ≡ unread)
        (tag : OneOf (1 ∷ 2 ∷ 3 ∷ 4 ∷ 5 ∷ []) (tag_of the_type q.taken)) where
      abbrev next : State
      next = record {
        reader = q.reader;
        t = l.t;
        at = s.at + q.used;
        end = s.end;
        passed = passed;
        frames = l.frames;
        left = s.left || left;
        going = l.going && not b;
        over = not l.going;
        read = u;
        written = o;
      }

      behind : drop q.used v ≡ hand_of next input
      behind = hand-behind input s.at s.end q.used

      stopped : l.going ≡ false → Ends both true next input
      stopped g p =
          let k = sym (ap (λ (y : Leads). y.going) led_to_lem) ∙ g in
          let bad = told-bad both s.t s.frames s.reader v c c.taken (scans_find s.reader v).told k in
          ap (λ (a : Reader). to_write both l.t a (hand_of next input ++ p)) (ap (λ (y : Scanned). y.reader) f ∙ bad)

      failing : failed_in next ≡ o.failed
      failing = ap (λ (y : Refilled). y.failed || o.failed) eu

      pub went_on : Turned both s input next input
      went_on = record {
        before = hand_of next input;
        piece = [];
        many = sym (ap (λ (y : Refilled). y.came) eu);
        window = sym (append-nil _);
        wrote = wrote ∙ ap length same ∙ ap (λ (y : Leads). length y.said) led_to_lem;
        goes = λ p. from-there both s.t s.frames s.reader v p
            ∙ ap (λ (y : Leads). (led_by both s input).said ++ to_write both y.t c.reader (drop c.used v ++ p)) (sym led_to_lem)
            ∙ ap (λ (y : Scanned). (led_by both s input).said ++ to_write both l.t y.reader (drop y.used v ++ p)) (sym f)
            ∙ ap (λ (y : List ℕ). (led_by both s input).said ++ to_write both l.t q.reader (y ++ p)) behind;
        ends = λ g h.
            let off = going_off l.going b g (eb ∙ sym failing ∙ h) in
            subst (λ (y : Bool). Ends both (not y) next input) (sym off) (stopped off);
        fails = λ h. failed_off l.going b (eb ∙ sym failing ∙ h);
        once = λ _. eu;
        time = ap (λ (y : Leads). y.t) led_to_lem;
        counts = ap (λ (y : Leads). y.frames) led_to_lem;
        leaves = ap (λ (y : Bool). s.left || y) (el ∙ refused l.handed)
            ∙ ap (λ (y : Leads). s.left || not (eqb y.refusal 0)) led_to_lem;
        found = ap (λ (y : Leads). not y.going) led_to_lem;
        stays = λ h. not_going l.going (not b)
            (ap (λ (y : Leads). y.going) led_to_lem
            ∙ used-some both s.t s.frames s.reader v c c.taken (scans_find s.reader v).told
            (subst (λ (y : Scanned). OneOf (1 ∷ 2 ∷ 3 ∷ 4 ∷ 5 ∷ []) (tag_of the_type y.taken)) f tag) (scans_find s.reader v).inside
            (ap (λ (y : Scanned). drop y.used v) (sym f) ∙ behind ∙ h));
      }

-- a read
pub reads_on : (s : State) {input input' : List ℕ} {r : Refilled} → Refills input s.at s.end input' r
    → {h n : ℕ} {b : Bool} {o : Written} → h ≡ r.have → n ≡ r.came → b ≡ r.failed → o ≡ unwritten
    → Reads s input (record {
      reader = s.reader;
      t = s.t;
      at = 0;
      end = h;
      passed = s.passed;
      frames = s.frames;
      left = s.left;
      going = not b && not (eqb n 0);
      over = false;
      read = r;
      written = o;
    }) input'
reads_on s {r = r} x {n = n} eh en eb eo = record {
  refills = x;
  at = refl;
  end = eh;
  reader = refl;
  t = refl;
  frames = refl;
  left = refl;
  going = ap (λ (y : Bool). not y && not (eqb n 0)) eb ∙ ap (λ (k : ℕ). not r.failed && not (eqb k 0)) en;
  over = refl;
  none = eo;
}
