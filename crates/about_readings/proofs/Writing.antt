-- All that is handed to the write is the header and the lines of what the octets hand out.
use Prim.Native.Nat.{ℕ, ◌≤◌, ◌<◌, ◌^◌}
use native.Mathlib.Omega.{arith}
use mathlib.Core.Path.{◌≡◌, refl, sym, ap, subst, ◌∙◌}
use mathlib.Core.Bool.{Bool, true, false, not, true≢false, ◌||◌}
use mathlib.Core.List.{List, [], ◌∷◌, ◌++◌, append-nil, append_assoc}
use lib.Dec.{eqb}
use lib.ListN.{length, take, drop}
use borrow.Author.Tests.{eqb-true}
use Rattle.octets.specs.Pick.{pick}
use Rattle.octets.proofs.Tests.{or_left, or_right}
use Rattle.readings_csv.specs.Text.{header, longest_line}
use Rattle.source.specs.Found.{Item, Found, found_in, cut_at}
use Rattle.source.specs.Scan.{scanned, kept_by, tells, Finds}
use Rattle.source.specs.Scan.{Told as ToldBy}
use Rattle.source.proofs.Scanning.{scans_find}
use Rattle.source.specs.declared.Scanned.{Scanned}
use Rattle.source.specs.declared.Source.{Source}
use Rattle.source.specs.declared.Taken.{Taken}
use Rattle.source.specs.declared.Taken.TheVariants as taken
use Rattle.session.specs.Lent.{Lent}
use Rattle.session.specs.declared.Session.{Session}
use Rattle.receiver.specs.Receive.{Tells, missing, bad, over, opened, nothing, answered, told_of, heard, received, Receives}
use Rattle.receiver.specs.Run.{roomy}
use Rattle.receiver.specs.declared.Receiver.{Receiver}
use Rattle.receiver.specs.declared.Received.{Received}
use Rattle.receiver.specs.declared.Event.{Event}
use Rattle.receiver.specs.declared.Event.TheVariants as event
use Rattle.receiver.proofs.Enough.{roomy-enough}
use Rattle.window.specs.Turns.{Turns, none, more}
use Rattle.window.specs.declared.Refilled.{Refilled}
use Rattle.feed.specs.Pull.{hand_of, at_end, pulled, Missed}
use Rattle.feed.specs.declared.Pull.{Pull}
use Rattle.feed.specs.declared.Pull.TheVariants as pull
use Rattle.readings_lines.specs.Output.{pending, failed_in}
use Rattle.readings_lines.specs.Lines.{Added, adding}
use Rattle.readings_lines.specs.declared.Output.{Output}
use Rattle.readings_lines.proofs.Adding.{emptied_size, was_right, put-behind}
use Rattle.readings_frame.specs.Readings.{Layouts}
use Rattle.readings_frame.specs.declared.State.{State}
use Rattle.readings_turn.specs.Turns.{pull_adds, may_follow, goes_on, Run, starts}
use Rattle.about_readings.specs.Listed.{behind, items_add, to_add}
use Rattle.readings_turn.specs.Written.{Place, going_at, TurnedAt, begins, none_kept, start_of}
use Rattle.about_readings.specs.Written.{WritesReadings}
use Rattle.readings_turn.specs.declared.Standing.{Standing}
use Rattle.readings_turn.proofs.Turning.{turns_go_on}
use Rattle.about_readings.proofs.Runs.{runs_are_listed}

-- ---- where the turns end nothing more is found

finds : (s : Source) (kept w : List ℕ) → Finds s kept w (scanned s kept w) (kept_by s kept w)
finds s kept w = scans_find.finds (record { answers = refl; keeps = refl })

abbrev None_left : List Item → Tells → Type 0
None_left xs (missing n) = xs ≡ []
None_left xs bad = xs ≡ []
None_left xs over = xs ≡ []
None_left xs opened = Unit {0}
None_left xs nothing = Unit {0}
None_left xs (answered t) = Unit {0}

heard-none : (z : Session) (s : Source) (kept w : List ℕ) (l : Lent) (r : Scanned) (kept' : List ℕ) (t : Taken) → ToldBy s kept w r kept' t
    → (found_in s kept w).items ≡ (tells t kept' w).items ++ (found_in r.source kept' (drop r.used w ++ [])).items
    → None_left (found_in s kept w).items (heard z kept' w l t).tells
heard-none z s kept w l r kept' (taken.Missing n) k e = ap (λ (f : Found). f.items) k.1.none
heard-none z s kept w l r kept' taken.Bad k e = e ∙ ap (λ (f : Found). f.items) (k.1 (drop r.used w ++ []))
heard-none z s kept w l r kept' taken.Over k e = ap (λ (f : Found). f.items) (k.1 w)
heard-none z s kept w l r kept' (taken.Opened t) k e = tt
heard-none z s kept w l r kept' taken.Nothing k e = tt
heard-none z s kept w l r kept' (taken.Here from to) k e = tt
heard-none z s kept w l r kept' (taken.Kept n) k e = tt
heard-none z s kept w l r kept' (taken.Refused n) k e = tt

call_none : (a : Receiver) (kept w : List ℕ) (l : Lent) {r : Received} {kept' : List ℕ} {l' : Lent} → Receives a kept w l r kept' l'
    → None_left (found_in a.source kept w).items (told_of r.event)
unfolding received
call_none a kept w l {r} c =
    let s : Source = a.source in
    let e : (found_in a.source kept w).items
    ≡ (tells (scanned a.source kept w).taken (kept_by a.source kept w) w).items
    ++ (found_in (scanned a.source kept w).source (kept_by a.source kept w)
    (drop (scanned a.source kept w).used w ++ [])).items =
    ap (λ (x : List ℕ). (found_in a.source kept x).items) (sym (append-nil w))
    ∙ ap (λ (f : Found). f.items) ((finds a.source kept w).next []) in
    subst (None_left (found_in a.source kept w).items) (sym c.tells)
    (heard-none a.session a.source kept w l (scanned a.source kept w) (kept_by a.source kept w)
    (scanned a.source kept w).taken
    (finds a.source kept w).told e)

-- a turn that ends the run: nothing was left, nothing came, and nothing is added
record Ended (xs : List Item) (p : Pull) (came : ℕ) : Type 0 where
  left : xs ≡ []
  none_came : came ≡ 0
  adds : (l : Layouts) (t : Lent) (packets : ℕ) (counts : List ℕ) → pull_adds l p t packets counts ≡ adding [] counts

ended : (xs : List Item) (e : Event) (s : Source) (r : Refilled) → None_left xs (told_of e) → Missed e r → r.failed ≡ false
    → may_follow (pulled e s r.failed r.came) ≡ false → Ended xs (pulled e s r.failed r.came) r.came
unfolding at_end pick
ended xs (event.Missing m) s r n o f h = by (eqb r.came 0) refl
  where
    gone : (c : Bool) → Ended xs (pick c pull.Cut pull.End) 0
    gone true = record { left = n; none_came = refl; adds = λ l t packets counts. refl }
    gone false = record { left = n; none_came = refl; adds = λ l t packets counts. refl }

    by : (b : Bool) → eqb r.came 0 ≡ b → Ended xs (at_end s r.failed r.came) r.came
    by true k =
        subst (λ (x : ℕ). Ended xs (at_end s r.failed r.came) x) (sym (eqb-true r.came 0 k))
        (simp (f, k) (gone (cut_at s)))
    by false k = absurd (true≢false (simp (f, k) at h))
ended xs event.Bad s r n o f h = record { left = n; none_came = ap (λ (x : Refilled). x.came) o; adds = λ l t packets counts. refl }
ended xs event.Over s r n o f h = record { left = n; none_came = ap (λ (x : Refilled). x.came) o; adds = λ l t packets counts. refl }
ended xs event.Opened s r n o f h = absurd (true≢false h)
ended xs event.Nothing s r n o f h = absurd (true≢false h)
ended xs (event.Answered a) s r n o f h = absurd (true≢false h)

-- ---- the turns so far

module _ (l : Layouts) (a : Receiver) (s : State) (input out counts : List ℕ) where
  -- there is a run on the octets read, and what was handed to the write is its text, as far as it is written
  record Gone (text lines : List ℕ) (p : Place) : Type 0 where
    run : Run l a none_kept counts s.packets roomy p.octets lines p.counts p.standing.state.packets p.standing.receiver
        p.kept
        (hand_of p.standing.feed p.input) p.lent
    long : length p.out ≡ length out
    failed : failed_in s.output ≡ true → failed_in p.standing.state.output ≡ true
    goes : longest_line ≤ length out → failed_in p.standing.state.output ≡ false
        → text ++ pending p.out p.standing.state.output ≡ pending out s.output ++ lines

  at-start : Gone [] [] (start_of a s input out counts)
  at-start = record { run = starts; long = refl; failed = λ h. h; goes = λ _ _. sym (append-nil (pending out s.output)) }

  abbrev said_by : {said : List ℕ} {p q : Place} → TurnedAt l p said q → List ℕ
  said_by {p = p} {q} x = (pull_adds l x.turned.pulled.pull q.lent p.standing.state.packets p.counts).text

  one_turn : {text lines said : List ℕ} {p q : Place} → Gone text lines p → (x : TurnedAt l p said q)
      → Gone (text ++ said) (lines ++ said_by x) q
  one_turn {text} {lines} {said} {p} {q} g x =
      let w = turns_go_on l p.standing p.input p.kept p.lent p.out p.counts q.standing q.input q.kept
      q.lent q.out
      q.counts x.turned a none_kept counts s.packets roomy p.octets lines g.run in
      let before : Output = p.standing.state.output in
      let after : Output = q.standing.state.output in
      let handed : said ≡ w.adds.written = x.says ∙ w.hands in
      record {
        run = subst
            (λ (o : List ℕ). Run l a none_kept counts s.packets roomy o (lines ++ said_by x) q.counts q.standing.state.packets
            q.standing.receiver q.kept (hand_of q.standing.feed q.input) q.lent)
            (sym x.reads) w.run;
        long = x.turned.long ∙ g.long;
        failed = λ h. w.adds.failed (g.failed h);
        goes = λ room h.
            append_assoc text said (pending q.out after)
            ∙ ap (λ (y : List ℕ). text ++ (y ++ pending q.out after)) handed
            ∙ ap (λ (y : List ℕ). text ++ y) (w.adds.goes (omega (arith, room, g.long)) h)
            ∙ sym (append_assoc text (pending p.out before) (said_by x))
            ∙ ap (λ (y : List ℕ). y ++ said_by x) (g.goes room (was_right (failed_in before) (failed_in after) w.adds.failed h))
            ∙ append_assoc (pending out s.output) lines (said_by x);
      }

  record Some (text : List ℕ) (p : Place) : Type 0 where
    lines : List ℕ
    gone : Gone text lines p

  went : {n : ℕ} {text : List ℕ} {p : Place} → Turns going_at (TurnedAt l) (start_of a s input out counts) n text p → Some text p
  went none = record { lines = []; gone = at-start }
  went (more t g x) = record { lines = (went t).lines ++ said_by x; gone = one_turn (went t).gone x }

  -- ---- the last turn

  record Told (octets text counts' : List ℕ) (o : Output) (out' : List ℕ) : Type 0 where
    failed : failed_in s.output ≡ true → failed_in o ≡ true
    all : longest_line ≤ length out → failed_in o ≡ false
        → text ++ pending out' o ≡ pending out s.output ++ (to_add l a none_kept octets s.packets counts).text
    counted : counts' ≡ (to_add l a none_kept octets s.packets counts).counts

  last_turn : s.packets < 2 ^ 64 → {text lines said : List ℕ} {p q : Place} → Gone text lines p → TurnedAt l p said q
      → q.standing.read.failed ≡ false
      → failed_in q.standing.state.output ≡ false → q.standing.going ≡ false
      → Told q.octets (text ++ said) q.counts q.standing.state.output q.out
  last_turn few {text} {lines} {said} {p} {q} g x read right stop =
      let m = x.turned in
      let pl = m.pulls in
      let r : Refilled = m.pulled.read in
      let event = pl.received.event in
      let packets : ℕ = p.standing.state.packets in
      let e : Ended (found_in p.standing.receiver.source p.kept (hand_of p.standing.feed p.input)).items
      (pulled event p.standing.receiver.source r.failed r.came) r.came =
      ended _ event p.standing.receiver.source r
      (call_none p.standing.receiver p.kept (hand_of p.standing.feed p.input) p.lent pl.calls) pl.only
      (sym (ap (λ (y : Refilled). y.failed) m.read) ∙ read)
      (sym (ap may_follow pl.tells) ∙ sym (ap (goes_on m.pulled.pull) right) ∙ sym m.going ∙ stop) in
      let adds : pull_adds l m.pulled.pull q.lent packets p.counts ≡ adding [] p.counts =
      ap (λ (y : Pull). pull_adds l y q.lent packets p.counts) pl.tells ∙ e.adds l q.lent packets p.counts in
      let octets : q.octets ≡ p.octets = x.reads ∙ ap (λ (y : List ℕ). p.octets ++ y) (empty pl.piece (pl.many ∙ e.none_came))
      ∙ append-nil p.octets in
      let whole : to_add l a none_kept q.octets s.packets counts ≡ adding lines p.counts =
      ap (λ (y : List ℕ). to_add l a none_kept y s.packets counts) (octets ∙ sym (append-nil p.octets))
      ∙ runs_are_listed.first g.run roomy-enough few []
      ∙ ap (λ (y : List ℕ). behind lines (to_add l p.standing.receiver p.kept y packets p.counts))
      (append-nil (hand_of p.standing.feed p.input))
      ∙ ap (λ (y : List Item). behind lines (items_add l p.standing.receiver.session packets p.counts y)) e.left
      ∙ ap (λ (y : List ℕ). adding y p.counts) (append-nil lines) in
      let h : Gone (text ++ said) (lines ++ said_by x) q = one_turn g x in
      let said-nothing : lines ++ said_by x ≡ lines = ap (λ (y : Added). lines ++ y.text) adds ∙ append-nil lines in
      record {
        failed = h.failed;
        all = λ room f. h.goes room f ∙ ap (λ (y : List ℕ). pending out s.output ++ y)
            (said-nothing ∙ sym (ap (λ (y : Added). y.text) whole));
        counted = m.heeds.leaves.counts ∙ ap (λ (y : Added). y.counts) adds ∙ sym (ap (λ (y : Added). y.counts) whole);
      }
    where
      empty : (y : List ℕ) → length y ≡ 0 → y ≡ []
      empty [] e = refl
      empty (c ∷ y) e = absurd (omega arith)

  all-turns : s.packets < 2 ^ 64 → {n : ℕ} {text : List ℕ} {p : Place}
      → Turns going_at (TurnedAt l) (start_of a s input out counts) n text p
      → p.standing.read.failed ≡ false → failed_in p.standing.state.output ≡ false → p.standing.going ≡ false
      → Told p.octets text p.counts p.standing.state.output p.out
  all-turns few none read right stop = absurd (true≢false (ap not (sym right) ∙ stop))
  all-turns few (more t g x) read right stop = last_turn few (went t).gone x read right stop

-- ---- with the header and what is left

pub writes-readings : WritesReadings
writes-readings l a input out counts r input' out' counts' h room fine =
    let s : Standing = r.standing in
    let wrote : failed_in s.state.output ≡ false = or_left (failed_in s.state.output) (s.read.failed || s.going) fine in
    let rest : (s.read.failed || s.going) ≡ false = or_right (failed_in s.state.output) (s.read.failed || s.going) fine in
    let right : failed_in h.last.output ≡ false =
    was_right (failed_in h.last.output) (failed_in s.state.output) (λ f. ap failed_in (h.ends.empties.stays f) ∙ f) wrote in
    let few : h.first.packets < 2 ^ 64 = omega (arith, h.starts.packets, h.begins.packets) in
    let none_yet : h.first.packets ≡ 0 = h.starts.packets ∙ h.begins.packets in
    let told = all-turns l a h.first input h.headed counts few h.looped.loops.made.turns
    (or_left s.read.failed s.going rest) right
    (or_right s.read.failed s.going rest) in
    let first-right : failed_in h.first.output ≡ false = was_right (failed_in h.first.output) (failed_in h.last.output)
    told.failed right in
    let text : List ℕ = h.looped.loops.made.text in
    let head : pending h.headed h.begun.output ≡ header = put-behind h.begins.heads.header room in
    let nothing_left : pending h.headed h.first.output ≡ [] = ap (λ (n : ℕ). take n h.headed)
    (emptied_size h.starts.empties first-right) in
    record {
      text =
          ap (λ (y : List ℕ). y ++ (text ++ pending out' h.last.output)) head
          ∙ ap (λ (y : List ℕ). header ++ y) (told.all (omega (arith, room, h.long)) right)
          ∙ ap (λ (y : List ℕ). header ++ (y ++ (to_add l a none_kept h.looped.octets h.first.packets counts).text)) nothing_left
          ∙ ap (λ (n : ℕ). header ++ (to_add l a none_kept h.looped.octets n counts).text) none_yet;
      counted = told.counted ∙ ap (λ (n : ℕ). (to_add l a none_kept h.looped.octets n counts).counts) none_yet;
    }
