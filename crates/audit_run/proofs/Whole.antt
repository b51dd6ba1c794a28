-- What is told at the end of all turns.
use Prim.Native.Nat.{ℕ, ◌≤◌}
use native.Mathlib.Omega.{arith}
use borrow.Author.Tests.{eqb-true}
use mathlib.Core.Path.{◌≡◌, refl, sym, ap, subst, ◌∙◌}
use mathlib.Core.Bool.{Bool, true, false, not, ◌&&◌, true≢false}
use mathlib.Core.List.{List, [], ◌∷◌, ◌++◌, map, append-nil}
use lib.ListN.{length, drop, length-append, length-drop}
use lib.Dec.{eqb}
use Rattle.octets.proofs.Choices.{picks}
use Rattle.octets.specs.Parts.{written}
use Rattle.rules.specs.Channel.{Handed}
use Rattle.rules.specs.Packets.{joined, bare, firsts}
use Rattle.session.specs.Lent.{Lent, Enough, laid}
use Rattle.session.specs.declared.Session.{Session}
use Rattle.source.specs.Scan.{Waits, Finds, Told, scanned, kept_by}
use Rattle.source.proofs.Scanning.{scans_find}
use Rattle.source.specs.declared.Source.{Source}
use Rattle.source.specs.declared.Taken.{Taken}
use Rattle.source.specs.declared.Taken.TheVariants as taken
use Rattle.receiver.specs.Receive.{missing, told_of, heard, received, Receives}
use Rattle.receiver.specs.Run.{to_come, Run, starts, reads, takes}
use Rattle.receiver.specs.declared.Receiver.{Receiver}
use Rattle.receiver.specs.declared.Received.{Received}
use Rattle.receiver.specs.declared.Event.{Event}
use Rattle.receiver.specs.declared.Event.TheVariants as event
use Rattle.receiver.proofs.Run.{pieces_are_received}
use Rattle.feed.specs.Pull.{hand_of, at_end, pulled}
use Rattle.feed.specs.declared.Feed.{Feed}
use Rattle.feed.specs.declared.Pull.{Pull}
use Rattle.feed.specs.declared.Pull.TheVariants as pull
use Rattle.table.specs.Table.{rows_from}
use Rattle.table.specs.Form.{known, started}
use Rattle.table.specs.declared.Form.{Form}
use Rattle.audit_line.specs.Text.{verdict_line}
use Rattle.audit_rows.specs.Goes.{fresh, Going, idle, Ending}
use Rattle.audit_rows.specs.Right.{RightOf}
use Rattle.audit_rows.specs.declared.Audit.{Audit}
use Rattle.audit_rows.proofs.Reading.{going_then}
use Rattle.audit_rows.proofs.Right.{right-verdict}
use Rattle.window.specs.Status.{done, against, broken}
use Rattle.window.specs.Turns.{Turns, none, more}
use Rattle.table.specs.declared.Verdict.{Verdict}
use Rattle.table.specs.declared.Verdict.TheVariants.{Passes, Faulty}
use Rattle.audit_form.proofs.Forming.{form_of_all}
use Rattle.audit_turns.specs.Turns.{packets_of, Turned}
use Rattle.audit_turns.proofs.Ways.{on, over}
use Rattle.audit_turns.specs.declared.State.{State}
use Rattle.audit_run.specs.Loop.{Place, going_at, TurnedAt, input_of, table_of, packets_in}
use Rattle.audit_run.specs.Told.{by_verdict, status_by, standing, endless, unread, bad, lost, stands}
use Rattle.audit_run.specs.Whole.{input_read, rows_read, HandsOut, TellsRight, DoneIsPassed}

both : {b : Bool} → b ≡ true → b ≡ false → ⊥
both t f = true≢false (sym t ∙ f)

-- ---- the second reading, from the first turn to the last

so_far : {p q : Place} {n : ℕ} {text : List ℕ} (t : Turns going_at TurnedAt p n text q) → going_at q ≡ true
    → Going p.state.audit p.rows (packets_in t) (table_of t) q.state.audit q.rows
so_far none g = idle
so_far (more {r = r} t g x) k =
    going_then (packets_of r.state r.input r.kept r.lent) (so_far t g)
    (on _ _ _ _ _ _ x.turned.pulled.pull x.turned.heeds k).goes

record Came (p q : Place) (ps : List Handed) (m : List ℕ) : Type 0 where
  last : Audit
  rows₁ : List ℕ
  first : List ℕ
  rest : List ℕ
  cut : m ≡ first ++ rest
  going : Going p.state.audit p.rows ps first last rows₁
  ending : Ending last rows₁ rest q.state.audit q.rows

came_to : {p q : Place} {n : ℕ} {text : List ℕ} (t : Turns going_at TurnedAt p n text q) → p.state.ended ≡ false → q.state.ended ≡ true
    → Came p q (packets_in t) (table_of t)
came_to none b e = absurd (both e b)
came_to {p} (more {r = r} t g x) b e =
    let o = (over _ _ _ _ _ _ x.turned.pulled.pull x.turned.heeds e).1 in
    let all = ap (λ (y : List Handed). packets_in t ++ y) o.none ∙ append-nil (packets_in t) in
    record {
      last = r.state.audit;
      rows₁ = r.rows;
      first = table_of t;
      rest = x.turned.more;
      cut = refl;
      going = subst (λ (ps : List Handed). Going p.state.audit p.rows ps (table_of t) r.state.audit r.rows) (sym all)
          (so_far t g);
      ending = o.ends;
    }

-- ---- the packets that the input's octets make

longer : (s l : List ℕ) → length l ≤ length (written s l)
longer s l = omega (arith, length-append s (drop (length s) l), length-drop (length s) l)

still_enough : (ps : List Handed) (l : Lent) → Enough l → Enough (laid ps l)
still_enough ps l e = record {
  octets = omega (arith, e.octets, longer (joined (bare ps)) l.octets);
  lengths = omega (arith, e.lengths, longer (map length (bare ps)) l.lengths);
  firsts = omega (arith, e.firsts, longer (firsts ps) l.firsts);
}

-- the input has ended only where octets are missing and none came
end_none : (s : Source) (failed : Bool) (came : ℕ) → at_end s failed came ≡ pull.End → came ≡ 0
unfolding at_end
end_none s failed came =
    picks (λ (p : Pull). p ≡ pull.End → came ≡ 0) failed _ _ (λ e d. let z : ◌≡◌ {A = ℕ} 0 1 = cc in absurd (omega arith))
    (λ e. picks (λ (p : Pull). p ≡ pull.End → came ≡ 0) (eqb came 0) _ _ (λ k d. eqb-true came 0 k)
    (λ k d. let z : ◌≡◌ {A = ℕ} 0 1 = cc in absurd (omega arith)))

record Missed (e : Event) (came : ℕ) : Type 0 where
  number : ℕ
  missed : e ≡ event.Missing number
  none : came ≡ 0

at-end : (e : Event) (s : Source) (failed : Bool) (came : ℕ) → pulled e s failed came ≡ pull.End → Missed e came
at-end (event.Missing n) s failed came d = record { number = n; missed = refl; none = end_none s failed came d }
at-end event.Bad s failed came d = let z : ◌≡◌ {A = ℕ} 0 1 = cc in absurd (omega arith)
at-end event.Over s failed came d = let z : ◌≡◌ {A = ℕ} 0 1 = cc in absurd (omega arith)
at-end event.Opened s failed came d = let z : ◌≡◌ {A = ℕ} 0 1 = cc in absurd (omega arith)
at-end event.Nothing s failed came d = let z : ◌≡◌ {A = ℕ} 0 1 = cc in absurd (omega arith)
at-end (event.Answered x) s failed came d = let z : ◌≡◌ {A = ℕ} 0 1 = cc in absurd (omega arith)

record Waiting (s : Source) (kept w : List ℕ) : Type 0 where
  number : ℕ
  waits : Waits s kept w number

module _ (s : Source) (z : Session) (kept w : List ℕ) (l : Lent) (n : ℕ) where
  finds : Finds s kept w (scanned s kept w) (kept_by s kept w)
  finds = scans_find.finds (record { answers = refl; keeps = refl })

  by_taken : (t : Taken) → Told s kept w (scanned s kept w) (kept_by s kept w) t → missing n ≡ (heard z (kept_by s kept w) w l t).tells
      → Waiting s kept w
  by_taken (taken.Missing m) k e = record { number = m; waits = k.1 }
  by_taken taken.Bad k e = let z : ◌≡◌ {A = ℕ} 0 1 = cc in absurd (omega arith)
  by_taken taken.Over k e = let z : ◌≡◌ {A = ℕ} 0 1 = cc in absurd (omega arith)
  by_taken (taken.Opened t) k e = let z : ◌≡◌ {A = ℕ} 0 1 = cc in absurd (omega arith)
  by_taken taken.Nothing k e = let z : ◌≡◌ {A = ℕ} 0 1 = cc in absurd (omega arith)
  by_taken (taken.Here from to) k e = let z : ◌≡◌ {A = ℕ} 0 1 = cc in absurd (omega arith)
  by_taken (taken.Kept m) k e = let z : ◌≡◌ {A = ℕ} 0 1 = cc in absurd (omega arith)
  by_taken (taken.Refused m) k e = let z : ◌≡◌ {A = ℕ} 0 1 = cc in absurd (omega arith)

waiting : (a : Receiver) (kept w : List ℕ) (l : Lent) (n : ℕ) {r : Received} {kept' : List ℕ} {l' : Lent} → Receives a kept w l r kept' l'
    → r.event ≡ event.Missing n
    → Waiting a.source kept w
unfolding received
waiting a kept w l n g e =
    by_taken a.source a.session kept w l n (scanned a.source kept w).taken (finds a.source a.session kept w l n).told
    (sym (ap told_of e) ∙ g.tells)

nothing_came : (p : List ℕ) → length p ≡ 0 → p ≡ []
nothing_came [] e = refl
nothing_came (x ∷ p) e = absurd (omega arith)

-- one turn is a call and a piece
went : {a₀ : Receiver} {kept₀ o : List ℕ} {hs : List Handed} {s r : State} {input kept rows input' kept' rows' : List ℕ} {l l' : Lent}
    → Enough l
    → (t : Turned s input kept l rows r input' kept' l' rows') → Run a₀ kept₀ o hs s.receiver kept (hand_of s.feed input)
    → Run a₀ kept₀ (o ++ t.pulls.piece) (hs ++ packets_of s input kept l) r.receiver kept' (hand_of r.feed input')
went {a₀} {kept₀} {o} {hs} {s} {r} {input} {kept} {input' = input'} {kept'} {l = l} {l'} enough t run =
    let x = t.pulls in
    let os : List ℕ = o ++ x.piece in
    let ps : List Handed = hs ++ packets_of s input kept l in
    let behind : List ℕ = drop x.received.used (hand_of s.feed input) ++ x.piece in
    let h : hand_of r.feed input' ≡ behind = ap (λ (f : Feed). hand_of f input') t.feed ∙ x.window in
    let b : r.receiver ≡ x.received.receiver = t.receiver ∙ x.receiver in
    subst (λ (w : List ℕ). Run a₀ kept₀ os ps r.receiver kept' w) (sym h)
    (subst (λ (y : Receiver). Run a₀ kept₀ os ps y kept' behind) (sym b)
    (reads x.piece (takes l l' x.received kept' enough x.calls run)))

enough-left : {p q : Place} {n : ℕ} {text : List ℕ} → Turns going_at TurnedAt p n text q → Enough p.lent → Enough q.lent
enough-left none e = e
enough-left (more {r = r} t g x) e =
    subst Enough (sym x.turned.pulls.calls.leaves)
    (still_enough (packets_of r.state r.input r.kept r.lent) r.lent (enough-left t e))

abbrev RunAt : Receiver → List ℕ → List ℕ → List Handed → Place → Type 0
RunAt a kept octets hs p = Run a kept octets hs p.state.receiver p.kept (hand_of p.state.feed p.input)

run_so_far : {a₀ : Receiver} {kept₀ : List ℕ} {p q : Place} {n : ℕ} {text : List ℕ} (t : Turns going_at TurnedAt p n text q) → Enough
    p.lent
    → RunAt a₀ kept₀ [] [] p → RunAt a₀ kept₀ (input_of t) (packets_in t) q
run_so_far none e run = run
run_so_far (more t g x) e run = went (enough-left t e) x.turned (run_so_far t e run)

all-handed : {a₀ : Receiver} {kept₀ : List ℕ} {p q : Place} {n : ℕ} {text : List ℕ} (t : Turns going_at TurnedAt p n text q) → Enough
    p.lent
    → RunAt a₀ kept₀ [] [] p → p.state.ended ≡ false → q.state.ended ≡ true → packets_in t ≡ to_come a₀ kept₀ (input_of t)
all-handed none e run b d = absurd (both d b)
all-handed {a₀} {kept₀} (more {r = r} t g x) e run b d =
    let y = x.turned.pulls in
    let p = x.turned.pulled in
    let v = over _ _ _ _ _ _ p.pull x.turned.heeds d in
    let m = at-end y.received.event r.state.receiver.source p.read.failed p.read.came (sym y.tells ∙ v.0) in
    let w = waiting r.state.receiver r.kept (hand_of r.state.feed r.input) r.lent m.number y.calls m.missed in
    let none_read = nothing_came y.piece (y.many ∙ m.none) in
    ap (λ (ps : List Handed). packets_in t ++ ps) v.1.none
    ∙ append-nil (packets_in t)
    ∙ pieces_are_received.prompt w.number (run_so_far t e run) w.waits
    ∙ ap (to_come a₀ kept₀) (sym (ap (λ (o : List ℕ). input_of t ++ o) none_read ∙ append-nil (input_of t)))

pub hands_out : HandsOut
hands_out a kept c v k = all-handed c.turns.made.turns c.enough starts refl k.ended

-- ---- the verdict

pub tells-right : TellsRight
tells-right a kept c v k table x =
    let t = came_to c.turns.made.turns refl k.ended in
    let z = c.stopped.state.audit in
    let m = rows_read c in
    let ps = packets_in c.turns.made.turns in
    let same : c.formed.reading.form ≡ known table = form_of_all c.buffer c.formed c.buffer' c.reads ∙ sym x.same in
    subst (RightOf table (to_come a kept (input_read c)) m) k.tells
    (subst (λ (y : List Handed). RightOf table y m z.verdict) (hands_out a kept c v k)
    (subst (λ (y : List ℕ). RightOf table ps y z.verdict) (sym t.cut)
    (right-verdict table ps c.rows t.rows₁ c.rows' t.first t.rest x.behind t.last z x.octets
    (subst (λ (g : Form). Going (fresh (started g)) c.rows ps t.first t.last t.rows₁) same t.going) t.ending k.sound
    (ap (λ (g : Form). drop (rows_from (started g).columns) table) x.same ∙ x.rows ∙ ap (λ (y : List ℕ). y ++ x.behind) t.cut))))

-- ---- the exit status

pub done_not_broken : broken ≡ done → ⊥
done_not_broken e = let z : ◌≡◌ {A = ℕ} 0 1 = cc in omega arith

pub done_not_against : against ≡ done → ⊥
done_not_against e = let z : ◌≡◌ {A = ℕ} 0 1 = cc in omega arith

stands_so : (s : State) → s.going ≡ false → s.ended ≡ true → s.audit.read.failed ≡ false → standing s ≡ true
unfolding standing
stands_so s g n h =
    ap (λ (b : Bool). (not b && s.ended) && not s.audit.read.failed) g
    ∙ ap (λ (b : Bool). b && not s.audit.read.failed) n
    ∙ ap not h

passes_by : (v : Verdict) → by_verdict v ≡ done → v ≡ Passes
passes_by Passes e = refl
passes_by (Faulty n row) e = absurd (done_not_against e)

done_by : (v : Verdict) (f : Bool) → status_by v f ≡ done → (v ≡ Passes) × (f ≡ false)
done_by v true e = absurd (done_not_broken e)
done_by v false e = (passes_by v e, refl)

pub done-is-passed : DoneIsPassed
done-is-passed a kept c f w line t (endless g e) = absurd (done_not_broken (sym e))
done-is-passed a kept c f w line t (unread g n h e) = absurd (done_not_broken (sym e))
done-is-passed a kept c f w line t (bad g n h e) = absurd (done_not_against (sym e))
done-is-passed a kept c f w line t (lost g n h e) = absurd (done_not_broken (sym e))
done-is-passed a kept c f w line t (stands g n h e) =
    let s = c.stopped.state in
    let v = done_by s.audit.verdict w.failed (sym e) in
    record {
      checked = record { formed = f; ended = n; sound = h; tells = v.0 };
      text = t.text (stands_so s g n h) ∙ ap verdict_line v.0;
      written = v.1;
    }
