-- What a turn makes of the two readings.
use Rattle.std.specs.Prelude.{Ok, Err}
use Prim.Native.Nat.{ℕ, ◌+◌, ◌≤◌}
use native.Mathlib.Omega.{arith}
use mathlib.Core.Path.{◌≡◌, refl, sym, ap, ◌∙◌, subst}
use mathlib.Core.Bool.{Bool, true, false}
use mathlib.Core.List.{List, [], ◌∷◌, ◌++◌, map, append_assoc}
use lib.ListN.{length, take, drop, length-append, length-map}
use lib.Seq.{take_at, drop_at}
use types.Run.{OneOf, miss}
use denote.Enum.Declared.{tag_of}
use Rattle.octets.specs.Parts.{part}
use Rattle.octets.proofs.Placing.{part-some}
use Rattle.octets.proofs.Choices.{picks}
use Rattle.answer.specs.Told.{Told}
use Rattle.rules.specs.Channel.{Handed}
use Rattle.rules.specs.Packets.{bare, joined}
use Rattle.rules.specs.Bounds.{Under}
use Rattle.stretch.specs.Stretch.{found, unread}
use Rattle.session.specs.Lent.{Lent, laid}
use Rattle.session.specs.Step.{Outcome}
use Rattle.session.specs.Step.{told as toldStep}
use Rattle.session.specs.declared.Accepted.{Accepted}
use Rattle.session.specs.declared.Session.{Session}
use Rattle.session.specs.Answers.{StepAnswer}
use Rattle.session.proofs.Few.{Few, offer-few}
use Rattle.source.specs.Scan.{scanned, kept_by}
use Rattle.source.specs.declared.Taken.{Taken}
use Rattle.source.specs.declared.Taken.TheVariants as taken
use Rattle.receiver.specs.Receive.{Tells, missing, bad, over, opened, nothing, answered, told_of, Heard, answered_by, heard, received}
use Rattle.receiver.specs.declared.Receiver.{Receiver}
use Rattle.receiver.specs.declared.Event.{Event}
use Rattle.receiver.specs.declared.Event.TheVariants as event
use Rattle.table.specs.declared.Check.{Check}
use Rattle.audit_rows.specs.Goes.{fresh, idle, Goes, Ends}
use Rattle.audit_rows.proofs.Alike.{Alike, going-alike}
use Rattle.audit_rows.specs.Frame.{handed_from, handed_in, handed_by}
use Rattle.audit_rows.specs.declared.Audit.{Audit}
use Rattle.window.specs.Window.{unread as noRead}
use Rattle.window.specs.declared.Refilled.{Refilled}
use Rattle.feed.specs.Pull.{fresh as freshFeed}
use Rattle.feed.specs.Pull.{at_end, pulled, Pulls}
use Rattle.feed.specs.Pull.{hand_of as handOfFeed}
use Rattle.feed.specs.declared.Feed.{Feed}
use Rattle.feed.specs.declared.Pull.{Pull}
use Rattle.feed.specs.declared.Pull.TheVariants as pull
use Rattle.feed.specs.declared.Pulled.{Pulled}
use Rattle.feed.specs.contracts.Pull.{the_type}
use Rattle.source.specs.declared.Source.{Source}
use Rattle.audit_turns.specs.Turns.{begun, On, By, told, Heeds, Turned}
use Rattle.audit_turns.specs.declared.State.{State}
use Rattle.audit_turns.specs.declared.Heeded.{Heeded}

-- ---- what was handed out stands in what was lent

end_to_end : (a : ℕ) (ps : List Handed) (front rest : List ℕ) (from : ℕ) → from ≡ length front → Under a ps
    → Alike (handed_from a (front ++ (joined (bare ps) ++ rest)) from (map length (bare ps))) ps
end_to_end a [] front rest from e u = tt
end_to_end a (p ∷ ps) front rest from e u =
    let n : ℕ = length p.packet in
    let o : List ℕ = front ++ (joined (bare (p ∷ ps)) ++ rest) in
    let s : o ≡ (front ++ p.packet) ++ (joined (bare ps) ++ rest) = simp append_assoc in
    let d : drop from o ≡ p.packet ++ (joined (bare ps) ++ rest) =
    drop_at front ((p.packet ++ joined (bare ps)) ++ rest) from (sym e) ∙ append_assoc p.packet (joined (bare ps)) rest in
    let size : from + n ≤ length o =
    omega (arith, e, ap length s, length-append (front ++ p.packet) (joined (bare ps) ++ rest), length-append front p.packet) in
    let here : part o from n ≡ p.packet =
    sym (part-some o from n size) ∙ ap (take n) d ∙ take_at p.packet (joined (bare ps) ++ rest) n refl in (
      (here, sym u.0),
      subst (λ (x : List ℕ). Alike (handed_from a x (from + n) (map length (bare ps))) ps) (sym s)
          (end_to_end a ps (front ++ p.packet) rest (from + n) (omega (arith, e, length-append front p.packet)) u.1),
    )

-- What a session heard: nothing, or an outcome.
data Fair (h : Heard) : Type 0 where
  still : h.packets ≡ [] → ((t : Told Accepted) → h.tells ≡ answered t → ⊥) → Fair h
  spoke : (o : Outcome) → Few o → h ≡ answered_by o → Fair h

heard_fair : (s : Session) (kept w : List ℕ) (l : Lent) (t : Taken) → Fair (heard s kept w l t)
heard_fair s kept w l (taken.Missing n) = still refl (λ t e. let z : ◌≡◌ {A = ℕ} 0 1 = cc in omega arith)
heard_fair s kept w l taken.Bad = still refl (λ t e. let z : ◌≡◌ {A = ℕ} 0 1 = cc in omega arith)
heard_fair s kept w l taken.Over = still refl (λ t e. let z : ◌≡◌ {A = ℕ} 0 1 = cc in omega arith)
heard_fair s kept w l (taken.Opened n) = still refl (λ t e. let z : ◌≡◌ {A = ℕ} 0 1 = cc in omega arith)
heard_fair s kept w l taken.Nothing = still refl (λ t e. let z : ◌≡◌ {A = ℕ} 0 1 = cc in omega arith)
heard_fair s kept w l (taken.Here from to) = spoke _ (offer-few s (found _) l) refl
heard_fair s kept w l (taken.Kept n) = spoke _ (offer-few s (found _) l) refl
heard_fair s kept w l (taken.Refused n) = spoke _ (offer-few s (unread n) l) refl

none_at_all : (ps : List Handed) → length ps ≡ 0 → ps ≡ []
none_at_all [] e = refl
none_at_all (p ∷ ps) e = absurd (omega arith)

-- By the outcome of what was offered: what was left in l stands there.
module _ (o : Outcome) (f : Few o) (l : Lent) where
  stands : (n a : ℕ) → n ≡ length o.packets → Under a o.packets
      → Alike (handed_in a n (laid o.packets l).octets (laid o.packets l).lengths) o.packets
  stands n a e u =
      let ps = o.packets in
      let ns : List ℕ = map length (bare ps) in
      let front : take n (ns ++ drop (length ns) l.lengths) ≡ ns = take_at ns (drop (length ns) l.lengths) n
      (simp length-map (sym e)) in
      subst (λ (m : List ℕ). Alike (handed_from a (joined (bare ps) ++ drop (length (joined (bare ps))) l.octets) 0 m) ps) (sym front)
      (end_to_end a ps [] (drop (length (joined (bare ps))) l.octets) 0 refl u)

  answered-stands : (x : StepAnswer) → toldStep x ≡ o.answer → Alike
      (handed_by x (laid o.packets l).octets (laid o.packets l).lengths) o.packets
  answered-stands (Ok a) e =
      let fields : a ≡ o.answer.fields = ap (λ (t : Told Accepted). t.fields) e in
      stands a.packets a.arrival (ap (λ (b : Accepted). b.packets) fields ∙ f.count)
      (subst (λ (n : ℕ). Under n o.packets) (sym (ap (λ (b : Accepted). b.arrival) fields)) f.under)
  answered-stands (Err r) e =
      let z : 0 ≡ o.answer.fields.packets = ap (λ (t : Told Accepted). t.fields.packets) e in
      subst (λ (ps : List Handed). Alike [] ps) (sym (none_at_all o.packets (sym (z ∙ f.count)))) tt

module _ (h : Heard) (l : Lent) where
  spoken : Fair h → (x : StepAnswer) → answered (toldStep x) ≡ h.tells → Alike
      (handed_by x (laid h.packets l).octets (laid h.packets l).lengths) h.packets
  spoken (still n s) x e = absurd (s (toldStep x) (sym e))
  spoken (spoke o f d) x e =
      let t : answered (toldStep x) ≡ answered o.answer = e ∙ ap (λ (y : Heard). y.tells) d in
      let same : toldStep x ≡ o.answer = cc in
      subst (λ (y : Heard). Alike (handed_by x (laid y.packets l).octets (laid y.packets l).lengths) y.packets) (sym d)
      (answered-stands o f l x same)

  unspoken : Fair h → (t : Tells) → t ≡ h.tells → ((a : Told Accepted) → t ≡ answered a → ⊥) → Alike [] h.packets
  unspoken (still n s) t e other = subst (λ (ps : List Handed). Alike [] ps) (sym n) tt
  unspoken (spoke o f d) t e other = absurd (other o.answer (e ∙ ap (λ (y : Heard). y.tells) d))

at-end-none : (s : Source) (failed : Bool) (came : ℕ) (octets lengths : List ℕ) → told (at_end s failed came) octets lengths ≡ []
unfolding at_end
at-end-none s failed came octets lengths =
    picks (λ (p : Pull). told p octets lengths ≡ []) _ _ _ (λ e. refl)
    (λ e. picks (λ (p : Pull). told p octets lengths ≡ []) _ _ _
    (λ e. picks (λ (p : Pull). told p octets lengths ≡ []) _ _ _ (λ e. refl) (λ e. refl)) (λ e. refl))

-- what was told of the input, and what was handed out
by_event : (h : Heard) (l : Lent) → Fair h → (s : Source) (failed : Bool) (came : ℕ) (e : Event) → told_of e ≡ h.tells
    → Alike (told (pulled e s failed came) (laid h.packets l).octets (laid h.packets l).lengths) h.packets
by_event h l f s failed came (event.Missing n) e =
    subst (λ (ps : List Handed). Alike ps h.packets)
    (sym (at-end-none s failed came (laid h.packets l).octets (laid h.packets l).lengths))
    (unspoken h l f (missing n) e (λ a d. let z : ◌≡◌ {A = ℕ} 0 1 = cc in omega arith))
by_event h l f s failed came event.Bad e = unspoken h l f bad e (λ a d. let z : ◌≡◌ {A = ℕ} 0 1 = cc in omega arith)
by_event h l f s failed came event.Over e = unspoken h l f over e (λ a d. let z : ◌≡◌ {A = ℕ} 0 1 = cc in omega arith)
by_event h l f s failed came event.Opened e = unspoken h l f opened e (λ a d. let z : ◌≡◌ {A = ℕ} 0 1 = cc in omega arith)
by_event h l f s failed came event.Nothing e = unspoken h l f nothing e (λ a d. let z : ◌≡◌ {A = ℕ} 0 1 = cc in omega arith)
by_event h l f s failed came (event.Answered x) e = spoken h l f x e

none_alike : (qs : List Handed) → Alike [] qs → qs ≡ []
none_alike [] a = refl
none_alike (q ∷ qs) a = absurd a

by_alike : (a : Audit) (rows m : List ℕ) (r : Heeded) (rows' : List ℕ) (ps qs : List Handed) → Alike ps qs → (p : Pull)
    → By a rows ps m r rows' p → By a rows qs m r rows' p
by_alike a rows m r rows' ps qs l pull.More o = record { going = o.going; ended = o.ended; goes = going-alike o.goes qs l }
by_alike a rows m r rows' ps qs l pull.Opened o = record { going = o.going; ended = o.ended; goes = going-alike o.goes qs l }
by_alike a rows m r rows' ps qs l (pull.Answered x) o = record { going = o.going; ended = o.ended; goes = going-alike o.goes qs l }
by_alike a rows m r rows' ps qs l pull.Bad o = o
by_alike a rows m r rows' ps qs l pull.Cut o = o
by_alike a rows m r rows' ps qs l pull.Failed o = o
by_alike a rows m r rows' ps qs l pull.End o =
    record {
      none = none_alike qs (subst (λ (x : List Handed). Alike x qs) o.none l);
      going = o.going;
      ended = o.ended;
      ends = o.ends;
    }

received-alike : (f : Feed) (input : List ℕ) (a : Receiver) (kept : List ℕ) (l : Lent) {r : Pulled} {input' kept' : List ℕ} {l' : Lent}
    → Pulls f input a kept l r input' kept' l' → Alike (told r.pull l'.octets l'.lengths)
    (received a kept (handOfFeed f input) l).packets
unfolding received
received-alike f input a kept l {r} {l' = l'} g =
    let w : List ℕ = handOfFeed f input in
    let h : Heard = heard a.session (kept_by a.source kept w) w l (scanned a.source kept w).taken in
    let x = by_event h l (heard_fair a.session (kept_by a.source kept w) w l (scanned a.source kept w).taken) a.source
    r.read.failed r.read.came g.received.event g.calls.tells in
    subst (λ (y : Lent). Alike (told r.pull y.octets y.lengths) h.packets) (sym g.calls.leaves)
    (subst (λ (p : Pull). Alike (told p (laid h.packets l).octets (laid h.packets l).lengths) h.packets) (sym g.tells) x)

pub turned : (s : State) (input kept : List ℕ) (l : Lent) (rows : List ℕ) {p : Pulled} {input' kept' : List ℕ} {l' : Lent} {rows' : List ℕ}
    (r : Heeded)
    → Pulls s.feed input s.receiver kept l p input' kept' l' → Heeds s.audit rows l'.octets l'.lengths r rows' p.pull
    → Turned s input kept l rows (record {
      feed = p.feed;
      receiver = p.receiver;
      audit = r.audit;
      read = p.read;
      going = r.going;
      ended = r.ended;
    }) input' kept' l' rows'
turned s input kept l rows {p} {l' = l'} {rows'} r g h = record {
  pulled = p;
  pulls = g;
  feed = refl;
  receiver = refl;
  read = refl;
  more = h.more;
  heeds = by_alike s.audit rows h.more r rows' (told p.pull l'.octets l'.lengths)
      (received s.receiver kept (handOfFeed s.feed input) l).packets
      (received-alike s.feed input s.receiver kept l g) p.pull h.heeds;
}

-- before the first turn
pub at-start : (a : Receiver) (c : Check) {f : Feed} {b : Audit} {r : Refilled} → f ≡ freshFeed → b ≡ fresh c → r ≡ noRead
    → ◌≡◌ {A = State} (record { feed = f; receiver = a; audit = b; read = r; going = true; ended = false }) (begun a c)
at-start a c {f} {b} {r} e k d =
    ap (λ (x : Feed). record { feed = x; receiver = a; audit = b; read = r; going = true; ended = false }) e
    ∙ ap (λ (x : Audit). record { feed = freshFeed; receiver = a; audit = x; read = r; going = true; ended = false }) k
    ∙ ap (λ (x : Refilled). record { feed = freshFeed; receiver = a; audit = fresh c; read = x; going = true; ended = false }) d

-- ---- by what was told of the input

module _ (a : Audit) (rows octets lengths : List ℕ) where
  abbrev left : Audit → Bool → Bool → Heeded
  left b going last = record { audit = b; going = going; ended = last }

  goes_on_lem : On a rows [] [] (left a true false) rows
  goes_on_lem = record { going = refl; ended = refl; goes = idle }

  pub heeds-none : (p : Pull) → OneOf (0 ∷ 1 ∷ []) (tag_of the_type p) → Heeds a rows octets lengths (left a true false) rows p
  heeds-none pull.More k = record { more = []; heeds = goes_on_lem }
  heeds-none pull.Opened k = record { more = []; heeds = goes_on_lem }
  heeds-none (pull.Answered x) k = absurd (miss (0 ∷ 1 ∷ []) 2 tt k)
  heeds-none pull.Bad k = absurd (miss (0 ∷ 1 ∷ []) 3 tt k)
  heeds-none pull.End k = absurd (miss (0 ∷ 1 ∷ []) 4 tt k)
  heeds-none pull.Cut k = absurd (miss (0 ∷ 1 ∷ []) 5 tt k)
  heeds-none pull.Failed k = absurd (miss (0 ∷ 1 ∷ []) 6 tt k)

  pub heeds-bad : (p : Pull) → OneOf (3 ∷ 5 ∷ 6 ∷ []) (tag_of the_type p) → Heeds a rows octets lengths (left a false false) rows p
  heeds-bad pull.More k = absurd (miss (3 ∷ 5 ∷ 6 ∷ []) 0 tt k)
  heeds-bad pull.Opened k = absurd (miss (3 ∷ 5 ∷ 6 ∷ []) 1 tt k)
  heeds-bad (pull.Answered x) k = absurd (miss (3 ∷ 5 ∷ 6 ∷ []) 2 tt k)
  heeds-bad pull.Bad k = record { more = []; heeds = record { stays = refl; buffer = refl; going = refl; ended = refl; none = refl } }
  heeds-bad pull.End k = absurd (miss (3 ∷ 5 ∷ 6 ∷ []) 4 tt k)
  heeds-bad pull.Cut k = record { more = []; heeds = record { stays = refl; buffer = refl; going = refl; ended = refl; none = refl } }
  heeds-bad pull.Failed k = record { more = []; heeds = record { stays = refl; buffer = refl; going = refl; ended = refl; none = refl } }

  pub heeds-frame : {p : Pull} {x : StepAnswer} {b : Audit} {rows' : List ℕ} → p ≡ pull.Answered x → Goes a rows
      (handed_by x octets lengths) b rows'
      → Heeds a rows octets lengths (left b true false) rows' p
  heeds-frame {b = b} {rows'} e g =
      subst (λ (q : Pull). Heeds a rows octets lengths (left b true false) rows' q) (sym e)
      (record { more = g.piece; heeds = record { going = refl; ended = refl; goes = g.going } })

  pub heeds-end : {p : Pull} {b : Audit} {rows' : List ℕ} → p ≡ pull.End → Ends a rows b rows' → Heeds a rows octets lengths
      (left b false true) rows' p
  heeds-end {b = b} {rows'} e g =
      subst (λ (q : Pull). Heeds a rows octets lengths (left b false true) rows' q) (sym e)
      (record { more = g.piece; heeds = record { none = refl; going = refl; ended = refl; ends = g.ending } })
