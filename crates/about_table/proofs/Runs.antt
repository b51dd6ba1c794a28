-- What a run hands out, call by call.
use Rattle.std.specs.Prelude.{Ok, Err}
use Prim.Native.Nat.{ℕ, zero, suc, ◌-◌, ◌≤◌, ◌<◌}
use native.Mathlib.Decide.{dec_lt}
use native.Mathlib.Omega.{arith}
use mathlib.Core.Path.{◌≡◌, refl, sym, ap, ◌∙◌}
use mathlib.Core.Bool.{Bool, true, false, false≢true}
use mathlib.Core.List.Memᴰ
use mathlib.Core.List.{List, [], ◌∷◌, ◌++◌, append_assoc, Memᴰ}
use mathlib.Core.Option.{some}
use lib.ListN.{length, get_elem?, length-append}
use borrow.Author.Tests.{le-leb, eq-eqb}
use Rattle.octets.proofs.Choices.{picked, picks}
use Rattle.answer.specs.Told.{Told}
use Rattle.frame.specs.Frame.{read_frame}
use Rattle.frame.proofs.Accepts.{accepts}
use Rattle.frame.proofs.Tells.{read-tells}
use Rattle.rules.specs.Channel.{Handed}
use Rattle.session.specs.declared.Session.{Session}
use Rattle.session.specs.declared.Accepted.{Accepted}
use Rattle.session.specs.Answers.{StepAnswer}
use Rattle.session.specs.Lent.{Lent}
use Rattle.session.specs.Step.{Outcome, refused_at, counted, accepted, heeded, outcome, turned_away, told, Gives}
use Rattle.session.specs.Statements.{offered}
use Rattle.session.proofs.Admitting.{admitted_picks}
use Rattle.session.proofs.Few.{offer-few}
use Rattle.stretch.specs.Stretch.{Stretch, found, unread}
use Rattle.sender.specs.Sender.{when}
use Rattle.about_delivery.specs.Delivered.{Report, handed}
use Rattle.about_delivery.specs.Run.{Call, Runs, read_out, answer_of, packets_of, report_of, took, reports_of}
use Rattle.about_delivery.proofs.Calls.{read_back}
use Rattle.table.specs.Table.{numbered}
use Rattle.about_table.specs.Trained.{handed_out, up_to, Teller, channel_of}
use Rattle.about_table.proofs.Places.{front, back, nothing-there, member, under}

-- What comes of an offer to s: no lower number, and a channel of eight if it is accepted.
pub record Fair (s : Session) (o : Outcome) : Type 0 where
  pub later : s.arrival ≤ o.session.arrival
  pub channel : o.answer.accepted ≡ true → o.answer.fields.channel < 8

refused_fair : (s : Session) (n octet : ℕ) → Fair s (refused_at s n octet)
refused_fair s n octet = record { later = omega arith; channel = λ e. absurd (false≢true e) }

counted_fair : (s : Session) (o : Outcome) → Fair (counted s) o → Fair s o
counted_fair s o f = record { later = omega (arith, f.later); channel = f.channel }

heeded_fair : (s : Session) (x : List ℕ) → Fair s (heeded s x (read_frame s.t x))
unfolding accepted
heeded_fair s x =
    picks (Fair s) (read_frame s.t x).accepted _ _
    (λ a. record { later = omega arith; channel = λ e. (accepts s.t x _ ((read-tells s.t x).plain a)).channel })
    (λ a. refused_fair s _ _)

offer_fair : (s : Session) (x : Stretch) (l : Lent) → Fair s (offered s x l)
unfolding outcome turned_away
offer_fair s (found x) l =
    admitted_picks (Fair s) s l _ (λ a. counted_fair s _ (heeded_fair (counted s) x)) (λ n e. refused_fair s n 0)
offer_fair s (unread n) l = admitted_picks (Fair s) s l _ (λ a. counted_fair s _ (refused_fair (counted s) n 0)) (λ m e. refused_fair s m 0)

-- a refusal hands nothing out
accepted_by : (x : StepAnswer) (l : Lent) (i : ℕ) (h : Handed) → get_elem?
    (read_out (told x).fields.arrival (told x).fields.packets l) i ≡ some h → (told x).accepted ≡ true
accepted_by (Ok a) l i h e = refl
accepted_by (Err r) l i h e = nothing-there e

module _ (s : Session) (c : Call) (g : Gives (offered s c.offer c.lent) c.result c.lent c.left) where
  abbrev o : Outcome
  o = offered s c.offer c.lent

  read : packets_of c ≡ o.packets
  read =
      let k = offer-few s c.offer c.lent in
      ap (λ (a : Told Accepted). read_out a.fields.arrival a.fields.packets c.left) g.answers
      ∙ ap (read_out o.answer.fields.arrival o.answer.fields.packets) g.leaves
      ∙ read_back o.answer.fields.arrival o.answer.fields.packets o.packets c.lent k.under k.count

  pub no_earlier : s.arrival ≤ c.result.session.arrival
  no_earlier = omega (arith, ap (λ (x : Session). x.arrival) g.session, (offer_fair s c.offer c.lent).later)

  pub of_eight : (answer_of c).accepted ≡ true → (answer_of c).fields.channel < 8
  of_eight e =
      let a = (offer_fair s c.offer c.lent).channel (sym (ap (λ (t : Told Accepted). t.accepted) g.answers) ∙ e) in
      omega (arith, ap (λ (t : Told Accepted). t.fields.channel) g.answers)

  module _ (i : ℕ) (h : Handed) (e : get_elem? (packets_of c) i ≡ some h) where
    found_in : get_elem? o.packets i ≡ some h
    found_in = ap (λ (ps : List Handed). get_elem? ps i) (sym read) ∙ e

    -- the number that the session used, and that the answer tells
    pub number-used : h.arrival ≡ c.result.session.arrival
    number-used =
        under o.session.arrival o.packets i h (offer-few s c.offer c.lent).used found_in ∙ ap (λ (x : Session). x.arrival)
        (sym g.session)

    pub number-told : (answer_of c).fields.arrival ≡ h.arrival
    number-told =
        ap (λ (t : Told Accepted). t.fields.arrival) g.answers
        ∙ sym (under o.answer.fields.arrival o.packets i h (offer-few s c.offer c.lent).under found_in)

    pub was_accepted : (answer_of c).accepted ≡ true
    was_accepted = accepted_by c.result.answer c.left i h e

-- nothing is handed out under a number below the session's
no_lower : (cs : List Call) (s : Session) → Runs s cs → (i : ℕ) (h : Handed) → get_elem? (handed_out cs) i ≡ some h → s.arrival ≤ h.arrival
no_lower [] s w i h e = nothing-there e
no_lower (c ∷ cs) s w i h e =
    by (dec_lt _ _) (λ l. no_lower cs c.result.session w.1 (i - length (packets_of c)) h
    (sym (back (packets_of c) (handed_out cs) i l) ∙ e))
  where
    by : Dec (i < length (packets_of c)) → (length (packets_of c) ≤ i → c.result.session.arrival ≤ h.arrival) → s.arrival ≤ h.arrival
    by (yes l) next =
        omega (arith, no_earlier s c w.0, number-used s c w.0 i h (sym (front (packets_of c) (handed_out cs) i l) ∙ e))
    by (no l) next = omega (arith, no_earlier s c w.0, next (omega (arith, l)))

-- what is handed out under a number up to n is handed out by the calls up to n
cut-known : (n : ℕ) (cs : List Call) (s : Session) → Runs s cs → (i : ℕ) (h : Handed) → get_elem? (handed_out cs) i ≡ some h → h.arrival ≤ n
    → get_elem? (handed_out (up_to n cs)) i ≡ some h
cut-known n [] s w i h e l = e
cut-known n (c ∷ cs) s w i h e l =
    by (dec_lt _ _)
    (λ m. sym (back (packets_of c) (handed_out cs) i m) ∙ e)
    (λ f. cut-known n cs c.result.session w.1 (i - length (packets_of c)) h f l)
  where
    kept : c.result.session.arrival ≤ n → up_to n (c ∷ cs) ≡ c ∷ up_to n cs
    kept m = sym (picked _ _ _ (le-leb _ _ m))

    by : Dec (i < length (packets_of c)) → (length (packets_of c) ≤ i → get_elem? (handed_out cs) (i - length (packets_of c)) ≡ some h)
        → (get_elem? (handed_out cs) (i - length (packets_of c)) ≡ some h → get_elem? (handed_out (up_to n cs))
        (i - length (packets_of c)) ≡ some h)
        → get_elem? (handed_out (up_to n (c ∷ cs))) i ≡ some h
    by (yes m) rest next =
        let f = sym (front (packets_of c) (handed_out cs) i m) ∙ e in
        let up : c.result.session.arrival ≤ n = omega (arith, number-used s c w.0 i h f) in
        ap (λ (x : List Call). get_elem? (handed_out x) i) (kept up) ∙ front (packets_of c) (handed_out (up_to n cs)) i m ∙ f
    by (no m) rest next =
        let f = rest (omega (arith, m)) in
        let up : c.result.session.arrival ≤ n = omega (arith, no_lower cs c.result.session w.1 (i - length (packets_of c)) h f) in
        ap (λ (x : List Call). get_elem? (handed_out x) i) (kept up) ∙ back (packets_of c) (handed_out (up_to n cs)) i (omega (arith, m))
        ∙ next f

-- the call that handed out packet n, and its number and channel
pub record Finds (calls : List Call) (n : ℕ) (h : Handed) : Type 0 where
  pub teller : Teller calls n h
  pub number : (answer_of teller.call).fields.arrival ≡ h.arrival
  pub virtual : channel_of teller.call < 8
  pub among : Memᴰ h (handed (reports_of (channel_of teller.call) calls))

more_reports : (b : Bool) (r : Report) (rs : List Report) (h : Handed) → Memᴰ h (handed rs) → Memᴰ h (handed (when b r ++ rs))
more_reports true r rs h m = Memᴰ.append_right r.packets m
more_reports false r rs h m = m

finds : (cs : List Call) (s : Session) → Runs s cs → (i : ℕ) (h : Handed) → get_elem? (handed_out cs) i ≡ some h → Finds cs (suc i) h
finds [] s w i h e = nothing-there e
finds (c ∷ cs) s w i h e =
    by (dec_lt _ _) (λ l. finds cs c.result.session w.1 (i - length (packets_of c)) h
    (sym (back (packets_of c) (handed_out cs) i l) ∙ e))
  where
    by : Dec (i < length (packets_of c)) → (length (packets_of c) ≤ i → Finds cs (suc (i - length (packets_of c))) h) → Finds (c ∷ cs)
        (suc i) h
    by (yes l) next =
        let f = sym (front (packets_of c) (handed_out cs) i l) ∙ e in
        let a = was_accepted s c w.0 i h f in
        let t : took (channel_of c) c ≡ true = simp (a, eq-eqb (channel_of c) (channel_of c) refl) in
        record {
          teller = record {
            before = [];
            call = c;
            behind = cs;
            cut = refl;
            accepted = a;
            later = omega arith;
            told = f;
          };
          number = number-told s c w.0 i h f;
          virtual = of_eight s c w.0 a;
          among = rw t (Memᴰ.append_left (handed (reports_of (channel_of c) cs)) (member (packets_of c) i h f));
        }
    by (no l) next =
        let n : length (packets_of c) ≤ i = omega (arith, l) in
        let t = (next n).teller in
        record {
          teller = record {
            before = c ∷ t.before;
            call = t.call;
            behind = t.behind;
            cut = ap (λ (x : List Call). c ∷ x) t.cut;
            accepted = t.accepted;
            later = omega (arith, t.later, length-append (packets_of c) (handed_out t.before));
            told = ap (λ (x : List Handed). get_elem? x i) (append_assoc (packets_of c) (handed_out t.before) (packets_of t.call))
                ∙ back (packets_of c) (handed_out t.before ++ packets_of t.call) i n ∙ t.told;
          };
          number = (next n).number;
          virtual = (next n).virtual;
          among = more_reports (took (channel_of t.call) c) (report_of c) (reports_of (channel_of t.call) cs) h (next n).among;
        }

pub finds-numbered : (cs : List Call) (s : Session) → Runs s cs → (n : ℕ) (h : Handed) → numbered (handed_out cs) n ≡ some h → Finds cs n h
finds-numbered cs s w zero h e = nothing-there e
finds-numbered cs s w (suc i) h e = finds cs s w i h e

pub known-numbered : (n : ℕ) (cs : List Call) (s : Session) → Runs s cs → (k : ℕ) (h : Handed) → numbered (handed_out cs) k ≡ some h
    → h.arrival ≤ n
    → numbered (handed_out (up_to n cs)) k ≡ some h
known-numbered n cs s w zero h e l = nothing-there e
known-numbered n cs s w (suc i) h e l = cut-known n cs s w i h e l
