-- What a run says of a channel is what the rules say of the channel's own frames under their arrival numbers.
use mathlib.Core.Path.{◌≡◌, refl, sym, ap, ◌∙◌, subst}
use mathlib.Core.List.{List, [], ◌∷◌, ◌++◌, map}
use mathlib.Core.Bool.{Bool, true, false}
use Prim.Native.Nat.{ℕ, ◌+◌, ◌<◌}
use native.Mathlib.Omega.{arith}
use lib.ListN.{length}
use lib.Dec.{eqb}
use borrow.Author.Tests.{eqb-true, eqb-false}
use Rattle.octets.specs.Pick.{pick}
use Rattle.octets.proofs.Choices.{picked, passed}
use Rattle.answer.specs.Refusals as no
use Rattle.frame.specs.declared.Frame.{Frame}
use Rattle.frame.specs.Frame.{read_frame, data_of}
use Rattle.rules.specs.Limits.{last_number}
use Rattle.rules.specs.Channel as rules
use Rattle.session.specs.declared.Session.{Session}
use Rattle.session.specs.Channel.{view, unsound}
use Rattle.session.specs.Step.{Outcome, refused_at, refused, counted, channel_at, piece_of, ruled, accepted, outcome, turned_away, Gives}
use Rattle.stretch.specs.Stretch.{Stretch, found, unread}
use Rattle.session.specs.Statements.{offered}
use Rattle.session.proofs.Admitting.{roomy}
use Rattle.session.proofs.Staying.{Stays, offer-stays}
use Rattle.sender.specs.Sender.{when}
use Rattle.about_delivery.specs.Delivered.{Report}
use Rattle.about_delivery.specs.Channels.{report, run, offer_for, offers_of}
use Rattle.about_delivery.specs.Channels as channels
use Rattle.about_delivery.specs.Run.{Call, Runs, Room, offer_of, took, report_of, reports_of}
use Rattle.about_delivery.proofs.Calls.{call-says, accepted-here, accepted-other, accepted-time, accepted-number, accepted-says}

-- ---- the five cases of a call, for channel v

used_up_lem : (t v : ℕ) (n : ℕ) (xs : List Stretch) → eqb n last_number ≡ true → offers_of t v n xs ≡ []
used_up_lem t v n [] e = refl
used_up_lem t v n (x ∷ xs) e = sym (picked (eqb n last_number) [] _ e)

pub numbered : (t v : ℕ) (n : ℕ) (x : Stretch) (xs : List Stretch) → eqb n last_number ≡ false
    → offers_of t v n (x ∷ xs) ≡ offer_for t v (n + 1) x ++ offers_of t v (n + 1) xs
numbered t v n x xs e = sym (passed (eqb n last_number) [] _ _ e refl)

ruled-here : (s : Session) (f : Frame) (d : List ℕ) (v : ℕ) → f.channel ≡ v
    → ruled (counted s) f d ≡ rules.step (s.arrival + 1) (view (channel_at s v)) (piece_of f d)
unfolding ruled
ruled-here s f d v e = ap (λ (i : ℕ). rules.step (s.arrival + 1) (view (channel_at s i)) (piece_of f d)) e

module _ (t v : ℕ) (c : Call) (cs : List Call) (s : Session) where
  abbrev xs : List Stretch
  xs = map offer_of cs

  -- what the outcome o says of v, and what the rest of the run then says of it
  abbrev Rest : Outcome → Type 0
  Rest o = reports_of v cs ≡ run (view (channel_at o.session v)) (offers_of t v o.session.arrival xs)

  abbrev Given : Outcome → Type 0
  Given o = Gives o c.result c.lent c.left

  abbrev Right : Stretch → Type 0
  Right x = reports_of v (c ∷ cs) ≡ run (view (channel_at s v)) (offers_of t v s.arrival (x ∷ xs))

  case_used : (x : Stretch) → eqb s.arrival last_number ≡ true → Given (refused s no.arrivals) → Rest (refused s no.arrivals) → Right x
  case_used x e g r =
      ap (λ (l : List Report). l ++ reports_of v cs) (call-says v c (refused s no.arrivals) g)
      ∙ r
      ∙ ap (run (view (channel_at s v))) (used_up_lem t v s.arrival xs e ∙ sym (used_up_lem t v s.arrival (x ∷ xs) e))

  -- nothing is for v: the frame was refused, or the stretch before it could be read
  case_refused : (x : Stretch) (n octet : ℕ) → eqb s.arrival last_number ≡ false → offer_for t v (s.arrival + 1) x ≡ []
      → Given (refused_at (counted s) n octet) → Rest (refused_at (counted s) n octet) → Right x
  case_refused x n octet e none g r =
      ap (λ (l : List Report). l ++ reports_of v cs) (call-says v c (refused_at (counted s) n octet) g)
      ∙ r
      ∙ ap (run (view (channel_at s v)))
      (sym (numbered t v s.arrival x xs e ∙ ap (λ (l : List channels.Offer). l ++ offers_of t v (s.arrival + 1) xs) none))

  module _ (x : List ℕ) (f : Frame) (e : eqb s.arrival last_number ≡ false) (a : (read_frame t x).accepted ≡ true)
      (same : (read_frame t x).fields ≡ f) where
    abbrev d : List ℕ
    d = data_of f x

    abbrev o : Outcome
    o = accepted (counted s) f d

    -- what the frame offers to v
    offers : offers_of t v s.arrival (found x ∷ xs)
        ≡ when (eqb f.channel v) (record { arrival = s.arrival + 1; frame = piece_of f d }) ++ offers_of t v (s.arrival + 1) xs
    offers = numbered t v s.arrival (found x) xs e ∙ rw (a, same)

    says : Given o → when (took v c) (report_of c) ≡ when (eqb f.channel v) (report (s.arrival + 1) (ruled (counted s) f d))
    says g = call-says v c o g ∙ accepted-says v (counted s) f d c.lent

    goes : Rest o → reports_of v cs ≡ run (view (channel_at o.session v)) (offers_of t v (s.arrival + 1) xs)
    goes r = r ∙ ap (λ (n : ℕ). run (view (channel_at o.session v)) (offers_of t v n xs)) (accepted-number v (counted s) f d)

    case_here : eqb f.channel v ≡ true → v < length s.channels → Given o → Rest o → Right (found x)
    case_here q l g r =
        let i : f.channel ≡ v = eqb-true f.channel v q in
        let st : rules.Answer = rules.step (s.arrival + 1) (view (channel_at s v)) (piece_of f d) in
        let is : ruled (counted s) f d ≡ st = ruled-here s f d v i in
        let seen : view (channel_at o.session v) ≡ st.next = accepted-here v (counted s) f d i l ∙ ap
        (λ (z : rules.Answer). z.next) is in
        let here : when (took v c) (report_of c) ≡ report (s.arrival + 1) st ∷ [] = says g ∙ rw (q, is) in
        let offer : offers_of t v s.arrival (found x ∷ xs) ≡ record { arrival = s.arrival + 1; frame = piece_of f d } ∷ offers_of t v
        (s.arrival + 1) xs =
        offers ∙ rw q in
        ap (λ (l : List Report). l ++ reports_of v cs) here
        ∙ ap (λ (l : List Report). report (s.arrival + 1) st ∷ l)
        (goes r ∙ ap (λ (z : rules.Channel). run z (offers_of t v (s.arrival + 1) xs)) seen)
        ∙ ap (run (view (channel_at s v))) (sym offer)

    case_other : eqb f.channel v ≡ false → Given o → Rest o → Right (found x)
    case_other q g r =
        let n : (v ≡ f.channel → ⊥) = λ i. eqb-false f.channel v q (sym i) in
        let here : when (took v c) (report_of c) ≡ [] = says g ∙ rw q in
        let offer : offers_of t v s.arrival (found x ∷ xs) ≡ offers_of t v (s.arrival + 1) xs = offers ∙ rw q in
        ap (λ (l : List Report). l ++ reports_of v cs) here
        ∙ goes r
        ∙ ap (λ (z : rules.Channel). run z (offers_of t v (s.arrival + 1) xs)) (accepted-other v (counted s) f d n)
        ∙ ap (run (view (channel_at s v))) (sym offer)

    case_accepted : v < length s.channels → Given o → Rest o → Right (found x)
    case_accepted l g r = go (eqb f.channel v) refl
      where
        go : (b : Bool) → eqb f.channel v ≡ b → Right (found x)
        go true q = case_here q l g r
        go false q = case_other q g r

-- ---- the whole run

module _ (t v : ℕ) where
  pub record Ready (s : Session) : Type 0 where
    pub sound : unsound s ≡ false
    pub time : s.t ≡ t
    pub there : v < length s.channels

  abbrev Projects : List Call → Type 0
  Projects cs =
      (s : Session) → Ready s → Runs s cs → Room cs → reports_of v cs ≡ run (view (channel_at s v))
      (offers_of t v s.arrival (map offer_of cs))

  -- after an outcome o of s that leaves t
  next-ready : (s : Session) (o : Outcome) → Ready s → Stays s o → o.session.t ≡ s.t → Ready o.session
  next-ready s o r w p = record { sound = w.sound; time = p ∙ r.time; there = omega (arith, r.there, w.channels) }

  module _ (c : Call) (cs : List Call) (rec : Projects cs) (s : Session) (r : Ready s) (k : Room (c ∷ cs)) (x : Stretch)
      (w : Gives (offered s x c.lent) c.result c.lent c.left) (ws : Runs c.result.session cs) where
    abbrev made : Outcome
    made = offered s x c.lent

    module _ (o : Outcome) (e : made ≡ o) (p : o.session.t ≡ s.t) where
      gives : Given t v c cs s o
      gives = subst (Given t v c cs s) e w

      rest : Rest t v c cs s o
      rest =
          rec o.session (next-ready s o r (subst (Stays s) e (offer-stays s x c.lent r.sound)) p)
          (subst (λ (z : Session). Runs z cs) gives.session ws) k.1

    -- with room, a sound session refuses with 3 alone; else o comes of it
    module _ (o : Outcome) (is : made ≡ pick (eqb s.arrival last_number) (refused s no.arrivals) o) (p : o.session.t ≡ s.t) where
      used : eqb s.arrival last_number ≡ true → Right t v c cs s x
      used e =
          let i : made ≡ refused s no.arrivals = is ∙ sym (picked (eqb s.arrival last_number) _ _ e) in
          case_used t v c cs s x e (gives (refused s no.arrivals) i refl) (rest (refused s no.arrivals) i refl)

      reached : eqb s.arrival last_number ≡ false → made ≡ o
      reached e = is ∙ sym (passed (eqb s.arrival last_number) _ _ _ e refl)

      by_number : (eqb s.arrival last_number ≡ false → Given t v c cs s o → Rest t v c cs s o → Right t v c cs s x) → Right t v c cs s x
      by_number h = go (eqb s.arrival last_number) refl
        where
          go : (b : Bool) → eqb s.arrival last_number ≡ b → Right t v c cs s x
          go true e = used e
          go false e = h e (gives o (reached e) p) (rest o (reached e) p)

  heard : (c : Call) (cs : List Call) → Projects cs → (s : Session) → Ready s → Room (c ∷ cs) → (x : List ℕ)
      → Gives (outcome s x c.lent) c.result c.lent c.left → Runs c.result.session cs
      → (b : Bool) → (read_frame t x).accepted ≡ b → Right t v c cs s (found x)
  unfolding outcome pick
  heard c cs rec s r k x w ws false a =
      let n : ℕ = (read_frame t x).refusal in
      let octet : ℕ = (read_frame t x).octet in
      by_number c cs rec s r k (found x) w ws (refused_at (counted s) n octet)
      (roomy s c.lent _ k.0 r.sound ∙ rw (r.time, a)) refl (λ e. case_refused t v c cs s (found x) n octet e (rw a))
  heard c cs rec s r k x w ws true a =
      let f : Frame = (read_frame t x).fields in
      by_number c cs rec s r k (found x) w ws (accepted (counted s) f (data_of f x))
      (roomy s c.lent _ k.0 r.sound ∙ rw (r.time, a)) (accepted-time v (counted s) f (data_of f x))
      (λ e. case_accepted t v c cs s x f e a refl r.there)

  any : (c : Call) (cs : List Call) → Projects cs → (s : Session) → Ready s → Room (c ∷ cs) → (x : Stretch)
      → Gives (offered s x c.lent) c.result c.lent c.left → Runs c.result.session cs → Right t v c cs s x
  unfolding turned_away
  any c cs rec s r k (found x) w ws = heard c cs rec s r k x w ws (read_frame t x).accepted refl
  any c cs rec s r k (unread n) w ws =
      by_number c cs rec s r k (unread n) w ws (refused (counted s) n) (roomy s c.lent _ k.0 r.sound) refl
      (λ e. case_refused t v c cs s (unread n) n 0 e refl)

  pub projects : (cs : List Call) → Projects cs
  projects [] s r w k = refl
  projects (c ∷ cs) s r w k = any c cs (projects cs) s r k c.offer w.0 w.1
