-- The master loss of a sender by the rules.
use Rattle.std.specs.Prelude.{Some, None}
use mathlib.Core.Path.{◌≡◌, refl, sym, ap, ◌∙◌, subst}
use mathlib.Core.List.{List, [], ◌∷◌, ◌++◌, map}
use mathlib.Core.Bool.{Bool, false}
use mathlib.Core.Option.{Option, none, some}
use Prim.Native.Nat.{ℕ, ◌+◌, ◌%◌, ◌≤◌, ◌<◌}
use native.Mathlib.Omega.{arith}
use native.Mathlib.Nat.{mod-lt, mod-mod, mod-eq_of_lt, add-mod-mod}
use lib.ListN.{length}
use lib.Dec.{eqb}
use borrow.Author.Tests.{ne_eqb}
use Rattle.octets.specs.Pick.{pick}
use Rattle.octets.proofs.Choices.{passed}
use Rattle.answer.specs.Told.{Told, accept}
use Rattle.answer.specs.Refusals as no
use Rattle.counts.proofs.Laws.{gap-alone}
use Rattle.frame.specs.Frame.{read_frame, data_of}
use Rattle.frame.proofs.ReadsBack.{reads-back}
use Rattle.counts.specs.Loss.{Loss}
use Rattle.counts.specs.Lost.{last_of, lost_since, number}
use Rattle.rules.specs.Limits.{last_number}
use Rattle.session.specs.declared.Session.{Session}
use Rattle.session.specs.Channel.{unsound}
use Rattle.session.specs.Open.{opened}
use Rattle.session.specs.declared.Accepted.{Accepted}
use Rattle.session.specs.Lent.{Lent, Enough}
use Rattle.session.specs.Step.{Outcome, refused_at, refused, counted, accepted, heeded, outcome, turned_away, Gives}
use Rattle.stretch.specs.Stretch.{Stretch, found, unread}
use Rattle.session.specs.Statements.{offered}
use Rattle.session.proofs.Admitting.{roomy}
use Rattle.session.proofs.Staying.{opened-sound, counted-sound, offer-stays}
use Rattle.sender.specs.Stream.{next_count}
use Rattle.sender.specs.Sender.{Framed, sent_octets, AllWellFormed, Mastered, when}
use Rattle.about_delivery.specs.Link.{Passing, Stray, Strays, arrives, loses, noise, arriving, all_fates}
use Rattle.about_delivery.specs.Expected.{LostAt, lost_at, one_more, told_as, losses_after, expected_losses, AtMost, most_lost}
use Rattle.about_delivery.specs.Run.{Call, Runs, Room, offer_of}
use Rattle.about_delivery.specs.Further.{master_losses, loss_modulo256, modulo256, MasterLoss, MasterLossExact}
use Rattle.about_delivery.proofs.Facts.{nil-cons}
use Rattle.about_delivery.proofs.Recording.{opened-runs}

-- ---- counts

-- m is the count of the next frame, where so many were lost since the last count
abbrev Follows : Option ℕ → Option ℕ → ℕ → Type 0
Follows none none m = Unit {0}
Follows none (some d) m = ⊥
Follows (some l) none m = ⊥
Follows (some l) (some d) m = m ≡ (l + 1 + d) % 256

follows_lost : (l d : Option ℕ) (m : ℕ) → Follows l d m → Follows l (one_more d) (next_count m)
follows_lost none none m e = tt
follows_lost none (some d) m e = e
follows_lost (some l) none m e = e
follows_lost (some l) (some d) m e = omega arith

-- any number lost, modulo 256
lost_modulo : (l d m : ℕ) → m ≡ (l + 1 + d) % 256 → lost_since (some l) m ≡ Some (d % 256)
unfolding lost_since
lost_modulo l d m e =
    ap Some
    (sym (gap-alone 256 m l (d % 256) (omega arith)
    (record {
      below = mod-lt d (omega arith);
      leads = add-mod-mod (l + 1) d 256 ∙ sym (mod-mod (l + 1 + d) 256) ∙ ap (λ (n : ℕ). n % 256)
          (sym e);
    })))

lost-told : (l d : Option ℕ) (m : ℕ) → Follows l d m → lost_since l m ≡ loss_modulo256 (told_as d)
unfolding lost_since
lost-told none none m e = refl
lost-told none (some d) m e = absurd e
lost-told (some l) none m e = absurd e
lost-told (some l) (some d) m e = lost_modulo l d m e

follows_got : (m : ℕ) → m < 256 → Follows (some m) (some 0) (next_count m)
follows_got m l = omega arith

none_arrive : (last : ℕ) (d : Option ℕ) (fs : List Framed) → losses_after d (all_fates last [] fs) ≡ []
none_arrive last d [] = refl
none_arrive last d (f ∷ fs) = none_arrive last (one_more d) fs

-- ---- a call with a frame of the sender's

-- what an answer tells of the master count
abbrev told : Told Accepted → List LostAt
told a = when a.accepted (lost_at a.fields.arrival a.fields.master)

module _ (s : Session) (f : Framed) where
  abbrev taken : Outcome
  taken = accepted (counted s) f.fields f.«data»

  taken-told : told taken.answer ≡ lost_at (s.arrival + 1) (lost_since (last_of s.heard s.master.0) f.fields.master.0) ∷ []
  unfolding accepted
  taken-told = refl

  taken-last : last_of taken.session.heard taken.session.master.0 ≡ some f.fields.master.0
  unfolding accepted
  taken-last = refl

  taken-time : taken.session.t ≡ s.t
  unfolding accepted
  taken-time = refl

  taken-number : taken.session.arrival ≡ s.arrival + 1
  unfolding accepted
  taken-number = refl

  takes : (t : ℕ) (x : List ℕ) (l : Lent) → s.t ≡ t → unsound s ≡ false → Enough l → eqb s.arrival last_number ≡ false
      → read_frame t x ≡ accept f.fields → data_of f.fields x ≡ f.«data» → outcome s x l ≡ taken
  unfolding pick outcome
  takes t x l e u k q r d =
      roomy s l _ k u
      ∙ ap (λ (b : Bool). pick b (refused s no.arrivals) (heeded (counted s) x (read_frame s.t x))) q
      ∙ ap (λ (j : ℕ). heeded (counted s) x (read_frame j x)) e
      ∙ ap (heeded (counted s) x) r
      ∙ ap (accepted (counted s) f.fields) d

-- ---- a call with a stretch that is none of the sender's

record Turned (s : Session) (c : Call) (cs : List Call) : Type 0 where
  says : master_losses (c ∷ cs) ≡ master_losses cs
  sound : unsound (counted s) ≡ false
  runs : Runs (counted s) cs

turned_by : (s : Session) (c : Call) (cs : List Call) (x : Stretch) (n octet : ℕ) → c.offer ≡ x → unsound s ≡ false
    → Runs s (c ∷ cs) → offered s x c.lent ≡ refused_at (counted s) n octet → Turned s c cs
turned_by s c cs x n octet e u w i =
    let o : Outcome = refused_at (counted s) n octet in
    let is : offered s c.offer c.lent ≡ o = ap (λ (y : Stretch). offered s y c.lent) e ∙ i in
    let gives : Gives o c.result c.lent c.left = subst (λ (z : Outcome). Gives z c.result c.lent c.left) is w.0 in
    record {
      says = ap (λ (a : Told Accepted). told a ++ master_losses cs) gives.answers;
      sound = counted-sound s u;
      runs = subst (λ (z : Session). Runs z cs) gives.session w.1;
    }

module _ (s : Session) (c : Call) (cs : List Call) (u : unsound s ≡ false) (w : Runs s (c ∷ cs)) (k : Room (c ∷ cs))
    (l : s.arrival < last_number) where
  more : eqb s.arrival last_number ≡ false
  more = ne_eqb s.arrival last_number (λ z. omega arith)

  turned : (t : ℕ) (x : Stretch) → Stray t x → s.t ≡ t → c.offer ≡ x → Turned s c cs
  unfolding turned_away outcome
  turned t (unread n) st q e =
      turned_by s c cs (unread n) n 0 e u w (roomy s c.lent _ k.0 u ∙ sym (passed (eqb s.arrival last_number) _ _ _ more refl))
  turned t (found x) st q e =
      let refused : (read_frame s.t x).accepted ≡ false = ap (λ (j : ℕ). (read_frame j x).accepted) q ∙ st in
      turned_by s c cs (found x) (read_frame s.t x).refusal (read_frame s.t x).octet e u w
      (roomy s c.lent _ k.0 u ∙ sym (passed (eqb s.arrival last_number) _ _ _ more refl)
      ∙ sym (passed (read_frame s.t x).accepted _ _ _ refused refl))

-- ---- the whole run

offer-here : (c : Call) (cs : List Call) {y : Stretch} {ys : List Stretch} → map offer_of (c ∷ cs) ≡ y ∷ ys → c.offer ≡ y
offer-here c cs x = cc

offers-rest : (c : Call) (cs : List Call) {y : Stretch} {ys : List Stretch} → map offer_of (c ∷ cs) ≡ y ∷ ys → map offer_of cs ≡ ys
offers-rest c cs x = cc

module _ (t : ℕ) where
  masters : (fs : List Framed) (link : List Passing) (calls : List Call) (s : Session) (d : Option ℕ) (m : ℕ)
      → unsound s ≡ false → s.t ≡ t → Runs s calls → Room calls → map offer_of calls ≡ arriving t link fs
      → AllWellFormed t fs → Mastered m fs → m < 256 → s.arrival + length (arriving t link fs) ≤ last_number
      → Follows (last_of s.heard s.master.0) d m → Strays t link
      → master_losses calls ≡ map modulo256 (losses_after d (all_fates s.arrival link fs))
  masters [] [] [] s d m r e w k x g h l n q st = refl
  masters [] [] (c ∷ cs) s d m r e w k x g h l n q st = absurd (nil-cons (sym x))
  masters [] (arrives ∷ link) calls s d m r e w k x g h l n q st = masters [] link calls s d m r e w k x g h l n q st
  masters [] (loses ∷ link) calls s d m r e w k x g h l n q st = masters [] link calls s d m r e w k x g h l n q st
  masters fs (noise z ∷ link) [] s d m r e w k x g h l n q st = absurd (nil-cons x)
  masters [] (noise z ∷ link) (c ∷ cs) s d m r e w k x g h l n q st =
      let y : Turned s c cs = turned s c cs r w k (omega arith) t z st.0 e (offer-here c cs x) in
      y.says ∙ masters [] link cs (counted s) d m y.sound e y.runs k.1 (offers-rest c cs x) g h l (omega arith) q st.1
  masters (f ∷ fs) (noise z ∷ link) (c ∷ cs) s d m r e w k x g h l n q st =
      let y : Turned s c cs = turned s c cs r w k (omega arith) t z st.0 e (offer-here c cs x) in
      y.says ∙ masters (f ∷ fs) link cs (counted s) d m y.sound e y.runs k.1 (offers-rest c cs x) g h l (omega arith) q st.1
  masters (f ∷ fs) [] [] s d m r e w k x g h l n q st = ap (map modulo256) (sym (none_arrive s.arrival d (f ∷ fs)))
  masters (f ∷ fs) [] (c ∷ cs) s d m r e w k x g h l n q st = absurd (nil-cons (sym x))
  masters (f ∷ fs) (loses ∷ link) calls s d m r e w k x g h l n q st =
      masters fs link calls s (one_more d) (next_count m) r e w k x g.1 h.1 (omega arith) n
      (follows_lost (last_of s.heard s.master.0) d m q) st
  masters (f ∷ fs) (arrives ∷ link) [] s d m r e w k x g h l n q st = absurd (nil-cons x)
  masters (f ∷ fs) (arrives ∷ link) (c ∷ cs) s d m r e w k x g h l n q st =
      let here : c.offer ≡ found (sent_octets t f) = offer-here c cs x in
      let rest : map offer_of cs ≡ arriving t link fs = offers-rest c cs x in
      let b = reads-back f.fields t f.«data» f.time g.0 in
      let o : Outcome = taken s f in
      let is : offered s c.offer c.lent ≡ o =
      ap (λ (y : Stretch). offered s y c.lent) here
      ∙ takes s f t (sent_octets t f) c.lent e r k.0 (ne_eqb s.arrival last_number (λ z. omega arith)) b.fields b.«data» in
      let gives : Gives o c.result c.lent c.left = subst (λ (z : Outcome). Gives z c.result c.lent c.left) is w.0 in
      let same : lost_since (last_of s.heard s.master.0) f.fields.master.0 ≡ loss_modulo256 (told_as d) =
      ap (lost_since (last_of s.heard s.master.0)) h.0 ∙ lost-told (last_of s.heard s.master.0) d m q in
      let number : o.session.arrival ≡ s.arrival + 1 = taken-number s f in
      let small : f.fields.master.0 < 256 = omega (arith, h.0) in
      let follows : Follows (last_of o.session.heard o.session.master.0) (some 0) (next_count m) =
      subst (λ (z : Option ℕ). Follows z (some 0) (next_count m)) (sym (taken-last s f))
      (subst (λ (j : ℕ). Follows (some f.fields.master.0) (some 0) (next_count j)) h.0 (follows_got f.fields.master.0 small)) in
      let ih : master_losses cs ≡ map modulo256 (losses_after (some 0) (all_fates o.session.arrival link fs)) =
      masters fs link cs o.session (some 0) (next_count m)
      (subst (λ (z : Outcome). unsound z.session ≡ false) is (offer-stays s c.offer c.lent r).sound)
      (taken-time s f ∙ e) (subst (λ (z : Session). Runs z cs) gives.session w.1) k.1 rest g.1 h.1 (omega arith)
      (omega arith) follows st in
      ap (λ (a : Told Accepted). told a ++ master_losses cs) gives.answers
      ∙ ap (λ (a : List LostAt). a ++ master_losses cs) (taken-told s f)
      ∙ ap (λ (j : Loss). lost_at (s.arrival + 1) j ∷ master_losses cs) same
      ∙ ap (λ (a : List LostAt). lost_at (s.arrival + 1) (loss_modulo256 (told_as d)) ∷ a)
      (ih ∙ ap (λ (j : ℕ). map modulo256 (losses_after (some 0) (all_fates j link fs))) number)

pub master-loss : MasterLoss
master-loss r =
    masters r.t r.frames r.link r.calls (opened r.t r.last) none r.sender.master
    (opened-sound r.t r.last r.time_size) refl
    (opened-runs r.t r.last r.time_size r.opened r.opens r.calls r.runs) r.room
    r.offers r.sender.well_formed r.sender.masters r.sender.small r.numbers tt r.strays

small : (l : Loss) → number l ≤ most_lost → loss_modulo256 l ≡ l
small None h = refl
small (Some n) h = ap Some (mod-eq_of_lt {m = 256} (omega arith))

all_small : (ls : List LostAt) → AtMost most_lost ls → map modulo256 ls ≡ ls
all_small [] a = refl
all_small (l ∷ ls) a =
    ap (λ (j : Loss). lost_at l.arrival j ∷ map modulo256 ls) (small l.lost a.0)
    ∙ ap (λ (q : List LostAt). l ∷ q) (all_small ls a.1)

pub master_loss_exact : MasterLossExact
master_loss_exact r a = master-loss r ∙ all_small (expected_losses (all_fates r.last r.link r.frames)) a
