-- What calls refuse: each stretch with its own refusal, and never with 4. And which frames arrive.
use mathlib.Core.Path.{◌≡◌, refl, sym, ap, ◌∙◌, subst}
use mathlib.Core.List.{List, [], ◌∷◌, map}
use mathlib.Core.Bool.{false}
use Prim.Native.Nat.{ℕ, ◌+◌, ◌≤◌}
use native.Mathlib.Omega.{arith}
use lib.ListN.{length}
use lib.Dec.{eqb}
use borrow.Author.Tests.{ne_eqb}
use Rattle.octets.proofs.Choices.{picks, passed}
use Rattle.answer.specs.Told.{Told}
use Rattle.answer.specs.Refusals as no
use Rattle.frame.specs.declared.Frame.{Frame}
use Rattle.frame.specs.Frame.{read_frame}
use Rattle.frame.proofs.Tells.{read-tells}
use Rattle.rules.specs.Limits.{last_number}
use Rattle.rules.specs.Channel.{Piece}
use Rattle.session.specs.declared.Session.{Session}
use Rattle.session.specs.declared.Accepted.{Accepted}
use Rattle.session.specs.Channel.{unsound}
use Rattle.session.specs.Lent.{Lent, Enough}
use Rattle.session.specs.Open.{opened}
use Rattle.session.specs.Step.{Outcome, refused, counted, accepted, heeded, admitted, outcome, turned_away, Gives}
use Rattle.session.specs.Statements.{offered}
use Rattle.session.proofs.Admitting.{admitted_picks, not_four, roomy}
use Rattle.session.proofs.Staying.{opened-sound, opening-sound, sound-answers, offer-stays}
use Rattle.stretch.specs.Stretch.{Stretch, found, unread}
use Rattle.sender.specs.Sender.{Framed, piece_of}
use Rattle.about_delivery.specs.Link.{arrives, loses, noise, all_fates}
use Rattle.about_delivery.specs.Channels as channels
use Rattle.about_delivery.specs.Run.{Call, Runs, Room, offer_of}
use Rattle.about_delivery.specs.Further.{KeptAreGot, refusal_of, own_refusal, RefusalsTold, NoneGets4, StaysSound}
use Rattle.about_delivery.proofs.Recording.{opened-runs}

-- ---- which frames arrive

none-got : (last : ℕ) (fs : List Framed) → channels.offered (all_fates last [] fs) ≡ []
none-got last [] = refl
none-got last (f ∷ fs) = none-got last fs

pub kept_are_got : KeptAreGot
kept_are_got last [] fs = ap (map (λ (o : channels.Offer). o.frame)) (sym (none-got last fs))
kept_are_got last (p ∷ link) [] = refl
kept_are_got last (arrives ∷ link) (f ∷ fs) = ap (λ (l : List Piece). piece_of f ∷ l) (kept_are_got (last + 1) link fs)
kept_are_got last (loses ∷ link) (f ∷ fs) = kept_are_got last link fs
kept_are_got last (noise x ∷ link) (f ∷ fs) = kept_are_got (last + 1) link (f ∷ fs)

-- ---- never 4

own_four : (s : Session) (x : Stretch) (l : Lent) → unsound s ≡ false → (offered s x l).answer.refusal ≡ no.session → x ≡ unread no.session
unfolding turned_away
own_four s (found x) l u h = absurd (sound-answers s x l u h)
own_four s (unread n) l u h =
    admitted_picks (λ (o : Outcome). o.answer.refusal ≡ no.session → unread n ≡ unread no.session) s l (refused (counted s) n)
    (λ a e. ap unread e) (λ m e z. absurd (not_four s l u (sym e ∙ z))) h

next-sound : (s : Session) (c : Call) → unsound s ≡ false → Gives (offered s c.offer c.lent) c.result c.lent c.left
    → unsound c.result.session ≡ false
next-sound s c u g = subst (λ (z : Session). unsound z ≡ false) (sym g.session) (offer-stays s c.offer c.lent u).sound

none_gets_4 : (calls : List Call) (s : Session) → unsound s ≡ false → Runs s calls → NoneGets4 calls
none_gets_4 [] s u w = tt
none_gets_4 (c ∷ cs) s u w =
    let said = ap (λ (a : Told Accepted). a.refusal) w.0.answers in
    (λ h. own_four s c.offer c.lent u (sym said ∙ h), none_gets_4 cs c.result.session (next-sound s c u w.0) w.1)

pub stays-sound : StaysSound
stays-sound t last o calls h w =
    none_gets_4 calls o.session (subst (λ (z : Session). unsound z ≡ false) (sym h.session) (opening-sound t last)) w

-- ---- each with its own refusal

record Tells (t : ℕ) (s : Session) (x : Stretch) (o : Outcome) : Type 0 where
  own : o.answer.refusal ≡ own_refusal t x
  number : o.session.arrival ≡ s.arrival + 1
  time : o.session.t ≡ s.t

heeded-tells : (s : Session) (x : List ℕ) → Tells s.t s (found x) (heeded (counted s) x (read_frame s.t x))
unfolding accepted
heeded-tells s x =
    picks (Tells s.t s (found x)) (read_frame s.t x).accepted (accepted (counted s) _ _) _
    (λ a. record { own = sym (ap (λ (r : Told Frame). r.refusal) ((read-tells s.t x).plain a)); number = refl; time = refl })
    (λ a. record { own = refl; number = refl; time = refl })

module _ (s : Session) (l : Lent) (k : Enough l) (u : unsound s ≡ false) (n : s.arrival ≡ last_number → ⊥) where
  taken_up : (t : ℕ) (x : Stretch) (o : Outcome) → Tells t s x o → Tells t s x (admitted s l o)
  taken_up t x o y =
      subst (Tells t s x) (passed (eqb s.arrival last_number) (refused s no.arrivals) o o (ne_eqb _ _ n) refl ∙ sym (roomy s l o k u)) y

  offer-tells : (x : Stretch) → Tells s.t s x (offered s x l)
  unfolding outcome turned_away
  offer-tells (found x) = taken_up s.t (found x) _ (heeded-tells s x)
  offer-tells (unread n) = taken_up s.t (unread n) (refused (counted s) n) (record { own = refl; number = refl; time = refl })

each-told : (t : ℕ) (calls : List Call) (s : Session) → s.t ≡ t → unsound s ≡ false → Runs s calls → Room calls
    → s.arrival + length calls ≤ last_number → map refusal_of calls ≡ map (own_refusal t) (map offer_of calls)
each-told t [] s e u w k n = refl
each-told t (c ∷ cs) s e u w k n =
    let y = offer-tells s c.lent k.0 u (λ z. omega arith) c.offer in
    let next : c.result.session.arrival ≡ s.arrival + 1 = ap (λ (z : Session). z.arrival) w.0.session ∙ y.number in
    let time : c.result.session.t ≡ t = ap (λ (z : Session). z.t) w.0.session ∙ y.time ∙ e in
    let here : refusal_of c ≡ own_refusal t c.offer =
    ap (λ (a : Told Accepted). a.refusal) w.0.answers ∙ y.own ∙ ap (λ (j : ℕ). own_refusal j c.offer) e in
    ap (λ (m : ℕ). m ∷ map refusal_of cs) here
    ∙ ap (λ (ms : List ℕ). own_refusal t c.offer ∷ ms)
    (each-told t cs c.result.session time (next-sound s c u w.0) w.1 k.1 (omega arith))

pub refusals-told : RefusalsTold
refusals-told t last o calls l h w k n =
    each-told t calls (opened t last) refl (opened-sound t last l) (opened-runs t last l o h calls w) k n
