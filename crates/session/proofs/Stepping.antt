-- What a step gives, from what its parts gave.
use Rattle.std.specs.Prelude.{Ok}
use Prim.Native.Nat.{ℕ}
use native.Mathlib.Omega.{arith}
use mathlib.Core.Path.{◌≡◌, sym, ap, ◌∙◌, subst}
use mathlib.Core.Bool.{true, false}
use mathlib.Core.Logic.{⊎_elim}
use mathlib.Core.List.{List}
use lib.ListN.{length, set}
use Rattle.octets.specs.Pick.{pick}
use Rattle.answer.specs.Told.{accept, refuse_for, refusal_of, number_of, octet_of}
use Rattle.answer.specs.declared.Reason.{Reason}
use Rattle.answer.specs.declared.Refusal.{Refusal}
use Rattle.counts.specs.Loss.{Loss}
use Rattle.counts.specs.Lost.{last_of, lost_since}
use Rattle.frame.specs.Frame.{no_frame, read_frame, data_of}
use Rattle.frame.specs.Back.{PointerRight, Accepted}
use Rattle.frame.specs.declared.Frame.{Frame}
use Rattle.rules.specs.Channel.{step}
use Rattle.session.specs.Channel.{view, channel_unsound}
use Rattle.session.specs.Lent.{Lent, Enough}
use Rattle.session.specs.Step.{Outcome, refused_at, channel_at, piece_of, ruled, accepted, heeded, Gives}
use Rattle.session.specs.Asked.{Points, Asked}
use Rattle.session.specs.Promised.{head_of, headed, Heeds}
use Rattle.session.specs.declared.Channel.{Channel}
use Rattle.session.specs.declared.Session.{Session}
use Rattle.session.specs.declared.Stepped.{Stepped}
use Rattle.session.specs.declared.channels.Head.{Head}
use Rattle.session.specs.declared.channels.Heeded.{Heeded}
use Rattle.session.proofs.Admitting.{turned_down, gives-refused}

-- ---- an accepted frame

-- c is the frame's channel, wherever it was read from, and h the frame's head
module _ (s : Session) (f : Frame) (xs : List ℕ) (master : Loss) (c : Channel) (ec : c ≡ channel_at s f.channel)
    (em : master ≡ lost_since (last_of s.heard s.master.0) f.master.0) {h : Head} (eh : h ≡ head_of s.arrival f)
    (r : Heeded) (l l' : Lent) (w : Heeds (step h.arrival (view c) (headed h xs)) r l l') where
  heeds : Heeds (ruled s f xs) r l l'
  unfolding ruled
  heeds =
      subst (λ (x : Channel). Heeds (step s.arrival (view x) (piece_of f xs)) r l l') ec
      (subst (λ (x : Head). Heeds (step x.arrival (view c) (headed x xs)) r l l') eh w)

  pub gives-accepted : Gives (accepted s f xs)
      (record {
        session =
            record {
              t = s.t;
              arrival = s.arrival;
              master = f.master;
              heard = true;
              channels = set s.channels f.channel
                  r.channel;
            };
        answer = Ok (record {
          arrival = s.arrival;
          channel = f.channel;
          lost = r.lost;
          master = master;
          packets =
              r.packets;
          headers = r.headers;
        });
      })
      l l'
  unfolding accepted
  gives-accepted = record {
    session = simp heeds.channel;
    answers = simp (heeds.lost, em, heeds.packets, heeds.headers);
    leaves = heeds.leaves;
  }

-- ---- what the frame's reader told

pointed : {pointer n : ℕ} → PointerRight pointer n → Points pointer n
pointed w a b = ⊎_elim (λ l. l) (λ v. ⊎_elim (λ e. absurd (b e)) (λ e. absurd (a e.0)) v) w

-- what is asked of the channel that takes an accepted frame
pub asked : (t : ℕ) (frame : List ℕ) (l : Lent) → Enough l → (f : Frame) {n : ℕ} {h : Head} → h ≡ head_of n f
    → (xs : List ℕ) (c : Channel) → Accepted t frame f → xs ≡ data_of f frame
    → channel_unsound c ≡ false → Asked c h.pointer xs l
asked t frame l k f eh xs c w e h =
    let n : length xs ≡ f.length = ap length e ∙ w.«data» in
    subst (λ (x : Head). Asked c x.pointer xs l) (sym eh)
    (record { sound = h; heard = record { few = omega (arith, n, w.few); points = rw n (pointed w.pointer); room = k } })

module _ (s : Session) (frame : List ℕ) (l : Lent) where
  abbrev told : Outcome
  told = heeded s frame (read_frame s.t frame)

  pub not_read : (r : Reason) → refuse_for no_frame r ≡ read_frame s.t frame → {a : Refusal} → a ≡ refusal_of r
      → Gives told (turned_down s a) l l
  unfolding pick
  not_read r e {a} h =
      subst (λ (o : Outcome). Gives o (turned_down s a) l l) (ap (heeded s frame) e)
      (subst (λ (x : Refusal). Gives (refused_at s (number_of r) (octet_of r)) (turned_down s x) l l) (sym h)
      (gives-refused s (refusal_of r) l))

  pub read : (f : Frame) (xs : List ℕ) (r : Stepped) (l' : Lent) → accept f ≡ read_frame s.t frame → xs ≡ data_of f frame
      → Gives (accepted s f xs) r l l' → Gives told r l l'
  unfolding pick
  read f xs r l' e d h =
      subst (λ (o : Outcome). Gives o r l l') (ap (heeded s frame) e) (subst (λ (ys : List ℕ). Gives (accepted s f ys) r l l') d h)
