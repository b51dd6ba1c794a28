-- However a source's octets come in pieces, the calls hand out the packets of the whole.
use Prim.Native.Nat.{ℕ, ◌-◌}
use mathlib.Core.Path.{◌≡◌, refl, sym, ap, ◌∙◌}
use mathlib.Core.List.{List, [], ◌∷◌, ◌++◌, append_assoc, append-nil}
use lib.ListN.{take, drop}
use Rattle.rules.specs.Channel.{Handed}
use Rattle.stretch.specs.Stretch.{Stretch, found, unread}
use Rattle.source.specs.Found.{Item, offers, Found}
use Rattle.source.specs.Scan.{scanned, kept_by, tells, Waits, Over, Finds}
use Rattle.source.proofs.Scanning.{scans_find}
use Rattle.source.specs.declared.Source.{Source}
use Rattle.source.specs.declared.Taken.{Taken}
use Rattle.source.specs.declared.Taken.TheVariants as taken
use Rattle.session.specs.Lent.{Lent, Enough}
use Rattle.session.specs.Step.{Outcome}
use Rattle.session.specs.Statements.{offered}
use Rattle.session.specs.declared.Session.{Session}
use Rattle.receiver.specs.Receive.{heard, received, Receives}
use Rattle.receiver.specs.Run.{handed_in, to_come, Run, starts, reads, takes, PiecesAreReceived}
use Rattle.receiver.specs.declared.Receiver.{Receiver}
use Rattle.receiver.specs.declared.Received.{Received}
use Rattle.receiver.proofs.Enough.{same_outcome}

-- the packets of a stretch, and then those of the rest
one_more : (s : Session) (l : Lent) → Enough l → (x : Stretch) (rest : List Item)
    → handed_in s (offers x ∷ rest) ≡ (offered s x l).packets ++ handed_in (offered s x l).session rest
one_more s l e x rest = ap (λ (o : Outcome). o.packets ++ handed_in o.session rest) (sym (same_outcome s x l e))

-- the packets of what a scan told, and then those of the rest
by_taken : (s : Session) (kept w : List ℕ) (l : Lent) (t : Taken) (rest : List Item) → Enough l
    → handed_in s ((tells t kept w).items ++ rest) ≡ (heard s kept w l t).packets ++ handed_in (heard s kept w l t).session rest
by_taken s kept w l (taken.Missing n) rest e = refl
by_taken s kept w l taken.Bad rest e = refl
by_taken s kept w l taken.Over rest e = refl
by_taken s kept w l (taken.Opened t) rest e = refl
by_taken s kept w l taken.Nothing rest e = refl
by_taken s kept w l (taken.Here from to) rest e = one_more s l e (found (take (to - from) (drop from w))) rest
by_taken s kept w l (taken.Kept n) rest e = one_more s l e (found (take n kept)) rest
by_taken s kept w l (taken.Refused n) rest e = one_more s l e (unread n) rest

finds : (s : Source) (kept w : List ℕ) → Finds s kept w (scanned s kept w) (kept_by s kept w)
finds s kept w = scans_find.finds (record { answers = refl; keeps = refl })

-- a call's packets, and then those that are to come behind it
next-part : (a : Receiver) (kept w : List ℕ) (l l' : Lent) (r : Received) (kept' : List ℕ) → Enough l → Receives a kept w l r kept' l' →
    (p : List ℕ)
    → to_come a kept (w ++ p) ≡ (received a kept w l).packets ++ to_come r.receiver kept' (drop r.used w ++ p)
unfolding received
next-part a kept w l l' r kept' e g p =
    ap (λ (f : Found). handed_in a.session f.items) ((finds a.source kept w).next p)
    ∙ by_taken a.session (kept_by a.source kept w) w l (scanned a.source kept w).taken _ e
    ∙ sym
    (ap (λ (k : List ℕ). (received a kept w l).packets ++ to_come r.receiver k (drop r.used w ++ p)) g.keeps
    ∙ ap (λ (n : ℕ). (received a kept w l).packets ++ to_come r.receiver (received a kept w l).kept (drop n w ++ p)) g.used
    ∙ ap (λ (b : Receiver). (received a kept w l).packets ++ to_come b (received a kept w l).kept (drop (received a kept w l).used w ++ p))
    g.receiver)

first : {a₀ : Receiver} {kept₀ octets : List ℕ} {hs : List Handed} {a : Receiver} {kept w : List ℕ} → Run a₀ kept₀ octets hs a kept w
    → (p : List ℕ) → to_come a₀ kept₀ (octets ++ p) ≡ hs ++ to_come a kept (w ++ p)
first starts p = refl
first {a₀} {kept₀} {hs = hs} {a} {kept} (reads {octets = octets'} {w = w'} piece run) p =
    ap (to_come a₀ kept₀) (append_assoc octets' piece p)
    ∙ first run (piece ++ p)
    ∙ ap (λ (x : List ℕ). hs ++ to_come a kept x) (sym (append_assoc w' piece p))
first (takes {hs = hs'} {a = a'} {kept = kept₁} {w = w'} l l' r kept' e g run) p =
    first run p
    ∙ ap (λ (x : List Handed). hs' ++ x) (next-part a' kept₁ w' l l' r kept' e g p)
    ∙ sym (append_assoc hs' (received a' kept₁ w' l).packets _)

module _ {a₀ : Receiver} {kept₀ octets : List ℕ} {hs : List Handed} {a : Receiver} {kept w : List ℕ}
    (run : Run a₀ kept₀ octets hs a kept w) where
  prompt : (n : ℕ) → Waits a.source kept w n → hs ≡ to_come a₀ kept₀ octets
  prompt n h =
      sym
      (ap (to_come a₀ kept₀) (sym (append-nil octets))
      ∙ first run []
      ∙ ap (λ (x : List ℕ). hs ++ to_come a kept x) (append-nil w)
      ∙ ap (λ (f : Found). hs ++ handed_in a.session f.items) h.none
      ∙ append-nil hs)

  over : Over a.source kept → (p : List ℕ) → hs ≡ to_come a₀ kept₀ (octets ++ p)
  over h p = sym (first run p ∙ ap (λ (f : Found). hs ++ handed_in a.session f.items) (h (w ++ p)) ∙ append-nil hs)

pub pieces_are_received : PiecesAreReceived
pieces_are_received = record { first = first; prompt = λ n run. prompt run n; over = over }
