-- Calls that do what is promised, for anything offered: one for each, with 501 octets, 16 lengths and 16 first numbers lent.
use Rattle.std.specs.Prelude.{Ok, Err}
use mathlib.Core.Path.{◌≡◌, refl, ap}
use mathlib.Core.List.{List, [], ◌∷◌, map}
use mathlib.Core.Bool.{Bool, true, false}
use Prim.Native.Nat.{ℕ}
use native.Mathlib.Omega.{arith}
use lib.ListN.{replicate, length-replicate}
use Rattle.octets.proofs.Choices.{picks}
use Rattle.answer.specs.Told.{Told}
use Rattle.answer.specs.declared.Refusal.{Refusal}
use Rattle.frame.specs.declared.Frame.{Frame}
use Rattle.frame.specs.Frame.{read_frame, data_of}
use Rattle.rules.specs.Limits.{most_packets, most_octets}
use Rattle.session.specs.declared.Session.{Session}
use Rattle.session.specs.Answers.{StepAnswer}
use Rattle.session.specs.declared.Accepted.{Accepted}
use Rattle.session.specs.Lent.{Lent, lent, Enough, laid}
use Rattle.session.specs.Step.{told, Outcome, refused, refused_at, counted, accepted, heeded, outcome, turned_away}
use Rattle.stretch.specs.Stretch.{Stretch, found, unread}
use Rattle.session.specs.Statements.{offered}
use Rattle.session.proofs.Admitting.{admitted_picks}
use Rattle.about_delivery.specs.Run.{Call, Runs, Room, offer_of}

-- the answer that tells this
abbrev either : Bool → Refusal → Accepted → StepAnswer
either true r a = Ok a
either false r a = Err r

abbrev telling : Told Accepted → StepAnswer
telling a = either a.accepted (record { number = a.refusal; octet = a.octet }) a.fields

abbrev Tells : Told Accepted → Type 0
Tells a = told (telling a) ≡ a

abbrev Says : Outcome → Type 0
Says o = Tells o.answer

accepted-tells : (s : Session) (f : Frame) (d : List ℕ) → Tells (accepted s f d).answer
unfolding accepted
accepted-tells s f d = refl

heeded-tells : (s : Session) (frame : List ℕ) (r : Told Frame) → Says (heeded s frame r)
heeded-tells s frame r =
    picks Says r.accepted (accepted s r.fields (data_of r.fields frame)) (refused_at s r.refusal r.octet)
    (λ a. accepted-tells s r.fields (data_of r.fields frame)) (λ a. refl)

offer-tells : (s : Session) (x : Stretch) (l : Lent) → Says (offered s x l)
unfolding outcome turned_away
offer-tells s (found x) l = admitted_picks Says s l _ (λ a. heeded-tells (counted s) x (read_frame s.t x)) (λ n e. refl)
offer-tells s (unread n) l = admitted_picks Says s l (refused (counted s) n) (λ a. refl) (λ n e. refl)

abbrev zeros : Lent
zeros = lent (replicate most_octets 0) (replicate most_packets 0) (replicate most_packets 0)

module _ (s : Session) (x : Stretch) where
  abbrev made : Outcome
  made = offered s x zeros

  abbrev calling : Call
  calling = record {
    offer = x;
    lent = zeros;
    result = record { session = made.session; answer = telling made.answer };
    left = laid made.packets zeros;
  }

abbrev pub calls_of : Session → List Stretch → List Call
calls_of s [] = []
calls_of s (x ∷ xs) = calling s x ∷ calls_of (made s x).session xs

pub calls-run : (s : Session) (xs : List Stretch) → Runs s (calls_of s xs)
calls-run s [] = tt
calls-run s (x ∷ xs) =
    (record { session = refl; answers = offer-tells s x zeros; leaves = refl }, calls-run (made s x).session xs)

enough : Enough zeros
enough =
    let entries = length-replicate {A = ℕ} most_packets 0 in
    record { octets = omega (arith, length-replicate {A = ℕ} most_octets 0); lengths = omega arith; firsts = omega arith }

pub calls-room : (s : Session) (xs : List Stretch) → Room (calls_of s xs)
calls-room s [] = tt
calls-room s (x ∷ xs) =
    (enough, calls-room (made s x).session xs)

pub calls-offer : (s : Session) (xs : List Stretch) → map offer_of (calls_of s xs) ≡ xs
calls-offer s [] = refl
calls-offer s (x ∷ xs) = ap (λ (l : List Stretch). x ∷ l) (calls-offer (made s x).session xs)
