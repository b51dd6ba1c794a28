-- What comes of a call, by what its scan found.
use Prim.Native.Nat.{ℕ, ◌≤◌}
use mathlib.Core.Path.{◌≡◌, refl, sym, ap, ◌∙◌, subst}
use mathlib.Core.List.{List}
use Rattle.stretch.specs.Stretch.{Stretch}
use Rattle.source.specs.Scan.{kept_by, Scans, Told}
use Rattle.source.proofs.Scanning.{scans_find}
use Rattle.source.specs.declared.Source.{Source}
use Rattle.source.specs.declared.Scanned.{Scanned}
use Rattle.source.specs.declared.Taken.{Taken}
use Rattle.source.specs.declared.Taken.TheVariants as taken
use Rattle.session.specs.Open.{opening}
use Rattle.session.specs.Lent.{Lent}
use Rattle.session.specs.Step as session
use Rattle.session.specs.Statements.{offered}
use Rattle.session.specs.declared.Session.{Session}
use Rattle.session.specs.declared.Stepped.{Stepped}
use Rattle.receiver.specs.Receive.{told_of, answered, Heard, quiet, answered_by, heard, fresh_stream, stretch_of, Offers}
use Rattle.receiver.specs.Receive.{Receipt, receipt, received, Gives, Receives}
use Rattle.receiver.specs.declared.Receiver.{Receiver}
use Rattle.receiver.specs.declared.Received.{Received}
use Rattle.receiver.specs.declared.Event.{Event}
use Rattle.receiver.specs.declared.Event.TheVariants as event
use Rattle.receiver.proofs.Offering.{Offered, by_offer}

abbrev receiver : Source → Session → Receiver
receiver s z = record { source = s; session = z }

-- a receiver of a fresh source and session
pub fresh-is : {a : Receiver} {s : Source} (t : ℕ) → a.source ≡ s → a.session ≡ (opening t 0).session → a ≡ fresh_stream s t
fresh-is {a} {s} t e d = ap (λ (x : Source). receiver x a.session) e ∙ ap (receiver s) d

abbrev answer : Source → Session → ℕ → Event → Received
answer s z used e = record { receiver = receiver s z; used = used; event = e }

module _ {s : Source} {kept w : List ℕ} {q : Scanned} {kept' : List ℕ} (x : Scans s kept w q kept') where
  -- what is known by what was found
  pub known : {t : Taken} → q.taken ≡ t → Told s kept w q kept' t
  known e = subst (Told s kept w q kept') e (scans_find.finds x).told

  pub small-t : {t : ℕ} → q.taken ≡ taken.Opened t → t ≤ 8
  small-t e = (known e).1

module _ (z : Session) {s : Source} {kept w : List ℕ} {q : Scanned} {kept' : List ℕ} (x : Scans s kept w q kept') where
  -- what comes of it
  by_taken : (l : Lent) {t : Taken} → q.taken ≡ t → receipt q.source q.used kept' (heard z kept' w l t) ≡ received
      (receiver s z) kept w l
  unfolding received
  by_taken l {t} e =
      ap (λ (y : Taken). receipt q.source q.used kept' (heard z kept' w l y)) (sym e)
      ∙ ap (λ (k : List ℕ). receipt q.source q.used k (heard z k w l q.taken)) x.keeps
      ∙ ap (λ (y : Scanned). receipt y.source y.used (kept_by s kept w) (heard z (kept_by s kept w) w l y.taken)) x.answers

  gives : {l l' : Lent} {t : Taken} {r : Received} → q.taken ≡ t → Gives
      (receipt q.source q.used kept' (heard z kept' w l t)) r kept' l l'
      → Receives (receiver s z) kept w l r kept' l'
  gives {l} {l'} {r = r} e g = subst (λ (o : Receipt). Gives o r kept' l l') (by_taken l e) g

  -- nothing is offered
  pub gives-quiet : {l : Lent} {t : Taken} (h : Event) → q.taken ≡ t → heard z kept' w l t ≡ quiet z (told_of h)
      → Receives (receiver s z) kept w l (answer q.source z q.used h) kept' l
  gives-quiet {l} h e d =
      gives e
      (subst (λ (o : Heard). Gives (receipt q.source q.used kept' o) (answer q.source z q.used h) kept' l l) (sym d)
      (record { receiver = refl; used = refl; tells = refl; keeps = refl; leaves = refl }))

  pub gives-opened : {l : Lent} {t : ℕ} {y : Session} → q.taken ≡ taken.Opened t → y ≡ (opening t 0).session
      → Receives (receiver s z) kept w l (answer q.source y q.used event.Opened) kept' l
  gives-opened e d = gives e (record { receiver = ap (receiver q.source) d; used = refl; tells = refl; keeps = refl; leaves = refl })

  -- something is offered
  module _ {l l' : Lent} {r : Stepped} where
    by_outcome : {o : session.Outcome} {t : Taken} → q.taken ≡ t → answered_by o ≡ heard z kept' w l t → session.Gives o r l l'
        → Receives (receiver s z) kept w l (answer q.source r.session q.used (event.Answered r.answer)) kept' l'
    by_outcome e d g =
        gives e
        (subst (λ (o : Heard). Gives (receipt q.source q.used kept' o)
        (answer q.source r.session q.used (event.Answered r.answer)) kept' l l') d
        (record {
          receiver = ap (receiver q.source) g.session;
          used = refl;
          tells = ap answered
              g.answers;
          keeps = refl;
          leaves = g.leaves;
        }))

    pub gives-offered : Offered q.taken → Offers z (stretch_of kept' w q.taken) l r l'
        → Receives (receiver s z) kept w l (answer q.source r.session q.used (event.Answered r.answer)) kept' l'
    gives-offered k g =
        by_outcome refl
        (sym (by_offer (scans_find.finds x) k (heard z kept' w l) (λ (y : Stretch). answered_by (offered z y l))
        (λ from to. refl) (λ n. refl) (λ n. refl))) g
