-- The session's run over the octets of an input, and what a table that passes claims of it.
use Prim.Native.Nat.{ℕ}
use native.Mathlib.Omega.{arith}
use mathlib.Core.Path.{◌≡◌, refl, sym, ap, ◌∙◌}
use mathlib.Core.Logic.{inl, inr}
use mathlib.Core.List.{List, [], ◌∷◌, ◌++◌, map}
use Rattle.answer.specs.Told.{Told}
use Rattle.stretch.specs.Stretch.{Stretch, found}
use Rattle.rules.specs.Channel.{Handed}
use Rattle.recording.specs.declared.Reader.{Reader}
use Rattle.recording.specs.declared.Reader.TheVariants as reader
use Rattle.recording.specs.Pieces as recording
use Rattle.kiss.specs.Reader as kiss
use Rattle.rawbits.specs.Reader as rawbits
use Rattle.rawbits.specs.Finding.{to_find}
use Rattle.source.specs.Found.{Item, opens, offers, of_recording, found_in, found_by}
use Rattle.source.specs.declared.Source.{Source}
use Rattle.source.specs.declared.Source.TheVariants as source
use Rattle.session.specs.Open.{opening}
use Rattle.session.specs.Lent.{Lent}
use Rattle.session.specs.Step.{Outcome, told, Gives}
use Rattle.session.specs.declared.Stepped.{Stepped}
use Rattle.session.specs.declared.Session.{Session}
use Rattle.session.specs.declared.Accepted.{Accepted}
use Rattle.session.proofs.Few.{offer-few}
use Rattle.receiver.specs.Run.{roomy, handed_in, to_come}
use Rattle.receiver.specs.declared.Receiver.{Receiver}
use Rattle.about_delivery.specs.Run.{read_out}
use Rattle.about_delivery.proofs.Calls.{read_back}
use Rattle.about_delivery.proofs.Lending.{calls_of, calls-run, calls-room, calls-offer}
use Rattle.table.specs.Table.{verdict}
use Rattle.table.specs.Look.{ill_formed}
use Rattle.table.specs.declared.Verdict.TheVariants.{Passes, Faulty}
use Rattle.about_table.specs.Trained.{handed_out}
use Rattle.about_table.proofs.Trained.{never_before}
use Rattle.audit_rows.specs.Right.{RightOf}
use Rattle.audit_run.specs.Whole.{input_read, rows_read}
use Rattle.audit_run.proofs.Whole.{tells-right}
use Rattle.about_audit.specs.Audited.{offered, begins, Calls, PassesNeverEarly}
use Rattle.session.specs.Statements.{offered as offering}

-- ---- what a source tells: t first, then what is offered

record Shape (xs : List Item) : Type 0 where
  openings : List ℕ
  stretches : List Stretch
  cut : xs ≡ map opens openings ++ map offers stretches

each-found : (fs : List (List ℕ)) → map (λ x. offers (found x)) fs ≡ map offers (map found fs)
each-found [] = refl
each-found (f ∷ fs) = ap (λ (xs : List Item). offers (found f) ∷ xs) (each-found fs)

recording_shape : (f : recording.Found) → Shape (of_recording f).items
unfolding of_recording
recording_shape f =
    record {
      openings = f.t;
      stretches = map found f.frames;
      cut = ap (λ (xs : List Item). map opens f.t ++ xs)
          (each-found f.frames);
    }

reader_shape : (r : Reader) (w : List ℕ) → Shape (found_by r w).items
reader_shape reader.Settings w = recording_shape _
reader_shape reader.Count w = recording_shape _
reader_shape (reader.Frames n) w = recording_shape _
reader_shape reader.Bad w = record { openings = []; stretches = []; cut = refl }

shape : (s : Source) (kept w : List ℕ) → Shape (found_in s kept w).items
shape (source.Recording r) kept w = reader_shape r w
shape (source.Kiss r) kept w = record { openings = []; stretches = kiss.to_find (kiss.standing r kept) w; cut = refl }
shape (source.Bits r) kept w = record { openings = []; stretches = to_find (rawbits.standing r kept) w; cut = refl }

-- ---- its calls

read : (s : Session) (x : Stretch) (l : Lent) (r : Stepped) (l' : Lent) → Gives (offering s x l) r l l'
    → read_out (told r.answer).fields.arrival (told r.answer).fields.packets l' ≡ (offering s x l).packets
read s x l r l' g =
    let o : Outcome = offering s x l in
    let k = offer-few s x l in
    ap (λ (a : Told Accepted). read_out a.fields.arrival a.fields.packets l') g.answers
    ∙ ap (read_out o.answer.fields.arrival o.answer.fields.packets) g.leaves
    ∙ read_back o.answer.fields.arrival o.answer.fields.packets o.packets l k.under k.count

calls-hand : (s : Session) (xs : List Stretch) → handed_out (calls_of s xs) ≡ handed_in s (map offers xs)
unfolding roomy
calls-hand s [] = refl
calls-hand s (x ∷ xs) =
    ap (λ (ps : List Handed). ps ++ handed_out (calls_of (offering s x roomy).session xs)) (read s x roomy _ _ (calls-run s (x ∷ xs)).0)
    ∙ ap (λ (ps : List Handed). (offering s x roomy).packets ++ ps) (calls-hand (offering s x roomy).session xs)

begins-offers : (s : Session) (xs : List Stretch) → begins s (map offers xs) ≡ s
begins-offers s [] = refl
begins-offers s (x ∷ xs) = refl

offered-offers : (xs : List Stretch) → offered (map offers xs) ≡ xs
offered-offers [] = refl
offered-offers (x ∷ xs) = ap (λ (ys : List Stretch). x ∷ ys) (offered-offers xs)

offered-all : (ts : List ℕ) (xs : List Stretch) → offered (map opens ts ++ map offers xs) ≡ xs
offered-all [] xs = offered-offers xs
offered-all (t ∷ ts) xs = offered-all ts xs

handed-all : (s : Session) (ts : List ℕ) (xs : List Stretch)
    → handed_in s (map opens ts ++ map offers xs) ≡ handed_in (begins s (map opens ts ++ map offers xs)) (map offers xs)
handed-all s [] xs = ap (λ (z : Session). handed_in z (map offers xs)) (sym (begins-offers s xs))
handed-all s (t ∷ ts) xs = handed-all (opening t 0).session ts xs

pub calls_in : (a : Receiver) (kept octets : List ℕ) → Calls a kept octets
calls_in a kept octets =
    let xs : List Item = (found_in a.source kept octets).items in
    let h = shape a.source kept octets in
    let s : Session = begins a.session xs in
    record {
      calls = calls_of s h.stretches;
      offers = calls-offer s h.stretches ∙ sym (ap offered h.cut ∙ offered-all h.openings h.stretches);
      runs = calls-run s h.stretches;
      room = calls-room s h.stretches;
      packets = calls-hand s h.stretches
          ∙ sym (ap (λ (ys : List Item). handed_in a.session ys) h.cut ∙ handed-all a.session h.openings h.stretches
          ∙ ap (λ (ys : List Item). handed_in (begins a.session ys) (map offers h.stretches)) (sym h.cut));
    }

-- ---- a table that passes

passing : (table : List ℕ) (packets : List Handed) (more : List ℕ) → RightOf table packets more Passes → verdict table packets ≡ Passes
passing table packets more (inl e) = sym e
passing table packets more (inr e) = let w : Passes ≡ ill_formed = e.0 in let z : ◌≡◌ {A = ℕ} 0 1 = cc in absurd (omega arith)

pub passes_never_early : PassesNeverEarly
passes_never_early a kept c k table x =
    let octets = input_read c in
    let r = calls_in a kept octets in
    let right = tells-right a kept c Passes k table x in
    let p : verdict table (to_come a kept octets) ≡ Passes = passing table (to_come a kept octets) (rows_read c) right in
    record {
      run = r;
      rows = λ place row there.
          never_before _ r.calls r.runs table
          (record { passes = ap (verdict table) r.packets ∙ p; place = place; row = row; there = there });
    }
