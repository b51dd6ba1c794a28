-- What a turn comes to.
use Prim.Native.Nat.{ℕ}
use mathlib.Core.Path.{◌≡◌, refl, sym, ap, ◌∙◌}
use mathlib.Core.List.{List, [], ◌∷◌, ◌++◌, append_assoc}
use mathlib.Core.Bool.{Bool, true, false, true≢false}
use native.Mathlib.Omega.{arith}
use types.Run.{OneOf, miss}
use denote.Enum.Declared.{tag_of}
use lib.Dec.{eqb}
use borrow.Author.Tests.{eqb-true}
use lib.ListN.{length, drop}
use Rattle.octets.specs.Pick.{pick}
use Rattle.octets.proofs.Choices.{picks}
use Rattle.source.specs.Found.{cut_at}
use Rattle.source.specs.declared.Source.{Source}
use Rattle.session.specs.Lent.{Lent, Enough}
use Rattle.receiver.specs.declared.Receiver.{Receiver}
use Rattle.receiver.specs.declared.Event.{Event}
use Rattle.receiver.specs.declared.Event.TheVariants as event
use Rattle.window.specs.declared.Refilled.{Refilled}
use Rattle.feed.specs.Pull.{hand_of, at_end, pulled, Missed, Pulls}
use Rattle.feed.specs.declared.Pull.{Pull}
use Rattle.feed.specs.declared.Pull.TheVariants as pull
use Rattle.feed.specs.declared.Pulled.{Pulled}
use Rattle.feed.specs.contracts.Pull.{the_type}
use Rattle.summary_count.specs.Count.{Ledger}
use Rattle.summary_run.specs.Counted.{with_octets, bad_in, goes_on, found_bad, Heeds, Turned}
use Rattle.summary_run.specs.declared.State.{State}
use Rattle.summary_run.proofs.Counting.{next, from-there, gathers, ends}
use Rattle.summary_run.proofs.Judging.{judges, judged}

pub is-bad : (p : Pull) → OneOf (3 ∷ 5 ∷ []) (tag_of the_type p) → true ≡ found_bad p
is-bad pull.More k = absurd (miss (3 ∷ 5 ∷ []) 0 tt k)
is-bad pull.Opened k = absurd (miss (3 ∷ 5 ∷ []) 1 tt k)
is-bad (pull.Answered a) k = absurd (miss (3 ∷ 5 ∷ []) 2 tt k)
is-bad pull.Bad k = refl
is-bad pull.End k = absurd (miss (3 ∷ 5 ∷ []) 4 tt k)
is-bad pull.Cut k = refl
is-bad pull.Failed k = absurd (miss (3 ∷ 5 ∷ []) 6 tt k)

pub not_bad : (p : Pull) → OneOf (0 ∷ 1 ∷ 2 ∷ 4 ∷ 6 ∷ []) (tag_of the_type p) → false ≡ found_bad p
not_bad pull.More k = refl
not_bad pull.Opened k = refl
not_bad (pull.Answered a) k = refl
not_bad pull.Bad k = absurd (miss (0 ∷ 1 ∷ 2 ∷ 4 ∷ 6 ∷ []) 3 tt k)
not_bad pull.End k = refl
not_bad pull.Cut k = absurd (miss (0 ∷ 1 ∷ 2 ∷ 4 ∷ 6 ∷ []) 5 tt k)
not_bad pull.Failed k = refl

-- none came where a run ends with no failed read; a failed read ends it
none_came : (e : Event) (s : Source) (r : Refilled) → Missed e r → goes_on (pulled e s r.failed r.came) ≡ false → r.failed ≡ false
    → r.came ≡ 0
unfolding at_end
none_came (event.Missing n) s r m g f =
    let P : Pull → Type 0 = λ x. goes_on x ≡ false → r.came ≡ 0 in
    picks P r.failed _ _ (λ t _. absurd (true≢false (sym t ∙ f)))
    (λ _. picks P (eqb r.came 0) _ _ (λ z _. eqb-true r.came 0 z) (λ _ h. absurd (true≢false h))) g
none_came event.Bad s r m g f = ap (λ (x : Refilled). x.came) m
none_came event.Over s r m g f = ap (λ (x : Refilled). x.came) m
none_came event.Opened s r m g f = absurd (true≢false g)
none_came event.Nothing s r m g f = absurd (true≢false g)
none_came (event.Answered a) s r m g f = absurd (true≢false g)

failed_ends : (e : Event) (s : Source) (r : Refilled) → Missed e r → r.failed ≡ true → goes_on (pulled e s r.failed r.came) ≡ false
unfolding at_end pick
failed_ends (event.Missing n) s r m f =
    ap (λ (b : Bool). goes_on (pick b pull.Failed (pick (eqb r.came 0) (pick (cut_at s) pull.Cut pull.End) pull.More))) f
failed_ends event.Bad s r m f = refl
failed_ends event.Over s r m f = refl
failed_ends event.Opened s r m f = absurd (true≢false (sym f ∙ ap (λ (x : Refilled). x.failed) m))
failed_ends event.Nothing s r m f = absurd (true≢false (sym f ∙ ap (λ (x : Refilled). x.failed) m))
failed_ends (event.Answered a) s r m f = absurd (true≢false (sym f ∙ ap (λ (x : Refilled). x.failed) m))

empty : (l : List ℕ) → length l ≡ 0 → l ≡ []
empty [] h = refl
empty (x ∷ l) h = absurd (omega arith)

pub turned : (s : State) (input kept : List ℕ) {l : Lent} (g : Ledger) (r : Pulled) {input' kept' : List ℕ} {l' : Lent}
    {going bad : Bool} {g' : Ledger} → Enough l → Pulls s.feed input s.receiver kept l r input' kept' l'
    → Heeds r.pull l'.octets l'.lengths g going g' → bad ≡ found_bad r.pull
    → Turned s input kept l g (record { feed = r.feed; receiver = r.receiver; going = going; bad = bad; read = r.read }) input' kept' l'
    g'
turned s input kept {l} g r {input'} {kept'} {l'} {going} {bad} {g'} enough x h b =
    let a : Receiver = s.receiver in
    let w : List ℕ = hand_of s.feed input in
    let failed = r.read.failed in
    let came = r.read.came in
    let e : g' ≡ next a kept w enough x.calls g = h.counts ∙ gathers a kept w enough x.calls g failed came x.tells in
    let stops : going ≡ goes_on (pulled x.received.event a.source failed came) = h.goes ∙ ap goes_on x.tells in
    let behind : (p : List ℕ) → drop x.received.used w ++ (x.piece ++ p) ≡ hand_of r.feed input' ++ p =
    λ p. sym (append_assoc (drop x.received.used w) x.piece p) ∙ ap (λ (y : List ℕ). y ++ p) (sym x.window) in
    record {
      pulled = r.pull;
      pulls = x;
      going = h.goes;
      bad = b;
      counts = e;
      goes = λ p. from-there a kept w enough x.calls g (x.piece ++ p)
          ∙ ap (λ (y : Ledger). with_octets x.received.receiver kept' (drop x.received.used w ++ (x.piece ++ p)) y) (sym e)
          ∙ ap (λ (y : List ℕ). with_octets x.received.receiver kept' y g') (behind p)
          ∙ ap (λ (b : Receiver). with_octets b kept' (hand_of r.feed input' ++ p) g') (sym x.receiver);
      judges = λ f p. judges a kept w x.calls failed came x.tells (sym h.goes ∙ f) (x.piece ++ p)
          ∙ ap (λ (y : List ℕ). bad_in x.received.receiver kept' y) (behind p)
          ∙ ap (λ (b : Receiver). bad_in b kept' (hand_of r.feed input' ++ p)) (sym x.receiver);
      ends = λ f. e ∙ ends a kept w enough x.calls g failed came x.tells (sym h.goes ∙ f);
      none = λ f d. empty x.piece (x.many ∙ none_came x.received.event a.source r.read x.only (sym stops ∙ f) d);
      judged = λ f d. b
          ∙ judged a kept w x.calls failed came x.tells (sym h.goes ∙ f) d
          (none_came x.received.event a.source r.read x.only (sym stops ∙ f) d);
      fails = λ f. stops ∙ failed_ends x.received.event a.source r.read x.only f;
    }
