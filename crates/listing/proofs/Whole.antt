-- However a source's octets come in pieces, the calls leave the listing of the whole.
use Prim.Native.Nat.{ℕ}
use mathlib.Core.Path.{◌≡◌, refl, sym, ap, ◌∙◌}
use mathlib.Core.List.{List, [], ◌++◌, append_assoc, append-nil}
use mathlib.Core.Bool.{Bool, true, false}
use lib.ListN.{take}
use Rattle.octets.specs.Pick.{pick}
use Rattle.source.specs.Found.{Found, cut_at}
use Rattle.source.specs.Scan.{Waits, Over}
use Rattle.source.specs.declared.Source.{Source}
use Rattle.session.specs.declared.Session.{Session}
use Rattle.receiver.specs.declared.Receiver.{Receiver}
use Rattle.listing.specs.Listing.{listed}
use Rattle.listing.specs.Promised.{to_come, at_end}
use Rattle.listing.specs.Whole.{Run, starts, reads, lists, PiecesAreListed, ListsRecordings}
use Rattle.listing.proofs.Calls.{part_of}
use Rattle.listing.proofs.Parts.{none-listed}

first : {a₀ : Receiver} {kept₀ octets text : List ℕ} {a : Receiver} {kept w : List ℕ} → Run a₀ kept₀ octets text a kept w → (p : List ℕ)
    (ended : Bool)
    → to_come a₀ kept₀ (octets ++ p) ended ≡ text ++ to_come a kept (w ++ p) ended
first starts p ended = refl
first {a₀} {kept₀} {octets} {text} {a} {kept} {w} (reads {octets = octets'} {w = w'} piece run) p ended =
    ap (λ (x : List ℕ). to_come a₀ kept₀ x ended) (append_assoc octets' piece p)
    ∙ first run (piece ++ p) ended
    ∙ ap (λ (x : List ℕ). text ++ to_come a kept x ended) (sym (append_assoc w' piece p))
first (lists {text = text'} out kept' out' r n run) p ended =
    first run p ended
    ∙ ap (λ (x : List ℕ). text' ++ x) ((part_of n).text p ended)
    ∙ sym (append_assoc text' (take r.size out') _)

-- what is to come while nothing can be found
none_yet : (cut : Bool) (s : Session) → listed s (record { items = []; bad = false; cut = cut }) false ≡ []
unfolding listed pick
none_yet cut s = refl

the_end : (b : Source) (s : Session) → listed s (record { items = []; bad = false; cut = cut_at b }) true ≡ at_end b
unfolding listed
the_end b s = refl

module _ {a₀ : Receiver} {kept₀ octets text : List ℕ} {a : Receiver} {kept w : List ℕ} (run : Run a₀ kept₀ octets text a kept w) where
  -- with nothing behind
  now_to_come : (ended : Bool) → to_come a₀ kept₀ octets ended ≡ text ++ to_come a kept w ended
  now_to_come ended =
      ap (λ (x : List ℕ). to_come a₀ kept₀ x ended) (sym (append-nil octets))
      ∙ first run [] ended
      ∙ ap (λ (x : List ℕ). text ++ to_come a kept x ended) (append-nil w)

  prompt : (n : ℕ) → Waits a.source kept w n → text ≡ to_come a₀ kept₀ octets false
  prompt n h =
      sym (now_to_come false
      ∙ ap (λ (x : List ℕ). text ++ x) (ap (λ (f : Found). listed a.session f false) h.none ∙ none_yet (cut_at a.source)
      a.session)
      ∙ append-nil text)

  last : (n : ℕ) → Waits a.source kept w n → text ++ at_end a.source ≡ to_come a₀ kept₀ octets true
  last n h =
      sym (now_to_come true
      ∙ ap (λ (x : List ℕ). text ++ x) (ap (λ (f : Found). listed a.session f true) h.none ∙ the_end a.source a.session))

  over : Over a.source kept → (p : List ℕ) (ended : Bool) → text ≡ to_come a₀ kept₀ (octets ++ p) ended
  over o p ended =
      sym (first run p ended
      ∙ ap (λ (x : List ℕ). text ++ x) (ap (λ (f : Found). listed a.session f ended) (o (w ++ p)) ∙ none-listed a.session ended)
      ∙ append-nil text)

pub pieces_are_listed : PiecesAreListed
pieces_are_listed = record { first = first; prompt = λ n run. prompt run n; last = λ n run. last run n; over = over }

pub lists_recordings : ListsRecordings
lists_recordings kept octets ended = refl
