-- The text that a section brings, and the text that is still to come behind it.
use Prim.Native.Nat.{ℕ}
use mathlib.Core.Path.{◌≡◌, refl, sym, ap, ◌∙◌, subst}
use mathlib.Core.List.{List, [], ◌++◌, append-nil, append_assoc}
use mathlib.Core.Bool.{Bool, true, false}
use lib.ListN.{drop}
use Rattle.octets.specs.Pick.{pick}
use Rattle.stretch.specs.Stretch.{Stretch}
use Rattle.source.specs.Found.{opens, offers, Found, nothing, one, joined, found_in}
use Rattle.source.specs.Scan.{tells, Told, Finds}
use Rattle.source.specs.declared.Source.{Source}
use Rattle.source.specs.declared.Taken.{Taken}
use Rattle.source.specs.declared.Taken.TheVariants as taken
use Rattle.source.specs.declared.Scanned.{Scanned}
use Rattle.session.specs.Open.{opening}
use Rattle.session.specs.declared.Session.{Session}
use Rattle.listing_lines.specs.Text.{header, bad_recording}
use Rattle.listing.specs.Listing.{made, outcome_text, items_text, last_line, listed}
use Rattle.listing.specs.Promised.{to_come}
use Rattle.listing.specs.Next.{receiver}

-- What comes after what was found first.
module _ (s : Session) (f : Found) (ended : Bool) where
  after-t : (t : ℕ) → listed s (joined (one (opens t)) f) ended ≡ header ++ listed (opening t 0).session f ended
  unfolding listed
  after-t t = append_assoc header (items_text (opening t 0).session f.items) (last_line f ended)

  after-offer : (x : Stretch) → listed s (joined (one (offers x)) f) ended ≡ outcome_text (made s x) ++ listed (made s x).session f ended
  unfolding listed
  after-offer x = append_assoc (outcome_text (made s x)) (items_text (made s x).session f.items) (last_line f ended)

-- nothing found, nothing told
pub none-listed : (s : Session) (ended : Bool) → listed s nothing ended ≡ []
unfolding listed pick
none-listed s true = refl
none-listed s false = refl

after-bad : (s : Session) (ended : Bool) → listed s (joined (record { items = []; bad = true; cut = false }) nothing) ended ≡ bad_recording
unfolding listed pick
after-bad s ended = refl

-- The text that a scan of w brings, behind which the text of the rest comes.
abbrev pub Brings : Source → Session → List ℕ → List ℕ → List ℕ → Source → Session → List ℕ → ℕ → Type 0
Brings a s kept w text b z kept' used =
    (p : List ℕ) (ended : Bool) → to_come (receiver a s) kept (w ++ p) ended ≡ text ++ to_come (receiver b z) kept' (drop used w ++ p) ended

module _ (a : Source) (s : Session) (kept w : List ℕ) {r : Scanned} {kept' : List ℕ} (f : Finds a kept w r kept') where
  abbrev rest : List ℕ → Found
  rest p = found_in r.source kept' (drop r.used w ++ p)

  pub known : {t : Taken} → r.taken ≡ t → Told a kept w r kept' t
  known e = subst (Told a kept w r kept') e f.told

  -- by what is found
  by_taken : {t : Taken} (p : List ℕ) (ended : Bool) → r.taken ≡ t → to_come (receiver a s) kept (w ++ p) ended ≡ listed s
      (joined (tells t kept' w) (rest p)) ended
  by_taken p ended e = ap (λ (x : Found). listed s x ended) (f.next p ∙ ap (λ (t : Taken). joined (tells t kept' w) (rest p)) e)

  pub brings_header : {t : ℕ} → r.taken ≡ taken.Opened t → Brings a s kept w header r.source (opening t 0).session kept' r.used
  brings_header {t} e p ended = by_taken p ended e ∙ after-t s (rest p) ended t

  pub brings_nothing : r.taken ≡ taken.Nothing → Brings a s kept w [] r.source s kept' r.used
  brings_nothing e p ended = by_taken p ended e

  pub brings_offer : {t : Taken} (x : Stretch) → r.taken ≡ t → tells t kept' w ≡ one (offers x)
      → Brings a s kept w (outcome_text (made s x)) r.source (made s x).session kept' r.used
  brings_offer x e d p ended =
      by_taken p ended e ∙ ap (λ (y : Found). listed s (joined y (rest p)) ended) d ∙ after-offer s (rest p) ended x

  pub brings_bad : r.taken ≡ taken.Bad → Brings a s kept w bad_recording r.source s kept' 0
  brings_bad e p ended =
      let o : (v : List ℕ) → found_in r.source kept' v ≡ nothing = (known e).1 in
      by_taken p ended e
      ∙ ap (λ (x : Found). listed s (joined (tells taken.Bad kept' w) x) ended) (o (drop r.used w ++ p))
      ∙ after-bad s ended
      ∙ sym (append-nil bad_recording)
      ∙ ap (λ (x : List ℕ). bad_recording ++ x) (sym (ap (λ (x : Found). listed s x ended) (o (drop 0 w ++ p)) ∙ none-listed s ended))
