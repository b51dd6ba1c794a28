-- What a call has listed so far, and what it goes on with.
use Prim.Native.Nat.{ℕ, zero, suc, ◌+◌, ◌-◌, ◌≤◌, ◌<◌}
use mathlib.Core.Path.{◌≡◌, refl, sym, ap, ◌∙◌, subst}
use mathlib.Core.List.{List, [], ◌++◌, append-nil, append_assoc}
use native.Mathlib.Omega.{arith}
use native.Mathlib.Nat.{zero-add, add-zero, add_assoc, sub-zero}
use lib.ListN.{length, take, drop, length-append, length-drop}
use lib.Seq.{drop-drop, take_all}
use borrow.Author.Tests.{lt-ltb, le-ltb}
use Rattle.octets.specs.Pick.{pick}
use Rattle.octets.specs.Parts.{written}
use Rattle.octets.proofs.Placing.{put-fits, after}
use Rattle.decimal.specs.Laid.{Laid, Puts}
use Rattle.decimal.proofs.Laid.{no_number, laid_puts}
use Rattle.stretch.specs.Stretch.{Stretch}
use Rattle.source.specs.Scan.{kept_by, Scans, Finds}
use Rattle.source.specs.declared.Source.{Source}
use Rattle.source.specs.declared.Taken.{Taken}
use Rattle.source.specs.declared.Taken.TheVariants as taken
use Rattle.source.specs.declared.Scanned.{Scanned}
use Rattle.source.proofs.Scanning.{scans_find}
use Rattle.session.specs.Open.{opening}
use Rattle.session.specs.declared.Session.{Session}
use Rattle.receiver.specs.Receive.{stretch_of}
use Rattle.receiver.specs.declared.Receiver.{Receiver}
use Rattle.receiver.proofs.Offering.{Offered, offer-used, by_offer}
use Rattle.listing_lines.specs.Text.{longest_line, header, bad_recording}
use Rattle.listing.specs.Listing.{made, outcome_text}
use Rattle.listing.specs.Promised.{room}
use Rattle.listing.specs.Next.{Next, receiver, here, behind, offering, by_section, sections, next_of, stopped, listed_of, Nexts}
use Rattle.listing.specs.declared.Listed.{Listed}
use Rattle.listing.specs.declared.Stop.{Stop}
use Rattle.listing.specs.declared.Stop.TheVariants.{Missing, Full, Over}
use Rattle.listing.proofs.Parts.{known}

-- So many octets were used, the text was left, and the sections that are still to come are `to_come_lem` at most.
pub record Sofar (a₀ : Source) (s₀ : Session) (kept₀ window out₀ kept out : List ℕ) (a : Source) (s : Session) (at size : ℕ) : Type 0 where
  pub text : List ℕ
  pub to_come_lem : ℕ
  pub rest : next_of (receiver a₀ s₀) kept₀ window (length out₀) ≡ behind at text
      (sections to_come_lem (receiver a s) kept (drop at window) (length out₀ - size))
  pub enough : length window - at < to_come_lem
  pub inside : at ≤ length window
  pub long : size ≡ length text
  pub within : size ≤ length out₀
  pub same : length out ≡ length out₀
  pub leaves : out ≡ written text out₀

abbrev next : Next → ℕ → List ℕ → Next
next n used text = record { receiver = n.receiver; kept = n.kept; used = used; text = text; stop = n.stop }

-- no part, and the whole
whole : (n : Next) → n ≡ behind 0 [] n
whole n = ap (λ (k : ℕ). next n k n.text) (sym (zero-add n.used))

pub none_yet : (a : Source) (s : Session) (kept window out : List ℕ) → Sofar a s kept window out kept out a s 0 0
none_yet a s kept window out = record {
  text = [];
  to_come_lem = suc (length window);
  rest = whole _ ∙ ap (λ (k : ℕ). behind 0 [] (sections (suc (length window)) (receiver a s) kept window k)) (sym (sub-zero (length out)));
  enough = omega arith;
  inside = omega arith;
  long = refl;
  within = omega arith;
  same = refl;
  leaves = refl;
}

-- two parts are one
behind-behind : (u v : ℕ) (x y : List ℕ) (n : Next) → behind u x (behind v y n) ≡ behind (u + v) (x ++ y) n
behind-behind u v x y n =
    ap (λ (k : ℕ). next n k (x ++ (y ++ n.text))) (sym (add_assoc u v n.used))
    ∙ ap (next n (u + v + n.used)) (sym (append_assoc x y n.text))

-- a text laid behind the text that there is
written-more : (text out₀ : List ℕ) {most size r : ℕ} {more out out' : List ℕ} → out ≡ written text out₀ → size ≡ length text
    → size + most ≤ length out → length out ≡ length out₀
    → Laid most more out size out' r → out' ≡ written (text ++ more) out₀
written-more text out₀ {size = size} {more = more} {out} e long fits same l =
    let few : size + length more ≤ length out = omega (arith, l.behind, l.near) in
    after text more out₀ size e (l.leaves ∙ put-fits out size more few) long (omega arith)

-- the octets of the window that are not yet used
at-hand : (window : List ℕ) (at : ℕ) → take (length window - at) (drop at window) ≡ drop at window
at-hand window at = take_all (length window - at) (drop at window) (simp length-drop (omega arith))

-- what is scanned there
scans : {a : Source} {kept kept' : List ℕ} (window : List ℕ) (at : ℕ) {r : Scanned} → Scans a kept
    (take (length window - at) (drop at window)) r kept' → Scans a kept (drop at window) r kept'
scans {a} {kept} {kept'} window at {r} e = subst (λ (w : List ℕ). Scans a kept w r kept') (at-hand window at) e

-- A section, where there is room.
with_room : (k : ℕ) (a : Source) (s : Session) (kept w : List ℕ) (left : ℕ) {r : Scanned} {kept' : List ℕ} {t : Taken} → room ≤ left
    → Scans a kept w r kept' → r.taken ≡ t
    → sections (suc k) (receiver a s) kept w left ≡ by_section (sections k) s kept' w left r.source r.used t
unfolding sections pick
with_room k a s kept w left {r} {kept'} has e d =
    simp (le-ltb _ _ has)
    (ap (λ (x : Scanned). by_section (sections k) s (kept_by a kept w) w left x.source x.used x.taken) (sym e.answers)
    ∙ ap (λ (q : List ℕ). by_section (sections k) s q w left r.source r.used r.taken) (sym e.keeps)
    ∙ ap (by_section (sections k) s kept' w left r.source r.used) d)

-- with no room
without_room : (k : ℕ) (a : Receiver) (kept w : List ℕ) (left : ℕ) → left < room → sections k a kept w left ≡ here a kept Full
unfolding sections pick
without_room zero a kept w left h = refl
without_room (suc k) a kept w left h = simp (lt-ltb _ _ h)

-- stops there
finish : {a₀ a : Source} {s₀ s : Session} {kept₀ kept window out₀ out : List ℕ} (text : List ℕ) {at size : ℕ} {why : Stop} {q : Listed}
    → q ≡ stopped a s at size why
    → next_of (receiver a₀ s₀) kept₀ window (length out₀) ≡ behind at text (here (receiver a s) kept why) → size ≡ length text
    → out ≡ written text out₀
    → Nexts (receiver a₀ s₀) kept₀ window out₀ q kept out
finish {a = a} {s = s} {out₀ = out₀} text {at = at} {size = size} {why = why} g e long leaves = record {
  answers = g
      ∙ ap (λ (k : ℕ). stopped a s k size why) (sym (add-zero at))
      ∙ ap (λ (k : ℕ). stopped a s (at + 0) k why) (long ∙ ap length (sym (append-nil text)))
      ∙ ap listed_of (sym e);
  keeps = sym (ap (λ (n : Next). n.kept) e);
  leaves = leaves ∙ ap (λ (x : List ℕ). written x out₀) (sym (append-nil text) ∙ sym (ap (λ (n : Next). n.text) e));
}

-- A turn over the window: what was listed so far, and what the source made of the rest.
module _ {a₀ : Source} {s₀ : Session} {kept₀ window out₀ kept out : List ℕ} {a : Source} {s : Session} {at size : ℕ}
    (so : Sofar a₀ s₀ kept₀ window out₀ kept out a s at size)
    {r : Scanned} {kept' : List ℕ} (e : Scans a kept (take (length window - at) (drop at window)) r kept') where
  abbrev f : Finds a kept (drop at window) r kept'
  f = scans_find.finds (scans window at e)

  pub turn_inside : at + r.used ≤ length window
  turn_inside = omega (arith, f.inside, length-drop at window, so.inside)

  some_left : 0 < r.used → length window - (at + r.used) < length window - at
  some_left g = omega (arith, f.inside, length-drop at window, so.inside)

  abbrev Less : Type 0
  Less = length window - (at + r.used) < length window - at

  pub less_header : {t : ℕ} → r.taken ≡ taken.Opened t → Less
  less_header d = some_left (known a s kept (drop at window) f d).0

  pub less_nothing : r.taken ≡ taken.Nothing → Less
  less_nothing d = some_left (known a s kept (drop at window) f d)

  pub less_offered : Offered r.taken → Less
  less_offered k = some_left (offer-used f k)

  pub small-t : {t : ℕ} → r.taken ≡ taken.Opened t → t ≤ 8
  small-t d = (known a s kept (drop at window) f d).1

  module _ (has : room ≤ length out - size) where
    pub fits : size + room ≤ length out
    fits = omega (arith, so.within, so.same)

    -- what comes of the section
    seen : {t : Taken} → r.taken ≡ t → next_of (receiver a₀ s₀) kept₀ window (length out₀)
        ≡ behind at so.text (by_section (sections (so.to_come_lem - 1)) s kept' (drop at window) (length out₀ - size) r.source
        r.used t)
    seen d =
        let k : so.to_come_lem ≡ suc (so.to_come_lem - 1) = omega (arith, so.enough) in
        let left : room ≤ length out₀ - size = omega (arith, so.same) in
        so.rest
        ∙ ap (λ (n : ℕ). behind at so.text (sections n (receiver a s) kept (drop at window) (length out₀ - size))) k
        ∙ ap (behind at so.text) (with_room (so.to_come_lem - 1) a s kept (drop at window) (length out₀ - size) left (scans window at e) d)

    -- one section further
    onward : {most r' : ℕ} {more out' : List ℕ} {z : Session} → 0 < r.used → most ≤ room
        → next_of (receiver a₀ s₀) kept₀ window (length out₀)
        ≡ behind at so.text (behind r.used more
        (sections (so.to_come_lem - 1) (receiver r.source z) kept' (drop r.used (drop at window))
        (length out₀ - size - length more)))
        → Laid most more out size out' r' → length out' ≡ length out → Sofar a₀ s₀ kept₀ window out₀ kept' out' r.source z
        (at + r.used) r'
    onward {r' = r'} {more} {z = z} g small h l still =
        let room-left : length out₀ - size - length more ≡ length out₀ - r' = omega (arith, l.behind) in
        record {
          text = so.text ++ more;
          to_come_lem = so.to_come_lem - 1;
          rest = h
              ∙ behind-behind at r.used so.text more _
              ∙ ap (λ (w : List ℕ). behind (at + r.used) (so.text ++ more)
              (sections (so.to_come_lem - 1) (receiver r.source z) kept' w (length out₀ - size - length more)))
              (drop-drop r.used at window)
              ∙ ap (λ (n : ℕ). behind (at + r.used) (so.text ++ more)
              (sections (so.to_come_lem - 1) (receiver r.source z) kept' (drop (at + r.used) window) n)) room-left;
          enough = omega (arith, so.enough, some_left g);
          inside = turn_inside;
          long = simp length-append (omega (arith, l.behind, so.long));
          within = omega (arith, l.near, fits, so.same);
          same = still ∙ so.same;
          leaves = written-more so.text out₀ so.leaves so.long (omega (arith, fits)) so.same l;
        }

    pub on-header : {t r' : ℕ} {out' : List ℕ} {z : Session} → r.taken ≡ taken.Opened t → Puts longest_line header out size out' r'
        → length out' ≡ length out
        → z ≡ (opening t 0).session → Sofar a₀ s₀ kept₀ window out₀ kept' out' r.source z (at + r.used) r'
    on-header {r' = r'} {out'} d p still same =
        subst (λ (x : Session). Sofar a₀ s₀ kept₀ window out₀ kept' out' r.source x (at + r.used) r') (sym same)
        (onward {most = longest_line} (known a s kept (drop at window) f d).0 (omega arith) (seen d)
        (laid_puts (omega (arith, fits)) (omega arith) p) still)

    pub on-nothing : r.taken ≡ taken.Nothing → Sofar a₀ s₀ kept₀ window out₀ kept' out r.source s (at + r.used) size
    on-nothing d = onward {most = 0} (known a s kept (drop at window) f d) (omega arith) (seen d) (no_number out size) refl

    -- what is offered of it
    abbrev pub stretch : Stretch
    stretch = stretch_of kept' (take (length window - at) (drop at window)) r.taken

    seen_offered : Offered r.taken → next_of (receiver a₀ s₀) kept₀ window (length out₀)
        ≡ behind at so.text
        (offering (sections (so.to_come_lem - 1)) s kept' (drop at window) (length out₀ - size) r.source r.used stretch)
    seen_offered k =
        let rest = sections (so.to_come_lem - 1) in
        let left = length out₀ - size in
        let G : Stretch → Next = offering rest s kept' (drop at window) left r.source r.used in
        seen refl
        ∙ ap (behind at so.text)
        (by_offer f k (by_section rest s kept' (drop at window) left r.source r.used) G
        (λ from to. refl) (λ n. refl) (λ n. refl)
        ∙ ap (λ (w : List ℕ). G (stretch_of kept' w r.taken)) (sym (at-hand window at)))

    pub on-offered : Offered r.taken → {r' : ℕ} {text out' : List ℕ} {z : Session} → Laid room text out size out' r'
        → length out' ≡ length out → text ≡ outcome_text (made s stretch) → z ≡ (made s stretch).session
        → Sofar a₀ s₀ kept₀ window out₀ kept' out' r.source z (at + r.used) r'
    on-offered k {r'} {text} {out'} l still said same =
        subst (λ (y : Session). Sofar a₀ s₀ kept₀ window out₀ kept' out' r.source y (at + r.used) r') (sym same)
        (onward {most = room} (offer-used f k) (omega arith) (seen_offered k)
        (subst (λ (y : List ℕ). Laid room y out size out' r') said l) still)

    pub stop-missing : {n : ℕ} {q : Listed} → r.taken ≡ taken.Missing n → q ≡ stopped r.source s at size (Missing n) → Nexts
        (receiver a₀ s₀) kept₀ window out₀ q kept' out
    stop-missing d g = finish so.text g (seen d) so.long so.leaves

    pub stop-over : {q : Listed} → r.taken ≡ taken.Over → q ≡ stopped r.source s at size Over → Nexts
        (receiver a₀ s₀) kept₀ window out₀ q kept' out
    stop-over d g = finish so.text g (seen d) so.long so.leaves

    pub stop-bad : {r' : ℕ} {out' : List ℕ} {q : Listed} → r.taken ≡ taken.Bad → Puts longest_line bad_recording out size out' r'
        → q ≡ stopped r.source s at r' Over
        → Nexts (receiver a₀ s₀) kept₀ window out₀ q kept' out'
    stop-bad {r'} d p g =
        let l : Laid longest_line bad_recording out size _ r' = laid_puts (omega (arith, fits)) (omega arith) p in
        finish (so.text ++ bad_recording) g
        (seen d ∙ behind-behind at 0 so.text bad_recording _ ∙ ap
        (λ (k : ℕ). behind k (so.text ++ bad_recording) (here (receiver r.source s) kept' Over)) (add-zero at))
        (simp length-append (omega (arith, l.behind, so.long)))
        (written-more so.text out₀ so.leaves so.long (omega (arith, fits)) so.same l)

-- what was listed so far, where the names of what it is said of are others
pub carried : {a₀ : Source} {s₀ : Session} {kept₀ window out₀ kept out out' octets octets' lengths lengths' firsts firsts' : List ℕ}
    {a : Source} {s s' : Session} {at size size' : ℕ}
    → out ≡ out' → octets ≡ octets' → lengths ≡ lengths' → firsts ≡ firsts' → s ≡ s' → size ≡ size'
    → Sofar a₀ s₀ kept₀ window out₀ kept out' a s' at size' × (length octets' ≡ 501) × (length lengths' ≡ 16) × (length firsts' ≡ 16)
    → Sofar a₀ s₀ kept₀ window out₀ kept out a s at size × (length octets ≡ 501) × (length lengths ≡ 16) × (length firsts ≡ 16)
carried {a₀} {s₀} {kept₀} {window} {out₀} {kept} {out} {out'} {a = a} {s} {s'} {at} {size' = size'} p q r t u v i = (
  subst (λ (n : ℕ). Sofar a₀ s₀ kept₀ window out₀ kept out a s at n) (sym v)
      (subst (λ (z : Session). Sofar a₀ s₀ kept₀ window out₀ kept out a z at size') (sym u)
      (subst (λ (o : List ℕ). Sofar a₀ s₀ kept₀ window out₀ kept o a s' at size') (sym p) i.0)),
  ap length q ∙ i.1,
  ap length r ∙ i.2,
  ap length t ∙ i.3,
)

pub stop-full : {a₀ : Source} {s₀ : Session} {kept₀ window out₀ kept out : List ℕ} {a : Source} {s : Session} {at size : ℕ} {q : Listed}
    → Sofar a₀ s₀ kept₀ window out₀ kept out a s at size → length out - size < room → q ≡ stopped a s at size Full → Nexts
    (receiver a₀ s₀) kept₀ window out₀ q kept out
stop-full {window = window} {kept = kept} {a = a} {s = s} {at = at} so h g =
    finish so.text g (so.rest ∙ ap (behind at so.text)
    (without_room so.to_come_lem (receiver a s) kept (drop at window) _ (omega (arith, so.same)))) so.long so.leaves
