-- Packets that agree are accepted throughout and leave the image that `Filled` says: by induction on the calls.
use Prim.Native.Nat.{ℕ, ◌≤◌, ◌<◌}
use native.Mathlib.Omega.{arith}
use native.Mathlib.Nat.{eq-zero-or-pos}
use native.Mathlib.Decide.{ℕ_discrete}
use mathlib.Core.Path.{◌≡◌, refl, sym, ap, subst, subst⁻¹, ◌∙◌}
use mathlib.Core.Logic.{◌⊎◌, inl, inr}
use mathlib.Core.List.Memᴰ
use mathlib.Core.List.{List, [], ◌∷◌, map, Memᴰ}
use lib.ListN.{length-set}
use lib.Seq.{drop-set-lt}
use Rattle.octets.specs.Numbers.{at}
use Rattle.report.specs.Report.{pixels_of}
use Rattle.image.specs.Line.{image_lines, Image, number, placed}
use Rattle.image.specs.Answers.{Placed}
use Rattle.about_image.specs.Placings.{Arrived, line, row, Alike, Placings, done, next, Filled}
use Rattle.about_image.specs.Placings.{Number, of_held, of_packet, Smallest, smallest, none}
use Rattle.about_image.specs.AnyOrder.{answer_of, Fills}
use Rattle.about_image.proofs.Rows.{placed-length, row-placed, row_other, beyond-placed}
use Rattle.about_image.proofs.Numbers.{One, Lower, lower, smallest_of}
use Rattle.about_image.proofs.Packets.{line_to, Ready, ready}
use Rattle.about_image.proofs.Steps.{number-placed, number-other, fits, places, next-ready}

-- A packet of line n in a list, or that there is none.
abbrev pub Has : List Arrived → ℕ → Type 0
Has s n = (a : Arrived) × Memᴰ a s × (line a ≡ n)

abbrev pub HasNone : List Arrived → ℕ → Type 0
HasNone s n = (a : Arrived) → Memᴰ a s → line a ≡ n → ⊥

pub has : (s : List Arrived) (n : ℕ) → Has s n ⊎ HasNone s n
has [] n = inr (λ a m e. Memᴰ.not-nil m)
has (x ∷ s) n = by (ℕ_discrete (line x) n) (has s n)
  where
    by : Dec (line x ≡ n) → Has s n ⊎ HasNone s n → Has (x ∷ s) n ⊎ HasNone (x ∷ s) n
    by (yes e) r = inl (x, Memᴰ.head refl, e)
    by (no e) (inl h) = inl (h.0, Memᴰ.tail h.1, h.2)
    by (no e) (inr h) = inr (λ a m k. at_either a k (Memᴰ.cases_cons m))
      where
        at_either : (a : Arrived) → line a ≡ n → (a ≡ x) ⊎ Memᴰ a s → ⊥
        at_either a k (inl q) = e (ap line (sym q) ∙ k)
        at_either a k (inr m) = h a m k

-- no packets leave what is held
filled_none : (held : Image) → Filled held [] held
filled_none held =
    record {
      given = λ a m. absurd (Memᴰ.not-nil m);
      others = λ n h e. refl;
      numbered = λ n h. by n (eq-zero-or-pos (at held.lines n));
      pixels-length = refl;
      lines-length = refl;
      pixels-beyond = refl;
      lines-beyond = refl;
    }
  where
    alone : (n m : ℕ) → Number held [] n m → (0 < m) × (at held.lines n ≡ m)
    alone n m (of_held p e) = (p, e)
    alone n m (of_packet a q e k) = absurd (Memᴰ.not-nil q)

    by : (n : ℕ) → (at held.lines n ≡ 0) ⊎ (0 < at held.lines n) → Smallest (Number held [] n) (at held.lines n)
    by n (inl e) = none (λ m k. let q = alone n m k in omega arith) e
    by n (inr p) = smallest (of_held p refl) (λ m k. let q = alone n m k in omega arith)

-- a packet before packets
module _ (wanted : ℕ) (held after : Image) (a : Arrived) (s : List Arrived) (r : Ready wanted held a)
    (alike : (b : Arrived) → Memᴰ b s → Alike a b) (f : Filled (placed held (line_to a)) s after) where
  own : row after (line a) ≡ pixels_of a.packet
  own = by (has s (line a))
    where
      by : Has s (line a) ⊎ HasNone s (line a) → row after (line a) ≡ pixels_of a.packet
      by (inl h) = ap (row after) (sym h.2) ∙ f.given h.0 h.1 ∙ sym (alike h.0 h.1 (sym h.2))
      by (inr h) = f.others (line a) (fits wanted held a r).line h ∙ row-placed held (line_to a) (fits wanted held a r)

  given : (b : Arrived) → (b ≡ a) ⊎ Memᴰ b s → row after (line b) ≡ pixels_of b.packet
  given b (inl e) = rw e own
  given b (inr m) = f.given b m

  -- the numbers of a line before and behind the first placing
  module _ (n : ℕ) where
    low : Lower (at held.lines (line a)) a.arrival
    low = lower _ _ r.line.numbered

    placed-number : n ≡ line a → at (placed held (line_to a)).lines n ≡ number (at held.lines (line a)) a.arrival
    placed-number e = ap (at (placed held (line_to a)).lines) e ∙ number-placed held (line_to a) (fits wanted held a r)

    from : (m : ℕ) → Number (placed held (line_to a)) s n m → Number held (a ∷ s) n m
    from m (of_packet b q e k) = of_packet b (Memᴰ.tail q) e k
    from m (of_held p e) = by (ℕ_discrete n (line a))
      where
        which : n ≡ line a → One (at held.lines (line a)) a.arrival → Number held (a ∷ s) n m
        which q (inl k) = of_packet a (Memᴰ.head refl) (sym q) (sym k ∙ sym (placed-number q) ∙ e)
        which q (inr k) = of_held p (ap (at held.lines) q ∙ sym k.1 ∙ sym (placed-number q) ∙ e)

        by : Dec (n ≡ line a) → Number held (a ∷ s) n m
        by (yes q) = which q low.one
        by (no q) = of_held p (sym (number-other held (line_to a) (fits wanted held a r) n q) ∙ e)

    abbrev AtLeast : ℕ → Type 0
    AtLeast m = (j : ℕ) × Number (placed held (line_to a)) s n j × (j ≤ m)

    own_number : n ≡ line a → Number (placed held (line_to a)) s n (number (at held.lines (line a)) a.arrival)
    own_number q = of_held low.positive (placed-number q)

    to : (m : ℕ) → Number held (a ∷ s) n m → AtLeast m
    to m (of_held p e) = by (ℕ_discrete n (line a))
      where
        by : Dec (n ≡ line a) → AtLeast m
        by (yes q) =
            let k : at held.lines (line a) ≡ m = ap (at held.lines) (sym q) ∙ e in
            (number (at held.lines (line a)) a.arrival, own_number q, omega (arith, low.below-held (omega arith)))
        by (no q) = (m, of_held p (number-other held (line_to a) (fits wanted held a r) n q ∙ e), omega arith)
    to m (of_packet b q e k) = by (Memᴰ.cases_cons q)
      where
        by : (b ≡ a) ⊎ Memᴰ b s → AtLeast m
        by (inl z) =
            let l : a.arrival ≡ m = ap (λ (x : Arrived). x.arrival) (sym z) ∙ k in
            (number (at held.lines (line a)) a.arrival, own_number (sym e ∙ ap line z), omega (arith, low.below))
        by (inr z) = (m, of_packet b z e k, omega arith)

  filled_next : Filled held (a ∷ s) after
  filled_next =
      let g = fits wanted held a r in
      record {
        given = λ b m. given b (Memᴰ.cases_cons m);
        others = λ n h e. f.others n h (λ b m. e b (Memᴰ.tail m))
            ∙ row_other held (line_to a) g n h (λ q. e a (Memᴰ.head refl) (sym q));
        numbered = λ n h. smallest_of (from n) (to n) (f.numbered n h);
        pixels-length = f.pixels-length ∙ placed-length held (line_to a) g;
        lines-length = f.lines-length ∙ length-set held.lines _ _;
        pixels-beyond = f.pixels-beyond ∙ beyond-placed held (line_to a) g;
        lines-beyond = f.lines-beyond ∙ drop-set-lt image_lines held.lines (line a) _ g.line;
      }

filling : {wanted : ℕ} {held after : Image} {s : List Arrived} {xs : List Placed} → Placings wanted held s xs after
    → ((a : Arrived) → Memᴰ a s → Ready wanted held a) → ((a b : Arrived) → Memᴰ a s → Memᴰ b s → Alike a b)
    → (xs ≡ map answer_of s) × Filled held s after
filling (done {i}) readies alike = (refl, filled_none i)
filling {wanted} {held} {after} (next {j = j} {a = a} {s = s} {x = x} p q) readies alike =
    let r : Ready wanted held a = readies a (Memᴰ.head refl) in
    let other : (b : Arrived) → Memᴰ b s → Alike a b = λ b m. alike a b (Memᴰ.head refl) (Memᴰ.tail m) in
    let e = places wanted held a r {x = x} {j = j} p in
    let k = filling q
    (λ b m. subst⁻¹ (λ (i : Image). Ready wanted i b) e.1 (next-ready wanted held a r b (readies b (Memᴰ.tail m)) (other b m)))
    (λ b c m n. alike b c (Memᴰ.tail m) (Memᴰ.tail n)) in
    (rw (e.0, k.0) refl, filled_next wanted held after a s r other (subst (λ (i : Image). Filled i s after) e.1 k.1))

pub fills : Fills
fills wanted held after s xs g p = filling p (λ a m. ready wanted held a (g.accepted a m)) g.alike
