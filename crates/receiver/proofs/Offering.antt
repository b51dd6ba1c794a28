-- What is offered of what was found.
use Prim.Native.Nat.{ℕ, ◌+◌, ◌-◌, ◌≤◌, ◌<◌}
use mathlib.Core.Path.{◌≡◌, sym, ap, subst, ◌∙◌}
use mathlib.Core.Logic.{◌⊎◌, inl, inr}
use mathlib.Core.List.{List, [], ◌∷◌}
use native.Mathlib.Omega.{arith}
use lib.ListN.{length, take, drop}
use types.Run.{OneOf, hit, miss}
use denote.Enum.Declared.{tag_of}
use Rattle.octets.proofs.Placing.{part-some}
use Rattle.stretch.specs.Stretch.{Stretch, found, unread}
use Rattle.source.specs.Scan.{Told, Finds}
use Rattle.source.specs.declared.Source.{Source}
use Rattle.source.specs.declared.Scanned.{Scanned}
use Rattle.source.specs.declared.Taken.{Taken}
use Rattle.source.specs.declared.Taken.TheVariants as taken
use Rattle.source.specs.contracts.Taken.{the_type}
use Rattle.receiver.specs.Receive.{stretch_of}

-- a frame in the window, a frame that was kept, or a stretch that was refused
abbrev pub Offered : Taken → Type 0
Offered t = OneOf (5 ∷ 6 ∷ 7 ∷ []) (tag_of the_type t)

pub offered : {t : Taken}
    → ((from : ℕ) × (to : ℕ) × (t ≡ taken.Here from to)) ⊎ (((n : ℕ) × (t ≡ taken.Kept n)) ⊎ ((n : ℕ) × (t ≡ taken.Refused n)))
    → Offered t
offered (inl h) = subst Offered (sym h.2) (hit (5 ∷ 6 ∷ 7 ∷ []) 5 tt)
offered (inr (inl h)) = subst Offered (sym h.1) (hit (5 ∷ 6 ∷ 7 ∷ []) 6 tt)
offered (inr (inr h)) = subst Offered (sym h.1) (hit (5 ∷ 6 ∷ 7 ∷ []) 7 tt)

-- ---- what a scan found

module _ (s : Source) (kept w : List ℕ) (q : Scanned) (kept' : List ℕ) where
  used_of : (t : Taken) → Offered t → Told s kept w q kept' t → 0 < q.used
  used_of (taken.Missing n) k h = absurd (miss (5 ∷ 6 ∷ 7 ∷ []) 0 tt k)
  used_of taken.Bad k h = absurd (miss (5 ∷ 6 ∷ 7 ∷ []) 1 tt k)
  used_of taken.Over k h = absurd (miss (5 ∷ 6 ∷ 7 ∷ []) 2 tt k)
  used_of (taken.Opened t) k h = absurd (miss (5 ∷ 6 ∷ 7 ∷ []) 3 tt k)
  used_of taken.Nothing k h = absurd (miss (5 ∷ 6 ∷ 7 ∷ []) 4 tt k)
  used_of (taken.Here from to) k h = h.0
  used_of (taken.Kept n) k h = h.0
  used_of (taken.Refused n) k h = h

  by_told : {A : Type 0} (F : Taken → A) (G : Stretch → A)
      → ((from to : ℕ) → F (taken.Here from to) ≡ G (found (take (to - from) (drop from w))))
      → ((n : ℕ) → F (taken.Kept n) ≡ G (found (take n kept')))
      → ((n : ℕ) → F (taken.Refused n) ≡ G (unread n))
      → (t : Taken) → Offered t → Told s kept w q kept' t → F t ≡ G (stretch_of kept' w t)
  by_told F G a b c (taken.Missing n) k h = absurd (miss (5 ∷ 6 ∷ 7 ∷ []) 0 tt k)
  by_told F G a b c taken.Bad k h = absurd (miss (5 ∷ 6 ∷ 7 ∷ []) 1 tt k)
  by_told F G a b c taken.Over k h = absurd (miss (5 ∷ 6 ∷ 7 ∷ []) 2 tt k)
  by_told F G a b c (taken.Opened t) k h = absurd (miss (5 ∷ 6 ∷ 7 ∷ []) 3 tt k)
  by_told F G a b c taken.Nothing k h = absurd (miss (5 ∷ 6 ∷ 7 ∷ []) 4 tt k)
  by_told F G a b c (taken.Here from to) k h =
      let there : from + (to - from) ≤ length w = omega (arith, h.1, h.2) in
      a from to ∙ ap (λ (x : List ℕ). G (found x)) (part-some w from (to - from) there)
  by_told F G a b c (taken.Kept n) k h =
      let there : 0 + n ≤ length kept' = omega (arith, h.1) in
      b n ∙ ap (λ (x : List ℕ). G (found x)) (part-some kept' 0 n there)
  by_told F G a b c (taken.Refused n) k h = c n

module _ {s : Source} {kept w : List ℕ} {q : Scanned} {kept' : List ℕ} (f : Finds s kept w q kept') (k : Offered q.taken) where
  pub offer-used : 0 < q.used
  offer-used = used_of s kept w q kept' q.taken k f.told

  -- what is said of each by the stretch that it is, is said of what is offered
  pub by_offer : {A : Type 0} (F : Taken → A) (G : Stretch → A)
      → ((from to : ℕ) → F (taken.Here from to) ≡ G (found (take (to - from) (drop from w))))
      → ((n : ℕ) → F (taken.Kept n) ≡ G (found (take n kept')))
      → ((n : ℕ) → F (taken.Refused n) ≡ G (unread n)) → F q.taken ≡ G (stretch_of kept' w q.taken)
  by_offer F G a b c = by_told s kept w q kept' F G a b c q.taken k f.told
