-- The laws of a gap, once over the modulus.
use Rattle.std.proofs.Common.{◌≡◌, ℕ, ◌+◌, ◌-◌, ◌%◌, ◌<◌, sym, ap, ◌∙◌, add_assoc, mod-lt, mod-eq_of_lt, arith}
use native.Mathlib.Nat.{mod-mod, mod-add-mod, add-mod-mod, add-mod_right}
use Rattle.counts.specs.Gap.{gap, GapLeads, GapAlone, GapOn}

-- going on by x and by what x lacks to m comes back
pub gap_leads : GapLeads
gap_leads m count last h =
    let a : ℕ = last % m in
    let b : ℕ = count % m in
    let low : a < m = mod-lt last h in
    let sum : a + 1 + (b + (m - 1 - a)) ≡ b + m = omega arith in
    record {
      below = mod-lt (b + (m - 1 - a)) h;
      leads =
          add-mod-mod (last + 1) (b + (m - 1 - a)) m
          ∙ ap (λ (n : ℕ). n % m) (add_assoc last 1 (b + (m - 1 - a)))
          ∙ sym (mod-add-mod last m (1 + (b + (m - 1 - a))))
          ∙ ap (λ (n : ℕ). n % m) (sym (add_assoc a 1 (b + (m - 1 - a))) ∙ sum)
          ∙ add-mod_right b m
          ∙ mod-mod count m;
    }

-- what was added to a comes back by what a lacks to m
back : (m a g : ℕ) → 0 < m → ((a + g) % m + (m - a % m)) % m ≡ g % m
back m a g h =
    let low : a % m < m = mod-lt a h in
    let sum : a % m + (g + (m - a % m)) ≡ g + m = omega arith in
    mod-add-mod (a + g) m (m - a % m)
    ∙ ap (λ (n : ℕ). n % m) (add_assoc a g (m - a % m))
    ∙ sym (mod-add-mod a m (g + (m - a % m)))
    ∙ ap (λ (n : ℕ). n % m) sum
    ∙ add-mod_right g m

pub gap-alone : GapAlone
gap-alone m count last g h l =
    let k = gap_leads m count last h in
    let a : ℕ = last + 1 in
    sym (mod-eq_of_lt l.below)
    ∙ sym (back m a g h)
    ∙ ap (λ (n : ℕ). (n + (m - a % m)) % m) (l.leads ∙ sym k.leads)
    ∙ back m a (gap m count last) h
    ∙ mod-eq_of_lt k.below

pub gap-on : GapOn
gap-on m last k low high =
    let sum : last + 1 + (k - 1) ≡ last + k = omega arith in
    sym
    (gap-alone m ((last + k) % m) last (k - 1) (omega arith)
    (record { below = omega arith; leads = ap (λ (n : ℕ). n % m) sum ∙ sym (mod-mod (last + k) m) }))
