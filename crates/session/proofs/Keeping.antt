-- Laws of what a channel keeps and hands out.
use Prim.Native.Nat.{ℕ, zero, suc, ◌+◌, ◌-◌, ◌≤◌, ◌<◌}
use native.Mathlib.Nat.{sub-zero, zero-sub, suc-sub-suc}
use native.Mathlib.Omega.{arith}
use mathlib.Core.Path.{◌≡◌, refl, sym, ap, ◌∙◌}
use mathlib.Core.Bool.{Bool, true}
use mathlib.Core.List.{List, ◌++◌}
use lib.ListN.{length, take, drop, replicate, length-append, length-drop, length-replicate}
use lib.Seq.{length-take-le, take_all}
use Rattle.octets.specs.Parts.{put, written}
use Rattle.octets.proofs.Placing.{put_first, after}
use Rattle.counts.specs.declared.ChannelCount.{ChannelCount}
use Rattle.rules.specs.Channel.{held_of, begun_in, cleared}
use Rattle.session.specs.Channel.{channel_of, stored}
use Rattle.session.specs.Asked.{Front, Left}
use Rattle.session.specs.declared.Channel.{Channel}
use Rattle.session.proofs.Joined.{take_past, drop_past}

drop-zeros : (n k : ℕ) → drop {A = ℕ} k (replicate n 0) ≡ replicate (n - k) 0
drop-zeros n zero = rw sub-zero
drop-zeros zero (suc k) = rw zero-sub
drop-zeros (suc n) (suc k) = drop-zeros n k ∙ rw suc-sub-suc

-- two parts put into zeros
pub keeps : (count : ChannelCount) (instep : Bool) (first : ℕ) (a b : List ℕ) {o₁ o₂ : List ℕ} {begun : ℕ} → length a + length b ≤ 250
    → o₁ ≡ put (replicate 250 0) 0 a → o₂ ≡ put o₁ (length a) b → begun ≡ begun_in 0 first (length a + length b)
    → ◌≡◌ {A = Channel} (record { last = count; heard = true; instep = instep; first = begun; length = length a + length b; held = o₂ })
    (stored (channel_of count.0 instep (cleared (held_of first (a ++ b)))))
unfolding stored
keeps count instep first a b {o₁} {o₂} l e₁ e₂ s =
    let z : length (replicate {A = ℕ} 250 0) ≡ 250 = length-replicate {A = ℕ} 250 0 in
    let e : o₂ ≡ written (a ++ b) (replicate 250 0) =
    after a b (replicate 250 0) (length a) (e₁ ∙ put_first a (replicate 250 0) (omega arith)) e₂ refl (omega arith) in
    let f : o₂ ≡ (a ++ b) ++ replicate (250 - length (a ++ b)) 0 = e ∙ ap (λ (r : List ℕ). (a ++ b) ++ r)
    (drop-zeros 250 (length (a ++ b))) in
    simp (f, length-append, s)

module _ (d : List ℕ) (i : ℕ) where
  -- a part to the end
  pub to_end : take (length d - i) (drop i d) ≡ drop i d
  to_end = let l : length (drop i d) ≡ length d - i = length-drop i d in take_all (length d - i) (drop i d) (omega arith)

module _ (held xs : List ℕ) (n : ℕ) (p : Left held xs n) where
  pub left-all : n < length held → held ++ xs ≡ drop n (held ++ xs)
  left-all l = ap (λ (k : ℕ). drop k (held ++ xs)) (sym (p.past l))

  pub left-all-short : n < length held → length held + length xs ≤ 250
  left-all-short l = omega (arith, p.short, length-drop n (held ++ xs), length-append held xs, p.past l)

  pub left-some : length held ≤ n → take (length xs - (n - length held)) (drop (n - length held) xs) ≡ drop n (held ++ xs)
  left-some l = to_end xs (n - length held) ∙ drop_past held xs n l

  pub left-some-short : length held ≤ n → 0 + length (take (length xs - (n - length held)) (drop (n - length held) xs)) ≤ 250
  left-some-short l = omega (arith, p.short, ap length (left-some l))

module _ (held xs : List ℕ) (n : ℕ) (out : List ℕ) (p : Front held xs n out) where
  pub front-none : n < length held → out ≡ written (take n (held ++ xs)) out
  front-none l = ap (λ (k : ℕ). written (take k (held ++ xs)) out) (sym (p.past l))

  pub front-part : length held ≤ n → n - length held ≤ length xs
  front-part l = omega (arith, p.within)

  pub front-some : length held ≤ n → {o₁ o₂ : List ℕ} → o₁ ≡ put out 0 held → o₂ ≡ put o₁ (length held) (take (n - length held) xs)
      → o₂ ≡ written (take n (held ++ xs)) out
  front-some l e₁ e₂ =
      let k : length (take (n - length held) xs) ≡ n - length held = length-take-le (n - length held) xs (front-part l) in
      after held (take (n - length held) xs) out (length held) (e₁ ∙ put_first held out (omega (arith, p.room))) e₂ refl
      (omega (arith, p.room))
      ∙ ap (λ (r : List ℕ). written r out) (take_past held xs n l)
