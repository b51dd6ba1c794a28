-- No second result satisfies the contract of `Feed::fresh`. Of a pull all is fixed but what a read brought and whether it failed: the next
-- receiver, how many octets were used, the octets kept and what was lent afterwards.
use Rattle.std.proofs.Common.{◌≡◌, ℕ, ◌+◌, ◌%◌, ◌^◌, List, sym, ap, ◌∙◌}
use Rattle.octets.specs.Unique.{Fixes}
use Rattle.octets.proofs.Fixed.{fixed}
use Rattle.session.specs.Lent.{Lent, lent}
use Rattle.receiver.specs.declared.Receiver.{Receiver}
use Rattle.feed.specs.Pull.{Pulls}
use Rattle.feed.specs.declared.Feed.{Feed}
use Rattle.feed.specs.declared.Pulled.{Pulled}
use Rattle.feed.proofs.Feed.fresh.Kinds as kfresh
use Rattle.feed.proofs.Feed.fresh.Reads as rfresh
use Rattle.feed.proofs.Feed.pull.Kinds as kpull
use Rattle.feed.proofs.Feed.pull.Reads as rpull

pub fresh_fixed : Fixes kfresh.ps kfresh.r rfresh.Post (λ κs x s. x)
fresh_fixed = fixed kfresh.ps kfresh.r rfresh.Post _ _ (λ κs a x s p. p)

module _ {f : Feed} {input : List ℕ} {a : Receiver} {kept : List ℕ} {l : Lent} {r q : Pulled} {i₁ i₂ k₁ k₂ : List ℕ} {l₁ l₂ : Lent} where
  one-pulled : Pulls f input a kept l r i₁ k₁ l₁ → Pulls f input a kept l q i₂ k₂ l₂
      → ◌≡◌ {A = Receiver × ℕ × List ℕ × Lent} (r.receiver, r.feed.passed, k₁, l₁) (q.receiver, q.feed.passed, k₂, l₂)
  one-pulled p o =
      let u : p.received.used ≡ o.received.used = p.calls.used ∙ sym o.calls.used in
      let n : r.feed.passed ≡ q.feed.passed = p.passed ∙ ap (λ (k : ℕ). (f.passed + k) % 2 ^ 64) u ∙ sym o.passed in
      let e : r.receiver ≡ q.receiver = p.receiver ∙ p.calls.receiver ∙ sym o.calls.receiver ∙ sym o.receiver in
      simp (e, n, p.calls.keeps, o.calls.keeps, p.calls.leaves, o.calls.leaves)

pub pull_fixed : Fixes kpull.ps kpull.r {A = Receiver × ℕ × List ℕ × Lent} rpull.Post
    (λ κs x s. (
      x.receiver,
      x.feed.passed,
      s.1.1.1.1.1.0.now,
      lent s.1.1.1.1.1.1.0.now s.1.1.1.1.1.1.1.0.now s.1.1.1.1.1.1.1.1.0.now,
    ))
pull_fixed κs a x y s t p q = one-pulled p q
