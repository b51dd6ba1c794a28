-- The channel counts: what the session reports lost is what was lost, and the held octets go as if the loss were seen at once.
use Rattle.std.specs.Prelude.{Some, None}
use mathlib.Core.Path.{◌≡◌, refl, ap, ◌∙◌}
use mathlib.Core.List.{List, [], ◌∷◌}
use mathlib.Core.Bool.{Bool, false}
use mathlib.Core.Option.{Option, none, some}
use Prim.Native.Nat.{ℕ, zero, suc, ◌+◌, ◌-◌, ◌%◌, ◌≤◌, ◌<◌}
use native.Mathlib.Omega.{arith}
use Rattle.counts.specs.Gap.{gap}
use Rattle.counts.proofs.Laws.{gap-on}
use Rattle.counts.specs.Loss.{Loss}
use Rattle.counts.specs.Lost.{lost_since, number}
use Rattle.rules.specs.Channel.{Held, nothing, cleared, answer, Piece, Channel, Work, follow, after_loss, step, fresh}
use Rattle.sender.specs.Stream.{next_count}
use Rattle.about_delivery.specs.Link.{Fate, lost, got}
use Rattle.about_delivery.specs.Expected.{piece, one_more, told_as, losses_after, expected_losses, AtMost, most_lost}
use Rattle.about_delivery.specs.Delivered.{Report, losses}
use Rattle.about_delivery.specs.Channels.{offered, run}

-- What is said where a loss is seen at once: d frames were lost since the last arrival (none: none arrived yet).
abbrev reported : ℕ → Loss → Work → Report
reported a l w = record { arrival = a; lost = l; headers = w.headers; packets = w.packets }

abbrev pub eager : Option ℕ → Bool → Held → List Fate → List Report
eager d b h [] = []
eager d b h (lost f ∷ ss) = eager (one_more d) false nothing ss
eager d b h (got a f ∷ ss) =
    reported a (told_as d) (follow a b h f.pointer f.octets)
    ∷ eager (some 0) (follow a b h f.pointer f.octets).in_step (cleared (follow a b h f.pointer f.octets).held) ss

pub eager_losses : (d : Option ℕ) (b : Bool) (h : Held) (ss : List Fate) → losses (eager d b h ss) ≡ losses_after d ss
eager_losses d b h [] = refl
eager_losses d b h (lost f ∷ ss) = eager_losses (one_more d) false nothing ss
eager_losses d b h (got a f ∷ ss) =
    rw (eager_losses (some 0) (follow a b h f.pointer f.octets).in_step (cleared (follow a b h f.pointer f.octets).held) ss)

abbrev pub Counted : ℕ → List Fate → Type 0
Counted c [] = Unit {0}
Counted c (s ∷ ss) = ((piece s).count ≡ c) × Counted (next_count c) ss

abbrev still : ℕ → Bool → Bool
still zero b = b
still (suc n) b = false

abbrev kept : ℕ → Held → Held
kept zero h = h
kept (suc n) h = nothing

-- the count d + 1 on from the last says d
pub lost-is : (l d c : ℕ) → d ≤ 255 → c ≡ (l + 1 + d) % 256 → lost_since (some l) c ≡ Some d
unfolding lost_since
lost-is l d c hd e =
    let sum : l + 1 + d ≡ l + (d + 1) = omega arith in
    let less : d + 1 - 1 ≡ d = omega arith in
    ap Some (ap (λ (n : ℕ). gap 256 n l) (e ∙ ap (λ (n : ℕ). n % 256) sum) ∙ gap-on 256 l (d + 1) (omega arith) (omega arith) ∙ less)

after-loss : (a d : ℕ) (b : Bool) (h : Held) (ptr : ℕ) (xs : List ℕ) → after_loss a d b h ptr xs ≡ follow a (still d b) (kept d h) ptr xs
after-loss a zero b h ptr xs = refl
after-loss a (suc d) b h ptr xs = refl

step_is : (a : ℕ) (s : Channel) (f : Piece) (d : Loss) → lost_since s.last f.count ≡ d
    → step a s f ≡ answer f.count d (follow a (still (number d) s.in_step) (kept (number d) s.held) f.pointer f.octets)
unfolding step
step_is a s f d e = rw (e, after-loss)

abbrev at : ℕ → Bool → Held → Channel
at l b h = record { last = some l; in_step = b; held = h }

pub after_first : (ss : List Fate) (l d c : ℕ) (b : Bool) (h : Held) → l < 256 → c ≡ (l + 1 + d) % 256
    → Counted c ss → AtMost most_lost (losses_after (some d) ss) → run (at l b h) (offered ss) ≡ eager (some d) (still d b) (kept d h) ss
after_first [] l d c b h hl hc k m = refl
after_first (lost f ∷ ss) l d c b h hl hc k m =
    after_first ss l (suc d) (next_count c) b h hl (omega arith) k.1 m
after_first (got a f ∷ ss) l d c b h hl hc k m =
    let n : ℕ = f.count in
    let w : Work = follow a (still d b) (kept d h) f.pointer f.octets in
    let e : lost_since (some l) n ≡ Some d = lost-is l d n (omega (arith, m.0)) (k.0 ∙ hc) in
    let ih : run (at n w.in_step (cleared w.held)) (offered ss) ≡ eager (some 0) w.in_step (cleared w.held) ss =
    after_first ss n 0 (next_count c) w.in_step (cleared w.held) (omega (arith, k.0)) (omega (arith, k.0)) k.1 m.1 in
    rw (step_is a (at l b h) f (Some d) e, ih)

pub counts : (ss : List Fate) (c : ℕ) → c < 256 → Counted c ss → AtMost most_lost (expected_losses ss)
    → run fresh (offered ss) ≡ eager none false nothing ss
unfolding lost_since
counts [] c hc k m = refl
counts (lost f ∷ ss) c hc k m = counts ss (next_count c) (omega arith) k.1 m
counts (got a f ∷ ss) c hc k m =
    let n : ℕ = f.count in
    let w : Work = follow a false nothing f.pointer f.octets in
    let ih : run (at n w.in_step (cleared w.held)) (offered ss) ≡ eager (some 0) w.in_step (cleared w.held) ss =
    after_first ss n 0 (next_count c) w.in_step (cleared w.held) (omega (arith, k.0)) (omega (arith, k.0)) k.1 m.1 in
    rw (step_is a fresh f None refl, ih)
