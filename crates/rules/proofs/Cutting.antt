-- Rule 5 a packet at a time is rule 5 an octet at a time.
use mathlib.Core.Path.{◌≡◌, refl, ap, ◌∙◌}
use mathlib.Core.List.{List, [], ◌∷◌, ◌++◌, append_assoc, append-nil}
use mathlib.Core.Bool.{Bool, true, false, true≢false, false≢true, cond}
use Prim.Native.Nat.{ℕ, suc, ◌+◌, ◌≤◌, ◌<◌}
use native.Mathlib.Omega.{arith}
use lib.ListN.{length, length-append}
use lib.Dec.{eqb}
use borrow.Author.Tests.{le-leb, lt-leb}
use Rattle.rules.specs.Channel.{Held, nothing, grown, Handed, given, Standing, unfinished, whole, wrong}
use Rattle.rules.specs.Channel.{standing, length_in, Work, out_of_step, holding, settle, sixth, push, feed}
use Rattle.rules.specs.Packets.{Good, bare}
use Rattle.rules.specs.Cutting.{Cut, cut_by, after, header}
use Rattle.rules.proofs.Standing.{Order, up_to, past, order, sixth-here, sixth_else, View, short, more, done, bad, view, not_whole}
use Rattle.rules.proofs.Standing.{not_wrong, not_both, length-said, standing-whole, standing-unfinished}
use Rattle.rules.proofs.Room.{bare-append}

-- ---- arrival numbers do not matter, and what was handed out and counted before stays in front

sixth-more : (held : List ℕ) (m n : ℕ) → sixth held (m + n) ≡ m + sixth held n
sixth-more held m n = go (eqb (length held) 5)
  where
    go : (b : Bool) → cond b (suc (m + n)) (m + n) ≡ m + cond b (suc n) n
    go true = omega arith
    go false = refl

settled : (a b : ℕ) (st : Standing) (h k : Held) (ps rs : List Handed) (i j : ℕ) (qs : List (List ℕ)) (m : ℕ) → h.octets ≡ k.octets
    → bare ps ≡ qs ++ bare rs → i ≡ m + j → cut_by (settle a st h ps i) ≡ after qs m (cut_by (settle b st k rs j))
settled a b unfinished h k ps rs i j qs m e p n = rw (e, p, n)
settled a b wrong h k ps rs i j qs m e p n = rw (p, n)
settled a b whole h k ps rs i j qs m e p n =
    rw (bare-append ps (given a h ∷ []), bare-append rs (given b k ∷ []), p, append_assoc, e, n)

pushed : (a b : ℕ) (s t : Bool) (h k : Held) (ps rs : List Handed) (i j : ℕ) (qs : List (List ℕ)) (m x : ℕ) → s ≡ t → h.octets ≡ k.octets
    → bare ps ≡ qs ++ bare rs → i ≡ m + j
    → cut_by (push a (record { in_step = s; held = h; packets = ps; headers = i }) x)
    ≡ after qs m (cut_by (push b (record { in_step = t; held = k; packets = rs; headers = j }) x))
unfolding push
pushed a b false false h k ps rs i j qs m x u e p n = rw (e, p, n)
pushed a b true true h k ps rs i j qs m x u e p n =
    ap (λ (l : List ℕ). cut_by (settle a (standing (l ++ x ∷ [])) (grown a h x) ps (sixth l i))) e
    ∙ settled a b (standing (k.octets ++ x ∷ [])) (grown a h x) (grown b k x) ps rs (sixth k.octets i) (sixth k.octets j) qs m
    (rw e) p
    (ap (sixth k.octets) n ∙ sixth-more k.octets m j)
pushed a b true false h k ps rs i j qs m x u e p n = absurd (true≢false u)
pushed a b false true h k ps rs i j qs m x u e p n = absurd (false≢true u)

pub fed : (a b : ℕ) (xs : List ℕ) (w v : Work) (qs : List (List ℕ)) (m : ℕ) → cut_by w ≡ after qs m (cut_by v)
    → cut_by (feed a w xs) ≡ after qs m (cut_by (feed b v xs))
fed a b [] w v qs m e = e
fed a b (x ∷ xs) w v qs m e =
    fed a b xs (push a w x) (push b v x) qs m
    (pushed a b w.in_step v.in_step w.held v.held w.packets v.packets w.headers v.headers qs m x
    (ap (λ (c : Cut). c.in_step) e) (ap (λ (c : Cut). c.held) e) (ap (λ (c : Cut). c.packets) e) (ap (λ (c : Cut). c.headers) e))

pub feed-append : (a : ℕ) (w : Work) (xs ys : List ℕ) → feed a w (xs ++ ys) ≡ feed a (feed a w xs) ys
feed-append a w [] ys = refl
feed-append a w (x ∷ xs) ys = feed-append a (push a w x) xs ys

pub feed-out : (a : ℕ) (ps : List Handed) (n : ℕ) (xs : List ℕ) → feed a (out_of_step ps n) xs ≡ out_of_step ps n
unfolding push
feed-out a ps n [] = refl
feed-out a ps n (x ∷ xs) = feed-out a ps n xs

-- ---- one octet more

module _ (a : ℕ) (h : Held) (ps : List Handed) (n x : ℕ) where
  pub push-on : standing (h.octets ++ x ∷ []) ≡ unfinished → push a (holding h ps n) x ≡ holding (grown a h x) ps (sixth h.octets n)
  unfolding push
  push-on e = rw e

  pub push-done : standing (h.octets ++ x ∷ []) ≡ whole
      → push a (holding h ps n) x ≡ holding nothing (ps ++ given a (grown a h x) ∷ []) (sixth h.octets n)
  unfolding push
  push-done e = rw e

  pub push-bad : standing (h.octets ++ x ∷ []) ≡ wrong → push a (holding h ps n) x ≡ out_of_step ps (sixth h.octets n)
  unfolding push
  push-bad e = rw e

-- the headers before and after an octet
pub header_less : (n : ℕ) → n < 6 → header n ≡ 0
header_less n l = rw (lt-leb 6 n l)

pub header-more : (n : ℕ) → 6 ≤ n → header n ≡ 1
header-more n l = rw (le-leb 6 n l)

-- an octet more, of a packet that goes on
header-on : (s : List ℕ) (x n : ℕ) → header (length s) + sixth s n ≡ n + header (length (s ++ x ∷ []))
header-on s x n = go (order 6 (length s)) (order 5 (length s))
  where
    len : length (s ++ x ∷ []) ≡ length s + 1
    len = length-append s (x ∷ [])

    go : Order 6 (length s) → Order 5 (length s) → header (length s) + sixth s n ≡ n + header (length (s ++ x ∷ []))
    go (up_to l t) o =
        omega (arith, header-more (length s) l, sixth_else s n (λ e. omega arith), header-more (length (s ++ x ∷ [])) (omega (arith, len)))
    go (past l t) (up_to k u) =
        omega (arith, header_less (length s) l, sixth-here s n (omega arith), header-more (length (s ++ x ∷ [])) (omega (arith, len)))
    go (past l t) (past k u) =
        omega (arith, header_less (length s) l, sixth_else s n (λ e. omega arith), header_less (length (s ++ x ∷ [])) (omega (arith, len)))

-- what begins an unfinished packet is unfinished
unfinished-front : (h r : List ℕ) → standing (h ++ r) ≡ unfinished → standing h ≡ unfinished
unfinished-front h r u = go (view h) (view (h ++ r))
  where
    len : length (h ++ r) ≡ length h + length r
    len = length-append h r

    go : View h → View (h ++ r) → standing h ≡ unfinished
    go (short a e) v = e
    go (more a b c d e) v = e
    go (done a b c d e) (short a' e') = absurd (omega (arith, len))
    go (done a b c d e) (more a' b' c' d' e') = absurd (omega (arith, len, length-said h r (h ++ r) refl a))
    go (done a b c d e) (done a' b' c' d' e') = not_whole u e'
    go (done a b c d e) (bad a' n' e') = not_wrong u e'
    go (bad a n e) (short a' e') = absurd (omega (arith, len))
    go (bad a n e) (more a' b' c' d' e') =
        let same : length_in h ≡ length_in (h ++ r) = length-said h r (h ++ r) refl a in
        absurd (n (omega arith) (omega arith))
    go (bad a n e) (done a' b' c' d' e') = not_whole u e'
    go (bad a n e) (bad a' n' e') = not_wrong u e'

-- and six octets of a wrong one are wrong
wrong-front : (h r : List ℕ) → 6 ≤ length h → standing (h ++ r) ≡ wrong → standing h ≡ wrong
wrong-front h r k w = go (view h) (view (h ++ r))
  where
    same : length_in h ≡ length_in (h ++ r)
    same = length-said h r (h ++ r) refl k

    go : View h → View (h ++ r) → standing h ≡ wrong
    go v (short a e) = not_wrong e w
    go v (more a b c d e) = not_wrong e w
    go v (done a b c d e) = not_both w e
    go (short a e) (bad a' n e') = absurd (omega arith)
    go (more a b c d e) (bad a' n e') = absurd (n (omega (arith, same)) (omega (arith, same)))
    go (done a b c d e) (bad a' n e') = absurd (n (omega (arith, same)) (omega (arith, same)))
    go (bad a m e) (bad a' n e') = e

wrong_size : (s : List ℕ) → standing s ≡ wrong → 6 ≤ length s
wrong_size s w = go (view s)
  where
    go : View s → 6 ≤ length s
    go (short a e) = not_wrong e w
    go (more a b c d e) = not_wrong e w
    go (done a b c d e) = not_both w e
    go (bad a n e) = a

pub record Whole (s : List ℕ) : Type 0 where
  pub six : 6 ≤ length s
  pub least : 16 ≤ length_in s
  pub greatest : length_in s ≤ 251
  pub there : length_in s ≤ length s

pub whole-size : (s : List ℕ) → standing s ≡ whole → Whole s
whole-size s w = go (view s)
  where
    go : View s → Whole s
    go (short a e) = not_whole e w
    go (more a b c d e) = not_whole e w
    go (done a b c d e) = record { six = a; least = b; greatest = c; there = d }
    go (bad a n e) = not_both e w

-- an unfinished packet is held
pub feed_grow : (a : ℕ) (h : Held) (r : List ℕ) (ps : List Handed) (n m : ℕ) → standing (h.octets ++ r) ≡ unfinished
    → header (length h.octets) + m ≡ n + header (length (h.octets ++ r))
    → cut_by (feed a (holding h ps n) r) ≡ record { in_step = true; held = h.octets ++ r; packets = bare ps; headers = m }
feed_grow a h [] ps n m u c =
    let same : n ≡ m = omega (arith, c, ap (λ (l : List ℕ). header (length l)) (append-nil h.octets)) in
    rw (append-nil, same)
feed_grow a h (x ∷ r) ps n m u c =
    let e : (h.octets ++ x ∷ []) ++ r ≡ h.octets ++ x ∷ r = append_assoc h.octets (x ∷ []) r in
    let v : standing ((h.octets ++ x ∷ []) ++ r) ≡ unfinished = rw e u in
    ap (λ (w : Work). cut_by (feed a w r)) (push-on a h ps n x (unfinished-front (h.octets ++ x ∷ []) r v))
    ∙ feed_grow a (grown a h x) r ps (sixth h.octets n) m v
    (omega (arith, c, ap (λ (l : List ℕ). header (length l)) e, header-on h.octets x n))
    ∙ rw e

-- a wrong length drops the rest
wrong_case : (a : ℕ) (h : Held) (x : ℕ) (r : List ℕ) (ps : List Handed) (n m : ℕ) → standing ((h.octets ++ x ∷ []) ++ r) ≡ wrong
    → header (length h.octets) + m ≡ n + 1 → (st : Standing) → standing (h.octets ++ x ∷ []) ≡ st
    → (standing (h.octets ++ x ∷ []) ≡ unfinished → feed a (holding (grown a h x) ps (sixth h.octets n)) r ≡ out_of_step ps m)
    → feed a (push a (holding h ps n) x) r ≡ out_of_step ps m
wrong_case a h x r ps n m v c unfinished q rec = rw (push-on a h ps n x q) (rec q)
wrong_case a h x r ps n m v c wrong q rec =
    let same : sixth h.octets n ≡ m =
    omega (arith, c, header-on h.octets x n, header-more (length (h.octets ++ x ∷ [])) (wrong_size (h.octets ++ x ∷ []) q)) in
    rw (push-bad a h ps n x q, same) (feed-out a ps m r)
wrong_case a h x r ps n m v c whole q rec = not_both (wrong-front (h.octets ++ x ∷ []) r (whole-size (h.octets ++ x ∷ []) q).six v) q

pub feed-wrong : (a : ℕ) (h : Held) (r : List ℕ) (ps : List Handed) (n m : ℕ) → standing h.octets ≡ unfinished → standing
    (h.octets ++ r) ≡ wrong
    → header (length h.octets) + m ≡ n + 1 → feed a (holding h ps n) r ≡ out_of_step ps m
feed-wrong a h [] ps n m u w c = not_wrong u (rw (← append-nil h.octets) w)
feed-wrong a h (x ∷ r) ps n m u w c =
    let v : standing ((h.octets ++ x ∷ []) ++ r) ≡ wrong = rw append_assoc w in
    wrong_case a h x r ps n m v c (standing (h.octets ++ x ∷ [])) refl
    (λ q. feed-wrong a (grown a h x) r ps (sixth h.octets n) m q v (carried q))
  where
    carried : standing (h.octets ++ x ∷ []) ≡ unfinished → header (length (h.octets ++ x ∷ [])) + m ≡ sixth h.octets n + 1
    carried q = omega (arith, c, header-on h.octets x n)

-- a whole packet is handed out
pub feed-whole : (a : ℕ) (h : Held) (x : ℕ) (r : List ℕ) (ps : List Handed) (n m : ℕ) → Good (h.octets ++ x ∷ r) → header
    (length h.octets) + m ≡ n + 1
    → cut_by (feed a (holding h ps n) (x ∷ r)) ≡ record
    { in_step = true; held = []; packets = bare ps ++ (h.octets ++ x ∷ r) ∷ []; headers = m }
feed-whole a h x [] ps n m g c =
    let same : sixth h.octets n ≡ m =
    omega (arith, c, header-on h.octets x n, header-more (length (h.octets ++ x ∷ [])) (omega (arith, g.least))) in
    ap cut_by (push-done a h ps n x (standing-whole (h.octets ++ x ∷ []) [] (h.octets ++ x ∷ [])
    (append-nil (h.octets ++ x ∷ [])) g refl))
    ∙ rw (bare-append ps (given a (grown a h x) ∷ []), same)
feed-whole a h x (y ∷ r) ps n m g c =
    let e : (h.octets ++ x ∷ []) ++ y ∷ r ≡ h.octets ++ x ∷ y ∷ r = append_assoc h.octets (x ∷ []) (y ∷ r) in
    let g' : Good ((h.octets ++ x ∷ []) ++ y ∷ r) = rw e g in
    ap (λ (w : Work). cut_by (feed a w (y ∷ r)))
    (push-on a h ps n x (standing-unfinished (h.octets ++ x ∷ []) (y ∷ r) (h.octets ++ x ∷ y ∷ r) e g (omega arith)))
    ∙ feed-whole a (grown a h x) y r ps (sixth h.octets n) m g' (omega (arith, c, header-on h.octets x n))
    ∙ rw e
