-- Room for what a step hands out: how many packets and headers so many octets can hold.
use mathlib.Core.Path.{◌≡◌, refl, sym, ap, ◌∙◌}
use mathlib.Core.List.{List, [], ◌∷◌, ◌++◌, append_assoc}
use mathlib.Core.Bool.{Bool, true, false, ◌&&◌, cond}
use Prim.Native.Nat.{ℕ, zero, suc, ◌+◌, ◌*◌, ◌≤◌}
use native.Mathlib.Omega.{arith}
use native.Mathlib.Nat.{add-zero}
use lib.ListN.{length, drop, length-append, length-drop}
use lib.Dec.{ltb, leb, eqb}
use Rattle.counts.specs.Lost.{lost_since, number}
use Rattle.rules.specs.Channel.{Held, nothing, grown, Handed, given, Standing, unfinished, whole, wrong, standing}
use Rattle.rules.specs.Channel.{Work, holding, settle, sixth, push, feed, fits, dropped, enter, follow, after_loss, step}
use Rattle.rules.specs.Packets.{Good, AllGood, joined, bare}
use Rattle.rules.specs.Bounds.{Sound, StepBounded}
use Rattle.rules.proofs.Standing.{empty-unfinished, whole-good}
use Rattle.rules.proofs.Bounds.{sound-standing, sound-held, spare, spare_most, credit_on, credit_done}

-- ---- room: m octets fed to a channel that held k, with headers and credit c

-- a packet begun here takes 16 octets at least; the first one handed out may have been held but for its last
abbrev Few : ℕ → List (List ℕ) → List ℕ → Type 0
Few m [] h = Unit {0}
Few m (p ∷ ps) h = 16 * length (p ∷ ps) + length h ≤ 15 + m

record Room (k m c : ℕ) (w : Work) : Type 0 where
  sound : Sound w.in_step w.held.octets
  good : AllGood (bare w.packets)
  octets : length (joined (bare w.packets)) + length w.held.octets ≤ k + m
  few : Few m (bare w.packets) w.held.octets
  headers : 16 * w.headers + spare w.in_step w.held.octets ≤ c + m

pub bare-append : (ps qs : List Handed) → bare (ps ++ qs) ≡ bare ps ++ bare qs
bare-append [] qs = refl
bare-append (p ∷ ps) qs = rw (bare-append ps qs)

pub joined-append : (ps qs : List (List ℕ)) → joined (ps ++ qs) ≡ joined ps ++ joined qs
joined-append [] qs = refl
joined-append (p ∷ ps) qs = ap (λ (l : List ℕ). p ++ l) (joined-append ps qs) ∙ sym (append_assoc p (joined ps) (joined qs))

good-append : (ps : List (List ℕ)) (q : List ℕ) → AllGood ps → Good q → AllGood (ps ++ q ∷ [])
good-append [] q g h = (h, tt)
good-append (p ∷ ps) q g h = (g.0, good-append ps q g.1 h)

few-more : (m : ℕ) (ps : List (List ℕ)) (h : List ℕ) (x : ℕ) → Few m ps h → Few (suc m) ps (h ++ x ∷ [])
few-more m [] h x f = tt
few-more m (p ∷ ps) h x f = omega (arith, length-append h (x ∷ []))

few_less : (m : ℕ) (ps : List (List ℕ)) (h : List ℕ) → Few m ps h → Few (suc m) ps []
few_less m [] h f = tt
few_less m (p ∷ ps) h f = omega arith

few-done : (m : ℕ) (ps : List (List ℕ)) (h : List ℕ) (x : ℕ) (q : List ℕ) → Good (h ++ x ∷ []) → Few m ps h → Few (suc m) (ps ++ q ∷ []) []
few-done m [] h x q g f = omega arith
few-done m (p ∷ ps) h x q g f =
    omega (arith, length-append h (x ∷ []), g.least, length-append ps (q ∷ []))

push-room : (a k m c : ℕ) (b : Bool) (h : Held) (ps : List Handed) (n x : ℕ) → Room k m c
    (record { in_step = b; held = h; packets = ps; headers = n })
    → Room k (suc m) c (push a (record { in_step = b; held = h; packets = ps; headers = n }) x)
unfolding push
push-room a k m c false h ps n x r = record {
  sound = r.sound;
  good = r.good;
  octets = omega (arith, r.octets);
  few = rw r.sound (few_less m (bare ps) h.octets r.few);
  headers = omega (arith, r.headers);
}
push-room a k m c true h ps n x r = go (standing (h.octets ++ x ∷ [])) refl
  where
    len : length (h.octets ++ x ∷ []) ≡ length h.octets + 1
    len = length-append h.octets (x ∷ [])

    go : (st : Standing) → standing (h.octets ++ x ∷ []) ≡ st → Room k (suc m) c (settle a st (grown a h x) ps (sixth h.octets n))
    go unfinished e = record {
      sound = e;
      good = r.good;
      octets = omega (arith, len, r.octets);
      few = few-more m (bare ps) h.octets x r.few;
      headers = omega (arith, r.headers, credit_on h.octets x n);
    }
    go wrong e = record {
      sound = refl;
      good = r.good;
      octets = omega (arith, r.octets);
      few = few_less m (bare ps) h.octets r.few;
      headers = omega (arith, r.headers, credit_on h.octets x n);
    }
    go whole e =
        let q : List ℕ = h.octets ++ x ∷ [] in
        let g : Good q = whole-good h.octets x r.sound e in
        let all : bare (ps ++ given a (grown a h x) ∷ []) ≡ bare ps ++ q ∷ [] = bare-append ps (given a (grown a h x) ∷ []) in
        record {
          sound = empty-unfinished;
          good = rw all (good-append (bare ps) q r.good g);
          octets = rw all (omega (
            arith,
            ap length (joined-append (bare ps) (q ∷ [])),
            length-append (joined (bare ps)) (q ++ []),
            length-append q [],
            len,
            r.octets,
          ));
          few = rw all (few-done m (bare ps) h.octets x q g r.few);
          headers = omega (arith, r.headers, credit_done h.octets x n g);
        }

feed-room : (a k m c : ℕ) (w : Work) (xs : List ℕ) → Room k m c w → Room k (m + length xs) c (feed a w xs)
feed-room a k m c w [] r = rw add-zero r
feed-room a k m c w (x ∷ xs) r =
    let move : m + suc (length xs) ≡ suc m + length xs = omega arith in
    rw move (feed-room a k (suc m) c (push a w x) xs (push-room a k m c w.in_step w.held w.packets w.headers x r))

few_weaken : (m m' : ℕ) (ps : List (List ℕ)) (h : List ℕ) → m ≤ m' → Few m ps h → Few m' ps h
few_weaken m m' [] h l f = tt
few_weaken m m' (p ∷ ps) h l f = omega arith

weaken : (k m c k' m' c' : ℕ) (w : Work) → k ≤ k' → m ≤ m' → c ≤ c' → Room k m c w → Room k' m' c' w
weaken k m c k' m' c' w a b d r = record {
  sound = r.sound;
  good = r.good;
  octets = omega (arith, r.octets);
  few = few_weaken m m' (bare w.packets) w.held.octets b r.few;
  headers = omega (arith, r.headers);
}

either : (k m c : ℕ) (b : Bool) (x y : Work) → Room k m c x → Room k m c y → Room k m c (cond b x y)
either k m c true x y r t = r
either k m c false x y r t = t

fed_room : (a k m n : ℕ) (h : Held) (xs : List ℕ) → standing h.octets ≡ unfinished → length h.octets ≤ k → length xs ≤ m
    → Room k m (16 * n + 15) (feed a (holding h [] n) xs)
fed_room a k m n h xs s p q =
    weaken (length h.octets) (0 + length xs) (16 * n + 15) k m (16 * n + 15) (feed a (holding h [] n) xs) p (omega arith) (omega arith)
    (feed-room a (length h.octets) 0 (16 * n + 15) (holding h [] n) xs
    (record { sound = s; good = tt; octets = omega arith; few = tt; headers = omega (arith, spare_most true h.octets) }))

-- rule 4, with n headers completed before
enter-room : (a k n pointer : ℕ) (xs : List ℕ) → Room k (length xs) (16 * n + 15) (enter a n pointer xs)
unfolding enter
enter-room a k n pointer xs =
    either k (length xs) (16 * n + 15) (eqb pointer 255) _ _
    (record { sound = refl; good = tt; octets = omega arith; few = tt; headers = omega arith })
    (fed_room a k (length xs) n nothing (drop pointer xs) empty-unfinished (omega arith) (omega (arith, length-drop pointer xs)))

-- rule 3 drops at most one
pub dropped-most : (b : Bool) (h xs : List ℕ) → cond b (dropped h xs) 0 ≤ 1
dropped-most b h xs = go b (ltb 0 (length h) && ltb (length h) 6 && leb 6 (length h + length xs))
  where
    go : (b c : Bool) → cond b (cond c 1 0) 0 ≤ 1
    go true true = omega arith
    go true false = omega arith
    go false c = omega arith

follow-room : (a : ℕ) (b : Bool) (h : Held) (pointer : ℕ) (xs : List ℕ) → Sound b h.octets
    → Room (length h.octets) (length xs) 31 (follow a b h pointer xs)
unfolding follow
follow-room a b h pointer xs s =
    let n : ℕ = length h.octets in
    let d : ℕ = cond b (dropped h.octets xs) 0 in
    either n (length xs) 31 (eqb pointer 254) _ _
    (record { sound = s; good = tt; octets = omega arith; few = tt; headers = omega (arith, spare_most b h.octets) })
    (either n (length xs) 31 (b && fits h.octets pointer xs) _ _
    (weaken n (length xs) 15 n (length xs) 31 _ (omega arith) (omega arith) (omega arith)
    (fed_room a n (length xs) 0 h xs (sound-standing b h.octets s) (omega arith) (omega arith)))
    (weaken n (length xs) (16 * d + 15) n (length xs) 31 _ (omega arith) (omega arith) (omega (arith, dropped-most b h.octets xs))
    (enter-room a n d pointer xs)))

loss-room : (a l : ℕ) (b : Bool) (h : Held) (pointer : ℕ) (xs : List ℕ) → Sound b h.octets
    → Room (length h.octets) (length xs) 31 (after_loss a l b h pointer xs)
loss-room a zero b h pointer xs s = follow-room a b h pointer xs s
loss-room a (suc l) b h pointer xs s =
    weaken 0 (length xs) 31 (length h.octets) (length xs) 31 (follow a false nothing pointer xs) (omega arith) (omega arith)
    (omega arith)
    (follow-room a false nothing pointer xs refl)

at_most_16 : (m : ℕ) (ps : List (List ℕ)) (h : List ℕ) → m ≤ 251 → Few m ps h → length ps ≤ 16
at_most_16 m [] h l f = omega arith
at_most_16 m (p ∷ ps) h l f = omega arith

pub step_bounded : StepBounded
unfolding step
step_bounded a c f o l =
    let n : ℕ = number (lost_since c.last f.count) in
    let w : Work = after_loss a n c.in_step c.held f.pointer f.octets in
    let r : Room (length c.held.octets) (length f.octets) 31 w = loss-room a n c.in_step c.held f.pointer f.octets o in
    record {
      sound = r.sound;
      held = omega (arith, sound-held w.in_step w.held.octets r.sound);
      good = r.good;
      packets = omega (arith, at_most_16 (length f.octets) (bare w.packets) w.held.octets l r.few);
      octets = omega (arith, r.octets, sound-held c.in_step c.held.octets o);
      headers = omega (arith, r.headers);
    }

-- where rule 3 drops nothing, one header less: out of step, or the frame goes on from what is held
pub entered-few : (a : ℕ) (h : Held) (pointer : ℕ) (xs : List ℕ) → length xs ≤ 251 → (follow a false h pointer xs).headers ≤ 16
unfolding follow
entered-few a h pointer xs l = go (eqb pointer 254)
  where
    go : (b : Bool) → (cond b (record { in_step = false; held = h; packets = []; headers = 0 }) (enter a 0 pointer xs)).headers ≤ 16
    go true = omega arith
    go false = omega (arith, (enter-room a 0 0 pointer xs).headers)

pub gone_on_few : (a : ℕ) (h : Held) (pointer : ℕ) (xs : List ℕ) → standing h.octets ≡ unfinished → fits h.octets pointer xs ≡ true
    → length xs ≤ 251 → (follow a true h pointer xs).headers ≤ 16
unfolding follow
gone_on_few a h pointer xs u e l = rw e (go (eqb pointer 254))
  where
    go : (b : Bool) → (cond b (record { in_step = true; held = h; packets = []; headers = 0 }) (feed a (holding h [] 0) xs)).headers ≤ 16
    go true = omega arith
    go false = omega (arith, (fed_room a (length h.octets) (length xs) 0 h xs u (omega arith) (omega arith)).headers)
