-- Rules 1 to 4 by the tests that the code makes.
use Rattle.std.specs.Prelude.{Some, None, unwrap_or}
use Prim.Native.Nat.{ℕ, zero, suc, ◌-◌, ◌≤◌, ◌<◌}
use native.Mathlib.Omega.{arith}
use mathlib.Core.Path.{◌≡◌, refl, sym, ap, ◌∙◌, subst}
use mathlib.Core.Bool.{Bool, true, false, ◌&&◌, cond}
use mathlib.Core.Option as option
use mathlib.Core.List.{List, [], ◌++◌, append-nil}
use lib.ListN.{length, take, drop, length-drop, drop_of_length-le}
use lib.Seq.{take_all}
use lib.Dec.{eqb}
use borrow.Author.Tests.{eq-eqb, ne_eqb}
use Rattle.counts.specs.Loss.{Loss}
use Rattle.counts.specs.Lost.{last_of, lost_since, number}
use Rattle.rules.specs.Channel.{held_of, begun_in, cleared, nothing, Work, out_of_step, holding, feed, fits, dropped, enter, follow, after_loss}
use Rattle.rules.specs.Channel.{step}
use Rattle.rules.specs.Bounds.{Sound}
use Rattle.rules.specs.Packets.{bare}
use Rattle.rules.specs.Cutting.{Cut}
use Rattle.rules.proofs.Standing.{empty-unfinished}
use Rattle.rules.proofs.Bounds.{sound-standing, sound-held, passing-sound}
use Rattle.rules.proofs.Room.{dropped-most, step_bounded}
use Rattle.rules.proofs.Cuts.{cuts_on}
use Rattle.session.specs.Channel.{view, channel_of, stored, channel_unsound}
use Rattle.session.specs.Lent.{Lent, laid}
use Rattle.session.specs.Asked.{Begun, Taken, Followable}
use Rattle.session.specs.Promised.{in_step_if, Takes, Follows, headed, Heeds}
use Rattle.session.specs.declared.Channel.{Channel}
use Rattle.session.specs.declared.channels.Followed.{Followed}
use Rattle.session.specs.declared.channels.Head.{Head}
use Rattle.session.proofs.Keeping.{to_end}
use Rattle.session.proofs.Soundness.{held-most}

-- ---- rule 1

-- What is left of a frame's work in the channel: with nothing held, whatever number was kept.
abbrev cleared_by : Work → Work
cleared_by w = record { in_step = w.in_step; held = cleared w.held; packets = w.packets; headers = w.headers }

-- after it, the others go on in step or not with the first k of the channel's octets
pub record Carries (c : Channel) (lost k : ℕ) (in_step : Bool) : Type 0 where
  pub within : k ≤ length c.held
  pub sound : Sound in_step (take k c.held)
  pub work : (a pointer : ℕ) (xs : List ℕ)
      → cleared_by (after_loss a lost (view c).in_step (view c).held pointer xs) ≡ cleared_by
      (follow a in_step (held_of c.first (take k c.held)) pointer xs)

-- out of step with nothing held, the number kept is forgotten
forgets : (a first pointer : ℕ) (xs : List ℕ) → cleared_by (follow a false nothing pointer xs) ≡ cleared_by
    (follow a false (held_of first []) pointer xs)
unfolding follow
forgets a first pointer xs = go (eqb pointer 254)
  where
    go : (b : Bool)
        → cleared_by (cond b (record { in_step = false; held = nothing; packets = []; headers = 0 }) (enter a 0 pointer xs))
        ≡ cleared_by (cond b (record { in_step = false; held = held_of first []; packets = []; headers = 0 }) (enter a 0 pointer xs))
    go true = refl
    go false = refl

pub carries-none : (c : Channel) (lost k : ℕ) (in_step : Bool) → 0 < lost → k ≡ 0 → in_step ≡ false → Carries c lost k in_step
carries-none c zero k b l ek eb = absurd (omega arith)
carries-none c (suc n) k b l ek eb =
    subst (λ (m : ℕ). Carries c (suc n) m b) (sym ek)
    (subst (Carries c (suc n) 0) (sym eb)
    (record { within = omega arith; sound = refl; work = λ a pointer xs. forgets a c.first pointer xs }))

pub carries-all : (c : Channel) (lost k : ℕ) (in_step : Bool) → channel_unsound c ≡ false → length c.held ≡ 250 → lost ≤ 0 → k ≡ c.length
    → in_step ≡ c.instep → Carries c lost k in_step
unfolding view
carries-all c (suc n) k b u h l ek eb = absurd (omega arith)
carries-all c zero k b u h l ek eb =
    subst (λ (m : ℕ). Carries c zero m b) (sym ek)
    (subst (Carries c zero c.length) (sym eb)
    (record {
      within = omega (arith, held-most c.instep c.length c.held u);
      sound = passing-sound c.instep c.length c.held u;
      work = λ a pointer xs. refl;
    }))

-- unknown is taken as 0
pub known_number : (n : Loss) → unwrap_or n 0 ≡ number n
known_number None = refl
known_number (Some n) = refl

-- as the step of a channel has it
pub steps : (c : Channel) (lost : Loss) (k : ℕ) (in_step : Bool) → Carries c (number lost) k in_step → (head : Head) (xs : List ℕ)
    (r : Followed)
    (l l' : Lent) → lost ≡ lost_since (last_of c.heard c.last.0) head.count.0
    → Follows head.count.0 (follow head.arrival in_step (held_of c.first (take k c.held)) head.pointer xs) r l l'
    → Heeds (step head.arrival (view c) (headed head xs))
    (record { channel = r.channel; lost = lost; packets = r.packets; headers = r.headers }) l l'
unfolding step view
steps c lost k in_step w head xs r l l' e h =
    let work : cleared_by (follow head.arrival in_step (held_of c.first (take k c.held)) head.pointer xs)
    ≡ cleared_by (after_loss head.arrival (number (lost_since (view c).last head.count.0)) (view c).in_step (view c).held
    head.pointer xs) =
    sym (w.work head.arrival head.pointer xs)
    ∙ ap (λ (n : Loss). cleared_by (after_loss head.arrival (number n) (view c).in_step (view c).held head.pointer xs)) e in
    record {
      channel = h.channel ∙ ap (λ (x : Work). stored (channel_of head.count.0 x.in_step x.held)) work;
      lost = e;
      packets = h.packets ∙ ap (λ (x : Work). length x.packets) work;
      headers = h.headers ∙ ap (λ (x : Work). x.headers) work;
      leaves = h.leaves ∙ ap (λ (x : Work). laid x.packets l) work;
    }

-- ---- rules 2 to 4

-- rule 5 is given the first k of the octets held, begun in frame `from`, the data from at on, and the headers completed in what was
-- dropped; out of step if no packet goes on or starts
pub record Parts (in_step : Bool) (first : ℕ) (held : List ℕ) (a pointer : ℕ) (xs : List ℕ) (l : Lent) (k d from at : ℕ)
    (on : Bool) : Type 0 where
  pub front : k ≤ length held
  pub back : at ≤ length xs
  pub taken : Taken d (take k held) (take (length xs - at) (drop at xs)) l
  pub number : ℕ
  pub begun : from ≡ begun_in a number (length (take k held))
  pub work : follow a in_step (held_of first held) pointer xs
      ≡ in_step_if on (feed a (holding (held_of number (take k held)) [] d) (take (length xs - at) (drop at xs)))

module _ (in_step : Bool) (first : ℕ) (held : List ℕ) (a pointer : ℕ) (xs : List ℕ) where
  abbrev followed : Work
  followed = follow a in_step (held_of first held) pointer xs

  is-raw : pointer ≡ 254 → followed ≡ record { in_step = in_step; held = held_of first held; packets = []; headers = 0 }
  unfolding follow
  is-raw e = simp (eq-eqb _ _ e)

  is-on : (pointer ≡ 254 → ⊥) → (in_step && fits held pointer xs) ≡ true → followed ≡ feed a (holding (held_of first held) [] 0) xs
  unfolding follow
  is-on n e = simp (ne_eqb _ _ n, e)

  -- what rule 3 drops
  abbrev lost : ℕ
  lost = cond in_step (dropped held xs) 0

  is_skipped : (pointer ≡ 254 → ⊥) → (in_step && fits held pointer xs) ≡ false → pointer ≡ 255 → followed ≡ out_of_step [] lost
  unfolding follow enter
  is_skipped n e p = simp (ne_eqb _ _ n, e, eq-eqb _ _ p)

  is-entered : (pointer ≡ 254 → ⊥) → (in_step && fits held pointer xs) ≡ false → (pointer ≡ 255 → ⊥)
      → followed ≡ feed a (holding nothing [] lost) (drop pointer xs)
  unfolding follow enter
  is-entered n e p = simp (ne_eqb _ _ n, e, ne_eqb _ _ p)

  pub follows_raw : (count : ℕ) (l : Lent) (x : Channel) → pointer ≡ 254 → x ≡ stored
      (channel_of count in_step (cleared (held_of first (held ++ []))))
      → Follows count followed (record { channel = x; packets = 0; headers = 0 }) l l
  follows_raw count l x e h =
      subst (λ (w : Work). Follows count w (record { channel = x; packets = 0; headers = 0 }) l l) (sym (is-raw e))
      (record {
        channel = h ∙ ap (λ (o : List ℕ). stored (channel_of count in_step (cleared (held_of first o)))) (append-nil held);
        packets = refl;
        headers = refl;
        leaves = refl;
      })

  -- ---- what the calls ask

  module _ (l : Lent) (f : Followable in_step held pointer xs l) where
    pub to-fit : Begun held xs
    to-fit = record {
      unfinished = sound-standing in_step held f.sound;
      short = sound-held in_step held f.sound;
      few = f.heard.few;
    }

    -- no more packets than a step hands out
    most : length (bare followed.packets) ≤ 16
    unfolding step lost_since
    most =
        (step_bounded a (record { last = option.none; in_step = in_step; held = held_of first held })
        (record { count = 0; pointer = pointer; octets = xs })
        f.sound f.heard.few).packets

    to_take : (on : Bool) (g n : ℕ) (h d : List ℕ) → n ≤ 1 → Begun h d → followed ≡ in_step_if on (feed a (holding (held_of g h) [] n) d)
        → Taken n h d l
    to_take on g n h d o b e = record {
      one = o;
      begun = b;
      most = subst (λ (ps : List (List ℕ)). length ps ≤ 16)
          (ap (λ (w : Work). bare w.packets) e ∙ ap (λ (x : Cut). x.packets) (cuts_on a n (held_of g h) d b.unfinished))
          most;
      room = f.heard.room;
    }

    module _ (k dr from at : ℕ) (on : Bool) (n : pointer ≡ 254 → ⊥) where
      abbrev Given : Type 0
      Given = Parts in_step first held a pointer xs l k dr from at on

      parts : (g : ℕ) (h d : List ℕ) → dr ≤ 1 → take k held ≡ h → drop at xs ≡ d → k ≤ length held → at ≤ length xs → Begun h d
          → from ≡ begun_in a g (length h) → followed ≡ in_step_if on (feed a (holding (held_of g h) [] dr) d) → Given
      parts g h d o eh ed front back b s w =
          let e : take (length xs - at) (drop at xs) ≡ d = to_end xs at ∙ ed in
          record {
            front = front;
            back = back;
            taken = rw (eh, e) (to_take on g dr h d o b w);
            number = g;
            begun = rw eh s;
            work = rw
                (eh, e) w;
          }

      pub parts_all : (in_step && fits held pointer xs) ≡ true → k ≡ length held → dr ≡ 0 → from ≡ begun_in a first (length held) → at ≡ 0
          → on ≡ true
          → Given
      parts_all e ek en ef ea es =
          parts first held xs (omega arith) (take_all k held (omega arith)) (ap (λ (i : ℕ). drop i xs) ea) (omega arith)
          (omega arith) to-fit ef
          (rw (es, en) (is-on n e))

      module _ (e : (in_step && fits held pointer xs) ≡ false) (ek : k ≡ 0) (en : dr ≡ lost) (ef : from ≡ a) where
        -- nothing held
        none : (d : List ℕ) → drop at xs ≡ d → at ≤ length xs → followed ≡ in_step_if on (feed a (holding nothing [] dr) d) → Given
        none d ed back w =
            parts 0 [] d (omega (arith, dropped-most in_step held xs)) (ap (λ (i : ℕ). take i held) ek) ed (omega arith) back
            (record {
              unfinished = empty-unfinished;
              short = omega arith;
              few = omega
                  (arith, length-drop at xs, ap length ed, f.heard.few);
            }) ef w

        pub parts_none : pointer ≡ 255 → at ≡ length xs → on ≡ false → Given
        parts_none p ea es = none [] (drop_of_length-le xs {i = at} (omega arith)) (omega arith) (rw (es, en) (is_skipped n e p))

        pub parts-entered : (pointer ≡ 255 → ⊥) → at ≡ pointer → on ≡ true → Given
        parts-entered p ea es =
            none (drop pointer xs) (ap (λ (i : ℕ). drop i xs) ea) (omega (arith, f.heard.points n p)) (rw (es, en) (is-entered n e p))

-- what rule 5 does is what rules 2 to 5 do
pub follows_taken : (head : Head) (in_step : Bool) (first : ℕ) (held xs : List ℕ) (l l' : Lent) (k d from at : ℕ) (on : Bool) (r : Followed)
    → Parts in_step first held head.arrival head.pointer xs l k d from at on
    → Takes head on d from (take k held) (take (length xs - at) (drop at xs)) r l l'
    → Follows head.count.0 (follow head.arrival in_step (held_of first held) head.pointer xs) r l l'
follows_taken head in_step first held xs l l' k d from at on r p t =
    subst (λ (w : Work). Follows head.count.0 w r l l') (sym p.work) (t p.number p.begun)
