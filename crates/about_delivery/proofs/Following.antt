-- One channel, before and after a frame of the sender's.
use mathlib.Core.Path.{◌≡◌, refl, ap, ◌∙◌}
use mathlib.Core.List.{List, [], ◌∷◌, ◌++◌}
use mathlib.Core.Option.{some}
use mathlib.Core.Bool.{Bool, true, false, ◌&&◌, and-true, and-false}
use Prim.Native.Nat.{ℕ, suc, ◌≤◌, ◌<◌}
use native.Mathlib.Omega.{arith}
use lib.ListN.{length, get_or, take, drop, replicate}
use lib.Seq.{slice, slice_empty}
use lib.Dec.{eqb}
use borrow.Author.Tests.{ne_eqb}
use Rattle.rules.specs.Channel.{Piece, Held, nothing, cleared, unfinished, standing, Work, feed, holding, out_of_step, follow, enter, fits}
use Rattle.rules.specs.Channel.{pointer_to}
use Rattle.rules.specs.Packets.{AllGood, joined}
use Rattle.rules.specs.Limits.{most_sent}
use Rattle.rules.proofs.Standing.{Order, up_to, past, order, empty-unfinished, standing-unfinished}
use Rattle.rules.proofs.Room.{entered-few, gone_on_few}
use Rattle.sender.proofs.Sending.{rest_after, packets_after}
use Rattle.about_delivery.specs.Link.{Fate, lost, got}
use Rattle.about_delivery.specs.Expected.{is_got, arrival_of, all_got, arrived, nowhere}
use Rattle.about_delivery.proofs.Facts.{got-step, drop_get, drop-lt, fits-between, fits-held, not_raw, pointer_none, pointer-some}
use Rattle.about_delivery.proofs.Walk.{walk}
use Rattle.about_delivery.proofs.Octets.{Begun, begun-some, Taken, takes, Missed, skip_all, missed_all, left, Skipped, skip-to}

module _ (ss : List Fate) where
  -- Before frame k: the begun packet, if any, has lost a frame among those before k
  pub record Gap (k i : ℕ) : Type 0 where
    pub begun : i ≤ k
    pub missed : all_got (slice i k ss) ≡ false

  abbrev pub Lost : ℕ → ℕ → List ℕ → Type 0
  Lost k i [] = Unit {0}
  Lost k i (x ∷ r) = Gap k i

  pub record Out (k : ℕ) (h : Held) (i : ℕ) (r : List ℕ) : Type 0 where
    pub empty : h ≡ nothing
    pub gap : Lost k i r

  -- The channel before frame k, its losses seen at once: in step it holds what is sent of the begun packet, all of whose frames arrived.
  abbrev pub Inv : ℕ → Bool → Held → ℕ → List ℕ → List ℕ → Type 0
  Inv k true h i p r = Begun ss (all_got (slice i k ss) ≡ true) k i h r p
  Inv k false h i p r = Out k h i r

  got_now : (k a i : ℕ) (f : Piece) (t : List Fate) → drop k ss ≡ got a f ∷ t → i ≤ k → arrived ss i k ≡ all_got (slice i k ss)
  got_now k a i f t e l =
      got-step ss i k l (drop-lt ss k (got a f) t e)
      ∙ ap (λ (s : Fate). all_got (slice i k ss) && is_got s) (drop_get ss k (got a f) t e) ∙ and-true (all_got (slice i k ss))

  got-here : (k a : ℕ) (f : Piece) (t : List Fate) → drop k ss ≡ got a f ∷ t → arrived ss k k ≡ true
  got-here k a f t e = got_now k a k f t e (omega arith) ∙ ap all_got (slice_empty k ss)

  pub lost_now : (k i : ℕ) (f : Piece) (t : List Fate) → drop k ss ≡ lost f ∷ t → i ≤ k → arrived ss i k ≡ false
  lost_now k i f t e l =
      got-step ss i k l (drop-lt ss k (lost f) t e)
      ∙ ap (λ (s : Fate). all_got (slice i k ss) && is_got s) (drop_get ss k (lost f) t e) ∙ and-false (all_got (slice i k ss))

  -- the begun packet misses the lost frame k
  pub missed_now : (k i : ℕ) (f : Piece) (t : List Fate) → drop k ss ≡ lost f ∷ t → (b : Bool) (h : Held) (p r : List ℕ) → Inv k b h i p r
      → Missed ss k i r
  missed_now k i f t e b h p [] v = tt
  missed_now k i f t e true h p (x ∷ r) v = record { begun = v.begun; missed = lost_now k i f t e v.begun }
  missed_now k i f t e false h p (x ∷ r) v = record { begun = v.gap.begun; missed = lost_now k i f t e v.gap.begun }

  pub after_missed : (k i : ℕ) (p r : List ℕ) → Missed ss k i r → Inv (suc k) false nothing i p r
  after_missed k i p [] m = record { empty = refl; gap = tt }
  after_missed k i p (x ∷ r) m = record { empty = refl; gap = record { begun = omega (arith, m.begun); missed = m.missed } }

  after-begun : (k i : ℕ) (h : Held) (p r : List ℕ) → Begun ss (arrived ss i k ≡ true) k i h r p → Inv (suc k) true h i p r
  after-begun k i h p [] m = m
  after-begun k i h p (x ∷ r) m =
      record { all = m.all; some = m.some; good = m.good; begun = omega (arith, m.begun); arrives = m.arrives; first = m.first }

  -- as the channel holds it
  pub cleared_inv : (k : ℕ) (b : Bool) (h : Held) (i : ℕ) (p r : List ℕ) → Inv k b h i p r → Inv k b (cleared h) i p r
  cleared_inv k true h i p [] v = ap cleared v
  cleared_inv k true h i p (x ∷ r) v =
      record {
        all = v.all;
        some = v.some;
        good = v.good;
        begun = v.begun;
        arrives = v.arrives;
        first = begun-some 0 h.first
            (length h.octets) v.some ∙ v.first;
      }
  cleared_inv k false h i p r v = record { empty = ap cleared v.empty; gap = v.gap }

  -- a raw frame that arrived changes nothing
  pub after-raw : (k a i : ℕ) (f : Piece) (t : List Fate) → drop k ss ≡ got a f ∷ t → (b : Bool) (h : Held) (p r : List ℕ) → Inv k b h i p r
      → Inv (suc k) b h i p r
  after-raw k a i f t e true h p [] v = v
  after-raw k a i f t e false h p [] v = record { empty = v.empty; gap = tt }
  after-raw k a i f t e true h p (x ∷ r) v =
      record {
        all = v.all;
        some = v.some;
        good = v.good;
        begun = omega (arith, v.begun);
        arrives = got_now k a i f t e v.begun
            ∙ v.arrives;
        first = v.first;
      }
  after-raw k a i f t e false h p (x ∷ r) v =
      record {
        empty = v.empty;
        gap = record
            { begun = omega (arith, v.gap.begun); missed = got_now k a i f t e v.gap.begun ∙ v.gap.missed };
      }

  now_begun : (k a i : ℕ) (f : Piece) (t : List Fate) → drop k ss ≡ got a f ∷ t → (h : Held) (p r : List ℕ) → Inv k true h i p r
      → Begun ss (arrived ss i k ≡ true) k i h r p
  now_begun k a i f t e h p [] v = v
  now_begun k a i f t e h p (x ∷ r) v =
      record {
        all = v.all;
        some = v.some;
        good = v.good;
        begun = v.begun;
        arrives = got_now k a i f t e v.begun
            ∙ v.arrives;
        first = v.first;
      }

  now_missed : (k a i : ℕ) (f : Piece) (t : List Fate) → drop k ss ≡ got a f ∷ t → (h : Held) (p r : List ℕ) → Inv k false h i p r
      → Missed ss k i r
  now_missed k a i f t e h p [] v = tt
  now_missed k a i f t e h p (x ∷ r) v = record { begun = v.gap.begun; missed = got_now k a i f t e v.gap.begun ∙ v.gap.missed }

  -- A frame that arrived and is not raw
  pub record Stepped (k a i : ℕ) (p r : List ℕ) (ps : List (List ℕ)) (n : ℕ) (own : List ℕ) (w : Work) : Type 0 where
    pub start : ℕ
    pub packet : List ℕ
    pub same : walk ss i p r ps (replicate (length (take n (r ++ joined ps))) k ++ own)
        ≡ w.packets ++ walk ss start packet (rest_after n r ps) (packets_after n r ps) own
    pub inv : Inv (suc k) w.in_step w.held start packet (rest_after n r ps)
    pub good : AllGood (packets_after n r ps)
    pub light : w.headers ≤ most_sent

  fits_now : (k i : ℕ) (h : Held) (p r : List ℕ) (ps : List (List ℕ)) (n : ℕ) → Inv k true h i p r
      → fits h.octets (pointer_to (length r) (length (take n (r ++ joined ps)))) (take n (r ++ joined ps)) ≡ true
  fits_now k i h p [] ps n v = rw v (fits-between (take n (joined ps)))
  fits_now k i h p (x ∷ r) ps n v = fits-held h.octets (x ∷ r) p (joined ps) n v.some v.all v.good

  -- what is held begins a packet
  unfinished_now : (k i : ℕ) (h : Held) (p r : List ℕ) → Inv k true h i p r → standing h.octets ≡ unfinished
  unfinished_now k i h p [] v = rw v empty-unfinished
  unfinished_now k i h p (x ∷ r) v = standing-unfinished h.octets (x ∷ r) p v.all v.good (omega arith)

  follow_in : (a : ℕ) (h : Held) (ptr : ℕ) (xs : List ℕ) → eqb ptr 254 ≡ false → fits h.octets ptr xs ≡ true
      → follow a true h ptr xs ≡ feed a (holding h [] 0) xs
  unfolding follow
  follow_in a h ptr xs e f = rw (e, f)

  follow-none : (a ptr : ℕ) (xs : List ℕ) → ptr ≡ 255 → follow a false nothing ptr xs ≡ out_of_step [] 0
  unfolding follow enter
  follow-none a ptr xs e = rw e

  follow-some : (a ptr : ℕ) (xs : List ℕ) → ptr < 254 → follow a false nothing ptr xs ≡ feed a (holding nothing [] 0) (drop ptr xs)
  unfolding follow enter
  follow-some a ptr xs l = rw (ne_eqb ptr 254 (λ e. omega arith), ne_eqb ptr 255 (λ e. omega arith))

  module _ (k a : ℕ) (f : Piece) (t : List Fate) (e : drop k ss ≡ got a f ∷ t) (n : ℕ) (own : List ℕ) where
    arr : arrival_of (get_or ss k nowhere) ≡ a
    arr = ap arrival_of (drop_get ss k (got a f) t e)

    got_in : (h : Held) (p r : List ℕ) (i : ℕ) (ps : List (List ℕ)) → AllGood ps → Inv k true h i p r → length
        (take n (r ++ joined ps)) ≤ 251
        → Stepped k a i p r ps n own (follow a true h (pointer_to (length r) (length (take n (r ++ joined ps)))) (take n (r ++ joined ps)))
    got_in h p r i ps gs v small =
        let xs : List ℕ = take n (r ++ joined ps) in
        let nr : eqb (pointer_to (length r) (length xs)) 254 ≡ false =
        not_raw (length r) (length xs) small in
        let u : Taken ss k a arr own n h r ps [] 0 i p =
        takes ss k a arr own (got-here k a f t e) n h r ps [] 0 i p gs (now_begun k a i f t e h p r v) in
        let w : follow a true h (pointer_to (length r) (length xs)) xs ≡ holding u.held u.out u.headers =
        follow_in a h (pointer_to (length r) (length xs)) xs nr (fits_now k i h p r ps n v) ∙ u.fed in
        rw w (record {
          start = u.start;
          packet = u.packet;
          same = u.same;
          inv = after-begun k u.start u.held u.packet (rest_after n r ps) u.begins;
          good = u.good;
          light = omega (
            arith,
            ap (λ (v : Work). v.headers) w,
            gone_on_few a h (pointer_to (length r) (length xs)) xs
                (unfinished_now k i h p r v) (fits_now k i h p r ps n v) small,
          );
        })

    got-none : (p r : List ℕ) (i : ℕ) (ps : List (List ℕ)) → AllGood ps → Missed ss k i r → length (take n (r ++ joined ps)) ≤ length r
        → Stepped k a i p r ps n own (follow a false nothing (pointer_to (length r) (length (take n (r ++ joined ps))))
        (take n (r ++ joined ps)))
    got-none p r i ps gs m l =
        let xs : List ℕ = take n (r ++ joined ps) in
        let w : follow a false nothing (pointer_to (length r) (length xs)) xs ≡ out_of_step [] 0 =
        follow-none a (pointer_to (length r) (length xs)) xs (pointer_none (length r) (length xs) l) in
        let mg = missed_all ss k own n i r ps gs m l in
        rw w (record {
          start = i;
          packet = p;
          same = skip_all ss k own n i p r ps gs m l;
          inv = after_missed k i p (rest_after n r ps) mg.0;
          good = mg.1;
          light = omega arith;
        })

    got-some : (p r : List ℕ) (i : ℕ) (ps : List (List ℕ)) → AllGood ps → Missed ss k i r → length r < length (take n (r ++ joined ps))
        → length (take n (r ++ joined ps)) ≤ 251
        → Stepped k a i p r ps n own (follow a false nothing (pointer_to (length r) (length (take n (r ++ joined ps))))
        (take n (r ++ joined ps)))
    got-some p r i ps gs m l small =
        let xs : List ℕ = take n (r ++ joined ps) in
        let s : Skipped ss k own n i p r ps = skip-to ss k own n i p r ps m l in
        let u : Taken ss k a arr own (left n r) nothing [] ps [] 0 i p =
        takes ss k a arr own (got-here k a f t e) (left n r) nothing [] ps [] 0 i p gs refl in
        let w : follow a false nothing (pointer_to (length r) (length xs)) xs ≡ holding u.held u.out u.headers =
        ap (λ (q : ℕ). follow a false nothing q xs) (pointer-some (length r) (length xs) l)
        ∙ follow-some a (length r) xs (omega arith)
        ∙ ap (feed a (holding nothing [] 0)) s.dropped ∙ u.fed in
        rw w (record {
          start = u.start;
          packet = u.packet;
          same = rw (s.rest, s.packets) (s.same ∙ u.same);
          inv = rw s.rest (after-begun k u.start u.held u.packet (rest_after (left n r) [] ps) u.begins);
          good = rw s.packets u.good;
          light = omega (arith, ap (λ (v : Work). v.headers) w, entered-few a nothing (pointer_to (length r) (length xs)) xs small);
        })

    got-out : (h : Held) (p r : List ℕ) (i : ℕ) (ps : List (List ℕ)) → AllGood ps → Inv k false h i p r → length
        (take n (r ++ joined ps)) ≤ 251
        → Stepped k a i p r ps n own (follow a false h (pointer_to (length r) (length (take n (r ++ joined ps)))) (take n (r ++ joined ps)))
    got-out h p r i ps gs v small = rw v.empty (go (order (suc (length r)) (length (take n (r ++ joined ps)))))
      where
        go : Order (suc (length r)) (length (take n (r ++ joined ps)))
            → Stepped k a i p r ps n own (follow a false nothing (pointer_to (length r) (length (take n (r ++ joined ps))))
            (take n (r ++ joined ps)))
        go (up_to l q) = got-some p r i ps gs (now_missed k a i f t e h p r v) l small
        go (past l q) = got-none p r i ps gs (now_missed k a i f t e h p r v) (omega arith)

    pub got_any : (b : Bool) (h : Held) (p r : List ℕ) (i : ℕ) (ps : List (List ℕ)) → AllGood ps → Inv k b h i p r → length
        (take n (r ++ joined ps)) ≤ 251
        → Stepped k a i p r ps n own (follow a b h (pointer_to (length r) (length (take n (r ++ joined ps)))) (take n (r ++ joined ps)))
    got_any true h p r i ps gs v small = got_in h p r i ps gs v small
    got_any false h p r i ps gs v small = got-out h p r i ps gs v small
