-- The theorem for one channel.
use mathlib.Core.Path.{◌≡◌, refl, sym, ap, ◌∙◌}
use mathlib.Core.List.{List, [], ◌∷◌, ◌++◌, map}
use mathlib.Core.Option.{Option, none, some}
use mathlib.Core.Bool.{Bool, false}
use Prim.Native.Nat.{ℕ, suc, ◌≤◌, ◌<◌}
use native.Mathlib.Omega.{arith}
use lib.ListN.{length, take, drop}
use Rattle.rules.specs.Channel.{Piece, Held, nothing, cleared, Handed, Work, follow, pointer_to, fresh}
use Rattle.rules.specs.Packets.{AllGood, joined}
use Rattle.sender.specs.Stream.{Choice, raw, next, next_count, frames_by}
use Rattle.sender.proofs.Sending.{frames-cut, rest_after, packets_after, next_piece, cut_into}
use Rattle.about_delivery.specs.Link.{Fate, lost, got}
use Rattle.about_delivery.specs.Expected.{piece, owners, expected_losses, AtMost, most_lost, one_more}
use Rattle.about_delivery.specs.Delivered.{Report, Delivered, handed, losses}
use Rattle.about_delivery.specs.Channels.{offered, run}
use Rattle.about_delivery.specs.Further.{EachFew}
use Rattle.about_delivery.proofs.Facts.{nil-cons, drop_suc, carries-next}
use Rattle.about_delivery.proofs.Counts.{eager, eager_losses, Counted, counts}
use Rattle.about_delivery.proofs.Walk.{walk, expected-none}
use Rattle.about_delivery.proofs.Following.{Inv, cleared_inv, Stepped, lost_now, missed_now, after_missed, after-raw, got_any}
use Rattle.about_delivery.proofs.Octets.{Gone, gone}

-- no frame has more than 251 octets of data
abbrev pub AllShort : List Piece → Type 0
AllShort [] = Unit {0}
AllShort (f ∷ fs) = (length f.octets ≤ 251) × AllShort fs

-- what is said, and that no frame completes more than 16 headers
record Walked (reports : List Report) (walked : List Handed) : Type 0 where
  packets : handed reports ≡ walked
  light : EachFew reports

module _ (ss : List Fate) where
  follow-raw : (a : ℕ) (b : Bool) (h : Held) (xs : List ℕ) → follow a b h 254 xs ≡ record
      { in_step = b; held = h; packets = []; headers = 0 }
  unfolding follow
  follow-raw a b h xs = refl

  walk_none : (i : ℕ) (p r : List ℕ) (ps : List (List ℕ)) → AllGood ps → walk ss i p r ps [] ≡ []
  walk_none i p [] ps gs = expected-none ss ps gs
  walk_none i p (x ∷ r) ps gs = refl

  main : (t : List Fate) (cs : List Choice) (c k : ℕ) (o : Option ℕ) (b : Bool) (h : Held) (i : ℕ) (p r : List ℕ) (ps : List (List ℕ))
      → drop k ss ≡ t → map piece t ≡ cut_into c r ps cs → AllGood ps → AllShort (map piece t) → Inv ss k b h i p r
      → Walked (eager o b h t) (walk ss i p r ps (owners k t))
  main [] cs c k o b h i p r ps d e gs sz v = record { packets = sym (walk_none i p r ps gs); light = tt }
  main (s ∷ t) [] c k o b h i p r ps d e gs sz v = absurd (nil-cons (sym e))
  main (lost f ∷ t) (raw xs ∷ cs) c k o b h i p r ps d e gs sz v =
      let here : f ≡ record { count = c; pointer = 254; octets = xs } = cc in
      let rest : map piece t ≡ cut_into (next_count c) r ps cs = cc in
      rw here (main t cs (next_count c) (suc k) (one_more o) false nothing i p r ps (drop_suc ss k (lost f) t d) rest gs sz.1
      (after_missed ss k i p r (missed_now ss k i f t d b h p r v)))
  main (lost f ∷ t) (next n ∷ cs) c k o b h i p r ps d e gs sz v =
      let here : f ≡ next_piece c r ps n = cc in
      let rest : map piece t ≡ cut_into (next_count c) (rest_after n r ps) (packets_after n r ps) cs = cc in
      let small : length (take n (r ++ joined ps)) ≤ 251 = omega (arith, sz.0, ap (λ (g : Piece). length g.octets) here) in
      let g : Gone ss k (owners (suc k) t) n i p r ps =
      gone ss k (owners (suc k) t) (lost_now ss k k f t d (omega arith)) n i p r ps gs (missed_now ss k i f t d b h p r v) in
      rw (here, carries-next c r ps n small, g.same)
      (main t cs (next_count c) (suc k) (one_more o) false nothing g.start g.packet (rest_after n r ps) (packets_after n r ps)
      (drop_suc ss k (lost f) t d) rest g.good sz.1 (after_missed ss k g.start g.packet (rest_after n r ps) g.missed))
  main (got a f ∷ t) (raw xs ∷ cs) c k o b h i p r ps d e gs sz v =
      let here : f ≡ record { count = c; pointer = 254; octets = xs } = cc in
      let rest : map piece t ≡ cut_into (next_count c) r ps cs = cc in
      let m : Walked (eager (some 0) b (cleared h) t) (walk ss i p r ps (owners (suc k) t)) =
      main t cs (next_count c) (suc k) (some 0) b (cleared h) i p r ps (drop_suc ss k (got a f) t d) rest gs sz.1
      (cleared_inv ss (suc k) b h i p r (after-raw ss k a i f t d b h p r v)) in
      rw (here, follow-raw a b h xs) (record { packets = m.packets; light = (omega arith, m.light) })
  main (got a f ∷ t) (next n ∷ cs) c k o b h i p r ps d e gs sz v =
      let here : f ≡ next_piece c r ps n = cc in
      let rest : map piece t ≡ cut_into (next_count c) (rest_after n r ps) (packets_after n r ps) cs = cc in
      let small : length (take n (r ++ joined ps)) ≤ 251 = omega (arith, sz.0, ap (λ (g : Piece). length g.octets) here) in
      let w : Work = follow a b h (pointer_to (length r) (length (take n (r ++ joined ps)))) (take n (r ++ joined ps)) in
      let g : Stepped ss k a i p r ps n (owners (suc k) t) w = got_any ss k a f t d n (owners (suc k) t) b h p r i ps gs v small in
      let m : Walked (eager (some 0) w.in_step (cleared w.held) t)
      (walk ss g.start g.packet (rest_after n r ps) (packets_after n r ps) (owners (suc k) t)) =
      main t cs (next_count c) (suc k) (some 0) w.in_step (cleared w.held) g.start g.packet (rest_after n r ps)
      (packets_after n r ps)
      (drop_suc ss k (got a f) t d) rest g.good sz.1
      (cleared_inv ss (suc k) w.in_step w.held g.start g.packet (rest_after n r ps) g.inv) in
      rw (here, carries-next c r ps n small, g.same)
      (record { packets = ap (λ (l : List Handed). w.packets ++ l) m.packets; light = (g.light, m.light) })

counted : (t : List Fate) (cs : List Choice) (c : ℕ) (r : List ℕ) (ps : List (List ℕ)) → map piece t ≡ cut_into c r ps cs → Counted c t
counted [] cs c r ps e = tt
counted (s ∷ t) [] c r ps e = absurd (nil-cons (sym e))
counted (s ∷ t) (raw xs ∷ cs) c r ps e =
    let here : piece s ≡ record { count = c; pointer = 254; octets = xs } = cc in
    let rest : map piece t ≡ cut_into (next_count c) r ps cs = cc in
    (ap (λ (f : Piece). f.count) here, counted t cs (next_count c) r ps rest)
counted (s ∷ t) (next n ∷ cs) c r ps e =
    let here : piece s ≡ next_piece c r ps n = cc in
    let rest : map piece t ≡ cut_into (next_count c) (rest_after n r ps) (packets_after n r ps) cs = cc in
    (ap (λ (f : Piece). f.count) here, counted t cs (next_count c) (rest_after n r ps) (packets_after n r ps) rest)

-- Demand 3 on one channel: packets ps, cut into frames by the choices cs from the count c on, each frame lost or offered under an
-- arrival number, at most 255 lost between two arrivals.
pub delivery : (ps : List (List ℕ)) (cs : List Choice) (c : ℕ) (ss : List Fate)
    → AllGood ps → c < 256 → map piece ss ≡ frames_by ps 0 c cs → AllShort (map piece ss) → AtMost most_lost (expected_losses ss)
    → Delivered ps ss (run fresh (offered ss))
delivery ps cs c ss gs hc e sz m =
    let e' : map piece ss ≡ cut_into c [] ps cs = e ∙ frames-cut ps cs 0 c [] ps gs refl refl in
    let seen = counts ss c hc (counted ss cs c [] ps e') m in
    record {
      handed_out_lem =
          ap handed seen ∙ (main ss ss cs c 0 none false nothing 0 [] [] ps refl e' gs sz (record { empty = refl; gap = tt })).packets;
      losses-told = ap losses seen ∙ eager_losses none false nothing ss;
    }

-- the headers of the same channel
pub few-headers : (ps : List (List ℕ)) (cs : List Choice) (c : ℕ) (ss : List Fate)
    → AllGood ps → c < 256 → map piece ss ≡ frames_by ps 0 c cs → AllShort (map piece ss) → AtMost most_lost (expected_losses ss)
    → EachFew (run fresh (offered ss))
few-headers ps cs c ss gs hc e sz m =
    let e' : map piece ss ≡ cut_into c [] ps cs = e ∙ frames-cut ps cs 0 c [] ps gs refl refl in
    rw (counts ss c hc (counted ss cs c [] ps e') m)
    (main ss ss cs c 0 none false nothing 0 [] [] ps refl e' gs sz (record { empty = refl; gap = tt })).light
