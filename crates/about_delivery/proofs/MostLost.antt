-- A channel may lose 255 frames between two arrivals.
use mathlib.Core.Path.{◌≡◌, refl, ap}
use mathlib.Core.List.{List, [], ◌∷◌}
use mathlib.Core.Bool.{Bool, true, false, not, ◌&&◌}
use Prim.Native.Nat.{ℕ, zero, suc, ◌+◌, ◌<◌}
use native.Mathlib.Omega.{arith}
use lib.ListN.{length}
use lib.Dec.{eqb, lit≤, lit<}
use borrow.Author.Tests.{not-true, ne_eqb}
use Rattle.octets.proofs.Tests.{and_true_left, and_true_right}
use Rattle.frame.specs.Frame.{pointer_wrong}
use Rattle.frame.specs.Write.{fields_wrong}
use Rattle.rules.specs.Channel.{Piece}
use Rattle.sender.specs.Sender.{Framed, AllWellFormed, Mastered, pieces_of, Stream, Sender}
use Rattle.sender.specs.Stream.{next_count}
use Rattle.about_delivery.specs.Link.{Passing, arrives, loses, noise, fates}
use Rattle.about_delivery.specs.Demand.{Reception}
use Rattle.about_delivery.specs.Corners.{two, many_empty}
use Rattle.about_delivery.specs.MostLost.{alone, pieces, recording, losing, MostLost}
use Rattle.about_delivery.proofs.Corners.{good_16, good_30}
use Rattle.about_delivery.proofs.Recording.{demand_3}
use Rattle.about_delivery.proofs.Masters.{master-loss}
use Rattle.about_delivery.proofs.Witness.{receiving}

-- one test over all frames
abbrev all_right : ℕ → List Framed → Bool
all_right t [] = true
all_right t (f ∷ fs) = not (fields_wrong f.fields t (length f.«data») (length f.time)) && all_right t fs

pub all_right_lem : (t : ℕ) (fs : List Framed) → all_right t fs ≡ true → AllWellFormed t fs
all_right_lem t [] e = tt
all_right_lem t (f ∷ fs) e =
    let wrong : Bool = fields_wrong f.fields t (length f.«data») (length f.time) in
    (not-true wrong (and_true_left (not wrong) (all_right t fs) e), all_right_lem t fs (and_true_right (not wrong) (all_right t fs) e))

well_formed_lem : AllWellFormed 2 recording
unfolding fields_wrong pointer_wrong
well_formed_lem = all_right_lem 2 recording refl

pub alone-masters : (m : ℕ) (ps : List Piece) → Mastered m (alone m ps)
alone-masters m [] = tt
alone-masters m (p ∷ ps) = (refl, alone-masters (next_count m) ps)

pub alone-pieces : (m : ℕ) (ps : List Piece) → pieces_of 0 (alone m ps) ≡ ps
alone-pieces m [] = refl
alone-pieces m (p ∷ ps) = ap (λ (l : List Piece). p ∷ l) (alone-pieces (next_count m) ps)

-- no other channel has a frame
other : (v : ℕ) → eqb 0 (suc v) ≡ false
other v = ne_eqb 0 (suc v) (λ e. omega arith)

pub no_pieces : (v m : ℕ) (ps : List Piece) → pieces_of (suc v) (alone m ps) ≡ []
no_pieces v m [] = refl
no_pieces v m (p ∷ ps) = rw (other v) (no_pieces v (next_count m) ps)

pub no_fates : (v last : ℕ) (link : List Passing) (m : ℕ) (ps : List Piece) → fates (suc v) last link (alone m ps) ≡ []
no_fates v last link m [] = refl
no_fates v last [] m (p ∷ ps) = rw (other v) (no_fates v last [] (next_count m) ps)
no_fates v last (arrives ∷ link) m (p ∷ ps) = rw (other v) (no_fates v (last + 1) link (next_count m) ps)
no_fates v last (loses ∷ link) m (p ∷ ps) = rw (other v) (no_fates v last link (next_count m) ps)
no_fates v last (noise n ∷ link) m (p ∷ ps) = no_fates v (last + 1) link m (p ∷ ps)

abbrev streams : (v : ℕ) → v < 8 → Stream v recording
streams zero l =
    record {
      packets = two;
      good = (good_16, (good_30, tt));
      choices = many_empty 255;
      first = 3;
      small = lit< tt;
      sent = alone-pieces 7
          pieces;
    }
streams (suc v) l = record { packets = []; good = tt; choices = []; first = 0; small = lit< tt; sent = no_pieces v 7 pieces }

abbrev sender : Sender 2 recording
sender = record { well_formed = well_formed_lem; master = 7; small = lit< tt; masters = alone-masters 7 pieces; streams = streams }

abbrev reception : Reception
reception = receiving recording sender losing tt (lit≤ tt)

pub most-lost : MostLost
most-lost = record {
  reception = reception;
  sent = refl;
  lost = refl;
  packets = (demand_3 reception 0 (lit< tt) (lit≤ tt, (lit≤ tt, (lit≤ tt, tt)))).handed_out_lem;
  told = (demand_3 reception 0 (lit< tt) (lit≤ tt, (lit≤ tt, (lit≤ tt, tt)))).losses-told;
  masters = master-loss reception;
}
