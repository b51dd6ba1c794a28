-- Each sham fails, by computing.
use mathlib.Core.Path.{◌≡◌, refl, ap}
use mathlib.Core.List.{List, [], ◌∷◌}
use Prim.Native.Nat.{ℕ}
use native.Mathlib.Omega.{arith}
use lib.ListN.{length, get_or}
use lib.Dec.{lit≤, lit<}
use Rattle.counts.specs.Lost.{lost_since, number}
use Rattle.rules.specs.Channel.{Handed, standing, push, place_after, length_holds, enter, follow, step}
use Rattle.rules.specs.Packets.{AllGood}
use Rattle.rules.specs.BothSides.{out}
use Rattle.sender.specs.Stream.{raw, next}
use Rattle.about_delivery.specs.Expected.{LostAt}
use Rattle.about_delivery.specs.Corners.{two, at_first, gap, split, raws}
use Rattle.about_delivery.specs.Shams.{Within, plain, parted, Shams}
use Rattle.about_delivery.proofs.Corners.{good_16, good_30}

-- what tells two lists apart: how many, the first's length, an arrival number of one
abbrev second : List Handed → Handed
second ps = get_or ps 1 (out 0 0 [])

second-lost : {ls ms : List LostAt} → ls ≡ ms → number (get_or ls 1 (at_first 0)).lost ≡ number (get_or ms 1 (at_first 0)).lost
second-lost e = ap (λ (ls : List LostAt). number (get_or ls 1 (at_first 0)).lost) e

two_good : AllGood two
two_good = (good_16, (good_30, tt))

-- the recordings are within demand 3
plain-within : Within two plain
plain-within = record {
  good = two_good;
  choices = next 16 ∷ next 30 ∷ [];
  first = 7;
  small = lit< tt;
  sent = refl;
  gaps = (lit≤ tt, (lit≤ tt, tt));
}

parted-within : Within two parted
parted-within = record {
  good = two_good;
  choices = next 20 ∷ next 26 ∷ [];
  first = 7;
  small = lit< tt;
  sent = refl;
  gaps = (lit≤ tt, (lit≤ tt, tt));
}

gap_within : Within two gap
gap_within = record {
  good = two_good;
  choices = next 10 ∷ next 0 ∷ next 30 ∷ next 6 ∷ [];
  first = 255;
  small = lit< tt;
  sent = refl;
  gaps = (lit≤ tt, (lit≤ tt, (lit≤ tt, tt)));
}

split-within : Within two split
split-within = record {
  good = two_good;
  choices = next 16 ∷ next 3 ∷ next 1 ∷ next 2 ∷ next 251 ∷ [];
  first = 0;
  small = lit< tt;
  sent = refl;
  gaps = (lit≤ tt, (lit≤ tt, (lit≤ tt, (lit≤ tt, (lit≤ tt, tt)))));
}

raws-within : Within two raws
raws-within = record {
  good = two_good;
  choices = next 10 ∷ raw (9 ∷ 9 ∷ []) ∷ next 20 ∷ raw (9 ∷ []) ∷ next 16 ∷ [];
  first = 255;
  small = lit< tt;
  sent = refl;
  gaps = (lit≤ tt, (lit≤ tt, (lit≤ tt, (lit≤ tt, tt))));
}

pub shams : Shams
unfolding standing push place_after length_holds enter follow lost_since step
shams = record {
  refuses-all = record { within = plain-within; fails = λ d. let z : ◌≡◌ {A = ℕ} 0 2 = ap length d.handed_out_lem in omega arith };
  joins_at_first_lem = record { within = plain-within; fails = λ d. let z : ◌≡◌ {A = ℕ} 1 2 = ap length d.handed_out_lem in omega arith };
  invents_losses_lem = record { within = plain-within; fails = λ d. let z : ◌≡◌ {A = ℕ} 1 0 = second-lost d.losses-told in omega arith };
  invents_losses_only = refl;
  withholds_losses_lem = record { within = gap_within; fails = λ d. let z : ◌≡◌ {A = ℕ} 0 1 = second-lost d.losses-told in omega arith };
  withholds_losses_only = refl;
  calls-unknown = record { within = gap_within; fails = λ d. let z : ◌≡◌ {A = ℕ} 0 1 = second-lost d.losses-told in omega arith };
  calls-unknown-only = refl;
  holds_across_lem = record { within = gap_within; fails = λ d. let z : ◌≡◌ {A = ℕ} 2 1 = ap length d.handed_out_lem in omega arith };
  holds_across_only = refl;
  reads_c_lem =
      record {
        within = plain-within;
        fails = λ d. let z : ◌≡◌ {A = ℕ} 9 16 = ap
            (λ (ps : List Handed). length (get_or ps 0 (out 0 0 [])).packet) d.handed_out_lem in omega arith;
      };
  first_for_last_lem =
      record {
        within = parted-within;
        fails = λ d. let z : ◌≡◌ {A = ℕ} 1 2 = ap (λ (ps : List Handed). (second ps).arrival)
            d.handed_out_lem in omega arith;
      };
  first_for_last_only = refl;
  last_for_first_lem =
      record {
        within = parted-within;
        fails = λ d. let z : ◌≡◌ {A = ℕ} 2 1 = ap (λ (ps : List Handed). (second ps).first)
            d.handed_out_lem in omega arith;
      };
  last_for_first_only = refl;
  forgets_first_lem =
      record {
        within = split-within;
        fails = λ d. let z : ◌≡◌ {A = ℕ} 4 2 = ap (λ (ps : List Handed). (second ps).first)
            d.handed_out_lem in omega arith;
      };
  forgets_first_only = refl;
  moves-first =
      record {
        within = raws-within;
        fails = λ d. let z : ◌≡◌ {A = ℕ} 2 1 = ap (λ (ps : List Handed). (get_or ps 0 (out 0 0 [])).first)
            d.handed_out_lem in omega arith;
      };
  moves-first-only = refl;
}
