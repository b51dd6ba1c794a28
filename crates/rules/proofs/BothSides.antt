-- The worked cases, by computing.
use mathlib.Core.Path.{refl}
use Rattle.counts.specs.Lost.{lost_since}
use Rattle.rules.specs.Channel.{standing, push, place_after, length_holds, enter, follow, step}
use Rattle.rules.specs.Bounds.{held_wrong}
use Rattle.rules.specs.BothSides.{BothSides}

pub both_sides : BothSides
unfolding standing push place_after length_holds enter follow lost_since step held_wrong
both_sides = record {
  split = refl;
  gap = refl;
  most = refl;
  raw = refl;
  pointer = refl;
  short = refl;
  long = refl;
  skip = refl;
  rest = refl;
  left = refl;
  over = refl;
  greatest = refl;
  sixteen = refl;
  fifth = refl;
  sixth = refl;
  sixth-here = refl;
  sixth-held = refl;
  wrong-begun = refl;
  wrong-held = refl;
  wrong-pointer = refl;
  lost-held = refl;
  raw-held = refl;
  sixteen-headers = refl;
  seventeen-headers = refl;
  most_data_lem = refl;
  handed_in_lem = refl;
  none-held = refl;
  part = refl;
  all = refl;
  known = refl;
  unknown = refl;
  full = refl;
  beyond = refl;
  idle = refl;
  stale = refl;
}
