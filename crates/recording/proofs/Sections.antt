-- The cases of what stands at a window's start.
use Prim.Native.Nat.{ℕ, ◌+◌, ◌-◌, ◌≤◌, ◌<◌}
use mathlib.Core.Path.{◌≡◌}
use mathlib.Core.List.{List}
use native.Mathlib.Nat.{le_of_suc-le}
use lib.ListN.{length}
use borrow.Author.Tests.{lt-ltb, le-ltb, eq-eqb, ne_eqb}
use Rattle.octets.specs.Numbers.{at, four}
use Rattle.octets.specs.Pick.{pick}
use Rattle.recording.specs.Sections.{longest_frame, whole, wrong, missing, settings_at, count_at, frame_at, length_at}

abbrev pub count_of : List ℕ → ℕ
count_of w = four (at w 0) (at w 1) (at w 2) (at w 3)

module _ (w : List ℕ) where
  pub settings-short : length w < 4 → missing (4 - length w) ≡ settings_at w
  unfolding settings_at pick
  settings-short a = simp (lt-ltb _ _ a)

  module _ {n : ℕ} (e : n ≡ count_of w) where
    pub settings-other : 4 ≤ length w → (n ≡ 1 → ⊥) → wrong ≡ settings_at w
    unfolding settings_at pick
    settings-other a b = simp (le-ltb _ _ a, ne_eqb _ _ (rw e at b))

    pub settings-cut : 4 ≤ length w → n ≡ 1 → length w < 5 → missing (5 - length w) ≡ settings_at w
    unfolding settings_at pick
    settings-cut a b c = simp (le-ltb _ _ a, eq-eqb _ _ (rw e at b), lt-ltb _ _ c)

    pub settings-above : n ≡ 1 → 5 ≤ length w → 8 < at w 4 → wrong ≡ settings_at w
    unfolding settings_at pick
    settings-above b c d = simp (le-ltb _ _ (le_of_suc-le {n = 4} c), eq-eqb _ _ (rw e at b), le-ltb _ _ c, lt-ltb _ _ d)

    pub settings-whole : n ≡ 1 → 5 ≤ length w → at w 4 ≤ 8 → whole (at w 4) ≡ settings_at w
    unfolding settings_at pick
    settings-whole b c d = simp (le-ltb _ _ (le_of_suc-le {n = 4} c), eq-eqb _ _ (rw e at b), le-ltb _ _ c, le-ltb _ _ d)

    pub count-whole : 4 ≤ length w → whole n ≡ count_at w
    unfolding count_at pick
    count-whole a = simp (le-ltb _ _ a, e)

  pub count-short : length w < 4 → missing (4 - length w) ≡ count_at w
  unfolding count_at pick
  count-short a = simp (lt-ltb _ _ a)

  pub frame-short : length w < 2 → missing (2 - length w) ≡ frame_at w
  unfolding frame_at pick
  frame-short a = simp (lt-ltb _ _ a)

  module _ {n : ℕ} (e : n ≡ length_at w) (a : 2 ≤ length w) where
    pub frame-long : longest_frame < n → wrong ≡ frame_at w
    unfolding frame_at pick
    frame-long b = simp (le-ltb _ _ a, lt-ltb _ _ (rw e at b))

    pub frame-cut : n ≤ longest_frame → length w < 2 + n → missing (2 + n - length w) ≡ frame_at w
    unfolding frame_at pick
    frame-cut b c = simp (le-ltb _ _ a, le-ltb _ _ (rw e at b), lt-ltb _ _ (rw e at c), e)

    pub frame-whole : n ≤ longest_frame → 2 + n ≤ length w → whole n ≡ frame_at w
    unfolding frame_at pick
    frame-whole b c = simp (le-ltb _ _ a, le-ltb _ _ (rw e at b), le-ltb _ _ (rw e at c), e)
