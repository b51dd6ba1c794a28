-- The cases of what is wrong with the octets at which a reader stops.
use Rattle.std.proofs.Common.{◌≡◌, ℕ, ◌<◌, ◌≤◌, List, length, le-ltb, lt-ltb, eq-eqb, ne_eqb}
use Rattle.octets.specs.Numbers.{at, four}
use Rattle.octets.specs.Pick.{pick}
use Rattle.recording.specs.Sections.{longest_frame, length_at}
use Rattle.faults.specs.declared.Why.TheVariants as why
use Rattle.recording.specs.declared.Reader.TheVariants as reader
use Rattle.faults.specs.Why.{settings_why, frame_why, why_at}

module _ (w : List ℕ) where
  pub settings-short : length w < 4 → why.SettingsCut ≡ settings_why w
  unfolding settings_why pick
  settings-short a = simp (lt-ltb _ _ a)

  module _ {n : ℕ} (e : n ≡ four (at w 0) (at w 1) (at w 2) (at w 3)) (a : 4 ≤ length w) where
    pub settings-other : (n ≡ 1 → ⊥) → why.CountNotOne ≡ settings_why w
    unfolding settings_why pick
    settings-other b = simp (le-ltb _ _ a, ne_eqb _ _ (rw e at b))

    pub settings-cut : n ≡ 1 → length w < 5 → why.SettingsCut ≡ settings_why w
    unfolding settings_why pick
    settings-cut b c = simp (le-ltb _ _ a, eq-eqb _ _ (rw e at b), lt-ltb _ _ c)

    pub settings-long : n ≡ 1 → 5 ≤ length w → why.TimeLong ≡ settings_why w
    unfolding settings_why pick
    settings-long b c = simp (le-ltb _ _ a, eq-eqb _ _ (rw e at b), le-ltb _ _ c)

  pub frame-short : length w < 2 → why.FramesMissing ≡ frame_why w
  unfolding frame_why pick
  frame-short a = simp (lt-ltb _ _ a)

  module _ {n : ℕ} (e : n ≡ length_at w) (a : 2 ≤ length w) where
    pub frame-long : longest_frame < n → why.FrameLong ≡ frame_why w
    unfolding frame_why pick
    frame-long b = simp (le-ltb _ _ a, lt-ltb _ _ (rw e at b))

    pub frame-cut : n ≤ longest_frame → why.FrameCut ≡ frame_why w
    unfolding frame_why pick
    frame-cut b = simp (le-ltb _ _ a, le-ltb _ _ (rw e at b))

  module _ (n : ℕ) where
    pub frames-cut : (n ≡ 0 → ⊥) → frame_why w ≡ why_at (reader.Frames n) w
    unfolding pick
    frames-cut b = simp (ne_eqb _ _ b)

    pub frames-end : n ≡ 0 → length w ≡ 0 → why.Nothing ≡ why_at (reader.Frames n) w
    unfolding pick
    frames-end b c = simp (eq-eqb _ _ b, eq-eqb _ _ c)

    pub frames-behind : n ≡ 0 → (length w ≡ 0 → ⊥) → why.Behind ≡ why_at (reader.Frames n) w
    unfolding pick
    frames-behind b c = simp (eq-eqb _ _ b, ne_eqb _ _ c)
