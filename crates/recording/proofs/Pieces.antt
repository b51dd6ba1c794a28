-- What stands at the start of the octets at hand, whatever comes behind them, and what is found by it.
use Prim.Native.Nat.{ℕ, suc, ◌+◌, ◌≤◌, ◌<◌}
use mathlib.Core.Path.{◌≡◌, refl, sym, ap, ◌∙◌}
use mathlib.Core.List.{List, [], ◌∷◌, ◌++◌, append-nil}
use mathlib.Core.Bool.{Bool, true, false, false≢true}
use lib.Dec.{eqb}
use native.Mathlib.Omega.{arith}
use lib.ListN.{length, take, drop, length-append, get_or-append}
use borrow.Author.Tests.{eq-eqb, ne_eqb, eqb-true}
use Rattle.octets.specs.Numbers.{at}
use Rattle.octets.specs.Pick.{pick}
use Rattle.recording.specs.Sections.{longest_frame, least_window, Seen, whole, wrong, missing, settings_at, count_at, frame_at, length_at}
use Rattle.recording.specs.Pieces.{settings, count, frames, bad, Found, nothing, joined, frames_in, count_in, settings_in}
use Rattle.recording.proofs.Sections.{count_of, settings-short, settings-other, settings-cut, settings-above, settings-whole}
use Rattle.recording.proofs.Sections.{count-short, count-whole, frame-short, frame-long, frame-cut, frame-whole}

-- What stands at the start of w, and that octets behind it change nothing unless some are missing.
pub data Sight (look : List ℕ → Seen) (used : ℕ → ℕ) (w : List ℕ) : Type 0 where
  waits : (n : ℕ) → missing n ≡ look w → 0 < n → length w + n ≤ least_window → Sight look used w
  is-bad : ((p : List ℕ) → wrong ≡ look (w ++ p)) → Sight look used w
  is_whole : (n : ℕ) → used n ≤ length w → ((p : List ℕ) → whole n ≡ look (w ++ p)) → Sight look used w

module _ (w p : List ℕ) where
  pub same_at : (i : ℕ) → i < length w → at (w ++ p) i ≡ at w i
  same_at i h = get_or-append w p 0 i h

  pub longer : length w ≤ length (w ++ p)
  longer = simp length-append (omega arith)

  same_length : 2 ≤ length w → length_at w ≡ length_at (w ++ p)
  same_length h = omega (arith, same_at 0 (omega arith), same_at 1 (omega arith))

  same_count : 4 ≤ length w → count_of w ≡ count_of (w ++ p)
  same_count h = omega (arith, same_at 0 (omega arith), same_at 1 (omega arith), same_at 2 (omega arith), same_at 3 (omega arith))

pub see_frame : (w : List ℕ) → Dec (length w < 2) → Dec (longest_frame < length_at w) → Dec (length w < 2 + length_at w) → Sight frame_at
    (λ n. 2 + n) w
see_frame w (yes a) b c = waits _ (frame-short w a) (omega arith) (omega arith)
see_frame w (no a) (yes b) c = is-bad (λ p. frame-long (w ++ p) (same_length w p (omega (arith, a))) (omega (arith, a, longer w p)) b)
see_frame w (no a) (no b) (yes c) =
    waits _ (frame-cut w refl (omega (arith, a)) (omega (arith, b)) c) (omega (arith, c)) (omega (arith, b, c))
see_frame w (no a) (no b) (no c) =
    is_whole (length_at w) (omega (arith, c))
    (λ p. frame-whole (w ++ p) (same_length w p (omega (arith, a))) (omega (arith, a, longer w p)) (omega (arith, b))
    (omega (arith, c, longer w p)))

pub see_count : (w : List ℕ) → Dec (length w < 4) → Sight count_at (λ n. 4) w
see_count w (yes a) = waits _ (count-short w a) (omega arith) (omega arith)
see_count w (no a) =
    is_whole (count_of w) (omega (arith, a)) (λ p. count-whole (w ++ p) (same_count w p (omega (arith, a))) (omega (arith, a, longer w p)))

pub see_settings : (w : List ℕ) → Dec (length w < 4) → (b : Bool) → eqb (count_of w) 1 ≡ b → Dec (length w < 5) → Dec (8 < at w 4)
    → Sight settings_at (λ n. 5) w
see_settings w (yes a) b e c d = waits _ (settings-short w a) (omega arith) (omega arith)
see_settings w (no a) false e c d =
    is-bad (λ p. settings-other (w ++ p) (same_count w p (omega (arith, a))) (omega (arith, a, longer w p))
    (λ h. false≢true (sym e ∙ eq-eqb _ _ h)))
see_settings w (no a) true e (yes c) d = waits _ (settings-cut w refl (omega (arith, a)) (eqb-true _ _ e) c) (omega arith) (omega arith)
see_settings w (no a) true e (no c) (yes d) =
    is-bad
    (λ p. settings-above (w ++ p) (same_count w p (omega (arith, a))) (eqb-true _ _ e) (omega (arith, c, longer w p))
    (omega (arith, d, same_at w p 4 (omega (arith, c)))))
see_settings w (no a) true e (no c) (no d) =
    is_whole (at w 4) (omega (arith, c))
    (λ p. ap whole (sym (same_at w p 4 (omega (arith, c))))
    ∙ settings-whole (w ++ p) (same_count w p (omega (arith, a))) (eqb-true _ _ e) (omega (arith, c, longer w p))
    (omega (arith, d, same_at w p 4 (omega (arith, c)))))

-- with no octets behind it
pub alone : {s : Seen} (look : List ℕ → Seen) (w : List ℕ) → ((p : List ℕ) → s ≡ look (w ++ p)) → s ≡ look w
alone look w h = h [] ∙ ap look (append-nil w)

unfoldable pub one : List ℕ → Found
one f = record { t = []; frames = f ∷ []; state = bad }

unfoldable pub accepted : ℕ → Found
accepted t = record { t = t ∷ []; frames = []; state = bad }

-- What is found by what stands there.
module _ (w : List ℕ) where
  module _ (n : ℕ) where
    pub frames_wait : {m : ℕ} → missing m ≡ frame_at w → frames_in (suc n) w ≡ nothing (frames (suc n) w)
    unfolding frames_in pick
    frames_wait e = simp (sym e)

    pub frames-bad : wrong ≡ frame_at w → frames_in (suc n) w ≡ nothing bad
    unfolding frames_in pick
    frames-bad e = simp (sym e)

    pub frames-next : {k : ℕ} → whole k ≡ frame_at w → frames_in (suc n) w ≡ joined (one (take k (drop 2 w))) (frames_in n (drop (2 + k) w))
    unfolding frames_in pick one
    frames-next e = simp (sym e)

  pub count_wait : {m : ℕ} → missing m ≡ count_at w → count_in w ≡ nothing (count w)
  unfolding count_in pick
  count_wait e = simp (sym e)

  pub count_next : {n : ℕ} → whole n ≡ count_at w → count_in w ≡ frames_in n (drop 4 w)
  unfolding count_in pick
  count_next e = simp (sym e)

  pub count-bad : wrong ≡ count_at w → count_in w ≡ nothing bad
  unfolding count_in pick
  count-bad e = simp (sym e)

  pub settings_wait : {m : ℕ} → missing m ≡ settings_at w → settings_in w ≡ nothing (settings w)
  unfolding settings_in pick
  settings_wait e = simp (sym e)

  pub settings-bad : wrong ≡ settings_at w → settings_in w ≡ nothing bad
  unfolding settings_in pick
  settings-bad e = simp (sym e)

  pub settings-next : {t : ℕ} → whole t ≡ settings_at w → settings_in w ≡ joined (accepted t) (count_in (drop 5 w))
  unfolding settings_in pick accepted
  settings-next e = simp (sym e)

pub none_left : (w : List ℕ) → (length w ≡ 0 → ⊥) → frames_in 0 w ≡ nothing bad
unfolding frames_in pick
none_left w h = simp (ne_eqb _ _ h)

pub none-left-empty : frames_in 0 [] ≡ nothing (frames 0 [])
unfolding frames_in pick
none-left-empty = refl
