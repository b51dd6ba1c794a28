-- What a reader's scan finds.
use Prim.Native.Nat.{ℕ, zero, suc, ◌+◌, ◌-◌, ◌≤◌, ◌<◌}
use mathlib.Core.Path.{◌≡◌, refl, sym, ap, ◌∙◌, subst}
use mathlib.Core.List.{List, [], ◌∷◌, ◌++◌}
use mathlib.Core.Bool.{Bool, true, false, false≢true}
use native.Mathlib.Decide.{dec_lt}
use native.Mathlib.Omega.{arith}
use lib.Dec.{eqb}
use lib.ListN.{length, take, drop, length-drop}
use lib.Seq.{take-append-le, drop-append-le}
use borrow.Author.Tests.{ltb-false, eq-eqb, ne_eqb}
use Rattle.octets.specs.Numbers.{at}
use Rattle.octets.specs.Pick.{pick}
use Rattle.octets.proofs.Choices.{not_picked}
use Rattle.recording.specs.Sections.{longest_frame, least_window, Seen, whole, wrong, missing, told, settings_at, count_at, frame_at}
use Rattle.recording.specs.Sections.{length_at}
use Rattle.recording.specs.Pieces.{State, settings, count, frames, bad, Found, nothing, joined, found, frames_in}
use Rattle.recording.specs.Reader.{seen_at, stopped, over, bad_at, waiting, passed, scanned, state_of, tells_of, Finds, ScansFind}
use Rattle.recording.specs.declared.Reader.{Reader}
use Rattle.recording.specs.declared.Reader.TheVariants as reader
use Rattle.recording.specs.declared.Scanned.{Scanned}
use Rattle.recording.specs.declared.Section.{Section}
use Rattle.recording.specs.declared.Section.TheVariants.{Missing, Bad, Whole}
use Rattle.recording.proofs.Sections.{count_of}
use Rattle.recording.proofs.Pieces.{Sight, waits, is-bad, is_whole, see_frame, see_count, see_settings, alone, one, accepted}
use Rattle.recording.proofs.Pieces.{frames_wait, frames-bad, frames-next, count_wait, count_next, count-bad, settings_wait}
use Rattle.recording.proofs.Pieces.{settings-bad, settings-next, none_left, none-left-empty}

-- What is scanned by what stands there.
module _ (a : Reader) (w : List ℕ) where
  scan-whole : {n : ℕ} → whole n ≡ seen_at a w → passed a n ≡ scanned a w
  unfolding scanned pick
  scan-whole e = simp (sym e)

  scan-wrong : wrong ≡ seen_at a w → bad_at a ≡ scanned a w
  unfolding scanned pick
  scan-wrong e = simp (sym e)

  scan-missing : {n : ℕ} → missing n ≡ seen_at a w → waiting a n ≡ scanned a w
  unfolding scanned pick
  scan-missing e = simp (sym e)

-- The same of a section that was told.
module _ {a b : Reader} {x : Section} (w : List ℕ) (e : a ≡ b) (h : told x ≡ seen_at b w) where
  pub told-whole : {n : ℕ} → x ≡ Whole n → passed b n ≡ scanned a w
  told-whole d = scan-whole b w (sym (ap told d) ∙ h) ∙ ap (λ (y : Reader). scanned y w) (sym e)

  pub told-bad : {r : Scanned} → x ≡ Bad → r ≡ bad_at b → r ≡ scanned a w
  told-bad d k = k ∙ scan-wrong b w (sym (ap told d) ∙ h) ∙ ap (λ (y : Reader). scanned y w) (sym e)

  pub told-missing : {n : ℕ} {r : Scanned} → x ≡ Missing n → r ≡ waiting a n → r ≡ scanned a w
  told-missing {n} d k =
      k ∙ ap (λ (y : Reader). waiting y n) e ∙ scan-missing b w (sym (ap told d) ∙ h) ∙ ap (λ (y : Reader). scanned y w) (sym e)

pub stays-bad : {a : Reader} (w : List ℕ) → a ≡ reader.Bad → over ≡ scanned a w
stays-bad w e = scan-wrong reader.Bad w refl ∙ ap (λ (y : Reader). scanned y w) (sym e)

-- The cases of frames: none is left, and some are.
module _ (left : ℕ) (w : List ℕ) where
  done-empty : left ≡ 0 → length w ≡ 0 → missing 1 ≡ seen_at (reader.Frames left) w
  unfolding pick
  done-empty e d = simp (eq-eqb _ _ e, eq-eqb _ _ d)

  done_more : left ≡ 0 → (length w ≡ 0 → ⊥) → wrong ≡ seen_at (reader.Frames left) w
  unfolding pick
  done_more e d = simp (eq-eqb _ _ e, ne_eqb _ _ d)

  pub still : (left ≡ 0 → ⊥) → frame_at w ≡ seen_at (reader.Frames left) w
  unfolding pick
  still e = simp (ne_eqb _ _ e)

  pub scan-empty : {r : Scanned} → left ≡ 0 → length w ≡ 0 → r ≡ waiting (reader.Frames left) 1 → r ≡ scanned (reader.Frames left) w
  scan-empty e d k = k ∙ scan-missing (reader.Frames left) w (done-empty e d)

  pub scan-more : {r : Scanned} → left ≡ 0 → (length w ≡ 0 → ⊥) → r ≡ stopped → r ≡ scanned (reader.Frames left) w
  scan-more e d k = k ∙ scan-wrong (reader.Frames left) w (done_more e d)

-- What the sections' places are.
not_missing : {m n : ℕ} → missing m ≡ whole n → ⊥
not_missing h = false≢true (ap (λ (s : Seen). s.whole) h)

not_wrong : {n : ℕ} → wrong ≡ whole n → ⊥
not_wrong h = false≢true (ap (λ (s : Seen). s.whole) h)

picked_first : {A : Type 0} (b : Bool) (x y z : A) → pick b x y ≡ z → (y ≡ z → ⊥) → x ≡ z
unfolding pick
picked_first true x y z h n = h
picked_first false x y z h n = absurd (n h)

small-t : (w : List ℕ) {n : ℕ} → whole n ≡ settings_at w → n ≤ 8
unfolding settings_at
small-t w e =
    let a = not_picked _ _ _ _ (sym e) not_missing in
    let b = picked_first _ _ _ _ a.1 not_wrong in
    let d = not_picked _ _ _ _ b not_missing in
    let f = not_picked _ _ _ _ d.1 not_wrong in
    let small : at w 4 ≤ 8 = ltb-false _ _ f.0 in
    omega (arith, ap (λ (s : Seen). s.number) f.1)

-- a frame is short
pub small-frame : (w : List ℕ) {x : Section} {n : ℕ} → x ≡ Whole n → told x ≡ frame_at w → n ≤ longest_frame
unfolding frame_at
small-frame w d h =
    let a = not_picked _ _ _ _ (sym (sym (ap told d) ∙ h)) not_missing in
    let b = not_picked _ _ _ _ a.1 not_wrong in
    let e = not_picked _ _ _ _ b.1 not_missing in
    let small : length_at w ≤ longest_frame = ltb-false _ _ b.0 in
    omega (arith, ap (λ (s : Seen). s.number) e.1)

is_bad : State → Bool
is_bad (settings w) = false
is_bad (count w) = false
is_bad (frames n w) = false
is_bad bad = true

not_bad : (s : State) → is_bad s ≡ false → s ≡ bad → ⊥
unfolding is_bad
not_bad s e h = false≢true (sym e ∙ ap is_bad h)

-- a reader that is not bad
going : (a : Reader) → is_bad (state_of a []) ≡ false → a ≡ reader.Bad → ⊥
going a e h = not_bad (state_of a []) e (ap (λ (b : Reader). state_of b []) h)

-- nothing yet
find_missing : (a : Reader) (w : List ℕ) (n : ℕ) → found (state_of a w) ≡ nothing (state_of a w) → (a ≡ reader.Bad → ⊥) → 0 < n
    → length w + n ≤ least_window → Finds a w (waiting a n)
find_missing a w n none good some room =
    record { next = λ p. refl; inside = omega arith; told = (refl, record { none = none; good = good; some = some; room = room }) }

find_bad : (a : Reader) (w : List ℕ) → (a ≡ reader.Bad → ⊥) → ((p : List ℕ) → found (state_of a (w ++ p)) ≡ nothing bad) → Finds a w stopped
find_bad a w good h = record { next = h; inside = omega arith; told = (refl, good) }

as_scanned : (a : Reader) (w : List ℕ) {r : Scanned} → r ≡ scanned a w → Finds a w r → Finds a w (scanned a w)
as_scanned a w e f = subst (Finds a w) e f

find_settings : (w : List ℕ) → Sight settings_at (λ t. 5) w → Finds reader.Settings w (scanned reader.Settings w)
unfolding is_bad accepted
find_settings w (waits n e some room) =
    as_scanned reader.Settings w (scan-missing reader.Settings w e)
    (find_missing reader.Settings w n (settings_wait w e) (going reader.Settings refl) some room)
find_settings w (is-bad e) =
    as_scanned reader.Settings w (scan-wrong reader.Settings w (alone settings_at w e))
    (find_bad reader.Settings w (going reader.Settings refl) (λ p. settings-bad (w ++ p) (e p)))
find_settings w (is_whole t l e) =
    as_scanned reader.Settings w (scan-whole reader.Settings w (alone settings_at w e))
    (record {
      next = λ p. settings-next (w ++ p) (e p) ∙ ap (λ (x : List ℕ). joined (tells_of (passed reader.Settings t).taken w) (found (count x)))
          (drop-append-le 5 w p l);
      inside = l;
      told = (
        record { some = omega arith; before = going reader.Settings refl; behind = going reader.Count refl },
        small-t w
            (alone settings_at w e),
      );
    })

find_count : (w : List ℕ) → Sight count_at (λ t. 4) w → Finds reader.Count w (scanned reader.Count w)
unfolding is_bad
find_count w (waits n e some room) =
    as_scanned reader.Count w (scan-missing reader.Count w e)
    (find_missing reader.Count w n (count_wait w e) (going reader.Count refl) some room)
find_count w (is-bad e) =
    as_scanned reader.Count w (scan-wrong reader.Count w (alone count_at w e))
    (find_bad reader.Count w (going reader.Count refl) (λ p. count-bad (w ++ p) (e p)))
find_count w (is_whole n l e) =
    as_scanned reader.Count w (scan-whole reader.Count w (alone count_at w e))
    (record {
      next = λ p. count_next (w ++ p) (e p) ∙ ap (λ (x : List ℕ). found (frames n x)) (drop-append-le 4 w p l);
      inside = l;
      told = record { some = omega arith; before = going reader.Count refl; behind = going (reader.Frames n) refl };
    })

-- no t is found behind a frame
no_t_either : (b : Bool) (f g : Found) → f.t ≡ [] → g.t ≡ [] → (pick b f g).t ≡ []
unfolding pick
no_t_either true f g h k = h
no_t_either false f g h k = k

no_t : (n : ℕ) (w : List ℕ) → (frames_in n w).t ≡ []
unfolding frames_in
no_t zero w = refl
no_t (suc n) w = no_t_either (frame_at w).whole _ _ (no_t n (drop (2 + (frame_at w).number) w)) refl

same_size : (k : ℕ) → k ≡ 2 + k - 2
same_size k = omega arith

one_less : (n : ℕ) → n ≡ suc n - 1
one_less n = omega arith

find_frame : (n : ℕ) (w : List ℕ) → Sight frame_at (λ k. 2 + k) w → Finds (reader.Frames (suc n)) w (scanned (reader.Frames (suc n)) w)
unfolding is_bad one
find_frame n w (waits m e some room) =
    as_scanned (reader.Frames (suc n)) w (scan-missing (reader.Frames (suc n)) w (e ∙ still (suc n) w (λ h. omega arith)))
    (find_missing (reader.Frames (suc n)) w m (frames_wait w n e) (going (reader.Frames (suc n)) refl) some room)
find_frame n w (is-bad e) =
    as_scanned (reader.Frames (suc n)) w (scan-wrong (reader.Frames (suc n)) w (alone frame_at w e ∙ still (suc n) w (λ h. omega arith)))
    (find_bad (reader.Frames (suc n)) w (going (reader.Frames (suc n)) refl) (λ p. frames-bad (w ++ p) n (e p)))
find_frame n w (is_whole k l e) =
    let octets : (p : List ℕ) → take k (drop 2 (w ++ p)) ≡ take k (drop 2 w) =
    (λ p. ap (take k) (drop-append-le 2 w p (omega arith)) ∙ take-append-le k (drop 2 w) p (simp length-drop (omega arith))) in
    as_scanned (reader.Frames (suc n)) w (scan-whole (reader.Frames (suc n)) w (alone frame_at w e ∙ still (suc n) w (λ h. omega arith)))
    (record {
      next = λ p. frames-next (w ++ p) n (e p)
          ∙ ap (λ (x : List ℕ). joined (record { t = []; frames = x ∷ []; state = bad }) (frames_in n (drop (2 + k) (w ++ p)))) (octets p)
          ∙ ap (λ (x : List ℕ). joined (record { t = []; frames = take k (drop 2 w) ∷ []; state = bad }) (frames_in n x))
          (drop-append-le (2 + k) w p l)
          ∙ ap (λ (m : ℕ). joined (record { t = []; frames = take m (drop 2 w) ∷ []; state = bad }) (frames_in n (drop (2 + k) w ++ p)))
          (same_size k)
          ∙ ap (λ (m : ℕ). joined (record { t = []; frames = take (2 + k - 2) (drop 2 w) ∷ []; state = bad })
          (frames_in m (drop (2 + k) w ++ p))) (one_less n);
      inside = l;
      told = (
        record { some = omega arith; before = going (reader.Frames (suc n)) refl; behind = going (reader.Frames (suc n - 1)) refl },
        omega arith,
        l,
        λ p. no_t (suc n - 1) p,
      );
    })

find_last : (w : List ℕ) → Finds (reader.Frames 0) w (scanned (reader.Frames 0) w)
unfolding is_bad
find_last [] =
    as_scanned (reader.Frames 0) [] (scan-missing (reader.Frames 0) [] (done-empty 0 [] refl refl))
    (find_missing (reader.Frames 0) [] 1 none-left-empty (going (reader.Frames 0) refl) (omega arith) (omega arith))
find_last (x ∷ w) =
    as_scanned (reader.Frames 0) (x ∷ w) (scan-wrong (reader.Frames 0) (x ∷ w) (done_more 0 (x ∷ w) refl (λ h. omega arith)))
    (find_bad (reader.Frames 0) (x ∷ w) (going (reader.Frames 0) refl) (λ p. none_left (x ∷ w ++ p) (λ h. omega arith)))

pub scans_find : ScansFind
scans_find reader.Settings w = find_settings w (see_settings w (dec_lt _ _) (eqb (count_of w) 1) refl (dec_lt _ _) (dec_lt _ _))
scans_find reader.Count w = find_count w (see_count w (dec_lt _ _))
scans_find (reader.Frames zero) w = find_last w
scans_find (reader.Frames (suc n)) w = find_frame n w (see_frame w (dec_lt _ _) (dec_lt _ _) (dec_lt _ _))
scans_find reader.Bad w =
    as_scanned reader.Bad w (scan-wrong reader.Bad w refl) (record { next = λ p. refl; inside = omega arith; told = (refl, refl) })
