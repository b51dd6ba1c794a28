-- Laws of a recording that is laid into an output, a frame after another.
use Rattle.std.proofs.Common.{◌≡◌, ℕ, suc, ◌+◌, ◌-◌, ◌*◌, ◌%◌, ◌<◌, ◌≤◌, ltb, List, [], ◌++◌, length, take, drop, sym, refl, ap, ◌∙◌, subst}
use Rattle.std.proofs.Common.{append_assoc, append-nil, add-one, arith, length-append, length-drop, drop_of_length-le, length-take-le}
use Rattle.std.proofs.Common.{take_all, drop-cons, drop-drop, ltb-false, ltb-true, le-ltb, lt-ltb, min}
use Rattle.octets.specs.Numbers.{at, word_of}
use Rattle.octets.specs.Parts.{part, put, written}
use Rattle.octets.specs.Pick.{pick}
use Rattle.octets.proofs.Choices.{picked, passed, picks}
use Rattle.octets.proofs.Placing.{after, put_first, part-some, part_none}
use Rattle.transmit_recording.specs.Recording.{lost_mark, head_of, one_of, frames_of, recording_of, behind_of}
use Rattle.transmit_recording.specs.Laid.{none, Lays, LaysOne, LaysFrames}

head_long : (t : ℕ) (frames : List ℕ) → length (head_of t frames) ≡ 9
unfolding head_of
head_long t frames = refl

no_frames : (made : List ℕ) → frames_of made [] ≡ []
unfolding frames_of
no_frames made = refl

-- ---- one frame

lost-none : (rest : List ℕ) (n : ℕ) → lost_mark ≤ n → [] ≡ one_of rest n
unfolding one_of
lost-none rest n h = passed _ _ _ _ (le-ltb _ _ h) refl

arrives_one : (rest : List ℕ) (n : ℕ) → n < lost_mark → word_of n ++ part rest 0 n ≡ one_of rest n
unfolding one_of
arrives_one rest n h = picked _ _ _ (lt-ltb _ _ h)

-- the octets of a frame are as many as its length says, or none
part-many : (s : List ℕ) (n : ℕ) → n ≤ length s → length (part s 0 n) ≡ n
part-many s n h = ap length (sym (part-some s 0 n (omega arith))) ∙ length-take-le n s h

part-none-many : (s : List ℕ) (n : ℕ) → length s < n → length (part s 0 n) ≡ 0
part-none-many s n h = ap length (sym (part_none s 0 n (omega arith)))

pub part-least : (s : List ℕ) (n : ℕ) → length (part s 0 n) ≤ length s
unfolding part
part-least s n =
    picks (λ (x : List ℕ). length x ≤ length s) (ltb (length s) (0 + n)) [] (take n (drop 0 s)) (λ _. omega arith)
    (λ e. let l : length (take n (drop 0 s)) ≡ n = length-take-le n s (omega (arith, ltb-false (length s) (0 + n) e)) in
    omega (arith, l, ltb-false (length s) (0 + n) e))

module _ (rest : List ℕ) (n : ℕ) (out : List ℕ) (to : ℕ) where
  pub lays_none : lost_mark ≤ n → LaysOne rest n out to to out
  lays_none h =
      let e : one_of rest n ≡ [] = sym (lost-none rest n h) in
      record {
        behind = omega (arith, ap length e);
        adds = λ d o p q l. p ∙ ap (λ (x : List ℕ). written x o) (sym (append-nil d) ∙ ap (λ (x : List ℕ). d ++ x) (sym e));
      }

  pub lays_one : n < lost_mark → {word octets o₁ o₂ : List ℕ} → word ≡ word_of n → o₁ ≡ put out to word → octets ≡ part rest 0 n
      → o₂ ≡ put o₁ (to + 2) octets → LaysOne rest n out to (to + 2 + length octets) o₂
  lays_one h {word} {octets} {o₁} {o₂} w p s q =
      let e : word ++ octets ≡ one_of rest n = ap (λ (x : List ℕ). x ++ octets) w ∙ ap (λ (x : List ℕ). word_of n ++ x) s
      ∙ arrives_one rest n h in
      let two : length word ≡ 2 = ap length w in
      let m : length (word ++ octets) ≡ 2 + length octets = length-append word octets ∙ ap (λ (k : ℕ). k + length octets) two in
      let k : length (one_of rest n) ≡ 2 + length octets = ap length (sym e) ∙ m in
      record {
        behind = omega (arith, k);
        adds = λ d o f g l.
            let first : o₁ ≡ written (d ++ word) o = after d word o to f p g (omega (arith, l, k, two)) in
            let b : length (d ++ word) ≡ to + 2 = length-append d word ∙ omega (arith, g, two) in
            after (d ++ word) octets o (to + 2) first q (sym b) (omega (arith, l, k, b, g))
            ∙ ap (λ (x : List ℕ). written x o) (append_assoc d word octets ∙ ap (λ (x : List ℕ). d ++ x) e);
      }

-- ---- where the next frame's octets start

module _ (from n end : ℕ) where
  pub behind-least : from ≤ end → from + min (n % lost_mark) (end - from) ≡ behind_of from n end
  unfolding behind_of
  behind-least h =
      picks (λ (x : ℕ). from + min (n % lost_mark) (end - from) ≡ x) (ltb (end - from) (n % lost_mark)) end (from + n % lost_mark)
      (λ e. omega (arith, ltb-true (end - from) (n % lost_mark) e, h))
      (λ e. omega (arith, ltb-false (end - from) (n % lost_mark) e, h))

  pub behind-inside : from ≤ end → behind_of from n end ≤ end
  unfolding behind_of
  behind-inside h =
      picks (λ (x : ℕ). x ≤ end) (ltb (end - from) (n % lost_mark)) end (from + n % lost_mark) (λ _. omega arith)
      (λ e. omega (arith, ltb-false (end - from) (n % lost_mark) e, h))

pub dropped : (made : List ℕ) (from n : ℕ) → from ≤ length made
    → drop (n % lost_mark) (drop from made) ≡ drop (behind_of from n (length made)) made
unfolding behind_of
dropped made from n h =
    let m : ℕ = length made in
    drop-drop (n % lost_mark) from made
    ∙ picks (λ (x : ℕ). drop (from + n % lost_mark) made ≡ drop x made) (ltb (m - from) (n % lost_mark)) m (from + n % lost_mark)
    (λ e.
    let l : m ≤ from + n % lost_mark = omega (arith, ltb-true (m - from) (n % lost_mark) e, h) in
    let k : m ≤ m = omega arith in
    drop_of_length-le made l ∙ sym (drop_of_length-le made k))
    (λ _. refl)

small : (n : ℕ) → n < lost_mark → n % lost_mark ≡ n
small n h = omega arith

-- a frame takes two octets and its own of the room that is left for all that was made
one-room : (made : List ℕ) (from n : ℕ) → from ≤ length made
    → length (one_of (drop from made) n) + (length made - behind_of from n (length made)) ≤ 2 + (length made - from)
unfolding one_of behind_of
one-room made from n h =
    let d : length (drop from made) ≡ length made - from = length-drop from made in
    let rest : List ℕ = drop from made in
    let m : ℕ = length made in
    let k : ℕ = n % lost_mark in
    picks (λ (x : List ℕ). length x + (m - pick (ltb (m - from) k) m (from + k)) ≤ 2 + (m - from)) (ltb n lost_mark)
    (word_of n ++ part rest 0 n) []
    (λ a.
    let s : n % lost_mark ≡ n = small n (ltb-true n lost_mark a) in
    picks (λ (x : ℕ). length (word_of n ++ part rest 0 n) + (m - x) ≤ 2 + (m - from)) (ltb (m - from) k) m (from + k)
    (λ e. let l : length (part rest 0 n) ≡ 0 = part-none-many rest n (omega (arith, ltb-true (m - from) k e, d, s)) in omega (arith, l))
    (λ e.
    let f : k ≤ m - from = ltb-false (m - from) k e in
    let l : length (part rest 0 n) ≡ n = part-many rest n (omega (arith, f, d, s)) in omega (arith, l, f, s)))
    (λ _. picks (λ (x : ℕ). length {A = ℕ} [] + (m - x) ≤ 2 + (m - from)) (ltb (m - from) k) m (from + k) (λ _. omega arith)
    (λ _. omega arith))

-- ---- all frames: i of them stand up to index `to` of the output, as front, and the octets of the others are those made from index `from`
-- on

pub record Laid (made frames out : List ℕ) (to from i : ℕ) (now : List ℕ) : Type 0 where
  pub inside : from ≤ length made
  pub upto : i ≤ length frames
  pub same : length now ≡ length out
  pub room : to + (length made - from) + 2 * (length frames - i) ≤ length out
  pub front : List ℕ
  pub long : to ≡ 9 + length front
  pub rest : front ++ frames_of (drop from made) (drop i frames) ≡ frames_of made frames
  pub adds : (d o : List ℕ) → out ≡ written d o → 9 ≡ length d → now ≡ written (d ++ front) o

module _ (made frames out : List ℕ) where
  pub none-laid : 9 + length made + 2 * length frames ≤ length out → Laid made frames out 9 0 0 out
  none-laid h = record {
    inside = omega arith;
    upto = omega arith;
    same = refl;
    room = omega (arith, h);
    front = [];
    long = refl;
    rest = refl;
    adds = λ d o p q. p ∙ ap (λ (x : List ℕ). written x o) (sym (append-nil d));
  }

  module _ {to from i : ℕ} {now : List ℕ} (a : Laid made frames out to from i now) where
    -- the octets made from there on, as a slice
    pub behind-all : take (length made - from) (drop from made) ≡ drop from made
    behind-all = take_all (length made - from) (drop from made) (omega (arith, length-drop from made))

    pub one-room-left : i < length frames → to + 2 + length (take (length made - from) (drop from made)) ≤ length now
    one-room-left l = omega (arith, a.room, a.same, a.inside, length-drop from made, ap length behind-all)

    frames-on : i < length frames
        → frames_of (drop from made) (drop i frames)
        ≡ one_of (drop from made) (at frames i) ++ frames_of (drop (behind_of from (at frames i) (length made)) made) (drop (i + 1) frames)
    unfolding frames_of
    frames-on l =
        let n : ℕ = at frames i in
        ap (frames_of (drop from made)) (drop-cons frames i 0 l)
        ∙ ap (λ (x : List ℕ). one_of (drop from made) n ++ frames_of x (drop (suc i) frames)) (dropped made from n a.inside)
        ∙ ap (λ (k : ℕ). one_of (drop from made) n ++ frames_of (drop (behind_of from n (length made)) made) (drop k frames))
        (sym (add-one i))

    pub one-laid : i < length frames → {n r from' : ℕ} {now' : List ℕ} → n ≡ at frames i
        → LaysOne (take (length made - from) (drop from made)) n now to r now' → from' ≡ behind_of from n (length made)
        → length now' ≡ length now → Laid made frames out r from' (i + 1) now'
    one-laid l {n} {r} {from'} {now'} e y b k =
        let x : LaysOne (drop from made) n now to r now' = subst (λ (v : List ℕ). LaysOne v n now to r now') behind-all y in
        let one : List ℕ = one_of (drop from made) n in
        let f : frames_of (drop from made) (drop i frames) ≡ one ++ frames_of (drop from' made) (drop (i + 1) frames) =
        rw (b, e) (frames-on l) in
        let m : length one + (length made - from') ≤ 2 + (length made - from) = rw b (one-room made from n a.inside) in
        record {
          inside = rw b (behind-inside from n (length made) a.inside);
          upto = omega arith;
          same = k ∙ a.same;
          room = omega (arith, a.room, m, x.behind, l);
          front = a.front ++ one;
          long = omega (arith, x.behind, a.long, length-append a.front one);
          rest = append_assoc a.front one _ ∙ ap (λ (v : List ℕ). a.front ++ v) (sym f) ∙ a.rest;
          adds = λ d o p q.
              let w : length out ≡ 9 + (length o - 9) = ap length p ∙ length-append d (drop (length d) o) ∙ rw (sym q)
              (ap (λ (j : ℕ). 9 + j) (length-drop 9 o)) in
              let v : length (d ++ a.front) ≡ to = length-append d a.front ∙ omega (arith, q, a.long) in
              x.adds (d ++ a.front) o (a.adds d o p q) (sym v) (omega (arith, v, w, m, a.room, l))
              ∙ ap (λ (v : List ℕ). written v o) (append_assoc d a.front one);
        }

    pub all_laid : length frames ≤ i → LaysFrames made frames out to now
    all_laid l =
        let e : frames_of (drop from made) (drop i frames) ≡ [] = ap (frames_of (drop from made)) (drop_of_length-le frames l) ∙ no_frames
        (drop from made) in
        let f : a.front ≡ frames_of made frames = sym (append-nil a.front) ∙ ap (λ (y : List ℕ). a.front ++ y) (sym e) ∙ a.rest in
        record {
          behind = a.long ∙ ap (λ (y : List ℕ). 9 + length y) f;
          adds = λ d o p q. a.adds d o p q ∙ ap (λ (y : List ℕ). written (d ++ y) o) f;
        }

-- ---- the whole

module _ (t : ℕ) (made frames out : List ℕ) where
  pub lays_nothing : length out < 9 + length made + 2 * length frames → Lays t made frames out none out
  lays_nothing h = let b = lt-ltb (length out) _ h in record { size = picked _ _ _ b; leaves = picked _ _ _ b }

  pub lays_all : 9 + length made + 2 * length frames ≤ length out → {head out₁ out₂ : List ℕ} {r : ℕ} → head ≡ head_of t frames
      → out₁ ≡ put out 0 head → LaysFrames made frames out₁ r out₂ → Lays t made frames out r out₂
  lays_all h {head} {out₁} {out₂} {r} e p x =
      let b = le-ltb (length out) (9 + length made + 2 * length frames) h in
      let n : length head ≡ 9 = ap length e ∙ head_long t frames in
      let f : out₁ ≡ written head out = p ∙ put_first head out (omega (arith, n)) in
      let k : length (recording_of t made frames) ≡ 9 + length (frames_of made frames) =
      length-append (head_of t frames) (frames_of made frames) ∙ ap (λ (j : ℕ). j + length (frames_of made frames)) (head_long t frames) in
      record {
        size = x.behind ∙ sym k ∙ passed _ _ _ _ b refl;
        leaves = x.adds head out f (sym n) ∙ ap (λ (y : List ℕ). written (y ++ frames_of made frames) out) e ∙ passed _ _ _ _ b refl;
      }
