-- What the whole loop gathers, and what is written then.
use Prim.Native.Nat.{ℕ, ◌+◌, ◌-◌, ◌≤◌}
use mathlib.Core.Path.{◌≡◌, refl, sym, ap, ◌∙◌, subst}
use mathlib.Core.List.{List, [], ◌++◌, append_assoc, append-nil}
use mathlib.Core.Bool.{Bool, true, false, ◌||◌, true≢false}
use native.Mathlib.Omega.{arith}
use lib.Dec.{ltb}
use lib.IntN.{ℤ}
use lib.ListN.{length, drop, replicate, length-append}
use lib.Seq.{take_all, take-append_seam}
use borrow.Author.Tests.{le-ltb}
use Rattle.octets.specs.Parts.{part}
use Rattle.octets.proofs.Choices.{picked, passed, not_picked}
use Rattle.octets.proofs.Placing.{part-some}
use Rattle.decimal.specs.Laid.{Puts}
use Rattle.session.specs.Lent.{Lent}
use Rattle.receiver.specs.declared.Receiver.{Receiver}
use Rattle.image.specs.Line.{Image, image_lines}
use Rattle.feed.specs.Pull.{fresh}
use Rattle.feed.specs.declared.Feed.{Feed}
use Rattle.window.specs.Turns.{Turns, none, more, Made, Loops}
use Rattle.window.specs.Status.{done, against, broken}
use Rattle.window.specs.Window.{hand, unread, unwritten}
use Rattle.window.specs.declared.Refilled.{Refilled}
use Rattle.window.specs.declared.Written.{Written}
use Rattle.window.proofs.Looping.{at_first, one_more}
use Rattle.picture_images.specs.Noted.{images_in}
use Rattle.picture_images.specs.Line.{line_of, longest_line}
use Rattle.picture_run.specs.Files.{shown_of, no_line}
use Rattle.picture_run.specs.Gathered.{Gathered, gathered, at_hand, with_octets, Turned}
use Rattle.picture_run.specs.Whole.{Place, going_at, TurnedAt, place, start_of, Looped, LoopsGather, broke, Finished, status_of}
use Rattle.picture_run.specs.Whole.{black, unnoted, Shown, AllShown, DoneIsShown}
use Rattle.picture_run.specs.declared.ending.Ended.{Ended}
use Rattle.picture_run.specs.declared.State.{State}
use Rattle.picture_run.specs.declared.Stopped.{Stopped}

abbrev state_of : Receiver → Feed → Refilled → State
state_of a f r = record { feed = f; receiver = a; going = true; bad = false; read = r }

-- ---- the loop

-- Turns from a state on, with all that was read in them.
pub record Gone (wanted : ℕ) (s₀ : State) (input₀ kept₀ : List ℕ) (l₀ : Lent) (g₀ : Gathered) (n : ℕ) (s : State) (input kept : List ℕ)
    (l : Lent) (g : Gathered) : Type 0 where
  pub octets : List ℕ
  pub made : Made going_at (TurnedAt wanted) (place s₀ input₀ kept₀ l₀ g₀ []) n (place s input kept l g octets)

module _ {wanted : ℕ} {s₀ : State} {input₀ kept₀ : List ℕ} {l₀ : Lent} {g₀ : Gathered} where
  pub not_gone : Gone wanted s₀ input₀ kept₀ l₀ g₀ 0 s₀ input₀ kept₀ l₀ g₀
  not_gone = record { octets = []; made = at_first }

  pub gone_on : {n : ℕ} {s : State} {input kept : List ℕ} {l : Lent} {g : Gathered} {r : State} {input' kept' : List ℕ} {l' : Lent}
      {g' : Gathered} → Gone wanted s₀ input₀ kept₀ l₀ g₀ n s input kept l g → s.going ≡ true
      → Turned wanted s input kept l g r input' kept' l' g' → Gone wanted s₀ input₀ kept₀ l₀ g₀ (n + 1) r input' kept' l' g'
  gone_on x e t = record {
    octets = x.octets ++ t.pulls.piece;
    made = one_more x.made e (record { turned = t; says = refl; read = refl });
  }

-- Whatever comes, the whole comes to the same from the start on as from there on; and what is gathered at the end.
record Sofar (wanted : ℕ) (a : Receiver) (kept : List ℕ) (g : Gathered) (p : Place) : Type 0 where
  goes : (x : List ℕ) → with_octets wanted a kept (p.octets ++ x) g
      ≡ with_octets wanted p.state.receiver p.kept (at_hand p.state p.input ++ x) p.gathers
  ends : p.state.going ≡ false → p.state.read.failed ≡ false → p.gathers ≡ with_octets wanted a kept p.octets g

sofar : {wanted : ℕ} {a : Receiver} {input kept : List ℕ} {l : Lent} {g : Gathered} {n : ℕ} {text : List ℕ} {p : Place}
    → Turns going_at (TurnedAt wanted) (place (start_of a) input kept l g []) n text p → Sofar wanted a kept g p
sofar none = record { goes = λ x. refl; ends = λ e _. absurd (true≢false e) }
sofar {wanted} {a} {kept = kept} {g = g} (more {r = r} {t} before _ x) =
    let h = sofar before in
    let u = x.turned in
    record {
      goes = λ y. ap (λ (o : List ℕ). with_octets wanted a kept (o ++ y) g) x.read
          ∙ ap (λ (o : List ℕ). with_octets wanted a kept o g) (append_assoc r.octets u.pulls.piece y)
          ∙ h.goes (u.pulls.piece ++ y)
          ∙ u.goes y;
      ends = λ e d.
          let o : t.octets ≡ r.octets = x.read ∙ ap (λ (z : List ℕ). r.octets ++ z) (u.none e d) ∙ append-nil r.octets in
          u.ends e
          ∙ ap (λ (z : List ℕ). with_octets wanted r.state.receiver r.kept z r.gathers)
          (sym (append-nil (at_hand r.state r.input)))
          ∙ sym (h.goes [])
          ∙ ap (λ (z : List ℕ). with_octets wanted a kept z g) (append-nil r.octets ∙ sym o);
    }

pub loops_gather : LoopsGather
loops_gather = record { gathers = λ l e d. (sofar l.loops.made.turns).ends e d }

-- The loop from the start.
pub begun : {wanted : ℕ} (a : Receiver) {s : State} {input kept : List ℕ} {l : Lent} {g : Gathered} {n : ℕ} {p : Place} → s ≡ start_of a
    → Loops going_at (TurnedAt wanted) (place s input kept l g []) n p → Loops going_at (TurnedAt wanted)
    (place (start_of a) input kept l g []) n p
begun {wanted} a {input = input} {kept} {l} {g} {n} {p} e x =
    subst (λ (s : State). Loops going_at (TurnedAt wanted) (place s input kept l g []) n p) e x

-- ---- what is written then

-- all of some octets
pub whole-hand : (l : List ℕ) → hand l 0 (length l) ≡ l
whole-hand l = take_all (length l - 0) l (omega arith)

-- what is done at the end
module _ (lines : Bool) (wanted : ℕ) (r : Stopped) (image : Image) (images : List ℕ) {w : Written} (u : w ≡ unwritten) where
  sized : w.size ≡ 0
  sized = ap (λ (x : Written). x.size) u

  pub was_broken : {b : Bool} → b ≡ broke r → b ≡ true → Finished lines wanted r image images
      (record { none = false; told = 0; written = w })
  was_broken e t =
      let v : broke r ≡ true = sym e ∙ t in
      record {
        none = picked _ _ _ v;
        tells = ap length (picked (broke r) [] _ v);
        wrote = sized ∙ ap length (picked (broke r) [] _ v);
      }

  module _ {b : Bool} (e : b ≡ broke r) (t : b ≡ false) {n : Bool} (f : n ≡ no_line image.lines) where
    whole : broke r ≡ false
    whole = sym e ∙ t

    pub had_none : {k : ℕ} → n ≡ true → k ≡ length (line_of wanted (images_in images))
        → Finished lines wanted r image images (record { none = true; told = k; written = w })
    had_none v h =
        let y : no_line image.lines ≡ true = sym f ∙ v in
        record {
          none = passed _ _ _ _ whole (sym y);
          tells = h ∙ ap length (passed (broke r) [] _ _ whole (picked (no_line image.lines) _ [] y));
          wrote = sized ∙ ap length (passed (broke r) [] _ _ whole (picked (no_line image.lines) [] _ y));
        }

    pub had_some : {o : Written} → n ≡ false → o.size ≡ length (shown_of lines image)
        → Finished lines wanted r image images (record { none = false; told = 0; written = o })
    had_some v h =
        let y : no_line image.lines ≡ false = sym f ∙ v in
        record {
          none = passed _ _ _ _ whole (sym y);
          tells = ap length (passed (broke r) [] _ _ whole (passed (no_line image.lines) (line_of wanted (images_in images)) [] _ y refl));
          wrote = h ∙ ap length (passed (broke r) [] _ _ whole (passed (no_line image.lines) [] _ _ y refl));
        }

-- the line that was put at an output's start
pub line-put : {text out out' : List ℕ} {n : ℕ} → longest_line ≤ length out → Puts longest_line text out 0 out' n → part out' 0 n ≡ text
line-put {text} {out} {out'} {n} room p =
    let b : ltb (length out) (0 + longest_line) ≡ false = le-ltb (length out) (0 + longest_line) (omega arith) in
    let l : out' ≡ text ++ drop (0 + length text) out = p.leaves ∙ sym (passed _ out _ _ b refl) in
    let m : n ≡ 0 + length text = p.behind ∙ sym (passed _ 0 _ _ b refl) in
    let k : n ≡ length text = omega (arith, m) in
    ap (λ (j : ℕ). part out' 0 j) k
    ∙ ap (λ (x : List ℕ). part x 0 (length text)) l
    ∙ sym (part-some (text ++ drop (0 + length text) out) 0 (length text) (omega (arith, length-append text (drop (0 + length text) out))))
    ∙ take-append_seam text (drop (0 + length text) out)

-- the status, by which it is
module _ (r : Stopped) (e : Ended) {b : Bool} (f : b ≡ broke r) where
  pub status_broken : b ≡ true → broken ≡ status_of r e
  status_broken t = picked _ _ _ (sym f ∙ t)

  module _ (t : b ≡ false) where
    pub status_none : e.none ≡ true → against ≡ status_of r e
    status_none n = passed _ _ _ _ (sym f ∙ t) (picked _ _ _ n)

    module _ (n : e.none ≡ false) {d : Bool} (g : d ≡ e.written.failed) where
      pub status_unwritten : d ≡ true → broken ≡ status_of r e
      status_unwritten h = passed _ _ _ _ (sym f ∙ t) (passed _ _ _ _ n (picked _ _ _ (sym g ∙ h)))

      module _ (h : d ≡ false) where
        pub status_bad : r.state.bad ≡ true → against ≡ status_of r e
        status_bad k = passed _ _ _ _ (sym f ∙ t) (passed _ _ _ _ n (passed _ _ _ _ (sym g ∙ h) (picked _ _ _ k)))

        pub status_good : r.state.bad ≡ false → done ≡ status_of r e
        status_good k = passed _ _ _ _ (sym f ∙ t) (passed _ _ _ _ n (passed _ _ _ _ (sym g ∙ h) (passed _ _ _ _ k refl)))

-- ---- a run that ends with 0

done_not_broken : broken ≡ done → ⊥
done_not_broken e = let z : ◌≡◌ {A = ℕ} 0 1 = cc in omega arith

done_not_against : against ≡ done → ⊥
done_not_against e = let z : ◌≡◌ {A = ℕ} 0 1 = cc in omega arith

or_not : (a b : Bool) → (a || b) ≡ false → (a ≡ false) × (b ≡ false)
or_not true b h = absurd (true≢false h)
or_not false b h = (refl, h)

all_shown : {wanted : ℕ} {lines : Bool} {a : Receiver} {status : ℤ} (s : Shown wanted lines a status) → status ≡ done → AllShown s
all_shown {lines = lines} s h =
    let r = s.stopped in
    let e = s.ended in
    let image = s.all.received.image in
    let x = not_picked (broke r) broken _ done (sym s.says ∙ h) done_not_broken in
    let y = not_picked e.none against _ done x.1 done_not_against in
    let z = not_picked e.written.failed broken _ done y.1 done_not_broken in
    let u = not_picked r.state.bad against _ done z.1 done_not_against in
    let on = or_not r.state.going r.state.read.failed x.0 in
    let n : no_line image.lines ≡ false = passed (broke r) false _ _ x.0 refl ∙ sym s.finished.none ∙ y.0 in
    record {
      all = loops_gather.gathers s.looped on.0 on.1;
      some = n;
      wrote = s.finished.wrote
          ∙ ap length (sym (passed (broke r) [] _ (shown_of lines image) x.0 (passed (no_line image.lines) [] _ _ n refl)));
      written = z.0;
      good = u.0;
    }

pub done-is-shown : DoneIsShown
done-is-shown = record { shows = all_shown }

-- ---- what the whole run is

-- before the first turn
pub started : (a : Receiver) {f : Feed} {r : Refilled} → f ≡ fresh → r ≡ unread → state_of a f r ≡ start_of a
started a {r = r} e h = ap (λ (x : Feed). state_of a x r) e ∙ ap (state_of a fresh) h

module _ {wanted : ℕ} {lines : Bool} {a : Receiver} where
  pub shown : {pixels images : List ℕ} {r : Stopped} {g : Gathered} {e : Ended} {status : ℤ} → pixels ≡ black → images ≡ unnoted
      → Looped wanted a (gathered pixels (replicate image_lines 0) (replicate 124 0) images (replicate 124 0)) r g
      → Finished lines wanted r g.received.image g.received.images e → status ≡ status_of r e → Shown wanted lines a status
  shown {images = images} {r} {g} p i l f s = record {
    stopped = r;
    all = g;
    looped = subst (λ (x : List ℕ). Looped wanted a (gathered black (replicate image_lines 0) (replicate 124 0) x (replicate 124 0)) r g) i
        (subst (λ (x : List ℕ). Looped wanted a (gathered x (replicate image_lines 0) (replicate 124 0) images (replicate 124 0)) r g) p l);
    ended = _;
    finished = f;
    says = s;
  }

  pub shown-said : {w : ℕ} {n s : ℤ} → wanted ≡ w → n ≡ s → Shown wanted lines a s → Shown w lines a n
  shown-said {n = n} e f x =
      subst (λ (k : ℕ). Shown k lines a n) e
      (record {
        stopped = x.stopped;
        all = x.all;
        looped = x.looped;
        ended = x.ended;
        finished = x.finished;
        says = f ∙ x.says;
      })
