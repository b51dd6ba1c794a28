-- What is written of a whole recording is the stream of the frames that are accepted.
use Rattle.std.proofs.Common.{◌≡◌, ℕ, zero, suc, ◌+◌, Bool, true, false, ◌||◌, List, [], ◌∷◌, ◌++◌, map, drop, ℤ, sym, refl, ap, ◌∙◌}
use Rattle.std.proofs.Common.{true≢false, append_assoc, append-nil}
use Rattle.octets.specs.Pick.{pick}
use Rattle.octets.proofs.Choices.{picks}
use Rattle.octets.proofs.Tests.{or_left, or_right}
use Rattle.frame.specs.Frame.{read_frame}
use Rattle.rules.specs.Packets.{joined}
use Rattle.recording.specs.Sections.{settings_at, count_at, frame_at}
use Rattle.recording.specs.Pieces.{Found, frames_in, count_in, settings_in}
use Rattle.kiss.specs.Stream.{mark}
use Rattle.recording.specs.declared.Reader.TheVariants as reader
use Rattle.window.specs.Turns.{Turns, none, more, Made, Loops}
use Rattle.window.specs.Status.{broken}
use Rattle.window.specs.Window.{unread, unwritten}
use Rattle.window.specs.declared.Written.{Written}
use Rattle.window.specs.declared.Refilled.{Refilled}
use Rattle.window.proofs.Looping.{at_first, one_more}
use Rattle.export_kiss_run.specs.Written.{block_by, handed_on, time_by, written_of, to_write, accepted_of, exported, WritesAccepted}
use Rattle.export_kiss_run.specs.Turns.{hand_of, failed_in, Ends, Turned, Place, going_at, TurnedAt, place, start, Whole, LoopsExport}
use Rattle.export_kiss_run.specs.declared.State.{State}

-- behind t no t is told
frames-plain : (n : ℕ) (w : List ℕ) → (frames_in n w).t ≡ []
unfolding frames_in
frames-plain zero w = refl
frames-plain (suc n) w =
    picks (λ (f : Found). f.t ≡ []) (frame_at w).whole _ _ (λ h. frames-plain n _) (λ h. refl)

count-plain : (w : List ℕ) → (count_in w).t ≡ []
unfolding count_in
count-plain w = picks (λ (f : Found). f.t ≡ []) (count_at w).whole _ _ (λ h. frames-plain _ _) (λ h. refl)

-- t is told once, or not and no frame either
pub data Once (f : Found) : Type 0 where
  once : (t : ℕ) → f.t ≡ t ∷ [] → Once f
  never : f.t ≡ [] → f.frames ≡ [] → Once f

settings-once : (w : List ℕ) → Once (settings_in w)
unfolding settings_in
settings-once w =
    picks Once (settings_at w).whole _ _
    (λ h. once (settings_at w).number (ap (λ (l : List ℕ). (settings_at w).number ∷ l) (count-plain (drop 5 w))))
    (λ h. never refl refl)

-- the blocks of the accepted frames
one_block : (both b : Bool) (f : List ℕ) (fs : List (List ℕ))
    → pick b (block_by both f) [] ++ joined (map (block_by both) fs) ≡ joined (map (block_by both) (pick b (f ∷ fs) fs))
unfolding pick
one_block both true f fs = refl
one_block both false f fs = refl

blocks : (both : Bool) (t : ℕ) (fs : List (List ℕ)) → joined (map (handed_on both t) fs) ≡ joined (map (block_by both) (accepted_of t fs))
unfolding handed_on
blocks both t [] = refl
blocks both t (f ∷ fs) =
    ap (λ (l : List ℕ). pick (read_frame t f).accepted (block_by both f) [] ++ l) (blocks both t fs)
    ∙ one_block both (read_frame t f).accepted f (accepted_of t fs)

of_found : (both : Bool) (f : Found) (ts : List ℕ) (fs : List (List ℕ)) → f.t ≡ ts → f.frames ≡ fs
    → written_of both 0 f ≡ map (λ (x : ℕ). mark) ts ++ joined (map (handed_on both (time_by 0 ts)) fs)
of_found both f ts fs p q =
    ap (λ (l : List ℕ). map (λ (x : ℕ). mark) l ++ joined (map (handed_on both (time_by 0 l)) f.frames)) p
    ∙ ap (λ (l : List (List ℕ)). map (λ (x : ℕ). mark) ts ++ joined (map (handed_on both (time_by 0 ts)) l)) q

by_once : (both : Bool) (f : Found) → Once f → written_of both 0 f ≡ exported both f.t f.frames
by_once both f (once t e) =
    of_found both f (t ∷ []) f.frames e refl
    ∙ ap (λ (l : List ℕ). mark ∷ l) (blocks both t f.frames)
    ∙ sym (ap (λ (ts : List ℕ). exported both ts f.frames) e)
by_once both f (never e d) = of_found both f [] [] e d ∙ sym (ap (λ (ts : List ℕ). exported both ts f.frames) e)

pub writes-accepted : WritesAccepted
writes-accepted = record {
  writes = λ both octets. by_once both (settings_in octets) (settings-once octets);
  plain = λ t ts frames. refl;
}

-- ---- the loop

-- Turns from a state on, with all that was read in them.
pub record Gone (both : Bool) (s₀ : State) (input₀ : List ℕ) (n : ℕ) (s : State) (input : List ℕ) : Type 0 where
  pub octets : List ℕ
  pub made : Made going_at (TurnedAt both) (place s₀ input₀ []) n (place s input octets)

module _ {both : Bool} {s₀ : State} {input₀ : List ℕ} where
  pub not_gone : Gone both s₀ input₀ 0 s₀ input₀
  not_gone = record { octets = []; made = at_first }

  pub gone_on : {n : ℕ} {s : State} {input : List ℕ} {r : State} {input' : List ℕ} → Gone both s₀ input₀ n s input → s.going ≡ true
      → Turned both s input r input' → Gone both s₀ input₀ (n + 1) r input'
  gone_on g e t = record { octets = g.octets ++ t.piece; made = one_more g.made e (record { turned = t; says = refl; read = refl }) }

-- What the turns wrote is the first part of what is to be written of all that was read, whatever comes; and how the last one ended.
record Sofar (both : Bool) (text : List ℕ) (p : Place) : Type 0 where
  goes : (x : List ℕ) → to_write both 0 reader.Settings (p.octets ++ x)
      ≡ text ++ to_write both p.state.t p.state.reader (hand_of p.state p.input ++ x)
  ends : p.state.going ≡ false → failed_in p.state ≡ false → Ends both p.state.over p.state p.input

sofar : {both : Bool} {input : List ℕ} {n : ℕ} {text : List ℕ} {p : Place} → Turns going_at (TurnedAt both) (place start input []) n text p
    → Sofar both text p
sofar none = record { goes = λ x. refl; ends = λ e d. absurd (true≢false e) }
sofar {both} (more {text = text} {said} {r} {t} before g x) =
    let h = sofar before in
    let u = x.turned in
    record {
      goes = λ y. ap (λ (o : List ℕ). to_write both 0 reader.Settings (o ++ y)) x.read
          ∙ ap (to_write both 0 reader.Settings) (append_assoc r.octets u.piece y)
          ∙ h.goes (u.piece ++ y)
          ∙ ap (λ (l : List ℕ). text ++ l) (u.goes y)
          ∙ ap (λ (l : List ℕ). text ++ (l ++ to_write both t.state.t t.state.reader (hand_of t.state t.input ++ y)))
          (sym x.says)
          ∙ sym (append_assoc text said _);
      ends = u.ends;
    }

abbrev exported_of : Bool → List ℕ → List ℕ
exported_of both octets = exported both (settings_in octets).t (settings_in octets).frames

all : {both : Bool} {text : List ℕ} {p : Place} (bad : Bool) → Sofar both text p → Ends both bad p.state p.input
    → Whole bad (exported_of both) p.octets text
all {both} {text} {p} true h e = λ x.
    sym (h.goes x ∙ ap (λ (l : List ℕ). text ++ l) (e x) ∙ append-nil text) ∙ writes-accepted.writes both (p.octets ++ x)
all {both} {text} {p} false h e =
    let s = p.state in
    sym
    (ap (to_write both 0 reader.Settings) (sym (append-nil p.octets))
    ∙ h.goes []
    ∙ ap (λ (l : List ℕ). text ++ to_write both s.t s.reader l) (append-nil (hand_of s p.input))
    ∙ ap (λ (l : List ℕ). text ++ l) e.0
    ∙ append-nil text)
    ∙ writes-accepted.writes both p.octets

-- ---- the status

-- what a called function said of a test, and what the branch then found
pub tested : (g : Bool) {x x' v : Bool} → x ≡ x' → (g || x) ≡ v → (g || x') ≡ v
tested g p h = ap (λ (b : Bool). g || b) (sym p) ∙ h

pub tested_two : (g y : Bool) {x x' v : Bool} → x ≡ x' → ((g || x) || y) ≡ v → ((g || x') || y) ≡ v
tested_two g y p h = ap (λ (b : Bool). (g || b) || y) (sym p) ∙ h

-- a status that is not 2
whole_run : (b : Bool) (x : ℤ) {status : ℤ} → status ≡ pick b broken x → (status ≡ broken → ⊥) → b ≡ false
unfolding pick
whole_run true x e other = absurd (other e)
whole_run false x e other = refl

pub loops_export : LoopsExport
loops_export = record {
  exports = λ r other.
      let s = r.stopped.state in
      let well = whole_run _ _ r.says other in
      let h = sofar r.looped.loops.made.turns in
      all s.over h (h.ends (or_left _ _ well) (or_right s.going _ well));
}

-- The loop from the start, of which the state says that nothing was read or written yet.
pub begun : {both : Bool} {f : Refilled} {o : Written} (input : List ℕ) {n : ℕ} {p : Place} → f ≡ unread → o ≡ unwritten
    → Loops going_at (TurnedAt both) (place (record {
      reader = reader.Settings;
      t = 0;
      at = 0;
      end = 0;
      passed = 0;
      frames = 0;
      left = false;
      going = true;
      over = false;
      read = f;
      written = o;
    }) input []) n p → Loops going_at (TurnedAt both) (place start input []) n p
begun input ef eo l = rw (ef, eo) at l
