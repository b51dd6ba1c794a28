-- Laws of the lines that make frames or set something, and of a whole step.
use Rattle.std.specs.Prelude.{Ok, Err}
use Prim.Native.Nat.{ℕ, ◌≤◌, ◌<◌}
use native.Mathlib.Omega.{arith}
use mathlib.Core.Path.{◌≡◌, sym, ap, subst, ◌∙◌}
use mathlib.Core.Bool.{Bool, true, false, ◌||◌}
use mathlib.Core.List.{List}
use lib.ListN.{length}
use lib.Dec.{eqb}
use borrow.Author.Tests.{lt-ltb, le-ltb, lt-leb, le-leb}
use Rattle.octets.specs.Numbers.{at}
use Rattle.octets.specs.Pick.{pick}
use Rattle.octets.specs.Parts.{part}
use Rattle.octets.specs.Same.{same}
use Rattle.octets.proofs.Choices.{picked, passed}
use Rattle.answer.specs.Told.{Told, number_of}
use Rattle.answer.specs.declared.Reason.{Reason}
use Rattle.sender.specs.Send as sender
use Rattle.sender.specs.declared.Sent.{Sent}
use Rattle.sender.specs.Answers.{SendAnswer}
use Rattle.words.specs.Octets.{hex_count, hex_left}
use Rattle.words.specs.Words.{word_of, rest_of}
use Rattle.transmit_settings.specs.State.{count_of, more, with_made, after_sent}
use Rattle.transmit_settings.specs.Setting.{stopped, going, setting}
use Rattle.transmit_settings.specs.Setting as settings
use Rattle.transmit_settings.proofs.Setting.{here, past}
use Rattle.transmit_settings.specs.declared.Fault.TheVariants.{Value, Room, Refused}
use Rattle.transmit_settings.specs.declared.Row.{Row}
use Rattle.transmit_settings.specs.declared.State.{State}
use Rattle.transmit_settings.specs.declared.Stepped.{Stepped}
use Rattle.transmit_steps.specs.Step.{packet_word, send_word, empty_word, frame_word, remark, behind, entered, queued, queuing}
use Rattle.transmit_steps.specs.Step.{Laid, laid, answered, sending_all, empty_told}
use Rattle.transmit_steps.specs.Step.{emptying, framing, lent, Outcome, outcome, made_in, queued_in, set_in, making, making_behind}
use Rattle.transmit_steps.specs.Step.{stepping}
use Rattle.transmit_steps.proofs.Steps.{lent_rest, left_rest, part-lent, part_left}

-- ---- an empty frame

module _ (s : State) (stamp out frames : List ℕ) {count : ℕ} {time : List ℕ} (pc : count ≡ count_of s) (pt : time ≡ part stamp 0 s.stamp)
    {a : SendAnswer} {out' : List ℕ} (e : sender.Emptied s.common s.master count time out a out') where
  done : sender.Emptied s.common s.master (count_of s) (part stamp 0 s.stamp) out a out'
  done =
      subst (λ (x : List ℕ). sender.Emptied s.common s.master (count_of s) x out a out') pt
      (subst (λ (x : ℕ). sender.Emptied s.common s.master x time out a out') pc e)

  told_is : sender.told a ≡ empty_told s stamp out
  unfolding empty_told
  told_is = done.answers

  abbrev ending : Told Sent → List ℕ → Laid
  ending told o =
      laid (answered s told (after_sent s)) o (pick told.accepted (entered frames s.made.count told.fields.octets) frames)

  ends : ending (sender.told a) out' ≡ emptying s stamp out frames
  unfolding emptying
  ends = ap (λ (x : Told Sent). ending x out') told_is ∙ ap (ending (empty_told s stamp out)) done.leaves

  pub emptied_on : {t : Sent} {next : State} {r : Stepped} {frames' : List ℕ} → a ≡ Ok t → next ≡ after_sent s t → r ≡ going next
      → frames' ≡ entered frames s.made.count t.octets → laid r out' frames' ≡ emptying s stamp out frames
  unfolding answered pick
  emptied_on {t} {next} {r} {frames'} ea en er ef =
      ap (λ (x : Stepped). laid x out' frames') (er ∙ ap going en) ∙ ap (laid (going (after_sent s t)) out') ef
      ∙ ap (λ (x : SendAnswer). ending (sender.told x) out') (sym ea) ∙ ends

  pub not_emptied : {q : Reason} {n : ℕ} {r : Stepped} → a ≡ Err q → n ≡ number_of q → r ≡ stopped s (Refused n)
      → laid r out' frames ≡ emptying s stamp out frames
  unfolding answered pick
  not_emptied ea en er =
      ap (λ (x : Stepped). laid x out' frames) (er ∙ ap (λ (k : ℕ). stopped s (Refused k)) en) ∙ ap (λ (x : SendAnswer). ending (sender.told x) out') (sym ea) ∙ ends

-- ---- a frame as it stands

module _ (s : State) (value out frames : List ℕ) {n : ℕ} {out' : List ℕ} (e : n ≡ hex_count value (length out))
    (l : out' ≡ hex_left value out)
    {r : Stepped} where
  pub no_frame_lem : 1024 < n → r ≡ stopped s Value → laid r out' frames ≡ framing s value out frames
  unfolding framing
  no_frame_lem h g =
      ap (λ (x : Stepped). laid x out' frames) g ∙ ap (λ (x : List ℕ). laid (stopped s Value) x frames) l
      ∙ picked _ _ _ (lt-ltb 1024 (hex_count value (length out)) (omega (arith, e)))

  pub one-frame : n ≤ 1024 → {w : Row} {frames' : List ℕ} → w ≡ more s.made n 1 → frames' ≡ entered frames s.made.count n
      → r ≡ going (with_made s w) → laid r out' frames' ≡ framing s value out frames
  unfolding framing
  one-frame h {w} {frames'} q t g =
      passed _ _ _ _ (le-ltb 1024 (hex_count value (length out)) (omega (arith, e)))
      (ap (λ (x : Stepped). laid x out' frames') (g ∙ ap (λ (x : Row). going (with_made s x)) q)
      ∙ ap (λ (x : List ℕ). laid (going (with_made s (more s.made n 1))) x frames') l
      ∙ ap (laid (going (with_made s (more s.made n 1))) (hex_left value out)) t
      ∙ ap (λ (x : ℕ). laid (going (with_made s (more s.made x 1))) (hex_left value out) (entered frames s.made.count x)) e)

-- ---- a line that makes frames, or sets something

module _ (s : State) (line stamp packets lengths out frames : List ℕ) where
  pub no_more : {r : Stepped} → length frames ≤ s.made.count → r ≡ stopped s Room
      → outcome r (lent stamp packets lengths out frames) ≡ making s line (lent stamp packets lengths out frames)
  unfolding making
  no_more h e = ap (λ (x : Stepped). outcome x (lent stamp packets lengths out frames)) e ∙ picked _ _ _ (le-leb _ _ h)

  module _ (h : s.made.count < length frames) {b : Bool} (p : b ≡ same line send_word) where
    pub made-sent : b ≡ true → {r : Stepped} {out' frames' : List ℕ} → laid r out' frames' ≡ sending_all s stamp packets lengths out frames
        → outcome r (lent stamp packets lengths out' frames') ≡ making s line (lent stamp packets lengths out frames)
    unfolding making
    made-sent k e = passed _ _ _ _ (lt-leb _ _ h) (here _ _ p k (ap (made_in (lent stamp packets lengths out frames)) e))

    module _ (k : b ≡ false) {c : Bool} (q : c ≡ same line empty_word) where
      pub made-empty : c ≡ true → {r : Stepped} {out' frames' : List ℕ} → laid r out' frames' ≡ emptying s stamp out frames
          → outcome r (lent stamp packets lengths out' frames') ≡ making s line (lent stamp packets lengths out frames)
      unfolding making
      made-empty m e =
          passed _ _ _ _ (lt-leb _ _ h) (past _ _ p k (here _ _ q m (ap (made_in (lent stamp packets lengths out frames)) e)))

      module _ (m : c ≡ false) {w v : List ℕ} (pw : w ≡ word_of line) (pv : v ≡ rest_of line) {d : Bool} (t : d ≡ same w frame_word) where
        framed : d ≡ same (word_of line) frame_word
        framed = t ∙ ap (λ (x : List ℕ). same x frame_word) pw

        pub made-frame : d ≡ true → {r : Stepped} {out' frames' : List ℕ} → laid r out' frames' ≡ framing s v out frames
            → outcome r (lent stamp packets lengths out' frames') ≡ making s line (lent stamp packets lengths out frames)
        unfolding making
        made-frame n e =
            passed _ _ _ _ (lt-leb _ _ h)
            (past _ _ p k (past _ _ q m (here _ _ framed n
            (ap (made_in (lent stamp packets lengths out frames)) (e ∙ ap (λ (x : List ℕ). framing s x out frames) pv)))))

        pub made-set : d ≡ false → {r : Stepped} {stamp' : List ℕ} → settings.observed r stamp' ≡ setting s w v stamp
            → outcome r (lent stamp' packets lengths out frames) ≡ making s line (lent stamp packets lengths out frames)
        unfolding making
        made-set n e =
            passed _ _ _ _ (lt-leb _ _ h)
            (past _ _ p k (past _ _ q m (past _ _ framed n
            (ap (set_in (lent stamp packets lengths out frames))
            (e ∙ ap (λ (x : List ℕ). setting s x v stamp) pw ∙ ap (λ (x : List ℕ). setting s (word_of line) x stamp) pv)))))

-- ---- a step

module _ (s : State) (line stamp packets lengths made frames : List ℕ) {b : Bool}
    (p : b ≡ (eqb (length line) 0 || eqb (at line 0) remark)) where
  pub over : b ≡ true → {r : Stepped} → r ≡ going s
      → outcome r (lent stamp packets lengths made frames) ≡ stepping s line (lent stamp packets lengths made frames)
  unfolding stepping
  over k e = here _ _ p k (ap (λ (x : Stepped). outcome x (lent stamp packets lengths made frames)) e)

  module _ (k : b ≡ false) {w : List ℕ} (pw : w ≡ word_of line) {c : Bool} (t : c ≡ same w packet_word) where
    worded : c ≡ same (word_of line) packet_word
    worded = t ∙ ap (λ (x : List ℕ). same x packet_word) pw

    pub step-packet : c ≡ true → {r : Stepped} {v packets' lengths' : List ℕ} → v ≡ rest_of line
        → queued r packets' lengths' ≡ queuing s v packets lengths
        → outcome r (lent stamp packets' lengths' made frames) ≡ stepping s line (lent stamp packets lengths made frames)
    unfolding stepping
    step-packet m pv e =
        past _ _ p k (here _ _ worded m
        (ap (queued_in (lent stamp packets lengths made frames)) (e ∙ ap (λ (x : List ℕ). queuing s x packets lengths) pv)))

    module _ (m : c ≡ false) where
      pub step-full : {r : Stepped} → length made < s.made.octets → r ≡ stopped s Room
          → outcome r (lent stamp packets lengths made frames) ≡ stepping s line (lent stamp packets lengths made frames)
      unfolding stepping making_behind
      step-full h e =
          past _ _ p k (past _ _ worded m
          (ap (λ (x : Stepped). outcome x (lent stamp packets lengths made frames)) e ∙ picked _ _ _ (lt-ltb _ _ h)))

      pub step-made : s.made.octets ≤ length made → {r : Stepped} {stamp' out' frames' : List ℕ}
          → outcome r (lent stamp' packets lengths out' frames') ≡ making s line
          (lent stamp packets lengths (lent_rest s.made.octets made) frames)
          → outcome r (lent stamp' packets lengths (left_rest s.made.octets made out') frames')
          ≡ stepping s line (lent stamp packets lengths made frames)
      unfolding stepping making_behind
      step-made h {r} {stamp'} {out'} {frames'} e =
          past _ _ p k (past _ _ worded m
          (passed _ _ _ _ (le-ltb _ _ h)
          (ap (λ (x : List ℕ). outcome r (lent stamp' packets lengths x frames')) (part_left s.made.octets made out' h)
          ∙ ap (λ (o : Outcome). outcome o.stepped
          (lent o.lent.stamp o.lent.packets o.lent.lengths (behind s.made.octets made o.lent.made) o.lent.frames))
          (e ∙ ap (λ (x : List ℕ). making s line (lent stamp packets lengths x frames)) (part-lent s.made.octets made)))))
