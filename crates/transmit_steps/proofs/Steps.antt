-- Laws of the steps, from what the code's calls and tests told.
use Rattle.std.specs.Prelude.{Ok, Err}
use Prim.Native.Nat.{ℕ, ◌+◌, ◌-◌, ◌≤◌, ◌<◌}
use native.Mathlib.Omega.{arith}
use mathlib.Core.Path.{◌≡◌, sym, ap, ◌∙◌}
use mathlib.Core.Bool.{true, false}
use mathlib.Core.List.{List, [], ◌++◌, append-nil}
use lib.ListN.{length, take, drop, length-drop}
use lib.Seq.{take_all, drop-drop, drop-length}
use lib.Dec.{ltb}
use borrow.Author.Tests.{lt-ltb, le-ltb, lt-leb, le-leb}
use borrow.Rule.Slice.PartMut.{put_mid}
use Rattle.octets.specs.Pick.{pick}
use Rattle.octets.specs.Parts.{part}
use Rattle.octets.proofs.Choices.{picked, passed}
use Rattle.answer.specs.Told.{number_of}
use Rattle.answer.specs.declared.Reason.{Reason}
use Rattle.sender.specs.Frames.{wanted}
use Rattle.sender.specs.Send as sender
use Rattle.sender.specs.declared.Sent.{Sent}
use Rattle.sender.specs.Answers.{SendAnswer}
use Rattle.words.specs.Octets.{hex_count, hex_left}
use Rattle.transmit_settings.specs.State.{count_of, no_row, more, with_waiting, after_sent}
use Rattle.transmit_settings.specs.Setting.{stopped, going}
use Rattle.transmit_settings.specs.declared.Fault.TheVariants.{Value, Room, Refused}
use Rattle.transmit_settings.specs.declared.Row.{Row}
use Rattle.transmit_settings.specs.declared.State.{State}
use Rattle.transmit_settings.specs.declared.Stepped.{Stepped}
use Rattle.transmit_steps.specs.Step.{behind, entered, queued, queuing}
use Rattle.transmit_steps.specs.Step.{Laid, laid, answered, wanted_of, sending, sending_all}

-- ---- a list's rest, as it is lent and as it is left

abbrev pub lent_rest : ℕ → List ℕ → List ℕ
lent_rest i d = take (length d - i) (drop i d)

abbrev pub left_rest : ℕ → List ℕ → List ℕ → List ℕ
left_rest i d p = put_mid i (length d - i) d p

pub part-lent : (i : ℕ) (d : List ℕ) → take (length d - i) (drop i d) ≡ drop i d
part-lent i d = take_all (length d - i) (drop i d) (omega (arith, length-drop i d))

pub part_left : (i : ℕ) (d p : List ℕ) → i ≤ length d → put_mid i (length d - i) d p ≡ behind i d p
part_left i d p h =
    let none : drop (length d - i) (drop i d) ≡ [] =
    drop-drop (length d - i) i d
    ∙ ap (λ (j : ℕ). drop j d) (let j : i + (length d - i) ≡ length d = omega arith in j)
    ∙ drop-length d in
    rw none (ap (λ (z : List ℕ). take i d ++ z) (append-nil p))

-- ---- a packet more

module _ (s : State) (value packets lengths : List ℕ) where
  pub no_room : {r : Stepped} → length packets < s.waiting.octets → r ≡ stopped s Room
      → queued r packets lengths ≡ queuing s value packets lengths
  unfolding queuing
  no_room h e = ap (λ (x : Stepped). queued x packets lengths) e ∙ picked _ _ _ (lt-ltb _ _ h)

  module _ (a : s.waiting.octets ≤ length packets) where
    pub no_place : {r : Stepped} → length lengths ≤ s.waiting.count → r ≡ stopped s Room
        → queued r packets lengths ≡ queuing s value packets lengths
    unfolding queuing
    no_place h e =
        passed _ _ _ _ (le-ltb _ _ a) (ap (λ (x : Stepped). queued x packets lengths) e ∙ picked _ _ _ (le-leb _ _ h))

    module _ (b : s.waiting.count < length lengths) {n : ℕ} {p : List ℕ}
        (e : n ≡ hex_count value (length (lent_rest s.waiting.octets packets)))
        (l : p ≡ hex_left value (lent_rest s.waiting.octets packets)) where
      n-is : n ≡ hex_count value (length packets - s.waiting.octets)
      n-is =
          e ∙ ap (λ (x : List ℕ). hex_count value (length x)) (part-lent s.waiting.octets packets)
          ∙ ap (hex_count value) (length-drop s.waiting.octets packets)

      put_is : left_rest s.waiting.octets packets p ≡ behind s.waiting.octets packets
          (hex_left value (drop s.waiting.octets packets))
      put_is =
          part_left s.waiting.octets packets p a
          ∙ ap (behind s.waiting.octets packets) (l ∙ ap (hex_left value) (part-lent s.waiting.octets packets))

      pub no_value : {r : Stepped} → 65535 < n → r ≡ stopped s Value → queued r
          (left_rest s.waiting.octets packets p) lengths ≡ queuing s value packets lengths
      unfolding queuing
      no_value h g =
          let many : ltb 65535 (hex_count value (length packets - s.waiting.octets)) ≡ true = lt-ltb 65535
          (hex_count value (length packets - s.waiting.octets)) (omega (arith, n-is)) in
          passed _ _ _ _ (le-ltb _ _ a)
          (passed _ _ _ _ (lt-leb _ _ b)
          (ap (λ (x : Stepped). queued x (left_rest s.waiting.octets packets p) lengths) g ∙ ap
          (λ (x : List ℕ). queued (stopped s Value) x lengths) put_is
          ∙ picked _ _ _ many))

      pub one_more : {r : Stepped} → n ≤ 65535 → {w : Row} {lengths' : List ℕ} → w ≡ more s.waiting n 1 → lengths' ≡ entered lengths
          s.waiting.count n
          → r ≡ going (with_waiting s w) → queued r (left_rest s.waiting.octets packets p) lengths' ≡ queuing s value packets lengths
      unfolding queuing
      one_more {r} h {w} {lengths'} q t g =
          let few : ltb 65535 (hex_count value (length packets - s.waiting.octets)) ≡ false = le-ltb 65535
          (hex_count value (length packets - s.waiting.octets)) (omega (arith, n-is)) in
          let done : queued r (left_rest s.waiting.octets packets p) lengths'
          ≡ queued (going (with_waiting s (more s.waiting n 1)))
          (behind s.waiting.octets packets (hex_left value (drop s.waiting.octets packets)))
          (entered lengths s.waiting.count n) =
          ap (λ (x : Stepped). queued x (left_rest s.waiting.octets packets p) lengths')
          (g ∙ ap (λ (x : Row). going (with_waiting s x)) q)
          ∙ ap (λ (x : List ℕ). queued (going (with_waiting s (more s.waiting n 1))) x lengths') put_is
          ∙ ap (queued (going (with_waiting s (more s.waiting n 1)))
          (behind s.waiting.octets packets (hex_left value (drop s.waiting.octets packets)))) t in
          passed _ _ _ _ (le-ltb _ _ a) (passed _ _ _ _ (lt-leb _ _ b)
          (passed _ _ _ _ few
          (done
          ∙ ap (λ (x : ℕ). queued (going (with_waiting s (more s.waiting x 1)))
          (behind s.waiting.octets packets (hex_left value (drop s.waiting.octets packets))) (entered lengths s.waiting.count x))
          n-is)))

-- ---- the sender's answer

abbrev by : State → sender.Outcome → Laid
by s o = laid (answered s o.answer (λ (t : Sent). with_waiting (after_sent s t) no_row)) o.lent.octets o.lent.lengths

module _ (s : State) (stamp packets lengths out list : List ℕ) {count : ℕ} {time octets ls : List ℕ}
    (pc : count ≡ count_of s) (pt : time ≡ part stamp 0 s.stamp) (po : octets ≡ part packets 0 s.waiting.octets)
    (pl : ls ≡ take s.waiting.count lengths) (a : SendAnswer) {out' list' : List ℕ}
    (e : sender.observed a out' list'
    ≡ sender.sending (wanted s.common (record { 0 = s.master }) (record { 0 = count }) time octets ls s.size) (sender.lent out list))
  where
    asked : sender.observed a out' list' ≡ sender.sending (wanted_of s stamp packets lengths) (sender.lent out list)
    asked =
        e
        ∙ ap (λ (x : ℕ). sender.sending (wanted s.common (record { 0 = s.master }) (record { 0 = x }) time octets ls s.size)
        (sender.lent out list)) pc
        ∙ ap (λ (x : List ℕ). sender.sending
        (wanted s.common (record { 0 = s.master }) (record { 0 = count_of s }) x octets ls s.size)
        (sender.lent out list)) pt
        ∙ ap (λ (x : List ℕ). sender.sending
        (wanted s.common (record { 0 = s.master }) (record { 0 = count_of s }) (part stamp 0 s.stamp) x ls s.size)
        (sender.lent out list)) po
        ∙ ap (λ (x : List ℕ). sender.sending
        (wanted s.common (record { 0 = s.master }) (record { 0 = count_of s }) (part stamp 0 s.stamp)
        (part packets 0 s.waiting.octets) x s.size) (sender.lent out list)) pl

    pub sent-on : {t : Sent} {next : State} {r : Stepped} → a ≡ Ok t → next ≡ after_sent s t → r ≡ going (with_waiting next no_row)
        → laid r out' list' ≡ sending s stamp packets lengths out list
    unfolding sending answered pick
    sent-on ea en er =
        ap (λ (x : Stepped). laid x out' list') (er ∙ ap (λ (x : State). going (with_waiting x no_row)) en)
        ∙ ap (λ (x : SendAnswer). by s (sender.observed x out' list')) (sym ea) ∙ ap (by s) asked

    pub refused-on : {q : Reason} {n : ℕ} {r : Stepped} → a ≡ Err q → n ≡ number_of q → r ≡ stopped s (Refused n)
        → laid r out' list' ≡ sending s stamp packets lengths out list
    unfolding sending answered pick
    refused-on ea en er =
        ap (λ (x : Stepped). laid x out' list') (er ∙ ap (λ (k : ℕ). stopped s (Refused k)) en) ∙ ap (λ (x : SendAnswer). by s (sender.observed x out' list')) (sym ea) ∙ ap (by s) asked

module _ (s : State) (stamp packets lengths out frames : List ℕ) {r : Stepped} where
  pub no_frames : length frames < s.made.count → r ≡ stopped s Room
      → laid r out frames ≡ sending_all s stamp packets lengths out frames
  unfolding sending_all
  no_frames h e = ap (λ (x : Stepped). laid x out frames) e ∙ picked _ _ _ (lt-ltb _ _ h)

  pub all-sent : s.made.count ≤ length frames → {out' list' : List ℕ}
      → laid r out' list' ≡ sending s stamp packets lengths out (take (length frames - s.made.count) (drop s.made.count frames))
      → laid r out' (put_mid s.made.count (length frames - s.made.count) frames list') ≡ sending_all s stamp packets lengths out frames
  unfolding sending_all
  all-sent h {out'} {list'} e =
      passed _ _ _ _ (le-ltb _ _ h)
      (ap (laid r out') (part_left s.made.count frames list' h)
      ∙ ap (λ (l : Laid). laid l.stepped l.out (behind s.made.count frames l.frames))
      (e ∙ ap (sending s stamp packets lengths out) (part-lent s.made.count frames)))
