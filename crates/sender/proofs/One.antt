-- One frame: its fields are in range if an empty frame's are, and what writing it leaves.
use Rattle.std.specs.Prelude.{Ok, Err, is_err}
use Rattle.std.proofs.Common.{◌≡◌, ℕ, ◌+◌, ◌-◌, ◌≤◌, Bool, true, false, not, ◌||◌, ltb, List, [], length, take, drop, sym, refl, ap, ◌∙◌, arith, length-drop, length-take, le-ltb, lt-ltb, eq-eqb}
use Rattle.octets.specs.Pick.{pick}
use Rattle.octets.specs.Parts.{written}
use Rattle.octets.proofs.Choices.{not_picked}
use Rattle.answer.specs.Refusals.{output_short, field_range}
use Rattle.answer.specs.Told.{Told, accept, refuse, refuse_at}
use Rattle.answer.specs.declared.Reason.{Reason}
use Rattle.answer.specs.Writer.{Wrote, writing}
use Rattle.answer.specs.Writer as writer
use Rattle.answer.specs.Writer.{Written}
use Rattle.answer.proofs.Told.{refuse_or_accept}
use Rattle.answer.proofs.Writer.{wrote, one_written}
use Rattle.frame.specs.Frame.{pointer_wrong}
use Rattle.frame.specs.Write.{fields_wrong, frame_octets, WroteFrame}
use Rattle.frame.specs.declared.Frame.{Frame}
use Rattle.frame.proofs.Laying.{InRange, in_range, length-octets}
use Rattle.rules.specs.Channel.{pointer_to}
use Rattle.rules.proofs.Standing.{Order, up_to, past, order}
use Rattle.sender.specs.Stream.{next_count}
use Rattle.sender.specs.Frames.{fields_of, empty_frame}
use Rattle.sender.specs.Send.{no_sent, told, tells, common_wrong, empty_octets, Emptied}
use Rattle.sender.specs.Asked.{Frameable, Framing}
use Rattle.sender.specs.declared.Common.{Common}
use Rattle.sender.specs.declared.Sent.{Sent}
use Rattle.sender.specs.Answers.{SendAnswer}

-- ---- fields in range

pub or_true : (a b : Bool) → ((a || true) || b) ≡ true
or_true true b = refl
or_true false b = refl

pointer-right : (p n : ℕ) → pointer_wrong (pointer_to p n) n ≡ false
unfolding pointer_wrong
pointer-right p n = go (order n p)
  where
    go : Order n p → pointer_wrong (pointer_to p n) n ≡ false
    go (past l e) = rw (lt-ltb p n l, lt-ltb p n l)
    go (up_to l e) = rw (le-ltb p n l) (ap not (or_true (ltb 255 n) _))

module _ (c : Common) (master count : ℕ) (time : List ℕ) (h : common_wrong c master count time ≡ false) where
  range : InRange (empty_frame c time master count).fields c.t 0 (length time)
  range = in_range _ _ _ _ h

  pub time-most : c.t ≤ 8
  time-most = range.time

  pub time-lent : length time ≡ c.t
  time-lent = range.lent

  -- whatever the counts and the pointer
  pub fields-right : (master' count' pointer n : ℕ) → pointer_wrong pointer n ≡ false → n ≤ 251 - c.t
      → fields_wrong (fields_of c master' count' pointer n) c.t n (length time) ≡ false
  unfolding fields_wrong
  fields-right master' count' pointer n p l =
      simp (
        le-ltb 8 c.t range.time,
        eq-eqb (length time) c.t range.lent,
        eq-eqb n n refl,
        le-ltb (251 - c.t) n l,
        le-ltb 7 c.channel range.channel,
        le-ltb 3 c.telecommands range.telecommands,
        p,
        le-ltb 15 c.destination.ssid range.to,
        le-ltb 15 c.source.ssid range.from,
        range.destination,
        range.source,
      )

-- ---- what writing it leaves

written_out : {wrong : Bool} {octets out : List ℕ} {r : Written} {out' : List ℕ} → wrong ≡ false → length octets ≤ length out
    → Wrote wrong octets out r out' → out' ≡ written octets out
written_out {wrong} {octets} right room w =
    ap (λ (q : Written × List ℕ). q.1) (one_written w (wrote {said = wrong} refl right room refl refl))

part_length : (d : List ℕ) (at n : ℕ) → at + n ≤ length d → length (take n (drop at d)) ≡ n
part_length d at n h = simp (length-take, length-drop) (omega arith)

pub framing : (c : Common) (master count place at n : ℕ) (time octets out : List ℕ) {f : Frame} {e k : ℕ} {r : Written} {out' : List ℕ}
    → Frameable c master count time octets at n out → f ≡ fields_of c master count (pointer_to place n) n → e ≡ at + n
    → WroteFrame f c.t (take (e - at) (drop at octets)) time out r out' → k ≡ n + 23 + c.t
    → Framing c master count time (take n (drop at octets)) place out k out'
framing c master count place at n time octets out {f} {e} {k} {r} {out'} a ef ee w ek =
    let xs : List ℕ = take n (drop at octets) in
    let size : length xs ≡ n = part_length octets at n a.within in
    let end : e - at ≡ n = omega arith in
    let long : length (frame_octets (fields_of c master count (pointer_to place n) n) c.t xs time) ≡ length xs + 23 + length time =
    length-octets _ c.t xs time in
    let w₁ : WroteFrame (fields_of c master count (pointer_to place n) n) c.t xs time out r out' = rw (end, ef) at w in
    let right : fields_wrong (fields_of c master count (pointer_to place n) n) c.t (length xs) (length time) ≡ false =
    rw size (fields-right c master count time a.fields master count (pointer_to place n) n (pointer-right place n) a.few) in
    record {
      answers = omega (arith, size);
      leaves = rw size (written_out right (omega (arith, long, size, a.room, time-lent c master count time a.fields)) w₁);
    }

-- ---- one empty frame

-- what is told of the writer's answer
retold : ℕ → ℕ → Told ℕ → Told Sent
retold master count t = pick t.accepted (accept (tells master count 1 t.fields)) (refuse_at no_sent t.refusal t.octet)

retold_is : (master count : ℕ) (wrong short : Bool) (n : ℕ)
    → retold master count (pick wrong (refuse 0 field_range) (pick short (refuse 0 output_short) (accept n)))
    ≡ pick wrong (refuse no_sent field_range) (pick short (refuse no_sent output_short) (accept (tells master count 1 n)))
unfolding retold pick
retold_is master count true short n = refl
retold_is master count false true n = refl
retold_is master count false false n = refl

module _ (c : Common) (master count : ℕ) (time out : List ℕ) {f : Frame} {r : Written} {out' : List ℕ}
    (ef : f ≡ fields_of c master count (pointer_to 0 0) 0) (w : WroteFrame f c.t [] time out r out') where
  plain : WroteFrame (fields_of c master count 255 0) c.t [] time out r out'
  plain = rw ef at w

  emptied : {a : SendAnswer} → told a ≡ retold master count (writer.told r) → Emptied c master count time out a out'
  unfolding writing
  emptied e =
      record {
        answers = e ∙ ap (retold master count) plain.answers
            ∙ retold_is master count (common_wrong c master count time) (ltb (length out) (length (empty_octets c master count time)))
            (length (empty_octets c master count time));
        leaves = plain.leaves;
      }

  pub emptied_sent : {n all own : ℕ} → r ≡ Ok n → all ≡ next_count master → own ≡ next_count count
      → Emptied c master count time out (Ok
      (record { frames = 1; octets = n; master = record { 0 = all }; count = record { 0 = own } })) out'
  unfolding retold pick
  emptied_sent er ea eo = emptied (rw (er, ea, eo))

  pub emptied_refused : {n : Reason} → r ≡ Err n → Emptied c master count time out (Err n) out'
  unfolding retold pick
  emptied_refused er = emptied (rw er)

-- ---- whether an empty frame can be made

chosen : {A : Type 0} (b s : Bool) (x y z : A) → b ≡ false → s ≡ false → pick b x (pick s y z) ≡ z
unfolding pick
chosen b s x y z p q = simp (p, q)

module _ (c : Common) (master count : ℕ) (time out : List ℕ) {r : SendAnswer} {out' : List ℕ}
    (e : Emptied c master count time out r out') where
  pub made-right : {s : Sent} → r ≡ Ok s → false ≡ common_wrong c master count time
  made-right {s} p =
      sym (not_picked (common_wrong c master count time) _ _ _ (sym e.answers ∙ ap told p) refuse_or_accept).0

  long : common_wrong c master count time ≡ false → length (empty_octets c master count time) ≤ 31
  long h = omega (
    arith,
    length-octets (empty_frame c time master count).fields
        c.t [] time,
    time-most c master count time h,
    time-lent c master count time h,
  )

  pub refused-wrong : {n : Reason} → 31 ≤ length out → r ≡ Err n → true ≡ common_wrong c master count time
  refused-wrong {n} room p = go (common_wrong c master count time) refl
    where
      go : (b : Bool) → common_wrong c master count time ≡ b → true ≡ common_wrong c master count time
      go true h = sym h
      go false h =
          let room' : length (empty_octets c master count time) ≤ length out = omega (arith, long h) in
          refuse_or_accept (ap told (sym p) ∙ e.answers
          ∙ chosen _ (ltb (length out) (length (empty_octets c master count time))) _ _ _ h (le-ltb _ _ room'))

  pub wrong-told : 31 ≤ length out → is_err r ≡ common_wrong c master count time
  wrong-told room = go r refl
    where
      go : (x : SendAnswer) → r ≡ x → is_err x ≡ common_wrong c master count time
      go (Ok s) p = made-right p
      go (Err n) p = refused-wrong room p
