-- An accepted call, of `send` or of `empty`: its frames by the rules, and what it left.
use Rattle.std.specs.Prelude.{Ok}
use Rattle.std.proofs.Common.{◌≡◌, ℕ, suc, ◌-◌, ◌<◌, ◌≤◌, Bool, false, ◌||◌, ltb, List, [], ◌∷◌, map, length, take, sym, refl, ap, ◌∙◌, arith, eqb-true}
use lib.Seq.{take-append_seam}
use borrow.Author.Tests.{not-false}
use Rattle.octets.specs.Pick.{pick}
use Rattle.octets.specs.Parts.{written}
use Rattle.octets.proofs.Choices.{not_picked}
use Rattle.octets.proofs.Tests.{or_left, or_right}
use Rattle.answer.specs.Writer.{left}
use Rattle.answer.proofs.Told.{same-fields, refuse_or_accept}
use Rattle.rules.specs.Packets.{AllGood, joined, cut, total}
use Rattle.rules.proofs.Lengths.{joined-cut, found-again}
use Rattle.sender.specs.Stream.{Choice, next, frames_by}
use Rattle.sender.specs.Sender.{sent_octets}
use Rattle.sender.specs.Frames.{Wanted, packets_of, framed_from, full_frames, choices_of, frames_of}
use Rattle.lengths.specs.Lengths.{lengths_wrong}
use Rattle.sender.specs.Send.{Lent, Outcome, refused, common_wrong, any_turned_away, size_wrong, room_wrong, observed, made, octets_of}
use Rattle.sender.specs.Send.{sent_of, tells, count_after, sending, empty_octets}
use Rattle.sender.specs.Calls.{SendCall, EmptyCall, Call, sends, empties, Does, common_of, master_of, count_of, sent_by, left_by, made_by}
use Rattle.sender.specs.Calls.{packets_by, taken}
use Rattle.sender.specs.declared.Sent.{Sent}
use Rattle.sender.proofs.Numbered.{stepped, stepped-is, octets_upto, upto_count}
use Rattle.sender.proofs.Answers.{all-good, sized}
use Rattle.sender.proofs.Joining.{AllFit}
use Rattle.sender.proofs.Choices.{taken-all, fit_all, count-all}

-- ---- of `send`

pub record Accepted (c : SendCall) : Type 0 where
  pub fields : common_wrong c.wanted.common c.wanted.master c.wanted.count c.wanted.time ≡ false
  pub adds : total c.wanted.lengths ≡ length c.wanted.octets
  pub good : AllGood (packets_of c.wanted)
  pub least : 0 < c.wanted.size
  pub greatest : c.wanted.size ≤ 251 - c.wanted.common.t
  pub outcome : made c.wanted.master c.wanted.count (octets_of c.wanted) c.lent ≡ observed (Ok c.sent)
      c.left.octets c.left.lengths

not_refused : (n : ℕ) (l : Lent) (s : Sent) (o q : List ℕ) → refused n l ≡ observed (Ok s) o q → ⊥
not_refused n l s o q e = refuse_or_accept (ap (λ (x : Outcome). x.answer) e)

pub accepted : (c : SendCall) → Does (sends c) → Accepted c
unfolding sending
accepted c h =
    let w : Wanted = c.wanted in
    let no : (n : ℕ) → refused n c.lent ≡ observed (Ok c.sent) c.left.octets c.left.lengths → ⊥ =
    λ n. not_refused n c.lent c.sent c.left.octets c.left.lengths in
    let a = not_picked (common_wrong w.common w.master w.count w.time || lengths_wrong w.lengths (length w.octets)) _ _ _
    (sym h) (no _) in
    let b = not_picked (any_turned_away (packets_of w)) _ _ _ a.1 (no _) in
    let d = not_picked (size_wrong w.size w.common.t) _ _ _ b.1 (no _) in
    let e = not_picked (room_wrong (octets_of w) c.lent) _ _ _ d.1 (no _) in
    let s = sized w.size w.common.t d.0 in
    record {
      fields = or_left _ _ a.0;
      adds = eqb-true _ _ (not-false _ (or_right (common_wrong w.common w.master w.count w.time) _ a.0));
      good = all-good (packets_of w) b.0;
      least = s.0;
      greatest = s.1;
      outcome = e.1;
    }

-- ---- what any accepted call made

pub record Made (c : Call) : Type 0 where
  pub time : List ℕ
  pub fields : common_wrong (common_of c) (master_of c) (count_of c) time ≡ false
  pub good : AllGood (packets_by c)
  pub choices : List Choice
  pub fit : AllFit (251 - (common_of c).t) choices
  pub whole : taken choices ≡ length (joined (packets_by c))
  pub frames : made_by c ≡ framed_from (common_of c) time (master_of c) (frames_by (packets_by c) 0 (count_of c) choices)
  pub master : (sent_by c).master.0 ≡ stepped (length choices) (master_of c)
  pub count : (sent_by c).count.0 ≡ stepped (length choices) (count_of c)
  pub octets : left_by c ≡ map (sent_octets (common_of c).t) (made_by c)

pub frames_by_lem : (w : Wanted)
    → frames_of w ≡ framed_from w.common w.time w.master
    (frames_by (packets_of w) 0 w.count (choices_of w.size (length (joined (packets_of w)))))
unfolding frames_of
frames_by_lem w = refl

made-sent : (c : SendCall) → Does (sends c) → Made (sends c)
made-sent c h =
    let w : Wanted = c.wanted in
    let a = accepted c h in
    let m : length (joined (packets_of w)) ≡ length w.octets = ap length (joined-cut w.octets w.lengths a.adds) in
    let s : sent_of w.master w.count (octets_of w) ≡ c.sent = same-fields (ap (λ (o : Outcome). o.answer) a.outcome) in
    let number : length (octets_of w) ≡ suc (full_frames w.size (length w.octets)) =
    ap length (octets_upto w a.adds a.least) ∙ upto_count w (suc (full_frames w.size (length w.octets))) in
    let cs : List Choice = choices_of w.size (length (joined (packets_of w))) in
    let count : length cs ≡ suc (full_frames w.size (length w.octets)) =
    count-all w.size (length (joined (packets_of w))) ∙ ap (λ (n : ℕ). suc (full_frames w.size n)) m in
    let on : (k : ℕ) → count_after k (length (octets_of w)) ≡ stepped (length cs) k =
    λ k. ap (count_after k) number ∙ sym (stepped-is (full_frames w.size (length w.octets)) k) ∙ ap (λ (n : ℕ). stepped n k)
    (sym count) in
    record {
      time = w.time;
      fields = a.fields;
      good = a.good;
      choices = cs;
      fit = fit_all (251 - w.common.t) w.size (length (joined (packets_of w))) a.least a.greatest;
      whole = taken-all w.size (length (joined (packets_of w))) a.least;
      frames = frames_by_lem w;
      master = ap (λ (x : Sent). x.master.0) (sym s) ∙ on w.master;
      count = ap (λ (x : Sent). x.count.0) (sym s) ∙ on w.count;
      octets =
          ap (λ (o : Outcome). cut o.lent.octets (take c.sent.frames o.lent.lengths)) (sym a.outcome)
          ∙ found-again (octets_of w) _ _ c.sent.frames (ap (λ (x : Sent). x.frames) (sym s));
    }

-- ---- of `empty`

made-empty : (c : EmptyCall) → Does (empties c) → Made (empties c)
unfolding left pick
made-empty c h =
    let wrong : Bool = common_wrong c.common c.master c.count c.time in
    let octets : List ℕ = empty_octets c.common c.master c.count c.time in
    let a = not_picked wrong _ _ _ (sym h.answers) refuse_or_accept in
    let b = not_picked (ltb (length c.lent) (length octets)) _ _ _ a.1 refuse_or_accept in
    let s : tells c.master c.count 1 (length octets) ≡ c.sent = same-fields b.1 in
    let out : c.left ≡ written octets c.lent = h.leaves ∙ simp (a.0, b.0) in
    record {
      time = c.time;
      fields = a.0;
      good = tt;
      choices = next 0 ∷ [];
      fit = (omega arith, tt);
      whole = refl;
      frames = refl;
      master = ap (λ (x : Sent). x.master.0) (sym s);
      count = ap (λ (x : Sent). x.count.0) (sym s);
      octets =
          ap (λ (x : Sent). take x.octets c.left ∷ []) (sym s)
          ∙ ap (λ (x : List ℕ). take (length octets) x ∷ []) out
          ∙ ap (λ (x : List ℕ). x ∷ []) (take-append_seam octets _);
    }

pub made_by_lem : (c : Call) → Does c → Made c
made_by_lem (sends c) h = made-sent c h
made_by_lem (empties c) h = made-empty c h
