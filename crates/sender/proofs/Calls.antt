-- Calls one after another are a sender's by the rules.
use Rattle.std.proofs.Common.{◌≡◌, ℕ, suc, ◌+◌, ◌-◌, ◌*◌, Bool, true, false, cond, eqb, List, [], ◌∷◌, ◌++◌, map, length, sym, refl, ap, ◌∙◌, subst, append_assoc, arith, length-append, length-take, take_all, eqb-true}
use Rattle.rules.specs.Channel.{Piece}
use Rattle.rules.specs.Packets.{AllGood, joined, cut, total}
use Rattle.rules.proofs.Room.{joined-append}
use Rattle.rules.proofs.Lengths.{joined-cut}
use Rattle.sender.specs.Stream.{Choice, raw, next, next_count, frames_by}
use Rattle.sender.specs.Sender.{Framed, sent_octets, AllWellFormed, Mastered, when, of_channel, piece_of, pieces_of}
use Rattle.sender.specs.Frames.{Wanted, packets_of, framed_from, full_frames, choices_of, frames_of}
use Rattle.sender.specs.Calls.{Call, common_of, master_of, count_of, sent_by, left_by, made_by, packets_by, over_all, packets_on, counted}
use Rattle.sender.specs.Calls.{HandedOn, taken, CallsByRules, CallsCutBySize}
use Rattle.sender.specs.declared.Common.{Common}
use Rattle.sender.proofs.Numbered.{stepped, full-below, full-most}
use Rattle.sender.proofs.Joining.{by_both, well_formed_lem, well_append, mastered, mastered_append}
use Rattle.sender.proofs.Choices.{taken-all, fit_all, amounts_all, data_of, data_lengths, data_joined}
use Rattle.sender.proofs.Accepted.{accepted, frames_by_lem, Made, made_by_lem}

-- ---- the pieces of a channel

pieces-append : (v : ℕ) (fs gs : List Framed) → pieces_of v (fs ++ gs) ≡ pieces_of v fs ++ pieces_of v gs
pieces-append v [] gs = refl
pieces-append v (f ∷ fs) gs =
    rw (pieces-append v fs gs) (sym (append_assoc (when (of_channel v f) (piece_of f)) (pieces_of v fs) (pieces_of v gs)))

pieces_own : (c : Common) (time : List ℕ) (v m : ℕ) (ps : List Piece) → eqb c.channel v ≡ true → pieces_of v (framed_from c time m ps) ≡ ps
pieces_own c time v m [] e = refl
pieces_own c time v m (p ∷ ps) e = rw e (ap (λ (l : List Piece). p ∷ l) (pieces_own c time v (next_count m) ps e))

pieces-other : (c : Common) (time : List ℕ) (v m : ℕ) (ps : List Piece) → eqb c.channel v ≡ false → pieces_of v
    (framed_from c time m ps) ≡ []
pieces-other c time v m [] e = refl
pieces-other c time v m (p ∷ ps) e = rw e (pieces-other c time v (next_count m) ps e)

-- ---- one channel

record Streamed (v first : ℕ) (frames : List Framed) (packets : List (List ℕ)) : Type 0 where
  pub good : AllGood packets
  pub choices : List Choice
  pub sent : pieces_of v frames ≡ frames_by packets 0 first choices
  pub whole : taken choices ≡ length (joined packets)

good-append : (ps qs : List (List ℕ)) → AllGood ps → AllGood qs → AllGood (ps ++ qs)
good-append [] qs a b = b
good-append (p ∷ ps) qs a b = (a.0, good-append ps qs a.1 b)

taken-append : (cs ds : List Choice) → taken (cs ++ ds) ≡ taken cs + taken ds
taken-append [] ds = omega arith
taken-append (raw xs ∷ cs) ds = taken-append cs ds
taken-append (next n ∷ cs) ds = omega (arith, taken-append cs ds)

-- a call on it, and those behind
streamed_own : {c : Call} (m : Made c) {v first n : ℕ} {rest : List Framed} {packets : List (List ℕ)} → eqb (common_of c).channel v ≡ true
    → count_of c ≡ first → n ≡ (sent_by c).count.0 → Streamed v n rest packets → Streamed v first (made_by c ++ rest) (packets_by c ++ packets)
streamed_own {c} m {v} {first} {n} {rest} {packets} e f k s =
    record {
      good = good-append (packets_by c) packets m.good s.good;
      choices = m.choices ++ s.choices;
      sent =
          pieces-append v (made_by c) rest
          ∙ ap (λ (fs : List Framed). pieces_of v fs ++ pieces_of v rest) m.frames
          ∙ ap (λ (ps : List Piece). ps ++ pieces_of v rest)
          (pieces_own (common_of c) m.time v (master_of c) (frames_by (packets_by c) 0 (count_of c) m.choices) e)
          ∙ ap (λ (ps : List Piece). frames_by (packets_by c) 0 (count_of c) m.choices ++ ps)
          (s.sent ∙ ap (λ (j : ℕ). frames_by packets 0 j s.choices) (k ∙ m.count))
          ∙ sym (by_both (packets_by c) packets m.choices s.choices (count_of c) m.whole)
          ∙ ap (λ (j : ℕ). frames_by (packets_by c ++ packets) 0 j (m.choices ++ s.choices)) f;
      whole = omega (
        arith,
        taken-append m.choices s.choices,
        m.whole,
        s.whole,
        ap length (joined-append (packets_by c) packets),
        length-append (joined (packets_by c)) (joined packets),
      );
    }

-- a call on another
streamed_other : {c : Call} (m : Made c) {v first : ℕ} {rest : List Framed} {packets : List (List ℕ)} → eqb (common_of c).channel v ≡ false
    → Streamed v first rest packets → Streamed v first (made_by c ++ rest) packets
streamed_other {c} m {v} {first} {rest} e s =
    record {
      good = s.good;
      choices = s.choices;
      sent =
          pieces-append v (made_by c) rest
          ∙ ap (λ (fs : List Framed). pieces_of v fs ++ pieces_of v rest) m.frames
          ∙ ap (λ (ps : List Piece). ps ++ pieces_of v rest)
          (pieces-other (common_of c) m.time v (master_of c) (frames_by (packets_by c) 0 (count_of c) m.choices) e)
          ∙ s.sent;
      whole = s.whole;
    }

streamed : (v t master : ℕ) (counts : ℕ → ℕ) (calls : List Call) → HandedOn t master counts calls
    → Streamed v (counts v) (over_all made_by calls) (packets_on v calls)
streamed v t master counts [] h = record { good = tt; choices = []; sent = refl; whole = refl }
streamed v t master counts (c ∷ cs) h =
    go (eqb (common_of c).channel v) refl
    (streamed v t (sent_by c).master.0 (counted counts (common_of c).channel (sent_by c).count.0) cs h.4)
  where
    go : (b : Bool) → eqb (common_of c).channel v ≡ b
        → Streamed v (cond (eqb (common_of c).channel v) (sent_by c).count.0 (counts v)) (over_all made_by cs) (packets_on v cs)
        → Streamed v (counts v) (made_by c ++ over_all made_by cs) (cond (eqb (common_of c).channel v) (packets_by c) [] ++ packets_on v cs)
    go true e s =
        rw e (streamed_own (made_by_lem c h.0) e (h.3 ∙ ap counts (eqb-true (common_of c).channel v e)) refl (rw e at s))
    go false e s = rw e (streamed_other (made_by_lem c h.0) e (rw e at s))

-- ---- all of them

all-formed : (t master : ℕ) (counts : ℕ → ℕ) (calls : List Call) → HandedOn t master counts calls → AllWellFormed t (over_all made_by calls)
all-formed t master counts [] h = tt
all-formed t master counts (c ∷ cs) h =
    let m = made_by_lem c h.0 in
    well_append t (made_by c) (over_all made_by cs)
    (subst (λ (k : ℕ). AllWellFormed k (made_by c)) h.1
    (rw m.frames (well_formed_lem (common_of c) (master_of c) (count_of c) m.time m.fields (packets_by c) m.choices 0 (master_of c)
    (count_of c) m.fit)))
    (all-formed t (sent_by c).master.0 (counted counts (common_of c).channel (sent_by c).count.0) cs h.4)

frames-count : (c : Common) (time : List ℕ) (m : ℕ) (ps : List Piece) → length (framed_from c time m ps) ≡ length ps
frames-count c time m [] = refl
frames-count c time m (p ∷ ps) = ap suc (frames-count c time (next_count m) ps)

pieces-count : (ps : List (List ℕ)) (o c : ℕ) (cs : List Choice) → length (frames_by ps o c cs) ≡ length cs
pieces-count ps o c [] = refl
pieces-count ps o c (raw xs ∷ cs) = ap suc (pieces-count ps o (next_count c) cs)
pieces-count ps o c (next n ∷ cs) = ap suc (pieces-count ps (o + n) (next_count c) cs)

all_mastered : (t master : ℕ) (counts : ℕ → ℕ) (calls : List Call) → HandedOn t master counts calls → Mastered master (over_all made_by calls)
all_mastered t master counts [] h = tt
all_mastered t master counts (c ∷ cs) h =
    let m = made_by_lem c h.0 in
    let number : length (made_by c) ≡ length m.choices =
    ap length m.frames ∙ frames-count (common_of c) m.time (master_of c) (frames_by (packets_by c) 0 (count_of c) m.choices)
    ∙ pieces-count (packets_by c) 0 (count_of c) m.choices in
    let first : Mastered master (made_by c) =
    subst (λ (k : ℕ). Mastered k (made_by c)) h.2
    (rw m.frames (mastered (common_of c) m.time (master_of c) (frames_by (packets_by c) 0 (count_of c) m.choices))) in
    let on : (sent_by c).master.0 ≡ stepped (length (made_by c)) master =
    m.master ∙ ap (λ (n : ℕ). stepped n (master_of c)) (sym number) ∙ ap (stepped (length (made_by c))) h.2 in
    mastered_append (made_by c) (over_all made_by cs) master first
    (subst (λ (k : ℕ). Mastered k (over_all made_by cs)) on
    (all_mastered t (sent_by c).master.0 (counted counts (common_of c).channel (sent_by c).count.0) cs h.4))

map-append : {A B : Type 0} (f : A → B) (xs ys : List A) → map f (xs ++ ys) ≡ map f xs ++ map f ys
map-append f [] ys = refl
map-append {A} {B} f (x ∷ xs) ys = ap (λ (l : List B). f x ∷ l) (map-append f xs ys)

all_left : (t master : ℕ) (counts : ℕ → ℕ) (calls : List Call) → HandedOn t master counts calls
    → over_all left_by calls ≡ map (sent_octets t) (over_all made_by calls)
all_left t master counts [] h = refl
all_left t master counts (c ∷ cs) h =
    let m = made_by_lem c h.0 in
    ap (λ (l : List (List ℕ)). l ++ over_all left_by cs) (m.octets ∙ ap (λ (k : ℕ). map (sent_octets k) (made_by c)) h.1)
    ∙ ap (λ (l : List (List ℕ)). map (sent_octets t) (made_by c) ++ l)
    (all_left t (sent_by c).master.0 (counted counts (common_of c).channel (sent_by c).count.0) cs h.4)
    ∙ sym (map-append (sent_octets t) (made_by c) (over_all made_by cs))

pub calls_by_rules : CallsByRules
calls_by_rules t master counts calls small few h =
    record {
      sender =
          record {
            well_formed = all-formed t master counts calls h;
            master = master;
            small = small;
            masters = all_mastered t master counts calls h;
            streams = λ v l. (let s = streamed v t master counts calls h in
                record {
                  packets = packets_on v calls;
                  good = s.good;
                  choices = s.choices;
                  first = counts v;
                  small = few v;
                  sent = s.sent;
                });
          };
      octets = all_left t master counts calls h;
      packets = λ v l. refl;
      whole = λ v l. (streamed v t master counts calls h).whole;
    }

-- ---- one call of `send`

data_framed : (c : Common) (time : List ℕ) (m : ℕ) (ps : List Piece) → map (λ (f : Framed). f.«data») (framed_from c time m ps) ≡ data_of ps
data_framed c time m [] = refl
data_framed c time m (p ∷ ps) = ap (λ (l : List (List ℕ)). p.octets ∷ l) (data_framed c time (next_count m) ps)

no_packets : (d ns : List ℕ) → total ns ≡ length d → AllGood (cut d ns) → length d ≡ 0 → cut d ns ≡ []
no_packets d [] e g z = refl
no_packets d (n ∷ ns) e g z = absurd (omega (arith, g.0.least, length-take n d))

pub calls_cut_by_size : CallsCutBySize
calls_cut_by_size c h =
    let w : Wanted = c.wanted in
    let a = accepted c h in
    let m : ℕ = length (joined (packets_of w)) in
    let full : ℕ = full_frames w.size m in
    let all : m ≡ length w.octets = ap length (joined-cut w.octets w.lengths a.adds) in
    let cs : List Choice = choices_of w.size m in
    let taken_is : taken cs ≡ m = taken-all w.size m a.least in
    let data_is : map (λ (f : Framed). f.«data») (frames_of w) ≡ data_of (frames_by (packets_of w) 0 w.count cs) =
    ap (map (λ (f : Framed). f.«data»)) (frames_by_lem w) ∙ data_framed w.common w.time w.master
    (frames_by (packets_of w) 0 w.count cs) in
    record {
      before = full;
      last = m - full * w.size;
      lengths = ap (map length) data_is ∙ data_lengths (packets_of w) cs 0 w.count (omega arith) ∙ amounts_all w.size m;
      shorter = omega (arith, full-most w.size m a.least);
      none = λ z. no_packets w.octets w.lengths a.adds a.good (omega (arith, all, full-below w.size m));
      octets =
          ap joined data_is ∙ data_joined (251 - w.common.t) (packets_of w) cs 0 w.count
          (fit_all (251 - w.common.t) w.size m a.least a.greatest)
          ∙ take_all (taken cs) (joined (packets_of w)) (omega arith);
    }
