-- What the packets of one call add, each in its place, by what a receiver tells.
use Rattle.std.specs.Prelude.{Ok, Err}
use Prim.Native.Nat.{ℕ, suc, ◌+◌, ◌-◌, ◌<◌, ◌%◌, ◌^◌}
use native.Mathlib.Omega.{arith}
use native.Mathlib.Nat.{mod-eq_of_lt, add-zero}
use mathlib.Core.Path.{◌≡◌, refl, sym, ap, subst, ◌∙◌}
use mathlib.Core.List.{List, [], ◌∷◌, ◌++◌, map, append-nil, append_assoc}
use lib.ListN.{length, take, drop, length-append}
use lib.Seq.{take_at, drop_at}
use Rattle.octets.specs.Numbers.{at}
use Rattle.octets.specs.Parts.{part}
use Rattle.octets.specs.Pick.{pick}
use Rattle.octets.proofs.Placing.{part-some}
use Rattle.stretch.specs.Stretch.{found, unread}
use Rattle.rules.specs.Channel.{Handed}
use Rattle.rules.specs.Packets.{bare, joined, firsts}
use Rattle.rules.specs.Bounds.{Under}
use Rattle.source.specs.Scan.{tells}
use Rattle.source.specs.declared.Taken.{Taken}
use Rattle.source.specs.declared.Taken.TheVariants as taken
use Rattle.session.specs.Lent.{Lent, laid}
use Rattle.session.specs.Step.{Outcome}
use Rattle.session.specs.declared.Accepted.{Accepted}
use Rattle.session.specs.declared.Session.{Session}
use Rattle.session.specs.Answers.{StepAnswer}
use Rattle.session.proofs.Few.{Few, offer-few}
use Rattle.receiver.specs.Receive.{Tells, missing, bad, over, opened, nothing, answered, told_of, heard}
use Rattle.receiver.specs.declared.Event.{Event}
use Rattle.receiver.specs.declared.Event.TheVariants as event
use Rattle.readings_lines.specs.Lines.{Added, adding}
use Rattle.readings_frame.specs.Readings.{Layouts, handed_as, packet_adds, packet_start, numbered, packet_of, packets_add, frame_adds}
use Rattle.readings_frame.specs.Readings.{Handed as Reading}
use Rattle.readings_turn.specs.Turns.{answer_adds, answer_hands, event_adds, event_hands}
use Rattle.about_readings.specs.Listed.{as_handed, behind, handed_add, step_adds}

-- ---- a packet in its place

at_length : (xs : List Handed) (h : Handed) (ys : List Handed) (rest : List ℕ)
    → at (map length (bare (xs ++ h ∷ ys)) ++ rest) (length xs) ≡ length h.packet
at_length [] h ys rest = refl
at_length (x ∷ xs) h ys rest = at_length xs h ys rest

at_first : (xs : List Handed) (h : Handed) (ys : List Handed) (rest : List ℕ) → at (firsts (xs ++ h ∷ ys) ++ rest) (length xs) ≡ h.first
at_first [] h ys rest = refl
at_first (x ∷ xs) h ys rest = at_first xs h ys rest

split : (xs : List Handed) (h : Handed) (ys : List Handed)
    → joined (bare (xs ++ h ∷ ys)) ≡ joined (bare xs) ++ (h.packet ++ joined (bare ys))
split [] h ys = refl
split (x ∷ xs) h ys = ap (λ (s : List ℕ). x.packet ++ s) (split xs h ys)
    ∙ sym (append_assoc x.packet (joined (bare xs)) (h.packet ++ joined (bare ys)))

cut_out : (a b c : List ℕ) (n : ℕ) → n ≡ length a → part (a ++ (b ++ c)) n (length b) ≡ b
cut_out a b c n e =
    sym (part-some (a ++ (b ++ c)) n (length b) (omega (arith, e, length-append a (b ++ c), length-append b c)))
    ∙ ap (take (length b)) (drop_at a (b ++ c) n (sym e))
    ∙ take_at b c (length b) refl

under_at : (a : ℕ) (xs : List Handed) (h : Handed) (ys : List Handed) → Under a (xs ++ h ∷ ys) → h.arrival ≡ a
under_at a [] h ys u = u.0
under_at a (x ∷ xs) h ys u = under_at a xs h ys u.1

one_longer : (xs : List Handed) (h : Handed) → length (xs ++ h ∷ []) ≡ suc (length xs)
one_longer [] h = refl
one_longer (x ∷ xs) h = ap suc (one_longer xs h)

joined-more : (xs : List Handed) (h : Handed) → length (joined (bare (xs ++ h ∷ []))) ≡ length (joined (bare xs)) + length h.packet
joined-more xs h = omega (
  arith,
  ap length (split xs h []),
  length-append (joined (bare xs)) (h.packet ++ []),
  length-append
      h.packet [],
)

module _ (l : Layouts) (a : Accepted) (ps : List Handed) (u : Under a.arrival ps) (t : Lent) (packets : ℕ) (counts : List ℕ) where
  abbrev octets' : List ℕ
  octets' = (laid ps t).octets

  abbrev lengths' : List ℕ
  lengths' = (laid ps t).lengths

  abbrev firsts' : List ℕ
  firsts' = (laid ps t).firsts

  abbrev adds : ℕ → Added
  adds i = packets_add l a octets' lengths' firsts' packets counts i

  module _ (xs : List Handed) (h : Handed) (ys : List Handed) (e : ps ≡ xs ++ h ∷ ys)
      (start : packet_start lengths' (length xs) ≡ length (joined (bare xs))) where
    long : at lengths' (length xs) ≡ length h.packet
    long =
        ap (λ (q : List Handed). at (map length (bare q) ++ drop (length (map length (bare ps))) t.lengths) (length xs)) e
        ∙ at_length xs h ys _

    here : packet_of a octets' lengths' firsts' packets (length xs) ≡ as_handed a.channel (numbered packets (suc (length xs))) h
    here =
        let rest : List ℕ = drop (length (joined (bare ps))) t.octets in
        let o : octets' ≡ joined (bare xs) ++ (h.packet ++ (joined (bare ys) ++ rest)) =
        ap (λ (q : List Handed). joined (bare q) ++ rest) e ∙ ap (λ (s : List ℕ). s ++ rest) (split xs h ys) ∙ simp append_assoc in
        let p : part octets' (packet_start lengths' (length xs)) (at lengths' (length xs)) ≡ h.packet =
        ap (part octets' (packet_start lengths' (length xs))) long
        ∙ ap (λ (s : List ℕ). part s (packet_start lengths' (length xs)) (length h.packet)) o
        ∙ cut_out (joined (bare xs)) h.packet (joined (bare ys) ++ rest) _ start in
        let f : at firsts' (length xs) ≡ h.first =
        ap (λ (q : List Handed). at (firsts q ++ drop (length (firsts ps)) t.firsts) (length xs)) e ∙ at_first xs h ys _ in
        let r : a.arrival ≡ h.arrival = sym (under_at a.arrival xs h ys (subst (Under a.arrival) e u)) in
        ap (λ (s : List ℕ). handed_as s (at firsts' (length xs)) a.arrival a.channel (numbered packets (suc (length xs)))) p
        ∙ ap (λ (n : ℕ). handed_as h.packet n a.arrival a.channel (numbered packets (suc (length xs)))) f
        ∙ ap (λ (n : ℕ). handed_as h.packet h.first n a.channel (numbered packets (suc (length xs)))) r

    next_start : packet_start lengths' (length (xs ++ h ∷ [])) ≡ length (joined (bare (xs ++ h ∷ [])))
    unfolding packet_start
    next_start = ap (packet_start lengths') (one_longer xs h) ∙ omega (arith, start, long, joined-more xs h)

    next-adds : adds (length (xs ++ h ∷ []))
        ≡ behind (adds (length xs)).text
        (packet_adds l (as_handed a.channel (numbered packets (suc (length xs))) h) (adds (length xs)).counts)
    unfolding packets_add
    next-adds =
        ap adds (one_longer xs h)
        ∙ ap (λ (q : Reading). behind (adds (length xs)).text (packet_adds l q (adds (length xs)).counts)) here

  all : (xs ys : List Handed) → ps ≡ xs ++ ys → packet_start lengths' (length xs) ≡ length (joined (bare xs))
      → adds (length ps) ≡ behind (adds (length xs)).text (handed_add l a.channel packets (length xs) (adds (length xs)).counts ys)
  all xs [] e s =
      ap (λ (q : List Handed). adds (length q)) (e ∙ append-nil xs)
      ∙ ap (λ (x : List ℕ). adding x (adds (length xs)).counts) (sym (append-nil (adds (length xs)).text))
  all xs (h ∷ ys) e s =
      let next : Added = packet_adds l (as_handed a.channel (numbered packets (suc (length xs))) h) (adds (length xs)).counts in
      all (xs ++ h ∷ []) ys (e ∙ sym (append_assoc xs (h ∷ []) ys)) (next_start xs h ys e s)
      ∙ ap (λ (x : Added). behind x.text (handed_add l a.channel packets (length (xs ++ h ∷ [])) x.counts ys))
      (next-adds xs h ys e s)
      ∙ ap (λ (i : ℕ). behind ((adds (length xs)).text ++ next.text) (handed_add l a.channel packets i next.counts ys))
      (one_longer xs h)
      ∙ ap (λ (x : List ℕ). adding x (handed_add l a.channel packets (suc (length xs)) next.counts ys).counts)
      (append_assoc (adds (length xs)).text next.text (handed_add l a.channel packets (suc (length xs)) next.counts ys).text)

  frame-adds : a.packets ≡ length ps → frame_adds l a octets' lengths' firsts' packets counts ≡ handed_add l a.channel packets 0 counts ps
  unfolding packets_add packet_start
  frame-adds n = ap adds n ∙ all [] ps refl refl

-- ---- by what a receiver tells

abbrev pub Few_told : Tells → List Handed → Type 0
Few_told (missing n) ps = Unit {0}
Few_told bad ps = Unit {0}
Few_told over ps = Unit {0}
Few_told opened ps = Unit {0}
Few_told nothing ps = Unit {0}
Few_told (answered t) ps = (t.fields.packets ≡ length ps) × Under t.fields.arrival ps

few_of : (o : Outcome) → Few o → Few_told (answered o.answer) o.packets
few_of o f = (f.count, f.under)

pub heard-few : (z : Session) (kept w : List ℕ) (l : Lent) (t : Taken) → Few_told (heard z kept w l t).tells (heard z kept w l t).packets
heard-few z kept w l (taken.Missing n) = tt
heard-few z kept w l taken.Bad = tt
heard-few z kept w l taken.Over = tt
heard-few z kept w l (taken.Opened t) = tt
heard-few z kept w l taken.Nothing = tt
heard-few z kept w l (taken.Here from to) = few_of _ (offer-few z (found (take (to - from) (drop from w))) l)
heard-few z kept w l (taken.Kept n) = few_of _ (offer-few z (found (take n kept)) l)
heard-few z kept w l (taken.Refused n) = few_of _ (offer-few z (unread n) l)

abbrev pub tells_add : Layouts → Tells → List Handed → ℕ → List ℕ → Added
tells_add l (missing n) ps packets counts = adding [] counts
tells_add l bad ps packets counts = adding [] counts
tells_add l over ps packets counts = adding [] counts
tells_add l opened ps packets counts = adding [] counts
tells_add l nothing ps packets counts = adding [] counts
tells_add l (answered t) ps packets counts = step_adds l t ps packets counts

abbrev pub tells_next : Tells → List Handed → ℕ → ℕ
tells_next (missing n) ps packets = packets
tells_next bad ps packets = packets
tells_next over ps packets = packets
tells_next opened ps packets = packets
tells_next nothing ps packets = packets
tells_next (answered t) ps packets = numbered packets (length ps)

answer-adds : (l : Layouts) (ps : List Handed) (t : Lent) (packets : ℕ) (counts : List ℕ) (x : StepAnswer)
    → Few_told (told_of (event.Answered x)) ps
    → answer_adds l x (laid ps t) packets counts ≡ tells_add l (told_of (event.Answered x)) ps packets counts
unfolding pick
answer-adds l ps t packets counts (Ok a) f = frame-adds l a ps f.1 t packets counts f.0
answer-adds l ps t packets counts (Err r) f = refl

pub event_adds_lem : (l : Layouts) (ps : List Handed) (t : Lent) (packets : ℕ) (counts : List ℕ) (e : Event) → Few_told (told_of e) ps
    → event_adds l e (laid ps t) packets counts ≡ tells_add l (told_of e) ps packets counts
event_adds_lem l ps t packets counts (event.Missing n) f = refl
event_adds_lem l ps t packets counts event.Bad f = refl
event_adds_lem l ps t packets counts event.Over f = refl
event_adds_lem l ps t packets counts event.Opened f = refl
event_adds_lem l ps t packets counts event.Nothing f = refl
event_adds_lem l ps t packets counts (event.Answered x) f = answer-adds l ps t packets counts x f

none_more : (packets : ℕ) → packets < 2 ^ 64 → numbered packets 0 ≡ packets
none_more packets h = ap (λ (k : ℕ). k % 2 ^ 64) (add-zero packets) ∙ mod-eq_of_lt h

answer-next : (ps : List Handed) (packets : ℕ) (x : StepAnswer) → Few_told (told_of (event.Answered x)) ps
    → numbered packets (answer_hands x) ≡ numbered packets (length ps)
answer-next ps packets (Ok a) f = ap (numbered packets) f.0
answer-next ps packets (Err r) f = ap (numbered packets) f.0

pub event_next : (ps : List Handed) (packets : ℕ) → packets < 2 ^ 64 → (e : Event) → Few_told (told_of e) ps
    → numbered packets (event_hands e) ≡ tells_next (told_of e) ps packets
event_next ps packets h (event.Missing n) f = none_more packets h
event_next ps packets h event.Bad f = none_more packets h
event_next ps packets h event.Over f = none_more packets h
event_next ps packets h event.Opened f = none_more packets h
event_next ps packets h event.Nothing f = none_more packets h
event_next ps packets h (event.Answered x) f = answer-next ps packets x f
