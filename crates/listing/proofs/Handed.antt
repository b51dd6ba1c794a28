-- A frame's packets: how many, where they stand, and the lines of them.
use Prim.Native.Nat.{ℕ, ◌≤◌}
use mathlib.Core.Path.{◌≡◌, refl, sym, ap, ◌∙◌}
use mathlib.Core.List.{List, [], ◌∷◌, ◌++◌, map, append_assoc}
use native.Mathlib.Omega.{arith}
use lib.ListN.{length, take, drop, length-append, length-drop, length-map}
use lib.Seq.{take_at, drop_at}
use Rattle.octets.specs.Parts.{written}
use Rattle.answer.specs.Told.{Told}
use Rattle.stretch.specs.Stretch.{Stretch}
use Rattle.rules.specs.Channel.{Handed}
use Rattle.rules.specs.Packets.{bare, joined, total, firsts}
use Rattle.rules.specs.Bounds.{Under}
use Rattle.rules.proofs.Lengths.{total-joined}
use Rattle.session.specs.Lent.{Lent, lent}
use Rattle.session.specs.Step.{Outcome, Gives, told}
use Rattle.session.specs.Statements.{offered}
use Rattle.session.specs.declared.Accepted.{Accepted}
use Rattle.session.specs.declared.Session.{Session}
use Rattle.session.specs.declared.Stepped.{Stepped}
use Rattle.session.proofs.Few.{Few, offer-few}
use Rattle.receiver.specs.Run.{roomy}
use Rattle.receiver.proofs.Enough.{same_outcome}
use Rattle.listing_lines.specs.Text.{answer_text}
use Rattle.listing.specs.Listing.{packets_text, made, outcome_text}
use Rattle.listing.specs.Promised.{cut, answered}

abbrev numbered : ℕ → ℕ → List ℕ → Handed
numbered first a p = record { first = first; arrival = a; packet = p }

-- packets that stand end to end, cut by their lengths
cut-joined : (a : ℕ) (ps : List Handed) (rest xs : List ℕ) → Under a ps → cut a (joined (bare ps) ++ rest) (map length (bare ps))
    (firsts ps ++ xs) ≡ ps
cut-joined a [] rest xs u = refl
cut-joined a (p ∷ ps) rest xs u =
    let s : List ℕ = joined (bare ps) ++ rest in
    let e : (p.packet ++ joined (bare ps)) ++ rest ≡ p.packet ++ s = append_assoc p.packet (joined (bare ps)) rest in
    let front : take (length p.packet) ((p.packet ++ joined (bare ps)) ++ rest) ≡ p.packet =
    ap (take (length p.packet)) e ∙ take_at p.packet s (length p.packet) refl in
    let back : drop (length p.packet) ((p.packet ++ joined (bare ps)) ++ rest) ≡ s =
    ap (drop (length p.packet)) e ∙ drop_at p.packet s (length p.packet) refl in
    rw (front, back)
    (ap (λ (n : ℕ). numbered p.first n p.packet ∷ cut a s (map length (bare ps)) (firsts ps ++ xs)) (sym u.0)
    ∙ ap (λ (qs : List Handed). p ∷ qs) (cut-joined a ps rest xs u.1))

-- What a step left, or turning a stretch away, in the lent octets, lengths and first numbers, of which there were 501, 16 and 16.
module _ (s : Session) (x : Stretch) {octets lengths numbers octets' lengths' numbers' : List ℕ} {r : Stepped} (o501 : length octets ≡ 501)
    (o16 : length lengths ≡ 16)
    (n16 : length numbers ≡ 16) (g : Gives (offered s x (lent octets lengths numbers)) r (lent octets lengths numbers)
    (lent octets' lengths' numbers')) where
  abbrev o : Outcome
  o = made s x

  abbrev ps : List (List ℕ)
  ps = bare o.packets

  few : Few o
  few = offer-few s x roomy

  same : offered s x (lent octets lengths numbers) ≡ o
  same =
      same_outcome s x (lent octets lengths numbers)
      (record { octets = omega (arith, o501); lengths = omega (arith, o16); firsts = omega (arith, n16) })

  answers : told r.answer ≡ o.answer
  answers = g.answers ∙ ap (λ (x : Outcome). x.answer) same

  pub stepped-session : r.session ≡ o.session
  stepped-session = g.session ∙ ap (λ (x : Outcome). x.session) same

  octets_are : octets' ≡ written (joined ps) octets
  octets_are = ap (λ (l : Lent). l.octets) g.leaves ∙ ap (λ (x : Outcome). written (joined (bare x.packets)) octets) same

  lengths_are : lengths' ≡ written (map length ps) lengths
  lengths_are = ap (λ (l : Lent). l.lengths) g.leaves ∙ ap (λ (x : Outcome). written (map length (bare x.packets)) lengths) same

  numbers_are : numbers' ≡ written (firsts o.packets) numbers
  numbers_are = ap (λ (l : Lent). l.firsts) g.leaves ∙ ap (λ (x : Outcome). written (firsts x.packets) numbers) same

  -- as long as before
  still_long : (xs l : List ℕ) → length xs ≤ length l → length (written xs l) ≡ length l
  still_long xs l h = simp (length-append, length-drop) (omega arith)

  pub octets-long : length octets' ≡ 501
  octets-long = ap length octets_are ∙ still_long (joined ps) octets (omega (arith, o501, few.octets)) ∙ o501

  pub lengths-long : length lengths' ≡ 16
  lengths-long =
      let h : length (map length ps) ≤ length lengths = simp length-map (omega (arith, o16, simp length-map at few.packets)) in
      ap length lengths_are ∙ still_long (map length ps) lengths h ∙ o16

  pub numbers-long : length numbers' ≡ 16
  numbers-long =
      let h : length (firsts o.packets) ≤ length numbers = simp length-map (omega (arith, n16, simp length-map at few.packets)) in
      ap length numbers_are ∙ still_long (firsts o.packets) numbers h ∙ n16

  packets_are : (told r.answer).fields.packets ≡ length o.packets
  packets_are = ap (λ (t : Told Accepted). t.fields.packets) answers ∙ few.count

  front : take (told r.answer).fields.packets lengths' ≡ map length ps
  front =
      ap (λ (l : List ℕ). take (told r.answer).fields.packets l) lengths_are
      ∙ take_at (map length ps) (drop (length (map length ps)) lengths) (told r.answer).fields.packets
      (simp length-map (sym packets_are))

  pub few-packets : (told r.answer).fields.packets ≤ 16
  few-packets = omega (arith, packets_are, simp length-map at few.packets)

  pub packets-there : total (take (told r.answer).fields.packets lengths') ≤ length octets'
  packets-there =
      omega (arith, ap total front, total-joined ps, ap length octets_are, length-append (joined ps) (drop (length (joined ps)) octets))

  packets-cut : cut o.session.arrival octets' (take (told r.answer).fields.packets lengths') numbers' ≡ o.packets
  packets-cut =
      let a : ℕ = o.session.arrival in
      ap (λ (x : List ℕ). cut a octets' x numbers') front
      ∙ ap (λ (x : List ℕ). cut a x (map length ps) numbers') octets_are
      ∙ ap (cut a (written (joined ps) octets) (map length ps)) numbers_are
      ∙ cut-joined a o.packets (drop (length (joined ps)) octets) (drop (length (firsts o.packets)) numbers) few.used

  pub frame-text : answered r.session.arrival (told r.answer) octets' lengths' numbers' ≡ outcome_text (made s x)
  unfolding outcome_text
  frame-text =
      ap (λ (z : Session). answered z.arrival (told r.answer) octets' lengths' numbers') stepped-session
      ∙ ap (λ (x : List Handed). answer_text o.session.arrival (told r.answer) ++ packets_text x) packets-cut
      ∙ ap (λ (t : Told Accepted). answer_text o.session.arrival t ++ packets_text o.packets) answers
