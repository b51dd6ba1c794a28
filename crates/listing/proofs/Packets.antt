-- The lines of packets, one behind another.
use Rattle.std.specs.Prelude.{Result, Ok, Err, MatchResult, IsErrAnd}
use Prim.Native.Nat.{ℕ, ◌+◌, ◌*◌, ◌≤◌, ◌<◌}
use mathlib.Core.Path.{◌≡◌, sym, ap, ◌∙◌}
use mathlib.Core.List.{List, [], ◌∷◌, ◌++◌, append-nil, append_assoc}
use native.Mathlib.Omega.{arith}
use native.Mathlib.Numerals.{add-one}
use lib.ListN.{length, get_or, take, drop, length-drop}
use lib.Seq.{drop-drop, take-suc, take-take, length-take-le}
use Rattle.answer.specs.declared.Refusal.{Refusal}
use Rattle.packet.specs.Packet.{read_packet, told}
use Rattle.packet.specs.Answers.{PacketRead}
use Rattle.rules.specs.Packets.{total}
use Rattle.rules.proofs.Lengths.{total-front, total-next}
use Rattle.session.specs.Step.{told as toldStep}
use Rattle.session.specs.declared.Accepted.{Accepted}
use Rattle.session.specs.Answers.{StepAnswer}
use Rattle.decimal.specs.Laid.{Laid, Puts}
use Rattle.decimal.proofs.Laid.{joined, resaid, laid_puts}
use Rattle.listing_lines.specs.Text.{longest_line, answer_text, packet_text, numbered}
use Rattle.answer.specs.Told.{number_of}
use Rattle.packet.specs.declared.Packet.{Packet}
use Rattle.listing_lines.proofs.Short.{lines_are_short}
use Rattle.listing.specs.Listing.{packets_text}
use Rattle.listing.specs.Promised.{room, cut, answered}

-- a line tells of a refusal no more than its number
pub by-number : (first arrival size : ℕ) (read : PacketRead) (m : Result Packet ℕ)
    → MatchResult read (λ x. m ≡ Ok x) (λ e. IsErrAnd m (λ n. n ≡ number_of e))
    → packet_text first arrival size (numbered m) ≡ packet_text first arrival size (told read)
by-number first arrival size (Ok p) m h = ap (λ x. packet_text first arrival size (numbered x)) h
by-number first arrival size (Err e) (Ok p) h = absurd h
by-number first arrival size (Err e) (Err n) h = ap (λ (k : ℕ). packet_text first arrival size (numbered (Err k))) h

-- one packet more
packets-more : (a : ℕ) (octets ns firsts : List ℕ) (n : ℕ) → total ns + n ≤ length octets → length ns < length firsts
    → packets_text (cut a octets ns firsts) ++ packet_text (get_or firsts (length ns) 0) a n (read_packet (take n (drop (total ns) octets)))
    ≡ packets_text (cut a octets (ns ++ (n ∷ [])) firsts)
packets-more a octets ns [] n h l = absurd (omega arith)
packets-more a octets [] (f ∷ firsts) n h l =
    ap (λ (k : ℕ). packet_text f a k (read_packet (take n octets))) (sym (length-take-le n octets (omega arith))) ∙ sym (append-nil _)
packets-more a octets (m ∷ ns) (f ∷ firsts) n h l =
    let d = length-drop m octets in
    let one : List ℕ = packet_text f a (length (take m octets)) (read_packet (take m octets)) in
    append_assoc one (packets_text (cut a (drop m octets) ns firsts)) _
    ∙ ap (λ (z : List ℕ). one ++ (packets_text (cut a (drop m octets) ns firsts) ++ packet_text (get_or firsts (length ns) 0) a n
    (read_packet (take n z)))) (sym (drop-drop (total ns) m octets))
    ∙ ap (λ (z : List ℕ). one ++ z) (packets-more a (drop m octets) ns firsts n (omega arith) (omega arith))

module _ (list : List ℕ) (i : ℕ) (inside : i < length list) where
  so_many : length (take i list) ≡ i
  so_many = length-take-le i list (omega arith)

  take_more : take (i + 1) list ≡ take i list ++ (get_or list i 0 ∷ [])
  take_more = ap (λ (k : ℕ). take k list) (add-one i) ∙ take-suc list i 0 inside

  -- where the next packet begins
  pub next-from : total (take (i + 1) list) ≡ total (take i list) + get_or list i 0
  next-from = total-next list i inside

  pub next-inside : {packets room : ℕ} → i < packets → total (take packets list) ≤ room → total (take i list) + get_or list i 0 ≤ room
  next-inside {packets} h r =
      omega (arith, next-from, total-front (i + 1) (take packets list), ap total (take-take (i + 1) packets list (omega arith)))

  pub one-packet-more : (arrival : ℕ) (octets firsts : List ℕ) (read : PacketRead) {n at r₁ r₂ from : ℕ} {out out₁ out₂ : List ℕ}
      → at ≤ length out
      → i < length firsts
      → n ≡ get_or list i 0
      → from ≡ total (take i list) → total (take i list) + get_or list i 0 ≤ length octets
      → told read ≡ read_packet (take n (drop from octets))
      → Laid (longest_line * i) (packets_text (cut arrival octets (take i list) firsts)) out at out₁ r₁
      → r₁ + longest_line ≤ length out₁ → Puts longest_line (packet_text (get_or firsts i 0) arrival n (told read)) out₁ r₁ out₂ r₂
      → Laid (longest_line * (i + 1)) (packets_text (cut arrival octets (take (i + 1) list) firsts)) out at out₂ r₂
  one-packet-more arrival octets firsts read {n} h numbers m f there e x has y =
      let d : told read ≡ read_packet (take n (drop (total (take i list)) octets)) =
      e ∙ ap (λ (k : ℕ). read_packet (take n (drop k octets))) f in
      resaid
      (ap (λ t. packets_text (cut arrival octets (take i list) firsts) ++ packet_text (get_or firsts i 0) arrival n t) d
      ∙ ap (λ (k : ℕ). packets_text (cut arrival octets (take i list) firsts) ++ packet_text (get_or firsts k 0) arrival n
      (read_packet (take n (drop (total (take i list)) octets)))) (sym so_many)
      ∙ packets-more arrival octets (take i list) firsts n (omega arith) (omega (arith, so_many))
      ∙ ap (λ (k : ℕ). packets_text (cut arrival octets (take i list ++ (k ∷ [])) firsts)) m
      ∙ ap (λ (l : List ℕ). packets_text (cut arrival octets l firsts)) (sym take_more))
      (omega arith) (joined h x (laid_puts has (lines_are_short.packets (get_or firsts i 0) arrival n (told read)) y))

-- A frame's line, and behind it the lines of its packets, n of them.
module _ (answer : StepAnswer) (arrival : ℕ) (octets lengths firsts : List ℕ) {out out₁ : List ℕ} {at r₁ : ℕ}
    (has : at + longest_line ≤ length out)
    (p : Puts longest_line (answer_text arrival (toldStep answer)) out at out₁ r₁) where
  pub line-laid : Laid longest_line (answer_text arrival (toldStep answer)) out at out₁ r₁
  line-laid = laid_puts has (lines_are_short.answers arrival (toldStep answer)) p

  pub with_packets : {n r₂ : ℕ} {out₂ : List ℕ} → n ≡ (toldStep answer).fields.packets → n ≤ 16 → Laid (longest_line * n)
      (packets_text (cut arrival octets (take n lengths) firsts)) out₁ r₁ out₂ r₂
      → Laid room (answered arrival (toldStep answer) octets lengths firsts) out at out₂ r₂
  with_packets e few y =
      resaid (ap (λ (k : ℕ). answer_text arrival (toldStep answer) ++ packets_text (cut arrival octets (take k lengths) firsts)) e)
      (omega arith) (joined (omega arith) line-laid y)

  pub without_packets : {n : Refusal} → answer ≡ Err n → Laid room
      (answered arrival (toldStep answer) octets lengths firsts) out at out₁ r₁
  without_packets e =
      resaid
      (sym (append-nil _) ∙ ap (λ (k : ℕ). answer_text arrival (toldStep answer) ++ packets_text (cut arrival octets (take k lengths) firsts))
      (sym (ap (λ (y : StepAnswer). (toldStep y).fields.packets) e)))
      (omega arith) line-laid

-- how many, of an answer that was taken apart
pub told-packets : {answer : StepAnswer} {a : Accepted} {n : ℕ} → answer ≡ Ok a → n ≡ a.packets
    → n ≡ (toldStep answer).fields.packets
told-packets e h = h ∙ sym (ap (λ (y : StepAnswer). (toldStep y).fields.packets) e)
