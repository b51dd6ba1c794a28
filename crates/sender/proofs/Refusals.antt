-- Laws of the loops that look for a refusal.
use Rattle.std.proofs.Common.{◌≡◌, ℕ, ◌+◌, ◌-◌, ◌*◌, ◌/◌, ◌%◌, ◌<◌, ◌≤◌, Bool, true, false, ◌||◌, ltb, leb, List, length, get_or, take, drop, sym, ap, ◌∙◌, mul-le-mul_right, mod-lt, add-mul, one-mul, div-add-mod', arith, le-ltb, lt-ltb}
use native.Mathlib.Nat.{zero-div}
use Rattle.rules.specs.Packets.{cut, total}
use Rattle.rules.proofs.Standing.{Order, up_to, past, order}
use Rattle.lengths.proofs.Reached.{Reached, reached_fits, reached_next, cut-here}
use Rattle.sender.specs.Frames.{full_frames}
use Rattle.sender.specs.Send.{turned_away, any_turned_away}
use Rattle.sender.specs.Asked.{too_short}

-- ---- 52

-- the packets from number i on, the first of which starts at `at`
pub record Seen (d ns : List ℕ) (at i : ℕ) : Type 0 where
  pub reached : Reached ns at i
  pub same : any_turned_away (cut (drop at d) (drop i ns)) ≡ any_turned_away (cut d ns)

module _ {d ns : List ℕ} {at i : ℕ} (t : Seen d ns at i) where
  pub seen_fits : total ns ≡ length d → i < length ns → at + get_or ns i 0 ≤ length d
  seen_fits e h = reached_fits t.reached d e h

  module _ (h : i < length ns) where
    front : any_turned_away (cut d ns) ≡ (turned_away (take (get_or ns i 0) (drop at d)) || any_turned_away
        (cut (drop (at + get_or ns i 0) d) (drop (i + 1) ns)))
    front = sym t.same ∙ ap any_turned_away (cut-here d ns at i h)

    here : {said : Bool} → said ≡ turned_away (take ((at + get_or ns i 0) - at) (drop at d)) → turned_away
        (take (get_or ns i 0) (drop at d)) ≡ said
    here p =
        let k : (at + get_or ns i 0) - at ≡ get_or ns i 0 = omega arith in
        sym (p ∙ ap (λ (j : ℕ). turned_away (take j (drop at d))) k)

    pub seen_next : {said : Bool} → said ≡ turned_away (take ((at + get_or ns i 0) - at) (drop at d)) → said ≡ false
        → Seen d ns (at + get_or ns i 0) (i + 1)
    seen_next p q = record { reached = reached_next t.reached h; same = sym (front ∙ rw (here p ∙ q)) }

-- ---- 50

pub short-octets : (o q n full t : ℕ) → o < n → true ≡ too_short o q n full t
short-octets o q n full t h = sym (rw (lt-ltb o (n + (full + 1) * (23 + t)) (omega arith)))

pub short_else : (o q n full t : ℕ) → n ≤ o → (leb ((o - n) / (23 + t)) full || leb q full) ≡ too_short o q n full t
short_else o q n full t h = ap (λ (b : Bool). b || leb q full) (go (order ((o - n) / (23 + t)) full))
  where
    sum_is : (o - n) / (23 + t) * (23 + t) + (o - n) % (23 + t) ≡ o - n
    sum_is = div-add-mod' (o - n) (23 + t)

    rest : (o - n) % (23 + t) < 23 + t
    rest = mod-lt (o - n) {m = 23 + t} (omega arith)

    go : Order ((o - n) / (23 + t)) full → leb ((o - n) / (23 + t)) full ≡ ltb o (n + (full + 1) * (23 + t))
    go (up_to l e) =
        let m : ((o - n) / (23 + t) + 1) * (23 + t) ≤ (full + 1) * (23 + t) = mul-le-mul_right (23 + t) (omega arith) in
        let a : ((o - n) / (23 + t) + 1) * (23 + t) ≡ (o - n) / (23 + t) * (23 + t) + (23 + t) = add-mul ((o - n) / (23 + t)) 1 (23 + t)
        ∙ rw (one-mul (23 + t)) in
        e ∙ sym (lt-ltb o (n + (full + 1) * (23 + t)) (omega (arith, m, a, sum_is, rest)))
    go (past l e) =
        let m : (full + 1) * (23 + t) ≤ (o - n) / (23 + t) * (23 + t) = mul-le-mul_right (23 + t) (omega arith) in
        e ∙ sym (le-ltb o (n + (full + 1) * (23 + t)) (omega (arith, m, sum_is)))

-- ---- how many frames

pub full-none : (n size : ℕ) → n ≡ 0 → 0 ≡ full_frames size n
full-none n size e =
    let z : n - 1 ≡ 0 = omega arith in
    sym (ap (λ (k : ℕ). k / size) z ∙ zero-div size)
