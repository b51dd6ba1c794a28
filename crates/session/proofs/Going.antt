-- The laws of cutting packet by packet, as a loop goes about it.
use Prim.Native.Nat.{ℕ, zero, suc, ◌+◌, ◌-◌, ◌≤◌, ◌<◌}
use native.Mathlib.Nat.{zero-add, suc-add}
use native.Mathlib.Numerals.{add-one}
use native.Mathlib.Omega.{arith}
use mathlib.Core.Path.{◌≡◌, refl, sym, ap, ◌∙◌, subst}
use mathlib.Core.Bool.{Bool, true, false, ◌||◌}
use mathlib.Core.List.{List, [], ◌∷◌, ◌++◌, map, append-nil}
use lib.ListN.{length, take, drop, set, length-append, length-drop, length-map, drop_of_length-le}
use lib.Dec.{ltb}
use lib.Seq.{length-take-le, drop-drop, take-nil}
use Rattle.octets.specs.Parts.{written}
use Rattle.rules.specs.Channel.{standing, unfinished, whole, wrong, length_in}
use Rattle.rules.specs.Packets.{joined}
use Rattle.rules.specs.Cutting.{Cut, cut_of, behind, header, firsts_of, first_behind}
use Rattle.rules.proofs.Bounds.{sound-held}
use Rattle.rules.proofs.Room.{joined-append}
use Rattle.rules.proofs.Standing.{Order, up_to, past, order, standing-short, standing-part, standing-full}
use Rattle.rules.proofs.Cutting.{header_less, header-more, Whole, whole-size}
use Rattle.rules.proofs.Cuts.{cuts_unfinished, cuts_wrong, cuts_whole, behind-none, behind_more}
use Rattle.session.specs.Asked.{Counted, Left}
use Rattle.session.specs.Promised.{Cuts}
use Rattle.session.proofs.Entries.{same_length, entered, length-firsts, firsts_more}
use Rattle.session.proofs.Fitting.{Within, outside, standing-outside, less_than_said}

-- Packets are being cut out of held, begun in frame f, and xs, of frame a: `done` are cut, with `at` octets, and their lengths and first
-- numbers are written; the next is begun in frame `from`.
pub record Going (f a : ℕ) (held xs lengths₀ firsts₀ lengths firsts : List ℕ) (from packets at : ℕ) : Type 0 where
  pub within : at ≤ length held + length xs
  pub past : at < length held → at ≡ 0
  pub done : List (List ℕ)
  pub count : length done ≡ packets
  pub front : joined done ≡ take at (held ++ xs)
  pub cont : cut_of (held ++ xs) ≡ behind done (cut_of (drop at (held ++ xs)))
  pub small : packets ≤ length lengths₀
  pub few : packets ≤ length firsts₀
  pub wrote : lengths ≡ written (map length done) lengths₀
  pub numbered : firsts ≡ written (firsts_of f a packets) firsts₀
  pub begins : from ≡ first_behind f a packets

-- A turn of the loop that cuts a packet of n octets.
pub record Turn (f a : ℕ) (held xs lengths₀ firsts₀ lengths firsts : List ℕ) (from packets at n : ℕ) : Type 0 where
  pub least : 16 ≤ n
  pub greatest : n ≤ 251
  pub inside : at + n ≤ length held + length xs
  pub room : packets < length lengths
  pub numbers : packets < length firsts
  pub on : Going f a held xs lengths₀ firsts₀ (set lengths packets n) (set firsts packets from) a (packets + 1) (at + n)

map-append : (ps : List (List ℕ)) (p : List ℕ) → map length (ps ++ p ∷ []) ≡ map length ps ++ length p ∷ []
map-append [] p = refl
map-append (q ∷ ps) p = ap (λ (l : List ℕ). length q ∷ l) (map-append ps p)

take_more : (at n : ℕ) (s : List ℕ) → take at s ++ take n (drop at s) ≡ take (at + n) s
take_more zero n s = ap (λ (k : ℕ). take k s) (sym (zero-add n))
take_more (suc at) n [] = ap (λ (l : List ℕ). l) (take-nil n) ∙ sym (take-nil (suc at + n))
take_more (suc at) n (x ∷ s) = ap (λ (l : List ℕ). x ∷ l) (take_more at n s) ∙ ap (λ (k : ℕ). take k (x ∷ s)) (sym (suc-add at n))

-- a whole packet at the start reaches past all that is held
past_more : (held xs : List ℕ) (at : ℕ) → standing held ≡ unfinished → (at < length held → at ≡ 0) → 16 ≤ length_in (drop at (held ++ xs))
    → length held ≤ at + length_in (drop at (held ++ xs))
past_more held xs zero u p h = omega (arith, less_than_said held xs u h)
past_more held xs (suc a) u p h = go (order (suc (suc a)) (length held))
  where
    go : Order (suc (suc a)) (length held) → length held ≤ suc a + length_in (drop (suc a) (held ++ xs))
    go (up_to l t) = absurd (omega (arith, p l))
    go (past l t) = omega arith

pub going_start : (f a : ℕ) (held xs lengths firsts : List ℕ) → Going f a held xs lengths firsts lengths firsts f 0 0
going_start f a held xs lengths firsts = record {
  within = omega arith;
  past = λ h. refl;
  done = [];
  count = refl;
  front = refl;
  cont = behind-none (cut_of (held ++ xs));
  small = omega arith;
  few = omega arith;
  wrote = refl;
  numbered = refl;
  begins = refl;
}

module _ (f a : ℕ) (held xs lengths₀ firsts₀ lengths firsts : List ℕ) (from packets at : ℕ)
    (g : Going f a held xs lengths₀ firsts₀ lengths firsts from packets at) where
  abbrev s : List ℕ
  s = held ++ xs

  -- so many lengths
  sized : length (map length g.done) ≡ packets
  sized = length-map g.done length ∙ g.count

  pub lengths-same : length lengths ≡ length lengths₀
  lengths-same = ap length g.wrote ∙ same_length (map length g.done) lengths₀ (omega (arith, sized, g.small))

  pub firsts_same : length firsts ≡ length firsts₀
  firsts_same = ap length g.numbered ∙ same_length (firsts_of f a packets) firsts₀ (omega (arith, length-firsts f a packets, g.few))

  ahead : length (drop at s) ≡ length held + length xs - at
  ahead = length-drop at s ∙ ap (λ (k : ℕ). k - at) (length-append held xs)

  module _ (w : standing (drop at s) ≡ whole) where
    abbrev n : ℕ
    n = length_in (drop at s)

    size : Whole (drop at s)
    size = whole-size (drop at s) w

    cut-more : cut_of s ≡ behind (g.done ++ take n (drop at s) ∷ []) (cut_of (drop (at + n) s))
    cut-more =
        g.cont ∙ ap (behind g.done) (cuts_whole (drop at s) w)
        ∙ behind_more g.done (take n (drop at s)) (cut_of (drop n (drop at s)))
        ∙ ap (λ (l : List ℕ). behind (g.done ++ take n (drop at s) ∷ []) (cut_of l)) (drop-drop n at s)

    -- a packet more has an entry
    going-room : (m : ℕ) → length (cut_of s).packets ≤ m → packets < m
    going-room m h =
        let a : length (cut_of s).packets ≡ length (g.done ++ take n (drop at s) ∷ []) + length (cut_of (drop (at + n) s)).packets =
        ap (λ (c : Cut). length c.packets) cut-more ∙ length-append (g.done ++ take n (drop at s) ∷ [])
        (cut_of (drop (at + n) s)).packets in
        let b : length (g.done ++ take n (drop at s) ∷ []) ≡ length g.done + 1 = length-append g.done (take n (drop at s) ∷ []) in
        omega (arith, g.count)

    next-length : packets < length lengths₀ → set lengths packets n ≡ written (map length (g.done ++ take n (drop at s) ∷ [])) lengths₀
    next-length l =
        ap (λ (m : List ℕ). set m packets n) g.wrote
        ∙ ap (λ (i : ℕ). set (written (map length g.done) lengths₀) i n) (sym sized)
        ∙ entered (map length g.done) lengths₀ n (omega (arith, sized))
        ∙ ap (λ (m : List ℕ). written m lengths₀)
        (sym (map-append g.done (take n (drop at s)) ∙ ap (λ (k : ℕ). map length g.done ++ k ∷ [])
        (length-take-le n (drop at s) size.there)))

    next-first : packets < length firsts₀ → set firsts packets from ≡ written (firsts_of f a (packets + 1)) firsts₀
    next-first l =
        ap (λ (m : List ℕ). set m packets from) g.numbered
        ∙ ap (λ (i : ℕ). set (written (firsts_of f a packets) firsts₀) i from) (sym (length-firsts f a packets))
        ∙ entered (firsts_of f a packets) firsts₀ from (omega (arith, length-firsts f a packets))
        ∙ ap (λ (x : ℕ). written (firsts_of f a packets ++ x ∷ []) firsts₀) g.begins
        ∙ ap (λ (m : List ℕ). written m firsts₀) (firsts_more f a packets)
        ∙ ap (λ (i : ℕ). written (firsts_of f a i) firsts₀) (sym (add-one packets))

    going_on : Counted held xs lengths₀ firsts₀
        → Going f a held xs lengths₀ firsts₀ (set lengths packets n) (set firsts packets from) a (packets + 1) (at + n)
    going_on k = record {
      within = omega (arith, ahead, size.there);
      past = λ h. absurd (omega (arith, past_more held xs at k.begun.unfinished g.past size.least, h));
      done = g.done ++ take n (drop at s) ∷ [];
      count = length-append g.done (take n (drop at s) ∷ []) ∙ ap (λ (k : ℕ). k + 1) g.count;
      front =
          joined-append g.done (take n (drop at s) ∷ [])
          ∙ (simp (g.front, append-nil))
          ∙ take_more at n s;
      cont = cut-more;
      small = omega (arith, going-room (length lengths₀) k.entries);
      few = omega (arith, going-room (length firsts₀) k.numbers);
      wrote = next-length (going-room (length lengths₀) k.entries);
      numbered = next-first (going-room (length firsts₀) k.numbers);
      begins = rw add-one refl;
    }

  -- where the packets end, what is left is held, or a wrong length drops it
  stops : (b : Bool) (left : List ℕ) (kept m headers : ℕ) → cut_of (drop at s) ≡ record
      { in_step = b; held = left; packets = []; headers = m }
      → m ≤ 1 → headers ≡ packets + m → left ≡ drop kept s → Left held xs kept
      → Cuts f a held xs (record { packets = packets; octets = at; kept = kept; first = from; headers = headers; instep = b }) lengths₀
      firsts₀ lengths firsts
  stops b left kept m headers h o n r l =
      let e : cut_of s ≡ record { in_step = b; held = left; packets = g.done; headers = length g.done + m } =
      g.cont ∙ ap (behind g.done) h ∙ simp append-nil in
      record {
        packets = sym (ap (λ (c : Cut). length c.packets) e ∙ g.count);
        front = ap (λ (c : Cut). joined c.packets) e ∙ g.front;
        in_step = sym (ap (λ (c : Cut). c.in_step) e);
        rest = ap (λ (c : Cut). c.held) e ∙ r;
        kept = l;
        within = g.within;
        past = g.past;
        first = g.begins;
        headers = omega (arith, n, g.count, ap (λ (c : Cut). c.headers) e);
        few = omega arith;
        lengths = g.wrote ∙ ap (λ (c : Cut). written (map length c.packets) lengths₀) (sym e);
        firsts = g.numbered;
      }

  -- the same where the next packet is not whole, its header or not, or its length is wrong
  abbrev Held : ℕ → Type 0
  Held n =
      Cuts f a held xs (record { packets = packets; octets = at; kept = at; first = from; headers = n; instep = true }) lengths₀ firsts₀
      lengths firsts

  abbrev Dropped : Type 0
  Dropped =
      Cuts f a held xs
      (record { packets = packets; octets = at; kept = length held + length xs; first = from; headers = packets + 1; instep = false })
      lengths₀ firsts₀ lengths firsts

  going-unfinished : (m headers : ℕ) → header (length (drop at s)) ≡ m → m ≤ 1 → headers ≡ packets + m → standing (drop at s) ≡ unfinished
      → Held headers
  going-unfinished m headers e o n u =
      stops true (drop at s) at (header (length (drop at s))) headers (cuts_unfinished (drop at s) u) (omega arith) (omega arith) refl
      (record { within = g.within; past = g.past; short = sound-held true (drop at s) u })

  going-wrong : standing (drop at s) ≡ wrong → Dropped
  going-wrong u =
      let d : drop (length held + length xs) s ≡ [] = drop_of_length-le s {i = length held + length xs}
      (omega (arith, length-append held xs)) in
      stops false [] (length held + length xs) 1 (packets + 1) (cuts_wrong (drop at s) u) (omega arith) refl (sym d)
      (record { within = omega arith; past = λ h. absurd (omega arith); short = rw d (omega arith) })

  -- the same by the code's tests, n being the length that the packet says
  module _ (n : ℕ) (e : n ≡ length_in (drop at s)) where
    pub stops-wrong : 6 ≤ length held + length xs - at → (ltb n 16 || ltb 251 n) ≡ true → Dropped
    stops-wrong h t = going-wrong (standing-outside (drop at s) (omega (arith, ahead)) (rw e at (outside n t)))

    pub stops-part : 6 ≤ length held + length xs - at → Within n → length held + length xs - at < n → Held (packets + 1)
    stops-part six v h =
        going-unfinished 1 (packets + 1) (header-more (length (drop at s)) (omega (arith, ahead))) (omega arith) refl
        (standing-part (drop at s) (omega (arith, e, v.least)) (omega (arith, e, v.greatest)) (omega (arith, e, ahead)))

    pub turn : Counted held xs lengths₀ firsts₀ → Within n → n ≤ length held + length xs - at
        → Turn f a held xs lengths₀ firsts₀ lengths firsts from packets at n
    turn k v h =
        let w : standing (drop at s) ≡ whole =
        standing-full (drop at s) (omega (arith, e, v.least)) (omega (arith, e, v.greatest)) (omega (arith, e, ahead)) in
        record {
          least = v.least;
          greatest = v.greatest;
          inside = omega arith;
          room = omega (arith, going-room w (length lengths₀) k.entries, lengths-same);
          numbers = omega (arith, going-room w (length firsts₀) k.numbers, firsts_same);
          on = subst (λ (m : ℕ). Going f a held xs lengths₀ firsts₀ (set lengths packets m) (set firsts packets from) a (packets + 1)
              (at + m)) (sym e) (going_on w k);
        }

  pub stops-short : length held + length xs - at < 6 → Held packets
  stops-short h =
      going-unfinished 0 packets (header_less (length (drop at s)) (omega (arith, ahead))) (omega arith) (omega arith)
      (standing-short (drop at s) (omega (arith, ahead)))
