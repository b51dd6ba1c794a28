-- All frames laid, one after another.
use Prim.Native.Nat.{ℕ, zero, suc, ◌+◌, ◌-◌, ◌/◌, ◌≤◌, ◌<◌}
use mathlib.Core.Path.{◌≡◌, sym, ap, ap₂, subst, ◌∙◌}
use mathlib.Core.Bool.{Bool}
use mathlib.Core.List.{List, [], ◌∷◌, ◌++◌, append_assoc, append-nil}
use native.Mathlib.Omega.{arith}
use lib.ListN.{length, get_or, take, drop, length-append, length-take, take-append-drop}
use Rattle.octets.specs.Parts.{written}
use Rattle.bits.specs.Rows.{zeros, bits_of_all}
use Rattle.bits.specs.Rows.Order.{low_first}
use Rattle.bits.specs.Field.{high_bits, octets_in}
use Rattle.bits.proofs.High.{row-none}
use Rattle.bits.proofs.Field.{octets_in_lem}
use Rattle.rules.specs.Packets.{cut}
use Rattle.lengths.proofs.Reached.{Reached, reached_first, reached_fits, reached_next, cut-here, cut-over}
use Rattle.rawbits.specs.Recording.{flag}
use Rattle.rawbits_writer.specs.Stream.{stuffed, body_bits, frame_bits, all_bits, stream_of}
use Rattle.rawbits_writer.specs.Pen.{start, held_by, penned, Ready, Room, FramesRoom, Writes}
use Rattle.rawbits_writer.specs.declared.laying.Pen.{Pen}
use Rattle.rawbits_writer.proofs.Counting.{start-ready, length_stream}
use Rattle.rawbits_writer.proofs.Writing.{Going, going-first, going-room, going-part}

-- the frames from number i on, which starts at `at`, the last flag and what fills up
abbrev left : List ℕ → List ℕ → ℕ → ℕ → List Bool
left d ns at i = all_bits (cut (drop at d) (drop i ns)) ++ zeros 7

pub record Laying (d ns : List ℕ) (p₀ : Pen) (o₀ : List ℕ) (p : Pen) (o : List ℕ) (at i : ℕ) : Type 0 where
  pub reached : Reached ns at i
  pub going : Going p₀ o₀ (left d ns 0 0) p o (left d ns at i)

module _ (d ns : List ℕ) {p : Pen} {o : List ℕ} (e : p ≡ start 0) where
  pub laying_first : Laying d ns p o p o 0 0
  laying_first = record { reached = reached_first ns; going = going-first p o (left d ns 0 0) (start-ready e) }

  pub all_room : FramesRoom d ns o → Room p o (left d ns 0 0)
  all_room r =
      let b : p.bits ≡ 0 = ap (λ (q : Pen). q.bits) e in
      let a : p.at ≡ 0 = ap (λ (q : Pen). q.at) e in
      record {
        few = omega (arith, b);
        room = omega (arith, a, b, r.room, length_stream (cut d ns), length-append (all_bits (cut d ns)) (zeros 7));
      }

module _ {d ns : List ℕ} {p₀ : Pen} {o₀ : List ℕ} {p : Pen} {o : List ℕ} {at i : ℕ} (t : Laying d ns p₀ o₀ p o at i) where
  pub laying_fits : FramesRoom d ns o₀ → i < length ns → at + get_or ns i 0 ≤ length d
  laying_fits r h = reached_fits t.reached d r.adds h

  module _ (h : i < length ns) where
    abbrev frame : List ℕ
    frame = take ((at + get_or ns i 0) - at) (drop at d)

    here : left d ns at i ≡ flag ++ (body_bits frame ++ left d ns (at + get_or ns i 0) (i + 1))
    here =
        let e : get_or ns i 0 ≡ (at + get_or ns i 0) - at = omega arith in
        let rest = frame_bits (cut (drop (at + get_or ns i 0) d) (drop (i + 1) ns)) in
        ap (λ (l : List (List ℕ)). all_bits l ++ zeros 7) (cut-here d ns at i h)
        ∙ ap (λ (n : ℕ). flag ++ (((body_bits (take n (drop at d)) ++ flag) ++ rest) ++ zeros 7)) e
        ∙ ap (λ (r : List Bool). flag ++ r)
        (append_assoc (body_bits frame ++ flag) rest (zeros 7) ∙ append_assoc (body_bits frame) flag (rest ++ zeros 7))

    at_flag : Going p₀ o₀ (left d ns 0 0) p o (flag ++ (body_bits frame ++ left d ns (at + get_or ns i 0) (i + 1)))
    at_flag = subst (Going p₀ o₀ (left d ns 0 0) p o) here t.going

    pub laying_flag : Room p₀ o₀ (left d ns 0 0) → Ready p × Room p o flag
    laying_flag r = (t.going.ready, going-room flag _ at_flag r)

    module _ {q : Pen} {o₁ : List ℕ} (x : Writes p o flag 0 q o₁) (l : length o₁ ≡ length o) where
      at_body : Going p₀ o₀ (left d ns 0 0) q o₁ (stuffed q.ones (bits_of_all low_first frame) ++ left d ns (at + get_or ns i 0) (i + 1))
      at_body =
          subst (λ (k : ℕ). Going p₀ o₀ (left d ns 0 0) q o₁ (stuffed k (bits_of_all low_first frame) ++ left d ns (at + get_or ns i 0) (i + 1)))
          (sym x.run)
          (going-part flag _ at_flag x l)

      pub laying_body : Room p₀ o₀ (left d ns 0 0) → Ready q × Room q o₁ (stuffed q.ones (bits_of_all low_first frame))
      laying_body r = (x.ready, going-room _ _ at_body r)

      pub laying_next : {r : Pen} {o₂ : List ℕ} → Writes q o₁ (stuffed q.ones (bits_of_all low_first frame)) r.ones r o₂
          → length o₂ ≡ length o₁
          → Laying d ns p₀ o₀ r o₂ (at + get_or ns i 0) (i + 1)
      laying_next y m = record { reached = reached_next t.reached h; going = going-part _ _ at_body y m }

  module _ (h : length ns ≤ i) where
    at_last : Going p₀ o₀ (left d ns 0 0) p o (flag ++ zeros 7)
    at_last =
        subst (Going p₀ o₀ (left d ns 0 0) p o) (ap (λ (l : List (List ℕ)). all_bits l ++ zeros 7) (cut-over (drop at d) ns i h)) t.going

    pub last-flag : Room p₀ o₀ (left d ns 0 0) → Ready p × Room p o flag
    last-flag r = (t.going.ready, going-room flag _ at_last r)

    module _ {q : Pen} {o₁ : List ℕ} (x : Writes p o flag 0 q o₁) (l : length o₁ ≡ length o) where
      at_fill : Going p₀ o₀ (left d ns 0 0) q o₁ (zeros 7 ++ [])
      at_fill = going-part flag _ at_last x l

      pub last_fill : Room p₀ o₀ (left d ns 0 0) → Ready q × Room q o₁ (zeros 7)
      last_fill r = (x.ready, going-room (zeros 7) [] at_fill r)

      pub laying_done : {r : Pen} {o₂ : List ℕ} → Writes q o₁ (zeros 7) q.ones r o₂ → length o₂ ≡ length o₁ → Going p₀ o₀
          (left d ns 0 0) r o₂ []
      laying_done y m = going-part (zeros 7) [] at_fill y m

-- ---- the stream is there

pub taken : (n : ℕ) (s : List ℕ) → ((i : ℕ) → get_or s i 0 < 256) → (i : ℕ) → get_or (take n s) i 0 < 256
taken zero s small i = omega arith
taken (suc n) [] small i = omega arith
taken (suc n) (x ∷ s) small zero = small 0
taken (suc n) (x ∷ s) small (suc i) = taken n s (λ j. small (suc j)) i

start-penned : (o : List ℕ) → penned (start 0) o ≡ []
unfolding held_by high_bits
start-penned o = ap (λ (r : List Bool). r ++ []) row-none

module _ (d ns : List ℕ) {p r : Pen} {o o' : List ℕ} (e : p ≡ start 0) (f : FramesRoom d ns o) (g : Going p o (left d ns 0 0) r o' [])
    (small : (i : ℕ) → get_or o' i 0 < 256) where
  laid-length : r.at ≡ length (stream_of (cut d ns))
  laid-length =
      let b : p.bits ≡ 0 = ap (λ (q : Pen). q.bits) e in
      let a : p.at ≡ 0 = ap (λ (q : Pen). q.at) e in
      omega (arith, a, b, g.moves, g.ready.few, length_stream (cut d ns), length-append (all_bits (cut d ns)) (zeros 7))

  front : take r.at o' ≡ stream_of (cut d ns)
  unfolding stream_of
  front =
      let n : length (take r.at o') ≡ (length (all_bits (cut d ns)) + 7) / 8 =
      omega (arith, laid-length, length_stream (cut d ns), length-take r.at o', g.same, f.room) in
      sym (octets_in_lem (take r.at o') (held_by r) (taken r.at o' small))
      ∙ ap₂ octets_in n
      (sym (append-nil (penned r o')) ∙ g.adds ∙ ap (λ (q : Pen). penned q o ++ left d ns 0 0) e ∙ ap
      (λ (s : List Bool). s ++ left d ns 0 0) (start-penned o))

  pub laid : (r.at ≡ length (stream_of (cut d ns))) × (o' ≡ written (stream_of (cut d ns)) o)
  laid = (
    laid-length,
    sym (take-append-drop r.at o') ∙ ap₂ (λ (x y : List ℕ). x ++ y) front (g.beyond ∙ ap (λ (n : ℕ). drop n o) laid-length),
  )
