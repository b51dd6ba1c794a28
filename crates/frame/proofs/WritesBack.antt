-- What the reader accepted, the writer accepts and gives.
use Prim.Native.Nat.{ℕ, ◌+◌, ◌-◌, ◌*◌, ◌/◌, ◌%◌, ◌≤◌, ◌<◌}
use native.Mathlib.Omega.{arith}
use native.Mathlib.Numerals.{add-one}
use mathlib.Core.Path.{◌≡◌, refl, sym, ap, ◌∙◌, subst}
use mathlib.Core.List.{List, [], ◌∷◌, ◌++◌}
use mathlib.Core.Bool.{false}
use borrow.Author.Tests.{le-ltb, eq-eqb}
use lib.ListN.{length, take, drop, length-drop}
use lib.Seq.{take-add, take-suc, length-take-le}
use Rattle.octets.specs.Numbers.{at}
use Rattle.octets.proofs.Placing.{part-some}
use Rattle.octets.proofs.Runs.{run, run_is, length_part}
use Rattle.bits.specs.Rows.{ones}
use Rattle.bits.specs.Rows.Order.{low_first}
use Rattle.crc.specs.Check.{with_check}
use Rattle.crc.proofs.Ends.{accepted}
use Rattle.frame.specs.Address.{address_of, address_octets}
use Rattle.frame.specs.Frame.{flag_of, data_length, status_of, frame_of, data_of, time_of}
use Rattle.frame.specs.Back.{WrittenBack, WritesBack}
use Rattle.frame.specs.Write.{fields_wrong, head_of, front, status_octet, body, frame_octets}
use Rattle.frame.specs.declared.Frame.{Frame}
use Rattle.frame.proofs.Accepts.{Passed, passed}
use Rattle.frame.proofs.AddressTrip.{octets_of_lem, callsign_right}

module _ (t : ℕ) (s : List ℕ) (k : Passed t s) where
  f : Frame
  f = frame_of t s

  n : ℕ
  n = data_length t s

  data_length_lem : length (data_of f s) ≡ n
  unfolding f n frame_of
  data_length_lem = length_part s 20 (data_length t s) (omega (arith, k.least))

  time-length : length (time_of f t s) ≡ t
  unfolding f frame_of
  time-length = length_part s (21 + data_length t s) t (omega (arith, k.least))

  fields-right : fields_wrong f t n t ≡ false
  unfolding f n frame_of fields_wrong
  fields-right =
      let few : data_length t s ≤ 251 - t = omega (arith, k.greatest, k.least) in
      let channel : at s 16 / 8 ≤ 7 = omega (arith, k.version) in
      let telecommands : status_of t s % 4 ≤ 3 = omega arith in
      let to : at (take 7 s) 6 / 2 % 16 ≤ 15 = omega arith in
      let from : at (take 7 (drop 7 s)) 6 / 2 % 16 ≤ 15 = omega arith in
      simp (
        le-ltb 8 t k.time,
        eq-eqb t t refl,
        eq-eqb (data_length t s) (data_length t s) refl,
        le-ltb _ _ few,
        le-ltb _ _ channel,
        le-ltb _ _ telecommands,
        le-ltb _ _ to,
        le-ltb _ _ from,
        k.pointer,
        callsign_right (take 7 s) 0 k.destination,
        callsign_right (take 7 (drop 7 s)) 1 k.source,
      )

  six : head_of f ≡ take 6 (drop 14 s)
  unfolding f frame_of
  six =
      let e : 8 * (at s 16 / 8) ≡ at s 16 = omega (arith, k.spare) in
      let w : head_of (frame_of t s) ≡ run 14 6 s = simp (e, k.control, k.protocol) in
      w ∙ sym (ap (take 6) (run_is 6 14 s (omega (arith, k.least))))

  front-back : front f ≡ take 20 s
  unfolding f frame_of
  front-back =
      let a = octets_of_lem (take 7 s) 0 k.destination (length-take-le 7 s (omega (arith, k.least))) in
      let b = octets_of_lem (take 7 (drop 7 s)) 1 k.source (length-take-le 7 (drop 7 s) (simp length-drop (omega (arith, k.least)))) in
      ap (λ (x : List ℕ). x ++ address_octets (address_of (take 7 (drop 7 s))) 1 ++ head_of (frame_of t s)) a
      ∙ ap (λ (x : List ℕ). take 7 s ++ x ++ head_of (frame_of t s)) b
      ∙ ap (λ (x : List ℕ). take 7 s ++ take 7 (drop 7 s) ++ x) six
      ∙ ap (λ (x : List ℕ). x ++ take 6 (drop 14 s)) (sym (take-add 7 7 s))
      ∙ sym (take-add 14 6 s)

  status_back : status_octet f t ≡ at s (20 + n)
  unfolding f n frame_of
  status_back =
      let e : length s - 3 - t ≡ 20 + data_length t s = omega (arith, k.least) in
      let w : 16 * flag_of t + status_of t s % 4 ≡ status_of t s = omega (arith, k.flag, k.quiet) in
      w ∙ ap (λ (i : ℕ). at s i) e

  data_back : data_of f s ≡ take n (drop 20 s)
  unfolding f n frame_of
  data_back = sym (part-some s 20 (data_length t s) (omega (arith, k.least)))

  time-back : time_of f t s ≡ take t (drop (20 + n + 1) s)
  unfolding f n frame_of
  time-back =
      let e : 21 + data_length t s ≡ 20 + data_length t s + 1 = omega arith in
      sym (part-some s (21 + data_length t s) t (omega (arith, k.least))) ∙ ap (λ (i : ℕ). take t (drop i s)) e

  body_back : body f t (data_of f s) (time_of f t s) ≡ take (length s - 2) s
  unfolding n
  body_back =
      let e : 20 + n + 1 + t ≡ length s - 2 = omega (arith, k.least) in
      ap (λ (x : List ℕ). x ++ data_of f s ++ (status_octet f t ∷ []) ++ time_of f t s) front-back
      ∙ ap (λ (x : List ℕ). take 20 s ++ x ++ (status_octet f t ∷ []) ++ time_of f t s) data_back
      ∙ ap (λ (x : List ℕ). x ++ (status_octet f t ∷ []) ++ time_of f t s) (sym (take-add 20 n s))
      ∙ ap (λ (x : ℕ). take (20 + n) s ++ (x ∷ []) ++ time_of f t s) status_back
      ∙ ap (λ (x : List ℕ). x ++ time_of f t s)
      (sym (take-suc s (20 + n) 0 (omega (arith, k.least))) ∙ ap (λ (i : ℕ). take i s) (sym (add-one (20 + n))))
      ∙ ap (λ (x : List ℕ). take (20 + n + 1) s ++ x) time-back
      ∙ sym (take-add (20 + n + 1) t s)
      ∙ ap (λ (i : ℕ). take i s) e

  octets-back : ((i : ℕ) → at s i < 256) → frame_octets f t (data_of f s) (time_of f t s) ≡ s
  unfolding frame_octets
  octets-back octet =
      ap (with_check low_first (ones 16)) body_back ∙ accepted low_first (ones 16) s (record { small = octet; two = omega (arith, k.least) })
      k.check

  written_back : ((i : ℕ) → at s i < 256) → WrittenBack (frame_of t s) t s
  unfolding f
  written_back octet = record { accepts = simp (data_length_lem, time-length, fields-right); octets = octets-back octet }

pub writes-back : WritesBack
writes-back t s f octet h =
    let p = passed t s f h in
    subst (λ (x : Frame). WrittenBack x t s) p.1 (written_back t s p.0 octet)
