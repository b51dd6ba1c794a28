-- The frames of a call by number, from 0 on.
use Rattle.std.proofs.Common.{◌≡◌, ℕ, zero, suc, ◌+◌, ◌-◌, ◌*◌, ◌%◌, ◌<◌, ◌≤◌, min, List, [], ◌∷◌, ◌++◌, map, length, take, drop, replicate, sym, refl, ap, ◌∙◌, mul-le-mul_right, mod-lt, div-add-mod', arith, length-append, length-drop, length-take}
use Rattle.frame.proofs.Laying.{length-octets}
use Rattle.rules.specs.Channel.{Piece}
use Rattle.rules.specs.Packets.{joined, total}
use Rattle.rules.proofs.Room.{joined-append}
use Rattle.rules.proofs.Lengths.{joined-cut}
use Rattle.rules.proofs.Standing.{Order, up_to, past, order}
use Rattle.sender.specs.Stream.{heads, first_from, next, next_count, frames_by}
use Rattle.sender.specs.Sender.{Framed, sent_octets}
use Rattle.sender.specs.Frames.{Wanted, packets_of, framed, framed_from, full_frames, choices_of, frames_of}
use Rattle.sender.specs.Send.{count_after, octets_of}

-- ---- counts

-- the count k frames on, one by one
abbrev pub stepped : ℕ → ℕ → ℕ
stepped zero c = c
stepped (suc k) c = next_count (stepped k c)

pub stepped-is : (k c : ℕ) → stepped (suc k) c ≡ count_after c (suc k)
stepped-is zero c = refl
stepped-is (suc k) c = let e : stepped (suc k) c ≡ (c + suc k) % 256 = stepped-is k c in rw e (omega arith)

-- ---- frames

module _ (w : Wanted) where
  abbrev pub size_no : ℕ → ℕ
  size_no i = min w.size (length w.octets - i * w.size)

  abbrev pub data_no : ℕ → List ℕ
  data_no i = take (size_no i) (drop (i * w.size) w.octets)

  abbrev pub piece_no : ℕ → Piece
  piece_no i = record {
    count = stepped i w.count;
    pointer = first_from 0 (take (size_no i) (drop (i * w.size) (heads (packets_of w))));
    octets = data_no i;
  }

  abbrev pub frame_no : ℕ → Framed
  frame_no i = framed w.common w.time (stepped i w.master) (piece_no i)

  -- k frames from number i on
  abbrev pub frames_from : ℕ → ℕ → List Framed
  frames_from i zero = []
  frames_from i (suc k) = frame_no i ∷ frames_from (suc i) k

  frames-more : (k i : ℕ) → frames_from i (suc k) ≡ frames_from i k ++ (frame_no (i + k) ∷ [])
  frames-more zero i = let z : i + 0 ≡ i = omega arith in rw z
  frames-more (suc k) i =
      let z : i + suc k ≡ suc i + k = omega arith in
      rw z (ap (λ (l : List Framed). frame_no i ∷ l) (frames-more k (suc i)))

  -- the octets of the first k
  abbrev pub octets_no : ℕ → List ℕ
  octets_no i = sent_octets w.common.t (frame_no i)

  abbrev pub octets_up_to : ℕ → List (List ℕ)
  octets_up_to zero = []
  octets_up_to (suc k) = octets_up_to k ++ (octets_no k ∷ [])

  map-append : (fs gs : List Framed) → map (sent_octets w.common.t) (fs ++ gs) ≡ map (sent_octets w.common.t) fs ++ map
      (sent_octets w.common.t) gs
  map-append [] gs = refl
  map-append (f ∷ fs) gs = ap (λ (l : List (List ℕ)). sent_octets w.common.t f ∷ l) (map-append fs gs)

  octets_are : (k : ℕ) → map (sent_octets w.common.t) (frames_from 0 k) ≡ octets_up_to k
  octets_are zero = refl
  octets_are (suc k) =
      let z : 0 + k ≡ k = omega arith in
      ap (map (sent_octets w.common.t)) (frames-more k 0) ∙ map-append (frames_from 0 k) (frame_no (0 + k) ∷ [])
      ∙ rw (octets_are k, z)

-- ---- how many

pub full-below : (size m : ℕ) → full_frames size m * size ≤ m - 1
full-below size m = omega (arith, div-add-mod' (m - 1) size)

pub full-least : (size m : ℕ) → 0 < size → full_frames size m * size ≤ m
full-least size m h = omega (arith, full-below size m)

pub full-most : (size m : ℕ) → 0 < size → m ≤ full_frames size m * size + size
full-most size m h = omega (arith, div-add-mod' (m - 1) size, mod-lt (m - 1) {m = size} h)

-- ---- they are the frames of the definition

module _ (w : Wanted) (e : total w.lengths ≡ length w.octets) where
  whole : joined (packets_of w) ≡ w.octets
  whole = joined-cut w.octets w.lengths e

  one : (i n : ℕ) → n ≡ size_no w i
      → ◌≡◌ {A = Piece} (record {
        count = stepped i w.count;
        pointer = first_from 0 (take n (drop (i * w.size) (heads (packets_of w))));
        octets = take n (drop (i * w.size) (joined (packets_of w)));
      }) (piece_no w i)
  one i n q = rw (whole, q)

  numbered : (j i : ℕ) → (i + j) * w.size ≤ length w.octets → length w.octets ≤ (i + j) * w.size + w.size
      → framed_from w.common w.time (stepped i w.master)
      (frames_by (packets_of w) (i * w.size) (stepped i w.count)
      (replicate j (next w.size) ++ (next (length w.octets - (i + j) * w.size) ∷ [])))
      ≡ frames_from w i (suc j)
  numbered zero i h l =
      let q : length w.octets - (i + 0) * w.size ≡ size_no w i = omega arith in
      ap (λ (p : Piece). framed w.common w.time (stepped i w.master) p ∷ []) (one i (length w.octets - (i + 0) * w.size) q)
  numbered (suc j) i h l =
      let same : i + suc j ≡ suc i + j = omega arith in
      let up : i * w.size + w.size ≡ suc i * w.size = omega arith in
      let far : suc i * w.size ≤ (suc i + j) * w.size = mul-le-mul_right w.size (omega arith) in
      let h' : (suc i + j) * w.size ≤ length w.octets = rw same at h in
      let l' : length w.octets ≤ (suc i + j) * w.size + w.size = rw same at l in
      let q : w.size ≡ size_no w i = omega arith in
      let rest : List Framed =
      framed_from w.common w.time (stepped (suc i) w.master)
      (frames_by (packets_of w) (i * w.size + w.size) (stepped (suc i) w.count)
      (replicate j (next w.size) ++ (next (length w.octets - (i + suc j) * w.size) ∷ []))) in
      let behind : rest ≡ frames_from w (suc i) (suc j) = rw (up, same) (numbered j (suc i) h' l') in
      ap (λ (p : Piece). framed w.common w.time (stepped i w.master) p ∷ rest) (one i w.size q)
      ∙ ap (λ (fs : List Framed). frame_no w i ∷ fs) behind

  module _ (least : 0 < w.size) where
    abbrev full : ℕ
    full = full_frames w.size (length w.octets)

    pub frames_are : frames_of w ≡ frames_from w 0 (suc full)
    unfolding frames_of choices_of
    frames_are =
        let z : 0 + full ≡ full = omega arith in
        let none : 0 * w.size ≡ 0 = omega arith in
        let at : ℕ → ℕ → List Framed = λ o j. framed_from w.common w.time w.master
        (frames_by (packets_of w) o w.count (replicate full (next w.size) ++ (next (length w.octets - j * w.size) ∷ []))) in
        rw whole (ap (λ (o : ℕ). at o full) (sym none) ∙ ap (at (0 * w.size)) (sym z)
        ∙ numbered full 0 (rw z (full-least w.size (length w.octets) least)) (rw z (full-most w.size (length w.octets) least)))

    pub octets_upto : octets_of w ≡ octets_up_to w (suc full)
    octets_upto = ap (map (sent_octets w.common.t)) frames_are ∙ octets_are w (suc full)

-- ---- how long

module _ (w : Wanted) where
  pub upto_count : (k : ℕ) → length (octets_up_to w k) ≡ k
  upto_count zero = refl
  upto_count (suc k) = omega (arith, upto_count k, length-append (octets_up_to w k) (octets_no w k ∷ []))

  pub upto_more : (k : ℕ) → length (joined (octets_up_to w (suc k))) ≡ length (joined (octets_up_to w k)) + length (octets_no w k)
  upto_more k =
      let a : List (List ℕ) = octets_up_to w k in
      omega (
        arith,
        ap length (joined-append a (octets_no w k ∷ [])),
        length-append (joined a) (octets_no w k ++ []),
        length-append
            (octets_no w k) [],
      )

  pub upto_within : (j k : ℕ) → j ≤ k → length (joined (octets_up_to w j)) ≤ length (joined (octets_up_to w k))
  upto_within zero k h = omega arith
  upto_within (suc j) zero h = absurd (omega arith)
  upto_within (suc j) (suc k) h = go (order (suc j) k) (upto_within (suc j) k)
    where
      go : Order (suc j) k → (suc j ≤ k → length (joined (octets_up_to w (suc j))) ≤ length (joined (octets_up_to w k)))
          → length (joined (octets_up_to w (suc j))) ≤ length (joined (octets_up_to w (suc k)))
      go (up_to l e) ih = omega (arith, ih l, upto_more k)
      go (past l e) ih = let same : j ≡ k = omega arith in rw same (omega arith)

  pub data_length_lem : (i : ℕ) → i * w.size ≤ length w.octets → length (data_no w i) ≡ size_no w i
  data_length_lem i h = simp (length-take, length-drop) (omega arith)

  pub octets-length : (i : ℕ) → i * w.size ≤ length w.octets → length (octets_no w i) ≡ size_no w i + 23 + length w.time
  octets-length i h = omega (arith, length-octets (frame_no w i).fields w.common.t (data_no w i) w.time, data_length_lem i h)
