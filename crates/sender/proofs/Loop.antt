-- The loop that makes all frames: what it has done before frame k, and that one turn does the next.
use Rattle.std.specs.Prelude.{Ok}
use Rattle.std.proofs.Common.{◌≡◌, ℕ, suc, ◌+◌, ◌-◌, ◌*◌, ◌<◌, ◌≤◌, min, List, [], ◌∷◌, ◌++◌, map, length, take, drop, set, sym, refl, ap, ◌∙◌, append_assoc, append-nil, mul-le-mul_right, add-one, arith, length-append, length-drop, length-take, drop-cons, drop-drop}
use lib.ListN.{length-map}
use lib.Seq.{take-append_seam, drop-append_seam, drop-length, set-append_seam}
use borrow.Author.Rules.{part_to_end}
use borrow.Rule.Slice.PartMut.{put_mid}
use Rattle.octets.specs.Parts.{written}
use Rattle.frame.specs.Write.{fields_wrong}
use Rattle.rules.specs.Channel.{Piece, pointer_to}
use Rattle.rules.specs.Packets.{joined}
use Rattle.rules.proofs.Room.{joined-append}
use Rattle.sender.specs.Stream.{next_count}
use Rattle.sender.specs.Sender.{sent_octets}
use Rattle.sender.specs.Frames.{Wanted, framed, full_frames}
use Rattle.sender.specs.Send.{Lent, lent, Outcome, count_after, common_wrong, octets_of, made, observed}
use Rattle.sender.specs.Asked.{Begun, First, Within, Frameable, Framing, Ready}
use Rattle.sender.specs.declared.Common.{Common}
use Rattle.sender.proofs.Starts.{first-zero, begun-later, pointer_is}
use Rattle.sender.proofs.One.{time-most, time-lent}
use Rattle.sender.proofs.Numbered.{stepped, stepped-is, size_no, data_no, piece_no, octets_no, octets_up_to, full-least, octets_upto}
use Rattle.sender.proofs.Numbered.{upto_count, upto_more, upto_within, octets-length}

-- ---- lists

written-length : (a o : List ℕ) → length a ≤ length o → length (written a o) ≡ length o
written-length a o h = simp (length-append, length-drop) (omega arith)

-- b written behind a
written_next : (a b o : List ℕ) → take (length a) (written a o) ++ written b (drop (length a) (written a o)) ≡ written (a ++ b) o
written_next a b o = simp (take-append_seam, drop-append_seam, drop-drop, length-append, append_assoc)

set_next : (a o : List ℕ) (x : ℕ) → length a < length o → set (written a o) (length a) x ≡ written (a ++ (x ∷ [])) o
set_next a o x h =
    ap (λ (l : List ℕ). set (a ++ l) (length a) x) (drop-cons o (length a) 0 h)
    ∙ set-append_seam a _ _ x
    ∙ (let e : length (a ++ (x ∷ [])) ≡ suc (length a) = omega (arith, length-append a (x ∷ [])) in
    rw (e, append_assoc))

map_snoc : (f : List ℕ → ℕ) (xs : List (List ℕ)) (x : List ℕ) → map f (xs ++ (x ∷ [])) ≡ map f xs ++ (f x ∷ [])
map_snoc f [] x = refl
map_snoc f (y ∷ xs) x = ap (λ (l : List ℕ). f y ∷ l) (map_snoc f xs x)

-- ---- before frame k

pub record SoFar (w : Wanted) (l l' : Lent) (full i start all own place end k : ℕ) : Type 0 where
  pub upto : k ≤ full + 1
  pub sent : place ≡ min (k * w.size) (length w.octets)
  pub first : First w.lengths place i start
  pub master : all ≡ stepped k w.master
  pub count : own ≡ stepped k w.count
  pub room : end ≡ length (joined (octets_up_to w k))
  pub octets : l'.octets ≡ written (joined (octets_up_to w k)) l.octets
  pub lengths : l'.lengths ≡ written (map length (octets_up_to w k)) l.lengths

pub so_far_none : (w : Wanted) (l : Lent) (full : ℕ) → SoFar w l l full 0 0 w.master w.count 0 0 0
so_far_none w l full =
    record {
      upto = omega arith;
      sent = (let z : 0 * w.size ≡ 0 = omega arith in omega arith);
      first = first-zero w.lengths;
      master = refl;
      count = refl;
      room = refl;
      octets = refl;
      lengths = refl;
    }

-- fields in range do not turn on the counts
fields_any : (c : Common) (m n m' n' : ℕ) (time : List ℕ) → common_wrong c m n time ≡ common_wrong c m' n' time
unfolding fields_wrong
fields_any c m n m' n' time = refl

module _ {w : Wanted} {l l' : Lent} {full i start all own place end k : ℕ} (r : Ready w full l)
    (s : SoFar w l l' full i start all own place end k) where
  all-octets : length (joined (octets_up_to w (full + 1))) ≤ length l.octets
  all-octets = omega (
    arith,
    r.octets,
    ap (λ (fs : List (List ℕ)). length (joined fs)) (octets_upto w r.adds r.least),
    ap (λ (n : ℕ). length (joined (octets_up_to w (suc n)))) r.before,
    ap (λ (n : ℕ). length (joined (octets_up_to w n))) (add-one full),
  )

  all-lengths : full + 1 ≤ length l.lengths
  all-lengths = omega (
    arith,
    r.lengths,
    r.before,
    ap length (octets_upto w r.adds r.least),
    upto_count w (suc (full_frames w.size (length w.octets))),
  )

  upto_room : length (joined (octets_up_to w k)) ≤ length l.octets
  upto_room = omega (arith, all-octets, upto_within w k (full + 1) s.upto)

  pub octets-length-kept : length l'.octets ≡ length l.octets
  octets-length-kept = ap length s.octets ∙ written-length (joined (octets_up_to w k)) l.octets upto_room

  pub lengths-length-kept : length l'.lengths ≡ length l.lengths
  lengths-length-kept =
      ap length s.lengths
      ∙ written-length (map length (octets_up_to w k)) l.lengths
      (omega (arith, length-map (octets_up_to w k) length, upto_count w k, s.upto, all-lengths))

  pub end-inside : end ≤ length l'.octets
  end-inside = omega (arith, s.room, upto_room, octets-length-kept)

  pub place_inside : place ≤ length w.octets
  place_inside = omega (arith, s.sent)

  module _ (more : k ≤ full) where
    among : k * w.size ≤ length w.octets
    among =
        let a : k * w.size ≤ full * w.size = mul-le-mul_right w.size more in
        omega (arith, a, ap (λ (n : ℕ). n * w.size) r.before, full-least w.size (length w.octets) r.least)

    pub here : place ≡ k * w.size
    here = omega (arith, s.sent, among)

    pub size_is : {n : ℕ} → n ≡ min w.size (length w.octets - place) → n ≡ size_no w k
    size_is e = omega (arith, here)

    long : length (octets_no w k) ≡ size_no w k + 23 + w.common.t
    long = omega (arith, octets-length w k among, time-lent w.common w.master w.count w.time r.fields)

    next-room : end + (size_no w k + 23 + w.common.t) ≤ length l.octets
    next-room = omega (
      arith,
      s.room,
      long,
      upto_more w k,
      upto_within w (suc k) (full + 1) (omega arith),
      all-octets,
    )

    module _ {n : ℕ} (en : n ≡ min w.size (length w.octets - place)) where
      pub place-fits : place + n ≤ length w.octets
      place-fits = omega (arith, place_inside)

      pub frameable : Frameable w.common all own w.time w.octets place n (take (length l'.octets - end) (drop end l'.octets))
      frameable =
          let part : length (take (length l'.octets - end) (drop end l'.octets)) ≡ length l'.octets - end =
          simp (length-take, length-drop) (omega arith) in
          record {
            fields = fields_any w.common all own w.master w.count w.time ∙ r.fields;
            within = place-fits;
            few = omega (arith, r.greatest);
            room = omega (arith, part, size_is en, next-room, octets-length-kept);
          }

      pub index : k < length l'.lengths
      index = omega (arith, lengths-length-kept, all-lengths)

      pub place-next : place + n ≡ min ((k + 1) * w.size) (length w.octets)
      place-next =
          let up : (k + 1) * w.size ≡ k * w.size + w.size = omega arith in
          omega (arith, here, among)

      pub begun : Begun w.lengths (place + n) i start
      begun = begun-later n s.first

      pub within : length w.octets ≤ 18446744073709551615 → Within w.lengths (place + n)
      within h = record { within = omega (arith, place-fits, r.adds); counted = omega (arith, r.adds) }

      module _ {x : ℕ} {p : List ℕ}
          (f : Framing w.common all own w.time (take n (drop place w.octets)) (start - place)
          (take (length l'.octets - end) (drop end l'.octets)) x p) where
        data_size : length (take n (drop place w.octets)) ≡ n
        data_size = simp (length-take, length-drop) (omega (arith, place-fits))

        pub x_is : x ≡ size_no w k + 23 + w.common.t
        x_is = omega (arith, f.answers, data_size, size_is en)

        pub x_small : x < 65536
        x_small = omega (arith, x_is, r.greatest, time-most w.common w.master w.count w.time r.fields)

        pub end_fits : end + x ≤ length l.octets
        end_fits = omega (arith, x_is, next-room)

        piece_is : ◌≡◌ {A = Piece} (record {
          count = own;
          pointer = pointer_to (start - place) (length (take n (drop place w.octets)));
          octets = take n (drop place w.octets);
        }) (piece_no w k)
        piece_is =
            let pointer : pointer_to (start - place) (length (take n (drop place w.octets))) ≡ (piece_no w k).pointer =
            ap (pointer_to (start - place)) data_size ∙ pointer_is w.octets w.lengths place n r.adds r.good place-fits s.first
            ∙ rw (here, size_is en) in
            let octets : take n (drop place w.octets) ≡ data_no w k = rw (here, size_is en) in
            rw (pointer, octets, s.count)

        frame-left : p ≡ written (octets_no w k) (drop end l'.octets)
        frame-left =
            f.leaves
            ∙ ap (λ (q : Piece). written (sent_octets w.common.t (framed w.common w.time all q))
            (take (length l'.octets - end) (drop end l'.octets))) piece_is
            ∙ rw (part_to_end, s.master)

        pub so_far_more : {i' start' all' own' : ℕ} → all' ≡ next_count all → own' ≡ next_count own → First w.lengths (place + n) i' start'
            → SoFar w l (lent (put_mid end (length l'.octets - end) l'.octets p) (set l'.lengths k x)) full i' start' all' own'
            (place + n) (end + x) (k + 1)
        so_far_more ea eo first =
            let a : List (List ℕ) = octets_up_to w k in
            let y : List ℕ = octets_no w k in
            let b : List ℕ = map length a in
            let count : length b ≡ k = length-map a length ∙ upto_count w k in
            let none : drop (length l'.octets - end) (drop end l'.octets) ≡ [] =
            drop-drop (length l'.octets - end) end l'.octets
            ∙ ap (λ (j : ℕ). drop j l'.octets)
            (let j : end + (length l'.octets - end) ≡ length l'.octets = omega (arith, end-inside) in j)
            ∙ drop-length l'.octets in
            let put : put_mid end (length l'.octets - end) l'.octets p ≡ take end l'.octets ++ p =
            rw none (ap (λ (z : List ℕ). take end l'.octets ++ z) (append-nil p)) in
            let ends : joined (a ++ (y ∷ [])) ≡ joined a ++ y = joined-append a (y ∷ []) ∙ ap (λ (z : List ℕ). joined a ++ z)
            (append-nil y) in
            let so : take end l'.octets ++ p ≡ written (joined a ++ y) l.octets =
            rw (frame-left, s.octets, s.room) (written_next (joined a) y l.octets) in
            rw (add-one k) (record {
              upto = omega arith;
              sent = place-next ∙ ap (λ (j : ℕ). min (j * w.size) (length w.octets)) (add-one k);
              first = first;
              master = ea ∙ ap next_count s.master;
              count = eo ∙ ap next_count s.count;
              room = omega (arith, s.room, upto_more w k, x_is, long);
              octets = put ∙ so ∙ ap (λ (z : List ℕ). written z l.octets) (sym ends);
              lengths = ap (λ (z : List ℕ). set z k x) s.lengths ∙ ap (λ (j : ℕ). set (written b l.lengths) j x) (sym count)
                  ∙ set_next b l.lengths x (omega (arith, count, all-lengths))
                  ∙ ap (λ (z : List ℕ). written z l.lengths)
                  (ap (λ (z : ℕ). b ++ (z ∷ [])) (x_is ∙ sym long) ∙ sym (map_snoc length a y));
            })

-- ---- behind the last frame

pub so_far_all : {w : Wanted} {l l' : Lent} {full i start all own place end k : ℕ} → Ready w full l
    → SoFar w l l' full i start all own place end k → full < k
    → ◌≡◌ {A = Outcome} (observed (Ok
    (record { frames = full + 1; octets = end; master = record { 0 = all }; count = record { 0 = own } })) l'.octets l'.lengths)
    (made w.master w.count (octets_of w) l)
so_far_all {w} {l} {l'} {full} {i} {start} {all} {own} {place} {end} {k} r s h =
    let last : k ≡ suc full = omega (arith, s.upto) in
    let frames : octets_up_to w k ≡ octets_of w = ap (octets_up_to w) (last ∙ ap suc r.before) ∙ sym (octets_upto w r.adds r.least) in
    let number : k ≡ length (octets_of w) = sym (upto_count w k) ∙ ap length frames in
    let made-all : full + 1 ≡ length (octets_of w) = omega (arith, number) in
    let master : all ≡ count_after w.master (length (octets_of w)) =
    s.master ∙ ap (λ (j : ℕ). stepped j w.master) last ∙ stepped-is full w.master ∙ ap (count_after w.master)
    (sym last ∙ number) in
    let count : own ≡ count_after w.count (length (octets_of w)) =
    s.count ∙ ap (λ (j : ℕ). stepped j w.count) last ∙ stepped-is full w.count ∙ ap (count_after w.count) (sym last ∙ number) in
    let octets : end ≡ length (joined (octets_of w)) = s.room ∙ ap (λ (z : List (List ℕ)). length (joined z)) frames in
    let left : l'.octets ≡ written (joined (octets_of w)) l.octets = s.octets ∙ ap
    (λ (z : List (List ℕ)). written (joined z) l.octets) frames in
    let entries : l'.lengths ≡ written (map length (octets_of w)) l.lengths =
    s.lengths ∙ ap (λ (z : List (List ℕ)). written (map length z) l.lengths) frames in
    alike made-all octets master count left entries
  where
    alike : {k₁ k₂ e₁ e₂ m₁ m₂ c₁ c₂ : ℕ} {o₁ o₂ q₁ q₂ : List ℕ} → k₁ ≡ k₂ → e₁ ≡ e₂ → m₁ ≡ m₂ → c₁ ≡ c₂ → o₁ ≡ o₂ → q₁ ≡ q₂
        → ◌≡◌ {A = Outcome} (observed (Ok
        (record { frames = k₁; octets = e₁; master = record { 0 = m₁ }; count = record { 0 = c₁ } })) o₁ q₁)
        (observed (Ok (record { frames = k₂; octets = e₂; master = record { 0 = m₂ }; count = record { 0 = c₂ } })) o₂ q₂)
    alike a b c d e f = rw (a, b, c, d, e, f)
