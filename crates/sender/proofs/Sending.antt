-- The same sender by what it has left to send: for proofs.
use Rattle.std.proofs.Common.{◌≡◌, ℕ, zero, suc, ◌+◌, false, cond, ltb, List, [], ◌∷◌, ◌++◌, length, take, drop, replicate, sym, refl, ap, ◌∙◌, zero-add, arith, drop-drop}
use lib.Dec.{leb-zero, leb-suc-zero, leb-suc-suc}
use Rattle.rules.specs.Channel.{Piece, pointer_to}
use Rattle.rules.specs.Packets.{AllGood, joined}
use Rattle.sender.specs.Stream.{heads, first_from, Choice, raw, next, next_count, frames_by}

-- After n more octets: the unsent rest of the begun packet, and the packets not begun.
abbrev pub rest_after : ℕ → List ℕ → List (List ℕ) → List ℕ
rest_after zero r ps = r
rest_after (suc n) (x ∷ r) ps = rest_after n r ps
rest_after (suc n) [] [] = []
rest_after (suc n) [] ([] ∷ ps) = []
rest_after (suc n) [] ((x ∷ p) ∷ ps) = rest_after n p ps

abbrev pub packets_after : ℕ → List ℕ → List (List ℕ) → List (List ℕ)
packets_after zero r ps = ps
packets_after (suc n) (x ∷ r) ps = packets_after n r ps
packets_after (suc n) [] [] = []
packets_after (suc n) [] ([] ∷ ps) = ps
packets_after (suc n) [] ((x ∷ p) ∷ ps) = packets_after n p ps

-- The frame that takes the next n octets (fewer at the stream's end): its first header starts behind the begun packet's rest.
abbrev pub next_piece : ℕ → List ℕ → List (List ℕ) → ℕ → Piece
next_piece c r ps n = record {
  count = c;
  pointer = pointer_to (length r) (length (take n (r ++ joined ps)));
  octets = take n (r ++ joined ps);
}

-- The channel's frames: count of the first, unsent rest of the begun packet, packets not begun, and the choices.
abbrev pub cut_into : ℕ → List ℕ → List (List ℕ) → List Choice → List Piece
cut_into c r ps [] = []
cut_into c r ps (raw xs ∷ cs) = record { count = c; pointer = 254; octets = xs } ∷ cut_into (next_count c) r ps cs
cut_into c r ps (next n ∷ cs) = next_piece c r ps n ∷ cut_into (next_count c) (rest_after n r ps) (packets_after n r ps) cs

-- ---- it is the same

rest-octets : (n : ℕ) (r : List ℕ) (ps : List (List ℕ)) → AllGood ps
    → drop n (r ++ joined ps) ≡ rest_after n r ps ++ joined (packets_after n r ps)
rest-octets zero r ps g = refl
rest-octets (suc n) (x ∷ r) ps g = rest-octets n r ps g
rest-octets (suc n) [] [] g = refl
rest-octets (suc n) [] ([] ∷ ps) g = absurd (omega (arith, g.0.least))
rest-octets (suc n) [] ((x ∷ q) ∷ ps) g = rest-octets n q ps g.1

rest-heads : (n : ℕ) (r : List ℕ) (ps : List (List ℕ)) → AllGood ps
    → drop n (replicate (length r) false ++ heads ps) ≡ replicate (length (rest_after n r ps)) false ++ heads (packets_after n r ps)
rest-heads zero r ps g = refl
rest-heads (suc n) (x ∷ r) ps g = rest-heads n r ps g
rest-heads (suc n) [] [] g = refl
rest-heads (suc n) [] ([] ∷ ps) g = absurd (omega (arith, g.0.least))
rest-heads (suc n) [] ((x ∷ q) ∷ ps) g = rest-heads n q ps g.1

rest-good : (n : ℕ) (r : List ℕ) (ps : List (List ℕ)) → AllGood ps → AllGood (packets_after n r ps)
rest-good zero r ps g = g
rest-good (suc n) (x ∷ r) ps g = rest-good n r ps g
rest-good (suc n) [] [] g = g
rest-good (suc n) [] ([] ∷ ps) g = g.1
rest-good (suc n) [] ((x ∷ q) ∷ ps) g = rest-good n q ps g.1

-- the first start stands behind the begun packet's rest
first-start : (n i : ℕ) (r : List ℕ) (ps : List (List ℕ)) → AllGood ps
    → first_from i (take n (replicate (length r) false ++ heads ps)) ≡ cond (ltb (length r) (length (take n (r ++ joined ps))))
    (i + length r) 255
first-start zero i r ps g = rw leb-suc-zero
first-start (suc n) i (x ∷ r) ps g =
    let move : suc i + length r ≡ i + suc (length r) = omega arith in
    first-start n (suc i) r ps g ∙ rw (leb-suc-suc, move)
first-start (suc n) i [] [] g = refl
first-start (suc n) i [] ([] ∷ ps) g = absurd (omega (arith, g.0.least))
first-start (suc n) i [] ((x ∷ q) ∷ ps) g =
    let move : i + 0 ≡ i = omega arith in
    rw (leb-suc-suc, leb-zero, move)

pub frames-cut : (ps : List (List ℕ)) (cs : List Choice) (o c : ℕ) (r : List ℕ) (qs : List (List ℕ)) → AllGood qs
    → drop o (joined ps) ≡ r ++ joined qs → drop o (heads ps) ≡ replicate (length r) false ++ heads qs
    → frames_by ps o c cs ≡ cut_into c r qs cs
frames-cut ps [] o c r qs g e b = refl
frames-cut ps (raw xs ∷ cs) o c r qs g e b = rw (frames-cut ps cs o (next_count c) r qs g e b)
frames-cut ps (next n ∷ cs) o c r qs g e b =
    let ptr : first_from 0 (take n (drop o (heads ps))) ≡ pointer_to (length r) (length (take n (r ++ joined qs))) =
    rw b (first-start n 0 r qs g ∙ rw zero-add) in
    let ih : frames_by ps (o + n) (next_count c) cs ≡ cut_into (next_count c) (rest_after n r qs) (packets_after n r qs) cs =
    frames-cut ps cs (o + n) (next_count c) (rest_after n r qs) (packets_after n r qs) (rest-good n r qs g)
    (sym (drop-drop n o (joined ps)) ∙ ap (drop n) e ∙ rest-octets n r qs g)
    (sym (drop-drop n o (heads ps)) ∙ ap (drop n) b ∙ rest-heads n r qs g) in
    rw (ptr, e, ih)
