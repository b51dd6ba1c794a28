-- The laws of rule 5 a packet at a time, and the numbers of the frames in which packets began.
use mathlib.Core.Path.{◌≡◌, refl, sym, ap, ◌∙◌, subst}
use mathlib.Core.List.{List, [], ◌∷◌, ◌++◌, append_assoc, append-nil}
use mathlib.Core.Bool.{true}
use Prim.Native.Nat.{ℕ, zero, suc, ◌+◌}
use native.Mathlib.Nat.{zero-add, add_comm}
use native.Mathlib.Omega.{arith}
use lib.ListN.{length, take, drop, length-append, take-append-drop}
use lib.Seq.{length-take-le}
use Rattle.rules.specs.Channel.{Held, held_of, nothing, begun_in, grown, cleared, Handed, given, Standing, unfinished, whole, wrong}
use Rattle.rules.specs.Channel.{standing, length_in, Work, holding, sixth, feed}
use Rattle.rules.specs.Packets.{Good, firsts}
use Rattle.rules.specs.Cutting.{Cut, cut_by, cut_of, after, behind, header, firsts_of, first_behind, FirstsOn, CutsOn, CutsUnfinished}
use Rattle.rules.specs.Cutting.{CutsWrong, CutsWhole}
use Rattle.rules.proofs.Standing.{length-said, empty-unfinished}
use Rattle.rules.proofs.Cutting.{fed, feed-append, feed-out, push-on, push-done, push-bad, Whole, whole-size}
use Rattle.rules.proofs.Cutting.{feed_grow, feed-wrong, feed-whole}

-- ---- the laws of `cut_of`

pub cuts_unfinished : CutsUnfinished
unfolding cut_of
cuts_unfinished s u = feed_grow 0 nothing s [] 0 (header (length s)) u (omega arith)

pub cuts_wrong : CutsWrong
unfolding cut_of
cuts_wrong s w = ap cut_by (feed-wrong 0 nothing s [] 0 1 empty-unfinished w (omega arith))

-- what is held and the octets after it, with all headers counted
pub cuts_on : CutsOn
unfolding cut_of
cuts_on a n h xs u =
    let k : ℕ = header (length h.octets) in
    let front : cut_by (holding h [] (k + n)) ≡ after [] n (cut_by (feed 0 (holding nothing [] 0) h.octets)) =
    ap (λ (m : ℕ). record { in_step = true; held = h.octets; packets = []; headers = m }) (add_comm k n)
    ∙ ap (after [] n) (sym (feed_grow 0 nothing h.octets [] 0 k u (omega arith))) in
    sym (fed 0 a xs (holding h [] (k + n)) (holding h [] n) [] k refl)
    ∙ fed 0 0 xs (holding h [] (k + n)) (feed 0 (holding nothing [] 0) h.octets) [] n front
    ∙ ap (λ (w : Work). after [] n (cut_by w)) (sym (feed-append 0 (holding nothing [] 0) h.octets xs))

whole_then : (a : ℕ) (q r : List ℕ) → Good q
    → cut_by (feed a (holding nothing [] 0) (q ++ r)) ≡ behind (q ∷ []) (cut_by (feed a (holding nothing [] 0) r))
whole_then a [] r g = absurd (omega (arith, g.least))
whole_then a (x ∷ q) r g =
    ap cut_by (feed-append a (holding nothing [] 0) (x ∷ q) r)
    ∙ fed a a r (feed a (holding nothing [] 0) (x ∷ q)) (holding nothing [] 0) ((x ∷ q) ∷ []) 1
    (feed-whole a nothing x q [] 0 1 g (omega arith))

pub cuts_whole : CutsWhole
unfolding cut_of
cuts_whole s w =
    let n : ℕ = length_in s in
    let b : Whole s = whole-size s w in
    let len : length (take n s) ≡ n = length-take-le n s b.there in
    let same : length_in (take n s) ≡ n = length-said (take n s) (drop n s) s (take-append-drop n s) (omega (arith, b.least)) in
    let g : Good (take n s) = record { least = omega (arith, b.least); greatest = omega (arith, b.greatest); says = omega arith } in
    ap (λ (l : List ℕ). cut_by (feed 0 (holding nothing [] 0) l)) (sym (take-append-drop n s)) ∙ whole_then 0 (take n s) (drop n s) g

-- none behind others, and one more
pub behind-none : (c : Cut) → c ≡ behind [] c
behind-none c =
    ap (λ (m : ℕ). record { in_step = c.in_step; held = c.held; packets = c.packets; headers = m }) (sym (zero-add c.headers))

pub behind_more : (ps : List (List ℕ)) (q : List ℕ) (c : Cut) → behind ps (behind (q ∷ []) c) ≡ behind (ps ++ q ∷ []) c
behind_more ps q c =
    let k : length (ps ++ q ∷ []) ≡ length ps + 1 = length-append ps (q ∷ []) in
    let l : length ps + (1 + c.headers) ≡ length (ps ++ q ∷ []) + c.headers = omega arith in
    ap (λ (m : ℕ). record { in_step = c.in_step; held = c.held; packets = ps ++ q ∷ c.packets; headers = m }) l
    ∙ ap (λ (qs : List (List ℕ)). record { in_step = c.in_step; held = c.held; packets = qs; headers = length (ps ++ q ∷ []) + c.headers })
    (sym (append_assoc ps (q ∷ []) c.packets))

-- ---- first numbers

-- new packets behind those handed out before, the next of them begun in frame f
record Firsts (f a : ℕ) (ps : List Handed) (w : Work) : Type 0 where
  new : List Handed
  all : w.packets ≡ ps ++ new
  packets : firsts new ≡ firsts_of f a (length new)
  left : begun_in 0 w.held.first (length w.held.octets) ≡ begun_in 0 (first_behind f a (length new)) (length w.held.octets)

begun-grown : (a first x : ℕ) (l : List ℕ) → begun_in a (begun_in a first (length l)) (length (l ++ x ∷ [])) ≡ begun_in a first (length l)
begun-grown a first x [] = refl
begun-grown a first x (y ∷ l) = refl

begun-held : (a first n : ℕ) → begun_in 0 first n ≡ begun_in 0 (begun_in a first n) n
begun-held a first zero = refl
begun-held a first (suc n) = refl

behind-same : (a n : ℕ) → first_behind a a n ≡ a
behind-same a zero = refl
behind-same a (suc n) = refl

abbrev Fed : ℕ → List ℕ → Type 0
Fed a xs = (h : Held) (ps : List Handed) (n : ℕ) → Firsts (begun_in a h.first (length h.octets)) a ps (feed a (holding h ps n) xs)

fed_more : (a x : ℕ) (xs : List ℕ) → Fed a xs → (h : Held) (ps : List Handed) (n : ℕ) (st : Standing) → standing (h.octets ++ x ∷ []) ≡ st
    → Firsts (begun_in a h.first (length h.octets)) a ps (feed a (holding h ps n) (x ∷ xs))
fed_more a x xs rec h ps n unfinished e =
    let m : ℕ = sixth h.octets n in
    rw (push-on a h ps n x e)
    (subst (λ (f : ℕ). Firsts f a ps (feed a (holding (grown a h x) ps m) xs)) (begun-grown a h.first x h.octets)
    (rec (grown a h x) ps m))
fed_more a x xs rec h ps n wrong e =
    rw (push-bad a h ps n x e, feed-out a ps (sixth h.octets n) xs)
    (record { new = []; all = sym (append-nil ps); packets = refl; left = refl })
fed_more a x xs rec h ps n whole e =
    let q : Handed = given a (grown a h x) in
    let m : ℕ = sixth h.octets n in
    let t : Firsts a a (ps ++ q ∷ []) (feed a (holding nothing (ps ++ q ∷ []) m) xs) = rec nothing (ps ++ q ∷ []) m in
    rw (push-done a h ps n x e)
    (record {
      new = q ∷ t.new;
      all = t.all ∙ append_assoc ps (q ∷ []) t.new;
      packets = ap (λ (l : List ℕ). q.first ∷ l) t.packets;
      left = t.left ∙ ap (λ (i : ℕ). begun_in 0 i (length (feed a (holding nothing (ps ++ q ∷ []) m) xs).held.octets))
          (behind-same a (length t.new));
    })

feed-firsts : (a : ℕ) (xs : List ℕ) → Fed a xs
feed-firsts a [] h ps n =
    record { new = []; all = sym (append-nil ps); packets = refl; left = begun-held a h.first (length h.octets) }
feed-firsts a (x ∷ xs) h ps n = fed_more a x xs (feed-firsts a xs) h ps n (standing (h.octets ++ x ∷ [])) refl

pub firsts-on : FirstsOn
firsts-on a n h xs =
    let t = feed-firsts a xs h [] n in
    let w = feed a (holding h [] n) xs in
    record {
      packets = rw t.all t.packets;
      left = ap (λ (m : ℕ). held_of m w.held.octets) t.left
          ∙ ap (λ (ps : List Handed). cleared
          (held_of (first_behind (begun_in a h.first (length h.octets)) a (length ps)) w.held.octets)) (sym t.all);
    }
