-- What a sender by the rules writes of packets behind packets, by choices behind choices.
use Rattle.std.proofs.Common.{◌≡◌, ℕ, zero, suc, ◌+◌, ◌-◌, ◌≤◌, Bool, true, false, not, ltb, List, [], ◌∷◌, ◌++◌, length, take, drop, replicate, sym, refl, ap, ◌∙◌, append_assoc, arith, length-append, length-drop, length-take, lt-ltb}
use lib.ListN.{length-replicate}
use lib.Seq.{take-append-le, drop-append-le, drop-append-add}
use Rattle.frame.specs.Frame.{pointer_wrong}
use Rattle.rules.specs.Channel.{Piece}
use Rattle.rules.specs.Packets.{joined}
use Rattle.rules.proofs.Room.{joined-append}
use Rattle.sender.specs.Stream.{heads, first_from, Choice, raw, next, next_count, frames_by}
use Rattle.sender.specs.Sender.{Framed, AllWellFormed, Mastered}
use Rattle.sender.specs.Frames.{framed_from}
use Rattle.sender.specs.Send.{common_wrong}
use Rattle.sender.specs.Calls.{taken}
use Rattle.sender.specs.declared.Common.{Common}
use Rattle.sender.proofs.One.{or_true, fields-right}
use Rattle.sender.proofs.Numbered.{stepped}

-- ---- heads

pub heads-append : (ps qs : List (List ℕ)) → heads (ps ++ qs) ≡ heads ps ++ heads qs
heads-append [] qs = refl
heads-append ([] ∷ ps) qs = heads-append ps qs
heads-append ((x ∷ p) ∷ ps) qs =
    ap (λ (b : List Bool). true ∷ b) (ap (λ (b : List Bool). replicate (length p) false ++ b) (heads-append ps qs)
    ∙ sym (append_assoc (replicate (length p) false) (heads ps) (heads qs)))

pub heads-length : (ps : List (List ℕ)) → length (heads ps) ≡ length (joined ps)
heads-length [] = refl
heads-length ([] ∷ ps) = heads-length ps
heads-length ((x ∷ p) ∷ ps) = omega (
  arith,
  length-append (replicate (length p) false) (heads ps),
  length-replicate (length p) false,
  length-append p (joined ps),
  heads-length ps,
)

-- ---- packets behind packets

-- n elements from o on, in the front one of two lists
front : {A : Type 0} (xs ys : List A) (o n : ℕ) → o + n ≤ length xs → take n (drop o (xs ++ ys)) ≡ take n (drop o xs)
front xs ys o n h =
    ap (take n) (drop-append-le o xs ys (omega arith)) ∙ take-append-le n (drop o xs) ys (omega (arith, length-drop o xs))

by_front : (ps qs : List (List ℕ)) (cs : List Choice) (o c : ℕ) → o + taken cs ≤ length (joined ps) → frames_by
    (ps ++ qs) o c cs ≡ frames_by ps o c cs
by_front ps qs [] o c h = refl
by_front ps qs (raw xs ∷ cs) o c h = rw (by_front ps qs cs o (next_count c) h)
by_front ps qs (next n ∷ cs) o c h =
    let starts : take n (drop o (heads (ps ++ qs))) ≡ take n (drop o (heads ps)) =
    ap (λ (b : List Bool). take n (drop o b)) (heads-append ps qs) ∙ front (heads ps) (heads qs) o n (omega (arith, heads-length ps)) in
    let octets : take n (drop o (joined (ps ++ qs))) ≡ take n (drop o (joined ps)) =
    ap (λ (b : List ℕ). take n (drop o b)) (joined-append ps qs) ∙ front (joined ps) (joined qs) o n (omega arith) in
    rw (starts, octets, by_front ps qs cs (o + n) (next_count c) (omega arith))

by_behind : (ps qs : List (List ℕ)) (cs : List Choice) (o m c : ℕ) → m ≡ length (joined ps) + o → frames_by
    (ps ++ qs) m c cs ≡ frames_by qs o c cs
by_behind ps qs [] o m c e = refl
by_behind ps qs (raw xs ∷ cs) o m c e = rw (by_behind ps qs cs o m (next_count c) e)
by_behind ps qs (next n ∷ cs) o m c e =
    let starts : drop m (heads (ps ++ qs)) ≡ drop o (heads qs) =
    ap (drop m) (heads-append ps qs) ∙ ap (λ (k : ℕ). drop k (heads ps ++ heads qs)) (e ∙ ap (λ (k : ℕ). k + o) (sym (heads-length ps)))
    ∙ drop-append-add (heads ps) (heads qs) o in
    let octets : drop m (joined (ps ++ qs)) ≡ drop o (joined qs) =
    ap (drop m) (joined-append ps qs) ∙ ap (λ (k : ℕ). drop k (joined ps ++ joined qs)) e ∙ drop-append-add (joined ps) (joined qs) o in
    rw (starts, octets, by_behind ps qs cs (o + n) (m + n) (next_count c) (omega arith))

-- ---- choices behind choices

pub stepped-next : (k c : ℕ) → stepped k (next_count c) ≡ next_count (stepped k c)
stepped-next zero c = refl
stepped-next (suc k) c = ap next_count (stepped-next k c)

by_append : (ps : List (List ℕ)) (cs ds : List Choice) (o c : ℕ)
    → frames_by ps o c (cs ++ ds) ≡ frames_by ps o c cs ++ frames_by ps (o + taken cs) (stepped (length cs) c) ds
by_append ps [] ds o c = let z : o + 0 ≡ o = omega arith in rw z
by_append ps (raw xs ∷ cs) ds o c = rw (by_append ps cs ds o (next_count c), stepped-next)
by_append ps (next n ∷ cs) ds o c =
    let z : (o + n) + taken cs ≡ o + (n + taken cs) = omega arith in
    rw (by_append ps cs ds (o + n) (next_count c), stepped-next, z)

-- all of ps by cs, and then qs by ds
pub by_both : (ps qs : List (List ℕ)) (cs ds : List Choice) (c : ℕ) → taken cs ≡ length (joined ps)
    → frames_by (ps ++ qs) 0 c (cs ++ ds) ≡ frames_by ps 0 c cs ++ frames_by qs 0 (stepped (length cs) c) ds
by_both ps qs cs ds c e =
    by_append (ps ++ qs) cs ds 0 c
    ∙ ap (λ (l : List Piece). l ++ frames_by (ps ++ qs) (0 + taken cs) (stepped (length cs) c) ds) (by_front ps qs cs 0 c (omega arith))
    ∙ ap (λ (l : List Piece). frames_by ps 0 c cs ++ l) (by_behind ps qs ds 0 (0 + taken cs) (stepped (length cs) c) (omega arith))

-- ---- such frames are well_formed_lem

-- every choice takes at most m of the packets' octets, and none is raw
abbrev pub AllFit : ℕ → List Choice → Type 0
AllFit m [] = Unit {0}
AllFit m (raw xs ∷ cs) = ⊥
AllFit m (next n ∷ cs) = (n ≤ m) × AllFit m cs

-- a place found is one of them, or 255
first-right : (b : List Bool) (i n : ℕ) → i + length b ≤ n → pointer_wrong (first_from i b) n ≡ false
unfolding pointer_wrong
first-right [] i n h = ap not (or_true (ltb 255 n) _)
first-right (true ∷ b) i n h = rw (lt-ltb i n (omega arith))
first-right (false ∷ b) i n h = first-right b (suc i) n (omega arith)

pub well_formed_lem : (c : Common) (m n : ℕ) (time : List ℕ) → common_wrong c m n time ≡ false
    → (ps : List (List ℕ)) (cs : List Choice) (o master count : ℕ) → AllFit (251 - c.t) cs
    → AllWellFormed c.t (framed_from c time master (frames_by ps o count cs))
well_formed_lem c m n time h ps [] o master count f = tt
well_formed_lem c m n time h ps (raw xs ∷ cs) o master count f = absurd f
well_formed_lem c m n time h ps (next k ∷ cs) o master count f =
    let same : length (take k (drop o (heads ps))) ≡ length (take k (drop o (joined ps))) =
    simp (length-take, length-drop) (omega (arith, heads-length ps)) in
    let few : length (take k (drop o (joined ps))) ≤ 251 - c.t = simp (length-take, length-drop) (omega (arith, f.0)) in (
      fields-right c m n time h master count _ (length (take k (drop o (joined ps))))
          (first-right (take k (drop o (heads ps))) 0 (length (take k (drop o (joined ps)))) (omega arith)) few,
      well_formed_lem c m n time h ps cs (o + k) (next_count master) (next_count count) f.1,
    )

pub well_append : (t : ℕ) (fs gs : List Framed) → AllWellFormed t fs → AllWellFormed t gs → AllWellFormed t (fs ++ gs)
well_append t [] gs a b = b
well_append t (f ∷ fs) gs a b = (a.0, well_append t fs gs a.1 b)

-- ---- and have the master counts from the first on

pub mastered : (c : Common) (time : List ℕ) (m : ℕ) (ps : List Piece) → Mastered m (framed_from c time m ps)
mastered c time m [] = tt
mastered c time m (p ∷ ps) = (refl, mastered c time (next_count m) ps)

pub mastered_append : (fs gs : List Framed) (m : ℕ) → Mastered m fs → Mastered (stepped (length fs) m) gs → Mastered m (fs ++ gs)
mastered_append [] gs m a b = b
mastered_append (f ∷ fs) gs m a b = (a.0, mastered_append fs gs (next_count m) a.1 (rw stepped-next b))
