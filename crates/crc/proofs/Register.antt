-- Laws of the register: it is linear, and a run of bits can be split off it.
use mathlib.Core.Path.{◌≡◌, refl, sym, ap, ap₂, ◌∙◌}
use mathlib.Core.Bool.{Bool, true, false}
use mathlib.Core.List.{List, [], ◌∷◌, ◌++◌, append_assoc, append-nil}
use Prim.Native.Nat.{ℕ, zero, suc, ◌+◌}
use native.Mathlib.Nat.{suc_inj, suc-ne-zero, add_comm, zero-add, suc-add}
use lib.ListN.{length, length-append}
use lib.Seq.{append_snoc}
use Rattle.bits.specs.Rows.{◌⊕◌, plus, zeros}
use Rattle.crc.specs.Check.{generator, feed, step, run}
use Rattle.bits.proofs.Rows.{⊕-false, ⊕-swap, plus_comm, plus_assoc, plus_swap, plus-zeros, zeros-plus, length-plus, plus-append}
use Rattle.bits.proofs.Rows.{length-zeros, length-snoc}

abbrev pub Z : List Bool
Z = zeros 16

-- ---- lengths

pub length-feed : (d : Bool) (r : List Bool) → length r ≡ 16 → length (feed d r) ≡ 16
length-feed false r h = h
length-feed true r h = length-plus r generator h ∙ h

pub length-step : (r : List Bool) (b : Bool) → length r ≡ 16 → length (step r b) ≡ 16
length-step [] b h = h
length-step (t ∷ r) b h = length-feed (t ⊕ b) (r ++ (false ∷ [])) (length-snoc r false ∙ h)

pub length_run : (r bs : List Bool) → length r ≡ 16 → length (run r bs) ≡ 16
length_run r [] h = h
length_run r (b ∷ bs) h = length_run (step r b) bs (length-step r b h)

pub run-append : (r cs bs : List Bool) → run r (cs ++ bs) ≡ run (run r cs) bs
run-append r [] bs = refl
run-append r (a ∷ cs) bs = run-append (step r a) cs bs

-- ---- the register is linear

pub plus_Z : (r : List Bool) → length r ≡ 16 → plus r Z ≡ r
plus_Z r h = ap (λ (n : ℕ). plus r (zeros n)) (sym h) ∙ plus-zeros r

Z_plus : (r : List Bool) → length r ≡ 16 → plus Z r ≡ r
Z_plus r h = plus_comm Z r ∙ plus_Z r h

feed-plus : (x y : Bool) (r s : List Bool) → length r ≡ 16 → length s ≡ 16 → feed (x ⊕ y) (plus r s) ≡ plus (feed x r) (feed y s)
feed-plus false false r s h k = refl
feed-plus false true r s h k = plus_assoc r s generator
feed-plus true false r s h k =
    plus_assoc r s generator ∙ ap (plus r) (plus_comm s generator) ∙ sym (plus_assoc r generator s)
feed-plus true true r s h k =
    sym (plus_swap r generator s generator ∙ plus_Z (plus r s) (length-plus r s (h ∙ sym k) ∙ h))

pub step-plus : (r s : List Bool) (x y : Bool) → length r ≡ 16 → length s ≡ 16 → step (plus r s) (x ⊕ y) ≡ plus (step r x) (step s y)
step-plus [] s x y h k = refl
step-plus (a ∷ r) [] x y h k = absurd (suc-ne-zero 15 (sym k))
step-plus (a ∷ r) (c ∷ s) x y h k =
    ap₂ feed (⊕-swap a c x y) (sym (plus-append r s (false ∷ []) (false ∷ []) (suc_inj (h ∙ sym k))))
    ∙ feed-plus (a ⊕ x) (c ⊕ y) (r ++ (false ∷ [])) (s ++ (false ∷ [])) (length-snoc r false ∙ h) (length-snoc s false ∙ k)

pub run-plus : (r s cs bs : List Bool) → length r ≡ 16 → length s ≡ 16 → length cs ≡ length bs
    → run (plus r s) (plus cs bs) ≡ plus (run r cs) (run s bs)
run-plus r s [] [] h k e = refl
run-plus r s [] (b ∷ bs) h k e = absurd (suc-ne-zero (length bs) (sym e))
run-plus r s (a ∷ cs) [] h k e = absurd (suc-ne-zero (length cs) e)
run-plus r s (a ∷ cs) (b ∷ bs) h k e =
    ap (λ (q : List Bool). run q (plus cs bs)) (step-plus r s a b h k)
    ∙ run-plus (step r a) (step s b) cs bs (length-step r a h) (length-step s b k) (suc_inj e)

-- the part r of a register runs by itself, over zeros
pub apart : (r s bs : List Bool) (n : ℕ) → length r ≡ 16 → length s ≡ 16 → length bs ≡ n → run (plus r s) bs ≡ plus (run r (zeros n))
    (run s bs)
apart r s bs n h k e =
    ap (run (plus r s)) (sym (ap (λ (m : ℕ). plus (zeros m) bs) (sym e) ∙ zeros-plus bs))
    ∙ run-plus r s (zeros n) bs h k (length-zeros n ∙ sym e)

-- ---- the first places of the register and the bits that come in only count by their sum; the other places move up.
-- With 8 places it is the rule of a table of 256 words, with 4 of one of 16, and with 16 what a check over its own bits gives.

pub split : (hs bs ls : List Bool) → length hs ≡ length bs → length (hs ++ ls) ≡ 16
    → run (hs ++ ls) bs ≡ plus (run Z (plus hs bs)) (ls ++ zeros (length bs))
split [] [] ls e h = sym (ap (plus Z) (append-nil ls) ∙ Z_plus ls h)
split [] (b ∷ bs) ls e h = absurd (suc-ne-zero (length bs) (sym e))
split (t ∷ hs) [] ls e h = absurd (suc-ne-zero (length hs) e)
split (t ∷ hs) (b ∷ bs) ls e h =
    ap (λ (q : List Bool). run (feed (t ⊕ b) q) bs) (append_assoc hs ls (false ∷ []))
    ∙ ap (λ (q : List Bool). run q bs) one
    ∙ apart (feed (t ⊕ b) Z) X bs (length bs) fed wide refl
    ∙ ap (plus E) (split hs bs (ls ++ (false ∷ [])) (suc_inj e) wide)
    ∙ sym (plus_assoc E (run Z (plus hs bs)) ((ls ++ (false ∷ [])) ++ zeros (length bs)))
    ∙ ap₂ plus
    (sym (apart (feed (t ⊕ b) Z) Z (plus hs bs) (length bs) fed refl (length-plus hs bs (suc_inj e) ∙ suc_inj e))
    ∙ ap (λ (q : List Bool). run q (plus hs bs)) (plus_Z (feed (t ⊕ b) Z) fed))
    (append_snoc ls false (zeros (length bs)))
  where
    X : List Bool
    X = hs ++ (ls ++ (false ∷ []))

    E : List Bool
    E = run (feed (t ⊕ b) Z) (zeros (length bs))

    wide : length (hs ++ (ls ++ (false ∷ []))) ≡ 16
    wide = ap length (sym (append_assoc hs ls (false ∷ []))) ∙ length-snoc (hs ++ ls) false ∙ h

    fed : length (feed (t ⊕ b) Z) ≡ 16
    fed = length-feed (t ⊕ b) Z refl

    one : feed (t ⊕ b) X ≡ plus (feed (t ⊕ b) Z) X
    one =
        ap₂ feed (sym (⊕-false (t ⊕ b))) (sym (Z_plus X wide))
        ∙ feed-plus (t ⊕ b) false Z X refl wide

-- ---- bits that come in count as if they stood in the register's first places, before as many zeros

pub entered : (r bs : List Bool) (k : ℕ) → length r ≡ 16 → k + length bs ≡ 16 → run r bs ≡ run (plus r (bs ++ zeros k)) (zeros (length bs))
entered r bs k h w =
    ap (λ (q : List Bool). run q bs) (sym (plus_Z r h))
    ∙ apart r Z bs n h refl refl
    ∙ ap (plus (run r (zeros n)))
    (sym (split bs (zeros n) (zeros k) (sym (length-zeros n)) wide
    ∙ ap₂ plus (ap (run Z) (plus-zeros bs)) (ap (λ (m : ℕ). zeros k ++ zeros m) (length-zeros n) ∙ zeros-append k n ∙ ap zeros w)
    ∙ plus_Z (run Z bs) (length_run Z bs refl)))
    ∙ sym (apart r (bs ++ zeros k) (zeros n) n h wide (length-zeros n))
  where
    n : ℕ
    n = length bs

    wide : length (bs ++ zeros k) ≡ 16
    wide = length-append bs (zeros k) ∙ ap (λ (m : ℕ). length bs + m) (length-zeros k) ∙ add_comm (length bs) k ∙ w

    zeros-append : (m j : ℕ) → zeros m ++ zeros j ≡ zeros (m + j)
    zeros-append zero j = ap zeros (sym (zero-add j))
    zeros-append (suc m) j = ap (λ (q : List Bool). false ∷ q) (zeros-append m j) ∙ ap zeros (sym (suc-add m j))
