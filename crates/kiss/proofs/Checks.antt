-- 11 cannot occur.
use Prim.Native.Nat.{ℕ, ◌+◌, ◌<◌}
use mathlib.Core.Path.{◌≡◌, refl, sym, ap, ◌∙◌}
use mathlib.Core.Bool.{Bool, true, false, ◌||◌, false≢true}
use mathlib.Core.List.{List, [], ◌∷◌, ◌++◌, map}
use mathlib.Core.Option.{Option, none, some}
use native.Mathlib.Omega.{arith}
use lib.ListN.{length, take, length-take}
use lib.Seq.{take_all}
use lib.Dec.{ltb}
use borrow.Author.Tests.{lt-ltb, ltb-true, ltb-false}
use Rattle.octets.specs.Pick.{pick}
use Rattle.octets.proofs.Choices.{picks, picked}
use Rattle.answer.specs.Told.{Told, refuse}
use Rattle.answer.specs.Refusals as no
use Rattle.bits.specs.Rows.{ones}
use Rattle.bits.specs.Rows.Order.{low_first}
use Rattle.crc.specs.Check.{check_wrong}
use Rattle.crc.proofs.Ends as crc
use Rattle.frame.specs.Limits.{longest_time, least_length, greatest_length}
use Rattle.frame.specs.Frame.{no_frame, length_wrong, read_information, read_header, read_frame}
use Rattle.frame.specs.declared.Frame.{Frame}
use Rattle.stretch.specs.Stretch.{Stretch, found, unread, clipped, most_kept}
use Rattle.kiss.specs.Stream.{typed, stretch_of, stretches_of, unescaped, inner, parted, stretches_in}
use Rattle.kiss.specs.Statements.{Each, ChecksRight, Never11}

-- ---- each frame has its own check

each_append : (P : List ℕ → Type 0) (xs ys : List Stretch) → Each P xs → Each P ys → Each P (xs ++ ys)
each_append P [] ys h k = k
each_append P (found x ∷ xs) ys h k = (h.0, each_append P xs ys h.1 k)
each_append P (unread n ∷ xs) ys h k = each_append P xs ys h k

typed-right : (o : Option (List ℕ)) → Each (λ x. check_wrong low_first (ones 16) x ≡ false) (typed o)
typed-right none = tt
typed-right (some []) = tt
typed-right (some (t ∷ f)) =
    picks (λ (s : Stretch). Each (λ x. check_wrong low_first (ones 16) x ≡ false) (s ∷ [])) _ _ _ (λ h. (crc.found low_first (ones 16) f, tt))
    (λ h. tt)

all_right_lem : (ps : List (List ℕ)) → Each (λ x. check_wrong low_first (ones 16) x ≡ false) (stretches_of ps)
all_right_lem [] = tt
all_right_lem (p ∷ ps) = each_append _ (stretch_of p) (stretches_of ps) (typed-right (unescaped p)) (all_right_lem ps)

pub checks_right : ChecksRight
unfolding stretches_in
checks_right s = all_right_lem (inner (parted s))

-- ---- and no reader finds it wrong

-- 11 only if the check is wrong
not_11 : (t : ℕ) (s : List ℕ) → check_wrong low_first (ones 16) s ≡ false → (read_frame t s).refusal ≡ no.frame_check → ⊥
unfolding read_frame read_header read_information
not_11 t s right =
    picks Other _ _ _ (λ e h. omega arith)
    (λ e. picks Other _ _ _ (λ e h. omega arith)
    (λ e. picks Other _ _ _ (λ e. absurd (false≢true (sym right ∙ e)))
    (λ e. picks Other _ _ _ (λ e h. omega arith)
    (λ e. picks Other _ _ _ (λ e h. omega arith)
    (λ e. picks Other _ _ _ (λ e h. omega arith)
    (λ e. picks Other _ _ _ (λ e h. omega arith)
    (λ e. picks Other _ _ _ (λ e h. omega arith)
    (λ e. picks Other _ _ _ (λ e h. omega arith)
    (λ e. picks Other _ _ _ (λ e h. omega arith) (λ e h. omega arith))))))))))
  where
    Other : Told Frame → Type 0
    Other r = r.refusal ≡ no.frame_check → ⊥

-- a frame that is too long: 2, else 10
or_true : (b : Bool) → (b || true) ≡ true
or_true true = refl
or_true false = refl

pub too_long : (t : ℕ) (x : List ℕ) → greatest_length < length x
    → read_frame t x ≡ pick (ltb longest_time t) (refuse no_frame no.time_length) (refuse no_frame no.frame_length)
unfolding read_frame
too_long t x h =
    let wrong : length_wrong t (length x) ≡ true = rw (lt-ltb greatest_length (length x) h) (or_true (ltb (length x) (least_length + t))) in
    ap (pick (ltb longest_time t) (refuse no_frame no.time_length)) (sym (picked (length_wrong t (length x)) _ _ wrong))

-- octets beyond those that are kept change no answer
pub clipped-alike : (t : ℕ) (x : List ℕ) → read_frame t (take most_kept x) ≡ read_frame t x
clipped-alike t x = go (ltb most_kept (length x)) refl
  where
    go : (b : Bool) → ltb most_kept (length x) ≡ b → read_frame t (take most_kept x) ≡ read_frame t x
    go true a =
        let l : most_kept < length x = ltb-true most_kept (length x) a in
        too_long t (take most_kept x) (omega (arith, length-take most_kept x)) ∙ sym (too_long t x (omega arith))
    go false a = ap (read_frame t) (take_all most_kept x (ltb-false most_kept (length x) a))

each-clipped : (t : ℕ) (xs : List Stretch) → Each (λ x. check_wrong low_first (ones 16) x ≡ false) xs
    → Each (λ x. (read_frame t x).refusal ≡ no.frame_check → ⊥) (map clipped xs)
each-clipped t [] h = tt
each-clipped t (found x ∷ xs) h =
    (λ e. not_11 t x h.0 (ap (λ (r : Told Frame). r.refusal) (sym (clipped-alike t x)) ∙ e), each-clipped t xs h.1)
each-clipped t (unread n ∷ xs) h = each-clipped t xs h

pub never_11 : Never11
never_11 t s = each-clipped t (stretches_in s) (checks_right s)
