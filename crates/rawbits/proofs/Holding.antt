-- Bits added one after another are kept as their octets.
use Prim.Native.Nat.{ℕ, zero, suc, ◌+◌, ◌*◌, ◌/◌, ◌%◌, ◌^◌, ◌≤◌, ◌<◌, min}
use mathlib.Core.Path.{◌≡◌, refl, sym, ap, ap₂, ◌∙◌, subst}
use mathlib.Core.Bool.{Bool, true, false}
use mathlib.Core.List.{List, [], ◌∷◌, ◌++◌, append_assoc, append-nil, foldl, foldl-append}
use native.Mathlib.Omega.{arith}
use native.Mathlib.Numerals.{add-one}
use lib.ListN.{length, take, drop, set, length-append, length-take, length-drop, length-set}
use lib.Seq.{take-append-le, drop-append-le, take_all, take_at, take-suc-set, set_out}
use lib.Dec.{ltb}
use borrow.Author.Tests.{lt-ltb, le-ltb, ltb-true, ltb-false}
use Rattle.octets.specs.Pick.{pick}
use Rattle.bits.specs.Rows.{digit, value_of}
use Rattle.bits.proofs.Numbers.{digit_lt, value-lt}
use Rattle.stretch.specs.Stretch.{most_kept}
use Rattle.rawbits.specs.Recording.{low_octets, octets_of}
use Rattle.rawbits.specs.Reader.{row, latest, counted, added, stored}
use Rattle.rawbits.specs.declared.Row.{Row}

-- ---- the octets of a row

pub length-low : (n : ℕ) (r : List Bool) → length (low_octets n r) ≡ n
length-low zero r = refl
length-low (suc n) r = ap suc (length-low n (drop 8 r))

low-append : (n m : ℕ) (e s : List Bool) → length e ≡ n * 8 → low_octets (n + m) (e ++ s) ≡ low_octets n e ++ low_octets m s
low-append zero m [] s h = ap (λ (k : ℕ). low_octets k s) (let z : 0 + m ≡ m = omega arith in z)
low-append zero m (b ∷ e) s h = absurd (omega arith)
low-append (suc n) m e s h =
    ap (λ (k : ℕ). low_octets k (e ++ s)) (let z : suc n + m ≡ suc (n + m) = omega arith in z)
    ∙ ap₂ (λ (x : List Bool) (y : List Bool). value_of x ∷ low_octets (n + m) y) (take-append-le 8 e s (omega arith))
    (drop-append-le 8 e s (omega arith))
    ∙ ap (λ (y : List ℕ). value_of (take 8 e) ∷ y) (low-append n m (drop 8 e) s (omega (arith, length-drop 8 e)))

-- eight bits more
octets-more : (e p : List Bool) → length e % 8 ≡ 0 → length p ≡ 8 → octets_of (e ++ p) ≡ octets_of e ++ value_of p ∷ []
octets-more e p h l =
    ap (λ (k : ℕ). low_octets k (e ++ p)) (let z : length (e ++ p) / 8 ≡ length e / 8 + 1 = simp length-append (omega arith) in z)
    ∙ low-append (length e / 8) 1 e p (omega arith)
    ∙ ap (λ (x : List Bool). octets_of e ++ value_of x ∷ []) (take_all 8 p (omega arith))

-- ---- the last eight bits

abbrev pub shift : ℕ → Bool → ℕ
shift x b = x / 2 + 128 * digit b

abbrev pub shifts : ℕ → List Bool → ℕ
shifts x p = foldl shift x p

pub eight : (x : ℕ) (p : List Bool) → x < 256 → length p ≡ 8 → shifts x p ≡ value_of p
eight x [] l k = absurd (omega arith)
eight x (a ∷ []) l k = absurd (omega arith)
eight x (a ∷ b ∷ []) l k = absurd (omega arith)
eight x (a ∷ b ∷ c ∷ []) l k = absurd (omega arith)
eight x (a ∷ b ∷ c ∷ d ∷ []) l k = absurd (omega arith)
eight x (a ∷ b ∷ c ∷ d ∷ e ∷ []) l k = absurd (omega arith)
eight x (a ∷ b ∷ c ∷ d ∷ e ∷ f ∷ []) l k = absurd (omega arith)
eight x (a ∷ b ∷ c ∷ d ∷ e ∷ f ∷ g ∷ []) l k = absurd (omega arith)
eight x (a ∷ b ∷ c ∷ d ∷ e ∷ f ∷ g ∷ h ∷ []) l k =
    omega (arith, digit_lt a, digit_lt b, digit_lt c, digit_lt d, digit_lt e, digit_lt f, digit_lt g, digit_lt h)
eight x (a ∷ b ∷ c ∷ d ∷ e ∷ f ∷ g ∷ h ∷ i ∷ p) l k = absurd (omega arith)

-- ---- as many octets are kept as before

pub length-stored : (r : Row) (b : Bool) (kept : List ℕ) → length (stored r b kept) ≡ length kept
unfolding stored pick
length-stored r b kept = go (ltb r.begun 7)
  where
    go : (t : Bool) → length (pick t kept (set kept r.whole (latest r b))) ≡ length kept
    go true = refl
    go false = length-set kept r.whole _

-- ---- what a row holds

-- the bits u: whole octets e, as far as there is room for them, and p of an octet begun
pub record Holds (r : Row) (kept : List ℕ) (u : List Bool) : Type 0 where
  pub room : length kept ≡ most_kept
  pub e : List Bool
  pub p : List Bool
  pub x : ℕ
  pub parts : u ≡ e ++ p
  pub even : length e % 8 ≡ 0
  pub few : length p < 8
  pub octet : x < 256
  pub last : r.last ≡ shifts x p
  pub begun : r.begun ≡ length p
  pub whole : r.whole ≡ length (take most_kept (octets_of e))
  pub octets : take r.whole kept ≡ take most_kept (octets_of e)

pub holds-none : (kept : List ℕ) → length kept ≡ most_kept → Holds (row 0 0 0) kept []
holds-none kept l =
    record {
      room = l;
      e = [];
      p = [];
      x = 0;
      parts = refl;
      even = refl;
      few = omega arith;
      octet = omega arith;
      last = refl;
      begun = refl;
      whole = refl;
      octets = refl;
    }

module _ {r : Row} {kept : List ℕ} {u : List Bool} (h : Holds r kept u) where
  bits : ℕ
  bits = length h.p

  long : length u ≡ length h.e + length h.p
  long = ap length h.parts ∙ length-append h.e h.p

  pub holds-begun : r.begun ≡ length u % 8
  holds-begun = omega (arith, h.begun, long, h.even, h.few)

  -- as many octets as there are
  count : r.whole ≡ min most_kept (length h.e / 8)
  count = h.whole ∙ length-take most_kept (octets_of h.e) ∙ ap (min most_kept) (length-low (length h.e / 8) h.e)

  pub holds-few : length u < 8 → r.whole ≡ 0
  holds-few l = count ∙ (let z : length h.e / 8 ≡ 0 = omega (arith, long, h.even) in ap (min most_kept) z)

  pub holds-many : r.whole ≡ 0 → r.begun ≡ length u
  holds-many z = omega (arith, long, count, h.even, h.begun)

  pub holds-most : r.whole ≤ most_kept
  holds-most = omega (arith, count)

  -- the octets of d, where fewer than eight bits stand behind d
  module _ (d t : List Bool) (e : u ≡ d ++ t) (w : length d % 8 ≡ 0) (l : length t < 8) where
    same : h.e ≡ d
    same =
        sym (take_at h.e h.p (length d) (omega (arith, long, ap length e, length-append d t, w, h.even, h.few)))
        ∙ ap (take (length d)) (sym h.parts ∙ e) ∙ take_at d t (length d) refl

    pub holds-whole : r.whole ≡ length (take most_kept (octets_of d))
    holds-whole = h.whole ∙ ap (λ (s : List Bool). length (take most_kept (octets_of s))) same

    pub holds-octets : take r.whole kept ≡ take most_kept (octets_of d)
    holds-octets = h.octets ∙ ap (λ (s : List Bool). take most_kept (octets_of s)) same

  -- one bit more
  module _ (b : Bool) where
    longer : u ++ b ∷ [] ≡ h.e ++ (h.p ++ b ∷ [])
    longer = ap (λ (s : List Bool). s ++ b ∷ []) h.parts ∙ append_assoc h.e h.p (b ∷ [])

    shifted : latest r b ≡ shifts h.x (h.p ++ b ∷ [])
    shifted = ap (λ (n : ℕ). n / 2 + 128 * digit b) h.last ∙ sym (foldl-append shift h.x h.p (b ∷ []))

    few-more : length h.p < 7 → Holds (added (length kept) r b) (stored r b kept) (u ++ b ∷ [])
    unfolding added stored pick
    few-more l =
        rw (lt-ltb r.begun 7 (omega (arith, h.begun)))
        (record {
          room = h.room;
          e = h.e;
          p = h.p ++ b ∷ [];
          x = h.x;
          parts = longer;
          even = h.even;
          few = simp length-append (omega arith);
          octet = h.octet;
          last = shifted;
          begun = ap (λ (n : ℕ). n + 1) h.begun ∙ sym (length-append h.p (b ∷ []));
          whole = h.whole;
          octets = h.octets;
        })

    -- the octet that is whole now
    module _ (l : length h.p ≡ 7) where
      value : latest r b ≡ value_of (h.p ++ b ∷ [])
      value = shifted ∙ eight h.x (h.p ++ b ∷ []) h.octet (simp length-append (omega arith))

      now_whole : octets_of (h.e ++ (h.p ++ b ∷ [])) ≡ octets_of h.e ++ latest r b ∷ []
      now_whole =
          octets-more h.e (h.p ++ b ∷ []) h.even (simp length-append (omega arith))
          ∙ ap (λ (n : ℕ). octets_of h.e ++ n ∷ []) (sym value)

      parted : (n : ℕ) (kept' : List ℕ) → length kept' ≡ most_kept → n ≡ length (take most_kept (octets_of h.e ++ latest r b ∷ []))
          → take n kept' ≡ take most_kept (octets_of h.e ++ latest r b ∷ []) → Holds (row (latest r b) 0 n) kept' (u ++ b ∷ [])
      parted n kept' m f g =
          record {
            room = m;
            e = h.e ++ (h.p ++ b ∷ []);
            p = [];
            x = value_of (h.p ++ b ∷ []);
            parts = longer ∙ sym (append-nil _);
            even = simp length-append (omega (arith, h.even));
            few = omega arith;
            octet = subst (λ (k : ℕ). value_of (h.p ++ b ∷ []) < 2 ^ k)
                (let z : length (h.p ++ b ∷ []) ≡ 8 = simp length-append (omega arith) in z) (value-lt (h.p ++ b ∷ []));
            last = value;
            begun = refl;
            whole = f ∙ ap (λ (s : List ℕ). length (take most_kept s)) (sym now_whole);
            octets = g ∙ ap (take most_kept) (sym now_whole);
          }

      whole-more : r.whole < length kept → Holds (added (length kept) r b) (stored r b kept) (u ++ b ∷ [])
      unfolding added stored counted pick
      whole-more s =
          rw (le-ltb r.begun 7 (omega (arith, h.begun)), lt-ltb r.whole (length kept) s)
          (parted (r.whole + 1) (set kept r.whole (latest r b)) (simp length-set h.room)
          (ap (λ (n : ℕ). n + 1) whole ∙ sym (length-append (octets_of h.e) _) ∙ ap length (sym fits))
          (ap (λ (n : ℕ). take n (set kept r.whole (latest r b))) (add-one r.whole) ∙ take-suc-set kept r.whole (latest r b) s
          ∙ ap (λ (y : List ℕ). y ++ latest r b ∷ []) (h.octets ∙ take_all most_kept (octets_of h.e) (omega (arith, whole, h.room)))
          ∙ sym fits))
        where
          whole : r.whole ≡ length (octets_of h.e)
          whole = omega (arith, count, h.room, length-low (length h.e / 8) h.e)

          fits : take most_kept (octets_of h.e ++ latest r b ∷ []) ≡ octets_of h.e ++ latest r b ∷ []
          fits = take_all most_kept _ (simp length-append (omega (arith, whole, h.room)))

      whole-full : length kept ≤ r.whole → Holds (added (length kept) r b) (stored r b kept) (u ++ b ∷ [])
      unfolding added stored counted pick
      whole-full s =
          rw (le-ltb r.begun 7 (omega (arith, h.begun)), le-ltb r.whole (length kept) s, set_out kept r.whole (latest r b) s)
          (parted r.whole kept h.room (h.whole ∙ ap length (sym full)) (h.octets ∙ sym full))
        where
          full : take most_kept (octets_of h.e ++ latest r b ∷ []) ≡ take most_kept (octets_of h.e)
          full = take-append-le most_kept (octets_of h.e) _ (omega (arith, count, h.room, length-low (length h.e / 8) h.e))

    pub holds_more : Holds (added (length kept) r b) (stored r b kept) (u ++ b ∷ [])
    holds_more = go (ltb (length h.p) 7) refl (ltb r.whole (length kept)) refl
      where
        go : (t : Bool) → ltb (length h.p) 7 ≡ t → (w : Bool) → ltb r.whole (length kept) ≡ w → Holds (added (length kept) r b)
            (stored r b kept) (u ++ b ∷ [])
        go true e w f = few-more (ltb-true _ _ e)
        go false e true f = whole-more (omega (arith, ltb-false (length h.p) 7 e, h.few)) (ltb-true _ _ f)
        go false e false f = whole-full (omega (arith, ltb-false (length h.p) 7 e, h.few)) (ltb-false _ _ f)
