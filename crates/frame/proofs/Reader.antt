-- Facts that the reader's functions pass on.
use Rattle.std.specs.Prelude.{Option, Some, None}
use Rattle.std.proofs.lemmas.Option.{none-some, same_Some}
use Prim.Native.Nat.{ℕ, ◌+◌, ◌≤◌, ◌<◌}
use native.Mathlib.Omega.{arith}
use mathlib.Core.Path.{◌≡◌, refl, sym, ap, subst, ◌∙◌}
use mathlib.Core.List.{List}
use mathlib.Core.Bool.{Bool, true, false, not}
use borrow.Author.Tests.{lt-ltb, le-ltb, ltb-true, eq-eqb, ne_eqb}
use lib.ListN.{length, take, drop}
use Rattle.octets.specs.Numbers.{at}
use Rattle.octets.specs.Pick.{pick}
use Rattle.octets.proofs.Choices.{picked, passed}
use Rattle.octets.proofs.Tests.{facts}
use Rattle.answer.specs.Told.{Told, accept, refuse, refuse_at}
use Rattle.answer.specs.Refusals as no
use Rattle.frame.specs.Asked.{Whole, blamed}
use Rattle.frame.specs.Address.{first_wrong, address_wrong}
use Rattle.frame.specs.Frame.{no_frame, length_wrong, control_wrong, protocol_wrong, version_wrong, status_wrong}
use Rattle.frame.specs.Frame.{pointer_wrong, data_length, status_of, fields_of, frame_of, read_information, read_header}
use Rattle.frame.specs.declared.Frame.{Frame}

-- a frame that isn't too short or too long
pub whole : (t : ℕ) (s : List ℕ) {said : Bool} → t ≤ 8 → said ≡ length_wrong t (length s) → said ≡ false → Whole t s
whole t s h e f = let l : length_wrong t (length s) ≡ false = sym e ∙ f in search facts

pub long : (t : ℕ) (s : List ℕ) {said : Bool} → t ≤ 8 → said ≡ length_wrong t (length s) → said ≡ false → 23 ≤ length s
long t s h e f = omega (arith, (whole t s h e f).least)

-- ---- what is told of an address

module _ (s : List ℕ) (last : ℕ) where
  pub wrong_at : {n : ℕ} → n < 7 → n ≡ first_wrong s last → Some n ≡ blamed s last
  wrong_at {n} l e = ap Some e ∙ picked _ _ _ (lt-ltb _ _ (subst (λ (k : ℕ). k < 7) e l))

  pub none_wrong : 7 ≡ first_wrong s last → None ≡ blamed s last
  none_wrong e = passed _ _ _ _ (le-ltb _ _ (omega (arith, e))) refl

  pub record Blamed (n : ℕ) : Type 0 where
    pub wrong : address_wrong s last ≡ true
    pub first : n ≡ first_wrong s last
    pub below : n < 7

  pub blamed_at : {n : ℕ} → Some n ≡ blamed s last → Blamed n
  unfolding pick
  blamed_at {n} h = by (address_wrong s last) refl
    where
      by : (b : Bool) → address_wrong s last ≡ b → Blamed n
      by true e =
          let first : n ≡ first_wrong s last = same_Some _ _ (rw e at h) in
          record { wrong = e; first = first; below = omega (arith, first, ltb-true _ _ e) }
      by false e = absurd (none-some n (sym (rw e at h)))

  pub right : None ≡ blamed s last → address_wrong s last ≡ false
  unfolding pick
  right h = by (address_wrong s last) refl
    where
      by : (b : Bool) → address_wrong s last ≡ b → address_wrong s last ≡ false
      by true e = absurd (none-some _ (rw e at h))
      by false e = e

-- ---- the returns of read_header: each passes the refusals before it

module _ (t : ℕ) (s : List ℕ) {to : Option ℕ} (d : to ≡ blamed (take 7 s) 0) where
  pub destination-refused : {n : ℕ} → to ≡ Some n → refuse_at no_frame no.frame_destination n ≡ read_header t s
  unfolding read_header
  destination-refused h =
      let w = blamed_at _ _ (sym h ∙ d) in ap (refuse_at no_frame no.frame_destination) w.first ∙ picked _ _ _ w.wrong

  module _ (right₁ : to ≡ None) where
    behind : {x : Told Frame}
        → x
        ≡ pick (address_wrong (take 7 (drop 7 s)) 1) (refuse_at no_frame no.frame_source (7 + first_wrong (take 7 (drop 7 s)) 1))
        (pick (control_wrong (at s 14)) (refuse no_frame no.frame_control)
        (pick (protocol_wrong (at s 15)) (refuse no_frame no.frame_protocol) (read_information t s)))
        → x ≡ read_header t s
    unfolding read_header
    behind e = passed _ _ _ _ (right _ _ (sym right₁ ∙ d)) e

    module _ {from : Option ℕ} (o : from ≡ blamed (take 7 (drop 7 s)) 1) where
      pub source-refused : {n : ℕ} → from ≡ Some n → refuse_at no_frame no.frame_source (7 + n) ≡ read_header t s
      source-refused h =
          let w = blamed_at _ _ (sym h ∙ o) in
          behind (ap (λ (k : ℕ). refuse_at no_frame no.frame_source (7 + k)) w.first ∙ picked _ _ _ w.wrong)

      module _ (right₂ : from ≡ None) where
        past : address_wrong (take 7 (drop 7 s)) 1 ≡ false
        past = right _ _ (sym right₂ ∙ o)

        pub control_refused : (at s 14 ≡ 3 → ⊥) → refuse no_frame no.frame_control ≡ read_header t s
        control_refused h = behind (passed _ _ _ _ past (picked _ _ _ (ap not (ne_eqb _ _ h))))

        module _ (control : at s 14 ≡ 3) where
          pub protocol_refused : (at s 15 ≡ 240 → ⊥) → refuse no_frame no.frame_protocol ≡ read_header t s
          protocol_refused h =
              behind (passed _ _ _ _ past (passed _ _ _ _ (ap not (eq-eqb _ _ control)) (picked _ _ _ (ap not (ne_eqb _ _ h)))))

          pub header-right : at s 15 ≡ 240 → {x : Told Frame} → x ≡ read_information t s → x ≡ read_header t s
          header-right h e =
              behind
              (passed _ _ _ _ past (passed _ _ _ _ (ap not (eq-eqb _ _ control)) (passed _ _ _ _ (ap not (eq-eqb _ _ h)) e)))

-- ---- the returns of read_information

module _ (t : ℕ) (s : List ℕ) where
  pub accepting : version_wrong (at s 16) ≡ false → status_wrong t (status_of t s) ≡ false → pointer_wrong (at s 19) (data_length t s) ≡ false
      → {f : Frame} → f ≡ fields_of s (data_length t s) (status_of t s) → accept f ≡ read_information t s
  unfolding read_information frame_of
  accepting h₃ h₄ h₅ e = passed _ _ _ _ h₃ (passed _ _ _ _ h₄ (passed _ _ _ _ h₅ (ap accept e)))
