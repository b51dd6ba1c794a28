-- Demand 2 over the calls of a format, from the same over the definitions that their contracts cite.
use Prim.Native.Nat.{ℕ, ◌<◌}
use mathlib.Core.Path.{◌≡◌, sym, ap, subst, ◌∙◌}
use mathlib.Core.List.{List}
use mathlib.Core.Bool.{false}
use Rattle.octets.specs.Numbers.{at}
use Rattle.answer.specs.Told.{Told, accept}
use Rattle.answer.specs.Writer.{Written, Wrote, Gave}
use Rattle.answer.specs.Back.{Format, CallsBack}
use Rattle.answer.proofs.Writer.{gives, wrote_right}

-- what the calls of a format promise, by definitions that undo one another
pub record Defined {A B R : Type 0} (f : Format A B R) : Type 0 where
  pub told : R → Told A
  pub reading : List ℕ → Told A
  pub beside : A → List ℕ → B
  -- the calls' contracts
  pub writes : {a : A} {b : B} {out : List ℕ} {r : Written} {out' : List ℕ} → f.Writes a b out r out'
      → Wrote (f.wrong a b) (f.octets a b) out r out'
  pub reads : {s : List ℕ} {q : R} → f.Reads s q → told q ≡ reading s
  pub finds : {a : A} {s : List ℕ} {b : B} → f.Finds a s b → b ≡ beside a s
  -- no two answers are told alike
  pub tells : (a : A) → told (f.accepting a) ≡ accept a
  pub apart : (x y : R) → told x ≡ told y → x ≡ y
  -- the definitions undo one another
  pub reads-back : (a : A) (b : B) → f.wrong a b ≡ false
      → (reading (f.octets a b) ≡ accept a) × (beside a (f.octets a b) ≡ b)
  pub writes-back : (s : List ℕ) (a : A) → ((i : ℕ) → at s i < 256) → reading s ≡ accept a
      → (f.wrong a (beside a s) ≡ false) × (f.octets a (beside a s) ≡ s)

pub calls_back : {A B R : Type 0} (f : Format A B R) → Defined f → CallsBack f
calls_back {B = B} f d =
    record {
      takes = λ a b out r out' right room w. (gives (f.wrong a b) (f.octets a b) out r out' right room (d.writes w)).answers;
      reads = λ a b out n out' w.
          let g = wrote_right (d.writes w) in
          let k = d.reads-back a b g.0 in
          record {
            fields = λ q h. d.apart q (f.accepting a) (d.reads h ∙ ap d.reading g.1 ∙ k.0 ∙ sym (d.tells a));
            others = λ c h. d.finds h ∙ ap (d.beside a) g.1 ∙ k.1;
          };
      writes = λ s a b octet h e out r out' room w.
          let k = d.writes-back s a octet (sym (d.reads h) ∙ d.tells a) in
          let c : B = d.beside a s in
          let w' : Wrote (f.wrong a c) (f.octets a c) out r out' =
          subst (λ (x : B). Wrote (f.wrong a x) (f.octets a x) out r out') (d.finds e) (d.writes w) in
          subst (λ (x : List ℕ). Gave x r out') k.1
          (gives (f.wrong a c) (f.octets a c) out r out' k.0 (rw k.1 room) w');
    }
