-- The three ends of a writer, and that its contract leaves one answer and one output.
use Prim.Native.Nat.{ℕ, ◌≤◌, ◌<◌}
use mathlib.Core.Path.{◌≡◌, refl, sym, ap, ◌∙◌}
use mathlib.Core.List.{List}
use mathlib.Core.Bool.{Bool, true, false, true≢false}
use lib.ListN.{length, take}
use lib.Seq.{take-append_seam, take_at}
use borrow.Author.Tests.{lt-ltb, le-ltb}
use Rattle.octets.specs.Pick.{pick}
use Rattle.octets.specs.Parts.{written}
use Rattle.octets.proofs.Choices.{passed, not_picked}
use Rattle.answer.proofs.Told.{same-fields, same-reason, accept_or_refuse, refuse_or_accept}
use Rattle.answer.specs.Writer.{Written, told, writing, left, Wrote, Gives, RefusalsTellNothing}
use Rattle.answer.specs.declared.Reason.TheVariants.{OutputShort, FieldRange}
use Rattle.std.specs.Prelude.{Ok, Err}

module _ {wrong : Bool} {octets out : List ℕ} {said : Bool} (says : said ≡ wrong) where
  pub refused_51 : said ≡ true → Wrote wrong octets out (Err FieldRange) out
  unfolding writing left pick
  refused_51 h = record { answers = simp (sym says ∙ h); leaves = simp (sym says ∙ h) }

  pub refused_50 : said ≡ false → length out < length octets → Wrote wrong octets out (Err OutputShort) out
  unfolding writing left pick
  refused_50 h l = record { answers = simp (sym says ∙ h, lt-ltb _ _ l); leaves = simp (sym says ∙ h, lt-ltb _ _ l) }

  pub wrote : {n : ℕ} {out' : List ℕ} → said ≡ false → length octets ≤ length out → n ≡ length octets
      → out' ≡ written octets out → Wrote wrong octets out (Ok n) out'
  unfolding writing left pick
  wrote h l e w = record { answers = simp (sym says ∙ h, le-ltb _ _ l, e); leaves = simp (sym says ∙ h, le-ltb _ _ l, w) }

-- a refusal tells the length 0
pub refusals_tell_nothing : RefusalsTellNothing
refusals_tell_nothing (Ok n) h = absurd (true≢false h)
refusals_tell_nothing (Err n) h = refl

-- no two answers are told alike
pub told_apart : (x y : Written) → told x ≡ told y → x ≡ y
told_apart (Ok n) (Ok m) h = ap Ok (same-fields h)
told_apart (Err n) (Err m) h = ap Err (same-reason n m h)
told_apart (Ok n) (Err m) h = accept_or_refuse h
told_apart (Err n) (Ok m) h = refuse_or_accept h

-- the contract leaves one answer and one output
pub one_written : {wrong : Bool} {octets out : List ℕ} {r q : Written} {out₁ out₂ : List ℕ}
    → Wrote wrong octets out r out₁ → Wrote wrong octets out q out₂ → ◌≡◌ {A = Written × List ℕ} (r, out₁) (q, out₂)
one_written {r = r} {q = q} a b = simp (told_apart r q (a.answers ∙ sym b.answers), a.leaves, b.leaves)

-- fields that are right, on an output with room, are written
pub gives : Gives
gives wrong octets out r out' right room w =
    let same : ◌≡◌ {A = Written × List ℕ} (r, out') (Ok (length octets), written octets out) =
    one_written w (wrote {said = wrong} refl right room refl refl) in
    record {
      answers = ap (λ (q : Written × List ℕ). q.0) same;
      leaves = ap (λ (q : Written × List ℕ). take (length octets) q.1) same ∙ take-append_seam octets _;
    }

-- a writer that answered a length found nothing wrong and left the octets
pub wrote_right : {wrong : Bool} {octets out out' : List ℕ} {n : ℕ} → Wrote wrong octets out (Ok n) out'
    → (wrong ≡ false) × (take n out' ≡ octets)
unfolding writing left
wrote_right {wrong} {octets} {out} {out'} {n} w =
    let a = not_picked wrong _ _ _ (sym w.answers) refuse_or_accept in
    let b = not_picked _ _ _ _ a.1 refuse_or_accept in
    let e : out' ≡ written octets out = w.leaves ∙ sym (passed wrong out _ _ a.0 (passed _ out _ _ b.0 refl)) in
    (a.0, ap (take n) e ∙ take_at octets _ n (same-fields b.1))
