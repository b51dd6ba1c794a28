-- What is handed on at a script's end, and the exit status.
use Rattle.std.proofs.Common.{◌≡◌, ℕ, ◌+◌, ◌*◌, ◌≤◌, Bool, true, false, List, ◌++◌, length, take, drop, sym, refl, ap, ◌∙◌, subst}
use Rattle.std.proofs.Common.{true≢false, le-ltb}
use native.Mathlib.Nat.{sub-zero}
use lib.Seq.{take-append_seam}
use Rattle.octets.proofs.Choices.{passed}
use Rattle.window.specs.Window.{hand, unwritten}
use Rattle.window.specs.declared.Written.{Written}
use Rattle.transmit_recording.specs.Recording.{recording_of}
use Rattle.transmit_recording.specs.Laid.{Lays}
use Rattle.transmit_run.specs.Turn.{Run, is_fault}
use Rattle.transmit_run.specs.Ended.{Ends}

-- a recording that has room is what stands at hand
pub laid-held : (t : ℕ) (made frames out : List ℕ) {r : ℕ} {out' : List ℕ} → 9 + length made + 2 * length frames ≤ length out
    → Lays t made frames out r out' → hand out' 0 r ≡ recording_of t made frames
laid-held t made frames out {r} {out'} h x =
    let b = le-ltb (length out) (9 + length made + 2 * length frames) h in
    let rec : List ℕ = recording_of t made frames in
    let n : r ≡ length rec = x.size ∙ sym (passed _ _ _ _ b refl) in
    let l : out' ≡ rec ++ drop (length rec) out = x.leaves ∙ sym (passed _ _ _ _ b refl) in
    ap (λ (k : ℕ). take k out') (sub-zero r ∙ n) ∙ ap (take (length rec)) l ∙ take-append_seam rec (drop (length rec) out)

module _ {R S : Run} (e : R ≡ S) (w : Written) where
  pub ends-faulty : {b : Bool} → b ≡ is_fault R.place.fault → b ≡ true → w ≡ unwritten → Ends S (record { written = w; faulty = true })
  ends-faulty f h n =
      subst (λ (x : Run). Ends x (record { written = w; faulty = true })) e
      (record { faulty = sym h ∙ f; none = λ _. n; whole = λ z. absurd (true≢false z) })

  pub ends-whole : {b : Bool} {part : List ℕ} → b ≡ is_fault R.place.fault → b ≡ false
      → part ≡ take R.place.state.made.count R.lent.frames
      → w.size ≡ length (recording_of R.place.state.common.t R.lent.made part)
      → Ends S (record { written = w; faulty = false })
  ends-whole f h p n =
      let t : ℕ = R.place.state.common.t in
      subst (λ (x : Run). Ends x (record { written = w; faulty = false })) e
      (record {
        faulty = sym h ∙ f;
        none = λ z. absurd (true≢false (sym z));
        whole = λ _. n ∙ ap (λ (l : List ℕ). length (recording_of t R.lent.made l)) p;
      })
