-- Laws of the loop that looks for the first bad frame.
use Rattle.std.specs.Prelude.{Ok, Err}
use Prim.Native.Nat.{ℕ, ◌+◌, ◌-◌, ◌≤◌, ◌<◌}
use mathlib.Core.Path.{◌≡◌, refl, sym, ap, ◌∙◌}
use mathlib.Core.List.{List, ◌∷◌}
use native.Mathlib.Omega.{arith}
use lib.ListN.{length, get_or, take, drop}
use Rattle.octets.proofs.Choices.{picked, passed}
use Rattle.answer.specs.Told.{Told, accept, refuse_at, refuse_for}
use Rattle.answer.specs.declared.Reason.{Reason}
use Rattle.frame.specs.Frame as frame
use Rattle.frame.specs.Frame.{no_frame, read_frame}
use Rattle.frame.specs.declared.Frame.{Frame}
use Rattle.frame.specs.Answers.{FrameRead}
use Rattle.rules.specs.Packets.{cut, total}
use Rattle.lengths.proofs.Reached.{Reached, reached_first, reached_fits, reached_next, cut-here, cut-over}
use Rattle.kiss_writer.specs.Export.{first_bad}

-- no frame before number i is bad, and that one starts at `at`
pub record Good (t : ℕ) (d ns : List ℕ) (at i : ℕ) : Type 0 where
  pub reached : Reached ns at i
  pub same : first_bad t (cut (drop at d) (drop i ns)) ≡ first_bad t (cut d ns)

pub good-first : (t : ℕ) (d ns : List ℕ) → Good t d ns 0 0
good-first t d ns = record { reached = reached_first ns; same = refl }

module _ {t : ℕ} {d ns : List ℕ} {at i : ℕ} (g : Good t d ns at i) where
  pub good-fits : total ns ≡ length d → i < length ns → at + get_or ns i 0 ≤ length d
  good-fits e h = reached_fits g.reached d e h

  module _ (h : i < length ns) where
    part : (k : ℕ) → k ≡ at + get_or ns i 0 → take (k - at) (drop at d) ≡ take (get_or ns i 0) (drop at d)
    part k e = let j : k - at ≡ get_or ns i 0 = omega arith in ap (λ (n : ℕ). take n (drop at d)) j

    pub good-next : (r : FrameRead) (f : Frame) → frame.told r ≡ read_frame t (take ((at + get_or ns i 0) - at) (drop at d)) → r ≡ Ok f
        → Good t d ns (at + get_or ns i 0) (i + 1)
    unfolding first_bad
    good-next r f e k =
        let a : read_frame t (take (get_or ns i 0) (drop at d)) ≡ accept f = sym
        (ap frame.told (sym k) ∙ e ∙ ap (read_frame t) (part _ refl)) in
        record {
          reached = reached_next g.reached h;
          same = passed_by a ∙ sym (ap (first_bad t) (cut-here d ns at i h)) ∙ g.same;
        }
      where
        passed_by : read_frame t (take (get_or ns i 0) (drop at d)) ≡ accept f
            → first_bad t (cut (drop (at + get_or ns i 0) d) (drop (i + 1) ns)) ≡ first_bad t
            (take (get_or ns i 0) (drop at d) ∷ cut (drop (at + get_or ns i 0) d) (drop (i + 1) ns))
        passed_by a = picked _ _ _ (ap (λ (q : Told Frame). q.accepted) a)

    pub good-bad : (r : FrameRead) (q : Reason) → frame.told r ≡ read_frame t (take ((at + get_or ns i 0) - at) (drop at d))
        → r ≡ Err q
        → refuse_for 0 q ≡ first_bad t (cut d ns)
    unfolding first_bad
    good-bad r q e k =
        let a : read_frame t (take (get_or ns i 0) (drop at d)) ≡ refuse_for no_frame q = sym
        (ap frame.told (sym k) ∙ e ∙ ap (read_frame t) (part _ refl)) in
        ap (λ (r : Told Frame). refuse_at 0 r.refusal r.octet) (sym a)
        ∙ passed _ _ _ _ (ap (λ (r : Told Frame). r.accepted) a) refl ∙ sym (ap (first_bad t) (cut-here d ns at i h)) ∙ g.same

  pub good-end : length ns ≤ i → accept 0 ≡ first_bad t (cut d ns)
  unfolding first_bad
  good-end h = sym (ap (first_bad t) (cut-over (drop at d) ns i h)) ∙ g.same
