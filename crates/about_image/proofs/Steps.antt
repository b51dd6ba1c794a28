-- One placing: what it answers and leaves, and that a packet which agrees with it is as welcome behind it.
use Prim.Native.Nat.{ℕ, ◌<◌}
use native.Mathlib.Omega.{arith}
use native.Mathlib.Decide.{ℕ_discrete}
use mathlib.Core.Path.{◌≡◌, refl, sym, ap, ◌∙◌}
use mathlib.Core.Bool.{Bool, true, false, not, ◌&&◌}
use mathlib.Core.List.{List}
use lib.ListN.{length-set}
use lib.Seq.{get_or-set_same, get_or-set_other}
use lib.Dec.{eqb}
use Rattle.octets.specs.Numbers.{at}
use Rattle.octets.proofs.Choices.{passed}
use Rattle.report.specs.Report.{pixels_of}
use Rattle.image.specs.Line.{image_lines, Image, Room, Line, Fits, held_otherwise, number, placed}
use Rattle.image.specs.Placing.{observed, placing, Places}
use Rattle.image.specs.Answers.{Placed}
use Rattle.octets.proofs.Comparing.{same_is_equal}
use Rattle.image.proofs.Told.{observed_apart}
use Rattle.about_image.specs.Placings.{Arrived, line, row, Alike}
use Rattle.about_image.specs.AnyOrder.{answer_of}
use Rattle.about_image.proofs.Rows.{placed-length, row-placed, row_other}
use Rattle.about_image.proofs.Packets.{line_to, Ready, placed_or_held, packet-fits}

and_no : (b : Bool) → (b && false) ≡ false
and_no true = refl
and_no false = refl

module _ (i : Image) (l : Line) (f : Fits i l) where
  pub placed-room : Room (placed i l)
  placed-room =
      let r = f.room in
      let n = length-set i.lines l.line (number (at i.lines l.line) l.arrival) in
      record { pixels = omega (arith, placed-length i l f); lines = omega (arith, n) }

  pub number-placed : at (placed i l).lines l.line ≡ number (at i.lines l.line) l.arrival
  number-placed = let r = f.room in get_or-set_same i.lines l.line _ 0 (omega (arith, f.line))

  pub number-other : (n : ℕ) → (n ≡ l.line → ⊥) → at (placed i l).lines n ≡ at i.lines n
  number-other n e = get_or-set_other i.lines l.line n _ 0 e

  -- another line's conflict is what it was, and equal pixels have none
  still_free : (n : ℕ) (pixels : List ℕ) → n < image_lines → (n ≡ l.line → l.pixels ≡ pixels) → held_otherwise i n pixels ≡ false
      → held_otherwise (placed i l) n pixels ≡ false
  unfolding held_otherwise
  still_free n pixels h e k = by (ℕ_discrete n l.line)
    where
      by : Dec (n ≡ l.line) → held_otherwise (placed i l) n pixels ≡ false
      by (yes q) =
          simp (ap (row (placed i l)) q ∙ row-placed i l f ∙ e q, (same_is_equal pixels pixels).1 refl)
          (and_no (not (eqb (at (placed i l).lines n) 0)))
      by (no q) = simp (number-other n q, row_other i l f n h q) k

module _ (wanted : ℕ) (held : Image) (a : Arrived) (r : Ready wanted held a) where
  pub fits : Fits held (line_to a)
  fits = packet-fits wanted held a r.line r.room

  -- it is accepted and placed
  pub places : {x : Placed} {j : Image} → Places a.packet a.arrival wanted held x j → (x ≡ answer_of a) × (j ≡ placed held (line_to a))
  unfolding placing
  places {x} {j} p =
      let o : observed x j ≡ observed (answer_of a) (placed held (line_to a)) =
      p ∙ placed_or_held wanted held a r.line r.room ∙ sym (passed _ _ _ _ r.free refl) in
      let e = observed_apart o in
      (ap (λ z. z.0) e, ap (λ z. z.1) e)

  pub next-ready : (b : Arrived) → Ready wanted held b → Alike a b → Ready wanted (placed held (line_to a)) b
  next-ready b q alike =
      let g = packet-fits wanted held b q.line q.room in
      record {
        line = q.line;
        room = placed-room held (line_to a) fits;
        free = still_free held (line_to a) fits (line b) (pixels_of b.packet) g.line (λ e. alike (sym e)) q.free;
      }
