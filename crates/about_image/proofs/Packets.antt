-- What `place` accepts is a line packet of the wanted image; it is placed on any image with room that does not hold its line otherwise.
use Prim.Native.Nat.{ℕ, ◌<◌}
use native.Mathlib.Omega.{arith}
use mathlib.Core.Path.{◌≡◌, refl, sym, ap, ◌∙◌}
use mathlib.Core.Bool.{Bool, true, false, false≢true}
use mathlib.Core.List.{List}
use lib.ListN.{length}
use lib.Dec.{ltb}
use borrow.Author.Tests.{le-ltb, eq-eqb, ne_eqb, ltb-false, eqb-true, eqb-false, not-false}
use Rattle.octets.specs.Pick.{pick}
use Rattle.octets.proofs.Choices.{picks}
use Rattle.octets.proofs.Tests.{or_left, or_right}
use Rattle.answer.specs.Told.{accept}
use Rattle.packet.specs.declared.Packet.{Packet}
use Rattle.report.specs.Report.{read_report, content_of, pixels_of, line_of}
use Rattle.report.specs.declared.Content.{Content}
use Rattle.report.specs.declared.Content.TheVariants as content
use Rattle.report.specs.declared.Report.{Report}
use Rattle.report.proofs.Accepted.{accepted}
use Rattle.report.proofs.Tells.{report-whole}
use Rattle.image.specs.Line.{image_lines, image_octets, Image, Room, Line, Fits, held_otherwise}
use Rattle.image.specs.Placing.{Outcome, placing, brought, reported, outcome}
use Rattle.image.specs.Back.{line_report}
use Rattle.image.proofs.Brings.{fits}
use Rattle.about_image.specs.Placings.{Arrived, line, Accepted}
use Rattle.report.specs.declared.Line.{Line as ReportLine}
use Rattle.image.specs.Line.{line_of as image_line}

-- A choice of which P holds, as it does not of the first, or not of the second.
second : {A : Type 0} (P : A → Type 0) (b : Bool) (x y : A) → P (pick b x y) → (P x → ⊥) → (b ≡ false) × P y
unfolding pick
second P true x y h n = absurd (n h)
second P false x y h n = (refl, h)

first : {A : Type 0} (P : A → Type 0) (b : Bool) (x y : A) → P (pick b x y) → (P y → ⊥) → (b ≡ true) × P x
unfolding pick
first P true x y h n = (refl, h)
first P false x y h n = absurd (n h)

-- the packet as a line to be placed
abbrev pub line_to : Arrived → Line
line_to a = image_line (line a) (pixels_of a.packet) a.arrival

-- A line packet of the wanted image, with an arrival number.
pub record LinePacket (wanted : ℕ) (a : Arrived) : Type 0 where
  pub packet : Packet
  pub read : read_report a.packet ≡ accept (line_report packet (line_of a.packet))
  pub image : (line_of a.packet).image ≡ wanted
  pub numbered : 0 < a.arrival

-- and room for it, its line not held with other pixels
pub record Ready (wanted : ℕ) (held : Image) (a : Arrived) : Type 0 where
  pub line : LinePacket wanted a
  pub room : Room held
  pub free : held_otherwise held (line_to a).line (line_to a).pixels ≡ false

-- a line's content is the packet's own
pub own_line : (p : Packet) (s : List ℕ) (l : ReportLine) → content_of p s ≡ content.Line l → l ≡ line_of s
unfolding content_of
own_line p s l =
    picks Own _ _ _ (λ t h. cc)
    (λ f₁. picks Own _ _ _ (λ t h. cc) (λ f₂. picks Own _ _ _ (λ t h. cc) (λ f₃. picks Own _ _ _ (λ t h. cc) (λ f₄ h. cc))))
  where
    Own : Content → Type 0
    Own c = c ≡ content.Line l → l ≡ line_of s

nonzero : {n : ℕ} → (n ≡ 0 → ⊥) → 0 < n
nonzero h = omega (arith, h)

abbrev Accepts : Outcome → Type 0
Accepts o = o.answer.accepted ≡ true

module _ (wanted : ℕ) (held : Image) (a : Arrived) where
  -- an accepted report brings a line of the wanted image that is not held otherwise
  record Brought (c : Content) : Type 0 where
    fields : ReportLine
    content : c ≡ content.Line fields
    image : fields.image ≡ wanted
    free : held_otherwise held fields.line (pixels_of a.packet) ≡ false

  brings : (c : Content) → Accepts (brought a.packet a.arrival wanted held c) → Brought c
  unfolding brought placing
  brings (content.Line l) h =
      let i = second Accepts _ _ _ h false≢true in
      let f = second Accepts _ _ _ i.1 false≢true in
      record { fields = l; content = refl; image = eqb-true _ _ (not-false _ i.0); free = f.0 }
  brings (content.Success c) h = absurd (false≢true h)
  brings (content.Failure c) h = absurd (false≢true h)
  brings (content.Housekeeping c) h = absurd (false≢true h)
  brings (content.Available c) h = absurd (false≢true h)

  ready_as : (r : Report) → read_report a.packet ≡ accept r → Room held → 0 < a.arrival → Brought r.content → Ready wanted held a
  ready_as r e room numbered b =
      let own : b.fields ≡ line_of a.packet =
      own_line r.packet a.packet b.fields (sym (accepted a.packet r e).content ∙ b.content) in
      let c : r.content ≡ content.Line (line_of a.packet) = b.content ∙ ap content.Line own in
      record {
        line = record {
          packet = r.packet;
          read = e ∙ ap (λ (c : Content). accept (record { packet = r.packet; content = c })) c;
          image = ap (λ (l : ReportLine). l.image) (sym own) ∙ b.image;
          numbered = numbered;
        };
        room = room;
        free = ap (λ (l : ReportLine). held_otherwise held l.line (pixels_of a.packet)) (sym own) ∙ b.free;
      }

  pub ready : Accepted wanted held a → Ready wanted held a
  unfolding outcome reported
  ready h =
      let s = second Accepts _ _ _ h false≢true in
      let n = second Accepts _ _ _ s.1 false≢true in
      let r = first Accepts _ _ _ n.1 false≢true in
      let short : Bool = ltb (length held.pixels) image_octets in
      let few : Bool = ltb (length held.lines) image_lines in
      ready_as (read_report a.packet).fields (report-whole a.packet r.0)
      (record { pixels = ltb-false _ _ (or_left short few s.0); lines = ltb-false _ _ (or_right short few s.0) })
      (nonzero (eqb-false a.arrival 0 n.0)) (brings (read_report a.packet).fields.content r.1)

  -- on any image with room a line packet is placed, or refused with 42
  pub placed_or_held : LinePacket wanted a → Room held → outcome a.packet a.arrival wanted held ≡ placing held (line_to a)
  unfolding outcome reported brought pick
  placed_or_held p room =
      simp (le-ltb _ _ room.pixels, le-ltb _ _ room.lines, ne_eqb a.arrival 0 (λ e. omega (arith, p.numbered)), p.read)
      (simp (eq-eqb _ _ p.image))

pub packet-fits : (wanted : ℕ) (held : Image) (a : Arrived) → LinePacket wanted a → Room held → Fits held (line_to a)
packet-fits wanted held a p room =
    let f = fits a.packet (line_report p.packet (line_of a.packet)) p.read in
    record { line = f.0; pixels = f.1; room = room }
