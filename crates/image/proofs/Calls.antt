-- Demand 2 over the calls `place`, and `Line::write`, `Report::read` and `Line::pixels` of report, by the contracts that Rattle generates.
use Rattle.std.specs.Prelude.{Ok}
use Prim.Native.Nat.{ℕ}
use mathlib.Core.Path.{◌≡◌, sym, ap, subst, ◌∙◌}
use mathlib.Core.List.{List, [], ◌∷◌}
use Rattle.answer.specs.Told.{accept}
use Rattle.answer.specs.Called.{Called}
use Rattle.answer.proofs.Called.{of_call}
use Rattle.answer.proofs.Writer.{wrote_right}
use Rattle.report.specs.Report.{read_report, pixels_of}
use Rattle.report.specs.declared.Content.{Content}
use Rattle.report.specs.declared.Content.TheVariants as content
use Rattle.report.specs.declared.Report.{Report}
use Rattle.report.proofs.Told.{told_apart}
use Rattle.report.proofs.Calls.{format, calls_back}
use Rattle.report.proofs.Calls as report
use Rattle.image.specs.Line.{Image, image_of, line_of, placed}
use Rattle.image.specs.Placing.{Places, outcome}
use Rattle.image.specs.Back.{line_report, PlacesWritten, WritesPlaced}
use Rattle.image.specs.Answers.{Placed}
use Rattle.image.proofs.Back.{head_of, places-octets, placed-line}
use Rattle.image.proofs.place.Kinds as kplace
use Rattle.image.proofs.place.Reads as rplace

-- packet, arrival number, wanted image, image before, answer and image afterwards of a call of `place`
abbrev pub PlacesBy : List ℕ → ℕ → ℕ → Image → Placed → Image → Type 0
PlacesBy packet arrival wanted before answer after =
    Called kplace.ps kplace.r rplace.Post {A = List ℕ × ℕ × ℕ × Image × Placed × Image}
    (λ κs a x s. (
      a.0.now,
      a.1.0,
      a.1.1.0,
      image_of a.1.1.1.0.now a.1.1.1.1.0.now,
      x,
      image_of s.1.1.1.0.now s.1.1.1.1.0.now,
    ))
    (packet, arrival, wanted, before, answer, after)

-- what the contract says
places : {packet : List ℕ} {arrival wanted : ℕ} {before : Image} {answer : Placed} {after : Image}
    → PlacesBy packet arrival wanted before answer after → Places packet arrival wanted before answer after
places c = of_call c (λ x. Places x.0 x.1 x.2 x.3 x.4 x.5) (λ κs a x s p. p)

pub places-written : PlacesWritten format PlacesBy
places-written p l pixels out n out' arrival before answer after w ready free h =
    let r = wrote_right (report.writes (content.Line l) _ w) in
    places-octets p l pixels arrival before answer after r.0 ready free
    (places h ∙ ap (λ (s : List ℕ). outcome s arrival l.image before) r.1)

pub writes-placed : WritesPlaced format PlacesBy
writes-placed packet arrival wanted n before after q octet h k =
    let m = placed-line packet arrival wanted n before after (sym (places h)) in
    let l = m.1 in
    let r : Report = (read_report packet).fields in
    let line : Report = line_report r.packet l.fields in
    let e : read_report packet ≡ accept line =
    m.0 ∙ ap (λ (c : Content). accept (record { packet = r.packet; content = c })) l.content in
    let is : q ≡ Ok line = told_apart q (Ok line) (report.reads k ∙ e) in
    record {
      packet_fields = r.packet;
      line_fields = l.fields;
      read = is;
      line = l.line;
      image = l.image;
      leaves = λ pixels d.
          l.leaves ∙ ap (λ (m : ℕ). placed before (line_of m (pixels_of packet) arrival)) l.line
          ∙ ap (λ (x : List ℕ). placed before (line_of n x arrival))
          (sym (head_of _ _ (report.finds (content.Line l.fields) packet (pixels ∷ []) d)));
      gives = λ pixels d out r' out' room w.
          calls_back.writes packet line (pixels ∷ []) octet (subst (report.Reads packet) is k) d out r' out' room w;
    }
