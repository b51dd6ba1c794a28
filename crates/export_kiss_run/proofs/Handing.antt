-- A frame handed on: what the export of one frame leaves, and that it has room.
use Rattle.std.specs.Prelude.{Ok, Err}
use Rattle.std.specs.Result.{is_err}
use Rattle.std.proofs.Common.{◌≡◌, ℕ, ◌-◌, ◌*◌, ◌≤◌, Bool, true, false, not, eqb, ltb, List, [], ◌∷◌, ◌++◌, length, drop, sym, refl, ap}
use Rattle.std.proofs.Common.{◌∙◌, true≢false, append-nil, add-zero, arith, length-append, length-take-le, take_all, take_at, le-ltb}
use Rattle.std.proofs.Common.{eq-eqb}
use mathlib.Core.Bool.{false≢true}
use Rattle.octets.specs.Parts.{written}
use Rattle.octets.specs.Pick.{pick}
use Rattle.octets.proofs.Choices.{picks, picked, passed}
use Rattle.answer.specs.Told.{Told, accept, refuse, refuse_at, number_of}
use Rattle.answer.specs.declared.Reason.{Reason}
use Rattle.answer.specs.declared.Reason.TheVariants.{Room, TimeLength, Arrivals, Session, FrameLength, FrameCheck, FrameDestination, FrameSource, FrameControl, FrameProtocol, FrameVersion, FrameStatus, FramePointer, StretchOctets, StretchAbandoned, Escape, TypeOctet, PacketLength, PacketCheck, PacketBits, Pair, SourceLength, Line, NotLine, ImageShort, ImageOther, LineHeld, NoArrival, ListShort, Entry, CountRange, OutputShort, FieldRange, PacketTurnedAway, DataLength, LayoutCodes, LayoutWidth, Sequences, NotHousekeeping, Greymap, LineList, UnnumberedLine}
use Rattle.answer.specs.Refusals as no
use Rattle.crc.specs.Check.{before}
use Rattle.frame.specs.Limits.{longest_time}
use Rattle.frame.specs.Frame.{read_frame, no_frame}
use Rattle.frame.proofs.Tells.{read-tells}
use Rattle.frame.proofs.Accepts.{passed as frame-passed}
use Rattle.rules.specs.Packets.{cut, total}
use Rattle.lengths.specs.Lengths.{lengths_wrong}
use Rattle.kiss.specs.Stream.{mark, data_frame, escaped_octet, escaped}
use Rattle.kiss_writer.specs.Export.{block_of, stream_of, first_bad, room_for, exporting, told, Exports}
use Rattle.kiss_writer.specs.Answers.{Exported}
use Rattle.window.specs.Window.{hand}
use Rattle.export_kiss_run.specs.Written.{block_by, handed_on}
use Rattle.export_kiss_run.specs.Turns.{Fits, HandsOn, refused_by}

-- ---- room

octet_twice : (x : ℕ) → length (escaped_octet x) ≤ 2
octet_twice x =
    let P : List ℕ → Type 0 = λ l. length l ≤ 2 in
    picks P (eqb x mark) _ _ (λ h. omega arith) (λ h. picks P (eqb x 0xDB) _ _ (λ k. omega arith) (λ k. omega arith))

escaped_twice : (xs : List ℕ) → length (escaped xs) ≤ 2 * length xs
escaped_twice [] = omega arith
escaped_twice (x ∷ xs) = omega (arith, octet_twice x, escaped_twice xs, length-append (escaped_octet x) (escaped xs))

abbrev stream : List ℕ → List ℕ
stream f = stream_of (f ∷ [])

stream_short : (t : ℕ) (f : List ℕ) → (read_frame t f).accepted ≡ true → length (stream f) ≤ 600
stream_short t f h =
    let p = (frame-passed t f _ ((read-tells t f).plain h)).0 in
    omega (
      arith,
      p.greatest,
      length-take-le (length f - 2) f (omega arith),
      escaped_twice (data_frame ∷ before f),
      length-append
          (escaped (data_frame ∷ before f)) (mark ∷ []),
      length-append (block_of f) [],
    )

-- ---- the answer

-- where there is room: by what the frame's reader tells
abbrev one : ℕ → List ℕ → Told ℕ
one t f = pick (read_frame t f).accepted (accept (length (stream f))) (refuse_at 0 (read_frame t f).refusal (read_frame t f).octet)

by_read : (b : Bool) (room : Told ℕ) (n refusal octet : ℕ) → (b ≡ true → room ≡ accept n)
    → pick (pick b (accept {A = ℕ} 0) (refuse_at 0 refusal octet)).accepted room
    (pick b (accept {A = ℕ} 0) (refuse_at 0 refusal octet)) ≡ pick b (accept n) (refuse_at 0 refusal octet)
unfolding pick
by_read true room n refusal octet h = h refl
by_read false room n refusal octet h = refl

-- t above 8 is refused first
late : (t : ℕ) (f : List ℕ) → ltb longest_time t ≡ true → read_frame t f ≡ refuse no_frame no.time_length
unfolding read_frame
late t f h = sym (picked _ _ _ h)

-- by where the block begins
by_both : (both : Bool) (h : ℕ → List ℕ) (x y : List ℕ) → h 0 ≡ x → h 1 ≡ y → h (pick both 0 1) ≡ pick both x y
unfolding pick
by_both true h x y p q = p
by_both false h x y p q = q

block_by_lem : (both : Bool) (f : List ℕ) → pick both (mark ∷ block_of f) (block_of f) ≡ block_by both f
unfolding pick
block_by_lem true f = refl
block_by_lem false f = refl

none : (both : Bool) (out : List ℕ) → hand out (pick both 0 1) 0 ≡ []
unfolding pick
none true out = refl
none false out = refl

module _ (t : ℕ) (f out : List ℕ) (fits : Fits f out) where
  whole : cut f (length f ∷ []) ≡ f ∷ []
  whole = ap (λ (x : List ℕ). x ∷ []) (take_all (length f) f (omega arith))

  exported-one : exporting t f (length f ∷ []) out ≡ one t f
  unfolding exporting first_bad
  exported-one =
      let P : Told ℕ → Type 0 = λ x. x ≡ one t f in
      let adds : total (length f ∷ []) ≡ length f = add-zero (length f) in
      picks P (ltb longest_time t) _ _
      (λ h. passed _ _ _ _ (ap (λ r. r.accepted) (late t f h)) (sym (ap (λ r. refuse_at 0 r.refusal r.octet) (late t f h))))
      (λ h. picks P (lengths_wrong (length f ∷ []) (length f)) _ _
      (λ k. absurd (true≢false (sym k ∙ ap not (eq-eqb _ _ adds))))
      (λ k. ap (λ fs. pick (first_bad t fs).accepted (room_for (stream_of fs) out) (first_bad t fs)) whole
      ∙ by_read (read_frame t f).accepted (room_for (stream f) out) (length (stream f)) (read_frame t f).refusal (read_frame t f).octet
      (λ a. sym (passed _ _ _ _ (le-ltb (length out) (length (stream f)) (omega (arith, stream_short t f a, fits.room))) refl))))

  -- by which the answer is one of the two
  accepted-is : (b : Bool) (m refusal octet : ℕ) {n : ℕ} → accept {A = ℕ} n ≡ pick b (accept m) (refuse_at 0 refusal octet) → (b ≡ true) ×
      (n ≡ m)
  unfolding pick
  accepted-is true m refusal octet e = (refl, ap (λ (x : Told ℕ). x.fields) e)
  accepted-is false m refusal octet e = absurd (true≢false (ap (λ (x : Told ℕ). x.accepted) e))

  refused-is : (b : Bool) (m refusal octet : ℕ) {n o : ℕ} → refuse_at {A = ℕ} 0 n o ≡ pick b (accept m) (refuse_at 0 refusal octet) →
      (b ≡ false) × (n ≡ refusal)
  unfolding pick
  refused-is true m refusal octet e = absurd (false≢true (ap (λ (x : Told ℕ). x.accepted) e))
  refused-is false m refusal octet e = (refl, ap (λ (x : Told ℕ). x.refusal) e)

  module _ {ns : List ℕ} (lengths : ns ≡ length f ∷ []) {r : Exported} {out' : List ℕ} (x : Exports t f ns out r out') where
    answers : told r ≡ one t f
    answers = x.answers ∙ ap (λ (l : List ℕ). exporting t f l out) lengths ∙ exported-one

    handed : {n : ℕ} → r ≡ Ok n → HandsOn t f (Ok n) out'
    unfolding handed_on
    handed {n} e =
        let a = accepted-is (read_frame t f).accepted (length (stream f)) (read_frame t f).refusal (read_frame t f).octet
        (ap told (sym e) ∙ answers) in
        let left : out' ≡ written (stream f) out =
        x.leaves
        ∙ ap (λ (y : Exported). pick (told y).accepted (written (stream_of (cut f ns)) out) out) e
        ∙ sym (picked true _ _ refl)
        ∙ ap (λ (l : List ℕ). written (stream_of (cut f l)) out) lengths
        ∙ ap (λ (fs : List (List ℕ)). written (stream_of fs) out) whole in
        let size : length (block_of f ++ []) ≡ n - 1 = omega (arith, a.1) in
        let block : hand out' 1 n ≡ block_of f =
        ap (λ (o : List ℕ). hand o 1 n) left
        ∙ take_at (block_of f ++ []) (drop (length (stream f)) out) (n - 1) size
        ∙ append-nil (block_of f) in
        let marked : hand out' 0 n ≡ mark ∷ block_of f =
        ap (λ (o : List ℕ). hand o 0 n) left
        ∙ take_at (stream f) (drop (length (stream f)) out) (n - 0) (omega (arith, a.1))
        ∙ ap (λ (l : List ℕ). mark ∷ l) (append-nil (block_of f)) in
        record {
          says = λ both. by_both both (λ x. hand out' x n) (mark ∷ block_of f) (block_of f) marked block
              ∙ block_by_lem both f
              ∙ picked _ _ _ a.0;
          refuses = sym (ap (λ y. y.refusal) ((read-tells t f).plain a.0));
        }

    left_out : {q : Reason} → r ≡ Err q → HandsOn t f (Err q) out'
    unfolding handed_on
    left_out {q} e =
        let a = refused-is (read_frame t f).accepted (length (stream f)) (read_frame t f).refusal (read_frame t f).octet
        (ap told (sym e) ∙ answers) in
        record { says = λ both. none both out' ∙ passed _ _ _ _ a.0 refl; refuses = a.1 }

    by_answer : (q : Exported) → r ≡ q → HandsOn t f q out'
    by_answer (Ok n) e = handed e
    by_answer (Err q) e = left_out e

    pub hands : HandsOn t f r out'
    hands = by_answer r refl

-- ---- no reason has the number 0

some_number : (q : Reason) → eqb (number_of q) 0 ≡ false
some_number Room = refl
some_number TimeLength = refl
some_number Arrivals = refl
some_number Session = refl
some_number FrameLength = refl
some_number FrameCheck = refl
some_number (FrameDestination n) = refl
some_number (FrameSource n) = refl
some_number FrameControl = refl
some_number FrameProtocol = refl
some_number FrameVersion = refl
some_number FrameStatus = refl
some_number FramePointer = refl
some_number StretchOctets = refl
some_number StretchAbandoned = refl
some_number Escape = refl
some_number TypeOctet = refl
some_number PacketLength = refl
some_number PacketCheck = refl
some_number PacketBits = refl
some_number Pair = refl
some_number SourceLength = refl
some_number Line = refl
some_number NotLine = refl
some_number ImageShort = refl
some_number ImageOther = refl
some_number LineHeld = refl
some_number NoArrival = refl
some_number ListShort = refl
some_number Entry = refl
some_number CountRange = refl
some_number OutputShort = refl
some_number FieldRange = refl
some_number PacketTurnedAway = refl
some_number DataLength = refl
some_number LayoutCodes = refl
some_number LayoutWidth = refl
some_number Sequences = refl
some_number NotHousekeeping = refl
some_number Greymap = refl
some_number LineList = refl
some_number UnnumberedLine = refl

pub refused : (r : Exported) → is_err r ≡ not (eqb (refused_by r) 0)
refused (Ok n) = refl
refused (Err q) = ap not (sym (some_number q))
