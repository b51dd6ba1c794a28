-- What two answers that are told alike have in common.
use Prim.Native.Nat.{ℕ}
use mathlib.Core.Path.{◌≡◌, refl, sym, ap, ◌∙◌}
use mathlib.Core.List.{List}
use mathlib.Core.Bool.{true≢false, false≢true}
use lib.Dec.{eqb}
use Rattle.octets.specs.Pick.{pick}
use Rattle.answer.specs.Told.{Told, number_of, octet_of, accept, refuse, refuse_at, refuse_for, NoneLeftOut}
use Rattle.answer.specs.declared.Refusal.{Refusal}
use Rattle.answer.specs.declared.Reason.{Reason}
use Rattle.answer.specs.declared.Reason.TheVariants.{Room, TimeLength, Arrivals, Session, FrameLength, FrameCheck, FrameDestination, FrameSource, FrameControl, FrameProtocol, FrameVersion, FrameStatus, FramePointer, StretchOctets, StretchAbandoned, Escape, TypeOctet, PacketLength, PacketCheck, PacketBits, Pair, SourceLength, Line, NotLine, ImageShort, ImageOther, LineHeld, NoArrival, ListShort, Entry, CountRange, OutputShort, FieldRange, PacketTurnedAway, DataLength, LayoutCodes, LayoutWidth, Sequences, NotHousekeeping, Greymap, LineList, UnnumberedLine}

-- equal values are told alike
pub accept-same : {A : Type 0} {a b : A} → a ≡ b → accept a ≡ accept b
accept-same h = ap accept h

pub same-fields : {A : Type 0} {a b : A} → accept a ≡ accept b → a ≡ b
same-fields {A} h = ap (λ (t : Told A). t.fields) h

pub same-refusal : {A : Type 0} {none : A} {m n : ℕ} → refuse none m ≡ refuse none n → m ≡ n
same-refusal {A} h = ap (λ (t : Told A). t.refusal) h

-- of refusals that tell an octet: number and octet
pub same-refusal-at : {A : Type 0} {none : A} (x y : Refusal)
    → refuse_at none x.number x.octet ≡ refuse_at none y.number y.octet → x ≡ y
same-refusal-at {A} x y h =
    let same : ◌≡◌ {A = Refusal} (record { number = x.number; octet = x.octet }) (record { number = y.number; octet = y.octet }) =
    simp (ap (λ (t : Told A). t.refusal) h, ap (λ (t : Told A). t.octet) h) in
    same

-- the reason of a number, and with it the octet that it tells
reason_at : ℕ → ℕ → Reason
reason_at n octet =
    pick (eqb n 1) Room
    (pick (eqb n 2) TimeLength
    (pick (eqb n 3) Arrivals
    (pick (eqb n 4) Session
    (pick (eqb n 10) FrameLength
    (pick (eqb n 11) FrameCheck
    (pick (eqb n 120) (FrameDestination octet)
    (pick (eqb n 121) (FrameSource octet)
    (pick (eqb n 122) FrameControl
    (pick (eqb n 123) FrameProtocol
    (pick (eqb n 13) FrameVersion
    (pick (eqb n 14) FrameStatus
    (pick (eqb n 15) FramePointer
    (pick (eqb n 16) StretchOctets
    (pick (eqb n 17) StretchAbandoned
    (pick (eqb n 18) Escape
    (pick (eqb n 19) TypeOctet
    (pick (eqb n 20) PacketLength
    (pick (eqb n 21) PacketCheck
    (pick (eqb n 22) PacketBits
    (pick (eqb n 30) Pair
    (pick (eqb n 31) SourceLength
    (pick (eqb n 32) Line
    (pick (eqb n 33) NotLine
    (pick (eqb n 40) ImageShort
    (pick (eqb n 41) ImageOther
    (pick (eqb n 42) LineHeld
    (pick (eqb n 43) NoArrival
    (pick (eqb n 44) ListShort
    (pick (eqb n 45) Entry
    (pick (eqb n 46) CountRange
    (pick (eqb n 50) OutputShort
    (pick (eqb n 51) FieldRange
    (pick (eqb n 52) PacketTurnedAway
    (pick (eqb n 53) DataLength
    (pick (eqb n 60) LayoutCodes
    (pick (eqb n 61) LayoutWidth
    (pick (eqb n 62) Sequences
    (pick (eqb n 63) NotHousekeeping
    (pick (eqb n 80) Greymap
    (pick (eqb n 81) LineList
    UnnumberedLine))))))))))))))))))))))))))))))))))))))))

reason_back : (r : Reason) → reason_at (number_of r) (octet_of r) ≡ r
unfolding pick reason_at
reason_back Room = refl
reason_back TimeLength = refl
reason_back Arrivals = refl
reason_back Session = refl
reason_back FrameLength = refl
reason_back FrameCheck = refl
reason_back (FrameDestination n) = refl
reason_back (FrameSource n) = refl
reason_back FrameControl = refl
reason_back FrameProtocol = refl
reason_back FrameVersion = refl
reason_back FrameStatus = refl
reason_back FramePointer = refl
reason_back StretchOctets = refl
reason_back StretchAbandoned = refl
reason_back Escape = refl
reason_back TypeOctet = refl
reason_back PacketLength = refl
reason_back PacketCheck = refl
reason_back PacketBits = refl
reason_back Pair = refl
reason_back SourceLength = refl
reason_back Line = refl
reason_back NotLine = refl
reason_back ImageShort = refl
reason_back ImageOther = refl
reason_back LineHeld = refl
reason_back NoArrival = refl
reason_back ListShort = refl
reason_back Entry = refl
reason_back CountRange = refl
reason_back OutputShort = refl
reason_back FieldRange = refl
reason_back PacketTurnedAway = refl
reason_back DataLength = refl
reason_back LayoutCodes = refl
reason_back LayoutWidth = refl
reason_back Sequences = refl
reason_back NotHousekeeping = refl
reason_back Greymap = refl
reason_back LineList = refl
reason_back UnnumberedLine = refl

-- reasons that are told alike are the same
pub same-reason : {A : Type 0} {none : A} (x y : Reason) → refuse_for none x ≡ refuse_for none y → x ≡ y
same-reason {A} x y h =
    let number : number_of x ≡ number_of y = ap (λ (t : Told A). t.refusal) h in
    let octet : octet_of x ≡ octet_of y = ap (λ (t : Told A). t.octet) h in
    let same : reason_at (number_of x) (octet_of x) ≡ reason_at (number_of y) (octet_of y) = simp (number, octet) in
    sym (reason_back x) ∙ same ∙ reason_back y

-- accepted and refused are never told alike
pub accept_or_refuse : {A B : Type 0} {a none : A} {n octet : ℕ} → accept a ≡ refuse_at none n octet → B
accept_or_refuse {A} h = absurd (true≢false (ap (λ (t : Told A). t.accepted) h))

pub refuse_or_accept : {A B : Type 0} {a none : A} {n octet : ℕ} → refuse_at none n octet ≡ accept a → B
refuse_or_accept {A} h = absurd (false≢true (ap (λ (t : Told A). t.accepted) h))

-- numbers from which the value can be had back leave no field out
pub had_back : {A : Type 0} {numbers : A → List ℕ} (from : List ℕ → A) → ((a : A) → from (numbers a) ≡ a) → NoneLeftOut numbers
had_back from e a b h = sym (e a) ∙ ap from h ∙ e b
