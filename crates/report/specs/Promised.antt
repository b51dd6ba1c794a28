-- What the crate's private functions promise.
use Rattle.std.specs.Prelude.{ℕ, ◌≡◌, List, [], ◌∷◌, Bool, ◌||◌, length}
use Rattle.answer.specs.Writer.{Wrote}
use Rattle.answer.specs.Writer.{Written}
use Rattle.packet.specs.Write.{fields_wrong, packet_octets}
use Rattle.packet.specs.declared.Packet.{Packet}
use Rattle.report.specs.Write.{joined}

-- What a test of service type and subtype alone tells of every packet that has them.
abbrev pub Tells : (Packet → Bool) → ℕ → ℕ → Bool → Type 0
Tells test service subtype r = (p : Packet) → p.service ≡ service → p.subtype ≡ subtype → r ≡ test p

-- Four strings one after another.
abbrev pub together : List ℕ → List ℕ → List ℕ → List ℕ → List ℕ
together a b c d = joined (a ∷ b ∷ c ∷ d ∷ [])

-- The writers' core: whether the content is wrong, the packet's fields, the source data, the output before and after.
abbrev pub WroteSource : Bool → Packet → List ℕ → List ℕ → Written → List ℕ → Type 0
WroteSource wrong p source out r out' = Wrote (wrong || fields_wrong p (length source)) (packet_octets p source) out r out'
