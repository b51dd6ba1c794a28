-- Demand 2 over the calls, once for every format: what a call of its writer left, calls of its reader and of those that find what stands
-- beside the fields undo, and the other way round.
use Rattle.std.specs.Prelude.{ℕ, ◌≤◌, ◌<◌, ◌≡◌, List, Bool, false, length, take, Ok}
use Rattle.octets.specs.Numbers.{at}
use Rattle.answer.specs.Writer.{Written, Gave}

-- A format with fields A, octets beside them B (data, time, source data, strings), and the reader's answers R.
pub record Format (A B R : Type 0) : Type 1 where
  -- The writer's refusal 51: a field, or what stands beside, is out of range.
  pub wrong : A → B → Bool
  -- The octets that the writer needs room for.
  pub octets : A → B → List ℕ
  -- The reader's answer that accepts, with these fields.
  pub accepting : A → R
  -- A call of the writer with these fields and what stands beside them, on this output, gave this answer and left this output.
  pub Writes : A → B → List ℕ → Written → List ℕ → Type 0
  -- A call of the reader on these octets gave this answer.
  pub Reads : List ℕ → R → Type 0
  -- Calls with these fields on these octets found this beside them.
  pub Finds : A → List ℕ → B → Type 0

module _ {A B R : Type 0} (f : Format A B R) where
  -- Of the octets s every call of the reader gives these fields, and calls find this beside them, and nothing else.
  pub record ReadAs (a : A) (b : B) (s : List ℕ) : Type 0 where
    pub fields : (q : R) → f.Reads s q → q ≡ f.accepting a
    pub others : (c : B) → f.Finds a s c → c ≡ b

  pub record CallsBack : Type 0 where
    -- A call of the writer with fields that are right, on an output with room, writes.
    pub takes :
        (a : A) (b : B) (out : List ℕ) (r : Written) (out' : List ℕ)
        → f.wrong a b ≡ false → length (f.octets a b) ≤ length out → f.Writes a b out r out' → r ≡ Ok (length (f.octets a b))
    -- What a call of the writer wrote is read again as what it was given.
    pub reads :
        (a : A) (b : B) (out : List ℕ) (n : ℕ) (out' : List ℕ) → f.Writes a b out (Ok n) out' → ReadAs a b (take n out')
    -- Octets that a call of the reader accepts are what every call of the writer with those fields, and with what calls found beside
    -- them, gives, on an output with room.
    pub writes :
        (s : List ℕ) (a : A) (b : B) → ((i : ℕ) → at s i < 256) → f.Reads s (f.accepting a) → f.Finds a s b
        → (out : List ℕ) (r : Written) (out' : List ℕ) → length s ≤ length out → f.Writes a b out r out' → Gave s r out'
