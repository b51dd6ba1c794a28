-- However a source's octets come in pieces, the calls leave the listing of the whole, each part as soon as it can be told.
use Rattle.std.specs.Prelude.{ℕ, ◌≡◌, List, [], ◌++◌, Bool, true, false, take, drop}
use Rattle.source.specs.Scan.{Waits, Over}
use Rattle.receiver.specs.Receive.{fresh}
use Rattle.receiver.specs.declared.Receiver.{Receiver}
use Rattle.listing.specs.Listing.{listing}
use Rattle.listing.specs.Promised.{to_come, at_end}
use Rattle.listing.specs.Next.{Nexts}
use Rattle.listing.specs.declared.Listed.{Listed}

-- A run over any results that satisfy the calls' promises, from a receiver on: the octets read so far, the text left so far, the receiver,
-- the octets kept, and those at hand. A piece may come at any time, and a call may be made at any time, with any room for text.
pub data Run (a₀ : Receiver) (kept₀ : List ℕ) : List ℕ → List ℕ → Receiver → List ℕ → List ℕ → Type 0 where
  starts : Run a₀ kept₀ [] [] a₀ kept₀ []
  reads : {octets text : List ℕ} {a : Receiver} {kept w : List ℕ} (piece : List ℕ) → Run a₀ kept₀ octets text a kept w
      → Run a₀ kept₀ (octets ++ piece) text a kept (w ++ piece)
  lists : {octets text : List ℕ} {a : Receiver} {kept w : List ℕ} (out kept' out' : List ℕ) (r : Listed) → Nexts a kept w out r kept' out'
      → Run a₀ kept₀ octets text a kept w → Run a₀ kept₀ octets (text ++ take r.size out') r.receiver kept' (drop r.used w)

-- Of what is to come from the receiver that a run started with:
pub record PiecesAreListed : Type 0 where
  -- The text left so far is its first part, whatever comes.
  pub first : {a₀ : Receiver} {kept₀ octets text : List ℕ} {a : Receiver} {kept w : List ℕ} → Run a₀ kept₀ octets text a kept w →
      (p : List ℕ) (ended : Bool)
      → to_come a₀ kept₀ (octets ++ p) ended ≡ text ++ to_come a kept (w ++ p) ended
  -- When a call tells that octets are missing, all that the octets read so far make is left.
  pub prompt : {a₀ : Receiver} {kept₀ octets text : List ℕ} {a : Receiver} {kept w : List ℕ} (n : ℕ) → Run a₀ kept₀ octets text a kept w
      → Waits a.source kept w n → text ≡ to_come a₀ kept₀ octets false
  -- If then the input ends, the call of the end gives the last line.
  pub last : {a₀ : Receiver} {kept₀ octets text : List ℕ} {a : Receiver} {kept w : List ℕ} (n : ℕ) → Run a₀ kept₀ octets text a kept w
      → Waits a.source kept w n → text ++ at_end a.source ≡ to_come a₀ kept₀ octets true
  -- When nothing comes any more, all is left that it ever makes.
  pub over : {a₀ : Receiver} {kept₀ octets text : List ℕ} {a : Receiver} {kept w : List ℕ} → Run a₀ kept₀ octets text a kept w → Over
      a.source kept
      → (p : List ℕ) (ended : Bool) → text ≡ to_come a₀ kept₀ (octets ++ p) ended

-- What is to come from a receiver of a recording of which nothing is read yet is the recording's listing.
abbrev pub ListsRecordings : Type 0
ListsRecordings = (kept octets : List ℕ) (ended : Bool) → to_come fresh kept octets ended ≡ listing octets ended
