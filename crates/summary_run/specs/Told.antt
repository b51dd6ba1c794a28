-- What is written behind the counting, and the exit status of a run.
use Rattle.std.specs.Prelude.{ℕ, ◌≡◌, List, Bool, false, ◌||◌, ℤ, replicate}
use Rattle.octets.specs.Pick.{pick}
use Rattle.receiver.specs.declared.Receiver.{Receiver}
use Rattle.sequence.specs.Sequence.{entries}
use Rattle.window.specs.Status.{done, against, broken}
use Rattle.summary_count.specs.Counters.{counters}
use Rattle.summary_count.specs.Count.{Tally, Ledger, ledger}
use Rattle.summary_run.specs.Shown.{text_of, Shown, not_shown}
use Rattle.summary_run.specs.Whole.{Counts}
use Rattle.summary_run.specs.declared.Stopped.{Stopped}
use Rattle.summary_run.specs.declared.showing.Told.{Told}

-- Whether the input was not taken to its end.
abbrev pub broke : Stopped → Bool
broke r = r.state.going || r.state.read.failed

-- 2 if the input was not taken to its end or the text was not written to its end; 1 if the recording is bad; else 0.
abbrev pub status_of : Stopped → Told → ℤ
status_of r o = pick (broke r) broken (pick (not_shown o) broken (pick r.state.bad against done))

-- The contract of the end: if the input was taken to its end, the text of the counts is written; by what became of it the status is told.
pub record Finished (csv : Bool) (r : Stopped) (t : Tally) (status : ℤ) : Type 0 where
  pub told : Told
  pub room : ℕ
  pub shows : broke r ≡ false → Shown (text_of csv t) room told
  pub says : status ≡ status_of r told

-- ---- a run

-- How many different packets are listed, by APID, type and subtype.
abbrev pub most_keys : ℕ
most_keys = 1024

-- Nothing is counted yet.
unfoldable pub no_counts : List ℕ
no_counts = replicate counters 0

abbrev pub nothing : Ledger
nothing = ledger no_counts (replicate most_keys 0) (replicate most_keys 0) (replicate entries 0)

-- The contract of a run: all that a receiver tells is counted, from nothing on, and then the counts are told.
pub record Runs (csv : Bool) (a : Receiver) (status : ℤ) : Type 0 where
  pub stopped : Stopped
  pub counts : Ledger
  pub counted : Counts a nothing stopped counts
  pub finished : Finished csv stopped counts.tally status
