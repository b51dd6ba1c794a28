-- A script as it is read, a piece after another.
use Rattle.std.specs.Prelude.{◌≡◌, ℕ, ◌<◌, Bool, true, not, List, ◌++◌, length, ◌==◌}
use Rattle.window.specs.Window.{hand, unread}
use Rattle.window.specs.Turns.{Turns, Loops}
use Rattle.transmit_run.specs.declared.Filling.{Filling}
use Rattle.transmit_run.specs.declared.Filled.{Filled}

-- One read: a piece comes behind the octets at hand, and more may come where it is not empty. Where there is room the system is asked.
pub record Fills (before : Filling) (script : List ℕ) (r : Filling) (script' : List ℕ) : Type 0 where
  pub piece : List ℕ
  pub window : hand script' 0 r.have ≡ hand script 0 before.have ++ piece
  pub many : length piece ≡ r.read.came
  pub asked : before.have < length script → r.read.tried ≡ true
  pub goes : r.going ≡ not (r.read.came == 0)

-- Where the reads stand.
pub record Stand : Type 0 where
  pub state : Filling
  pub script : List ℕ

abbrev pub stand : Filling → List ℕ → Stand
stand s script = record { state = s; script = script }

abbrev pub start : Filling
start = record { have = 0; read = unread; going = true }

abbrev pub going_at : Stand → Bool
going_at p = p.state.going

-- A read that brings these octets.
pub record Brings (p : Stand) (octets : List ℕ) (q : Stand) : Type 0 where
  pub fills : Fills p.state p.script q.state q.script
  pub brought : octets ≡ fills.piece

-- The contract of the loop.
abbrev pub Looped : List ℕ → Filled → List ℕ → Type 0
Looped script r script' = Loops going_at Brings (stand start script) r.made (stand r.state script')

-- What is at hand behind the reads is what they brought, end to end.
abbrev pub AllAtHand : Type 0
AllAtHand =
    (script : List ℕ) (n : ℕ) (octets : List ℕ) (p : Stand) → Turns going_at Brings (stand start script) n octets p
    → hand p.script 0 p.state.have ≡ octets
