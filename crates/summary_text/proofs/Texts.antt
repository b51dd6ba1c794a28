-- What is told at a number, of those things that are told one after another.
use Prim.Native.Nat.{ℕ, ◌+◌, ◌-◌}
use mathlib.Core.List.{List}
use Rattle.octets.specs.Numbers.{at}
use Rattle.summary_count.specs.Count.{saturated}
use Rattle.summary_pen.specs.Words.{if_any}
use Rattle.summary_pen.specs.Form.{Form}
use Rattle.summary_text.specs.Text.{lines_at}

abbrev pub refusal_at : ℕ → (ℕ → ℕ → List ℕ) → List ℕ → ℕ → List ℕ
refusal_at from text counts i = if_any (at counts (from + i)) (text i (at counts (from + i)))

abbrev pub channel_at : Form → List ℕ → ℕ → List ℕ
channel_at f counts i =
    if_any (at counts (256 + i)) (f.channel i (at counts (256 + i)) (at counts (512 + i)) (at counts (768 + i)))

abbrev pub apid_at : Form → List ℕ → ℕ → List ℕ
apid_at f counts i =
    if_any (saturated (at counts (132096 + i)) (at counts (134144 + i))) (f.apid i (at counts (132096 + i)) (at counts (134144 + i)))

abbrev pub image_at : Form → List ℕ → ℕ → List ℕ
image_at f counts i = if_any (at counts (136192 + i)) (f.image (at counts (136192 + i) - 1) (lines_at i counts))
