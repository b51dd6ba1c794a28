-- What a turn means by whether it goes on, and whether the input has ended.
use Prim.Native.Nat.{ℕ}
use mathlib.Core.Path.{◌≡◌, refl, sym, ◌∙◌}
use mathlib.Core.Bool.{Bool, true, false, true≢false}
use mathlib.Core.List.{List}
use Rattle.rules.specs.Channel.{Handed}
use Rattle.feed.specs.declared.Pull.{Pull}
use Rattle.feed.specs.declared.Pull.TheVariants as pull
use Rattle.audit_rows.specs.declared.Audit.{Audit}
use Rattle.audit_turns.specs.Turns.{On, Over, By}
use Rattle.audit_turns.specs.declared.Heeded.{Heeded}

both : {b : Bool} → b ≡ true → b ≡ false → ⊥
both t f = true≢false (sym t ∙ f)

module _ (a : Audit) (rows : List ℕ) (ps : List Handed) (m : List ℕ) (r : Heeded) (rows' : List ℕ) where
  pub on : (p : Pull) → By a rows ps m r rows' p → r.going ≡ true → On a rows ps m r rows'
  on pull.More o g = o
  on pull.Opened o g = o
  on (pull.Answered x) o g = o
  on pull.Bad o g = absurd (both g o.going)
  on pull.Cut o g = absurd (both g o.going)
  on pull.Failed o g = absurd (both g o.going)
  on pull.End o g = absurd (both g o.going)

  pub over : (p : Pull) → By a rows ps m r rows' p → r.ended ≡ true → (p ≡ pull.End) × Over a rows ps m r rows'
  over pull.More o e = absurd (both e o.ended)
  over pull.Opened o e = absurd (both e o.ended)
  over (pull.Answered x) o e = absurd (both e o.ended)
  over pull.Bad o e = absurd (both e o.ended)
  over pull.Cut o e = absurd (both e o.ended)
  over pull.Failed o e = absurd (both e o.ended)
  over pull.End o e = (refl, o)
