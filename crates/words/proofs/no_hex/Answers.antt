use Rattle.std.proofs.lemmas.Iterator.{YieldsList-from_slice}
use Rattle.std.proofs.lemmas.Iterator.Search.{any_from_yields_List}
use Rattle.std.proofs.lemmas.Grind.{common_steps}
use borrow.Author.Tests.{tests}
use Rattle.std.proofs.Common.{ℕ, ◌≡◌, List, [], ◌∷◌, refl, ap, ◌∙◌, rules, arith, not, ◌||◌}
use Rattle.std.specs.Prelude.{ltb}
use Rattle.std.specs.Char.{is_ascii_hexdigit}
use Rattle.std.specs.List.{list_any}
use Rattle.octets.specs.Pick.{pick}
use Rattle.words.specs.Octets.{digit_of, other_than_hex}
use Rattle.words.proofs.no_hex.Goals as goal

-- the library's digits are those that have a number
other : (x : ℕ) → not (is_ascii_hexdigit x) ≡ ltb 15 (digit_of x)
unfolding digit_of pick
other x = grind (arith, common_steps)

any_other : (s : List ℕ) → list_any (λ (x : ℕ). not (is_ascii_hexdigit x)) s ≡ other_than_hex s
unfolding other_than_hex
any_other [] = refl
any_other (x ∷ s) =
    ap (λ b. b || list_any (λ (y : ℕ). not (is_ascii_hexdigit y)) s) (other x) ∙ ap (λ b. ltb 15 (digit_of x) || b) (any_other s)

pub returns : goal.returns
returns c =
    any_from_yields_List (λ (x : ℕ). not (is_ascii_hexdigit x)) _ _ c.any.result c.any.ensures.ran (YieldsList-from_slice c.args.s.now cc)
    (λ x b q k. search (rules, tests))
    ∙ any_other c.args.s.now
