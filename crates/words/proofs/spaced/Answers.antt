use Rattle.std.proofs.lemmas.Iterator.{YieldsList-from_slice}
use Rattle.std.proofs.lemmas.Iterator.Search.{position_from_yields_List}
use borrow.Author.Tests.{tests}
use Rattle.std.proofs.Common.{ℕ, ◌≡◌, ◌+◌, ◌≤◌, List, [], ◌∷◌, refl, ap, sym, ◌∙◌, rules, arith, length, Bool, true, false, Option, Some, None, cond}
use Rattle.std.specs.Prelude.{ltb, eqb}
use Rattle.std.specs.List.{position, position_or_len}
use Rattle.std.specs.Option.{unwrap_or}
use Rattle.std.proofs.lemmas.List.Recursion.{is_position_or_len}
use borrow.Author.Tests.{ltb-false}
use Rattle.octets.specs.Pick.{pick}
use Rattle.words.specs.Words.{space, word_of}
use Rattle.words.proofs.Splitting.{word-inside}
use Rattle.words.proofs.spaced.Goals as goal

abbrev is_space : ℕ → Bool
is_space x = eqb x space

word_length : (s : List ℕ) → length (word_of s) ≡ position_or_len is_space s
unfolding word_of pick
word_length = is_position_or_len (λ (s : List ℕ). length (word_of s)) is_space refl (λ x s. by (is_space x) s x)
  where
    by : (b : Bool) (s : List ℕ) (x : ℕ) → length (pick b [] (x ∷ word_of s)) ≡ cond b 0 (1 + length (word_of s))
    by true s x = refl
    by false s x = omega arith

at_most : (p n : ℕ) → p ≤ n → (b : Bool) → ltb p n ≡ b → unwrap_or (cond b (Some p) None) n ≡ p
at_most p n h true e = refl
at_most p n h false e = let l : n ≤ p = ltb-false p n e in omega arith

pub returns-clause-value : goal.returns-clause-value
returns-clause-value c =
    let s = c.args.s.now in
    let e : c.position.result ≡ position is_space s =
    position_from_yields_List is_space _ _ c.position.result c.position.ensures.ran (YieldsList-from_slice s cc)
    (λ x b q k. search (rules, tests)) in
    c.unwrap_or.ensures ∙ ap (λ (r : Option ℕ). unwrap_or r (length s)) e
    ∙ at_most (position_or_len is_space s) (length s) (rw (← word_length) (word-inside s)) _ refl ∙ sym (word_length s)
