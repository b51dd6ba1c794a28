-- The words that name an input, from what the code's calls and tests told of them.
use Rattle.std.proofs.Common.{◌≡◌, ℕ, Bool, true, false, not, ◌&&◌, ◌||◌, eqb, List, length, ap, ◌∙◌}
use Rattle.octets.specs.Same.{same}
use Rattle.octets.proofs.Choices.{picked, passed, through}
use Rattle.source.specs.Scan.{fresh_kiss, fresh_bits}
use Rattle.receiver.specs.Receive.{fresh, fresh_stream}
use Rattle.receiver.specs.declared.Receiver.{Receiver}
use Rattle.inputs.specs.Words.{kiss_word, bits_word, time_of, wrong_words, receiver_of}

module _ (kind word : List ℕ) where
  pub wrong-told : {kiss bits : Bool} {t : ℕ} → kiss ≡ same kind kiss_word → bits ≡ same kind bits_word → t ≡ time_of word
      → (not (eqb (length kind) 0) && (not (kiss || bits) || eqb t 9)) ≡ wrong_words kind word
  unfolding wrong_words
  wrong-told p q d = simp (p, q, d)

  module _ {kiss : Bool} (p : kiss ≡ same kind kiss_word) where
    pub kiss_named : {t : ℕ} {r : Receiver} → kiss ≡ true → t ≡ time_of word → r ≡ fresh_stream fresh_kiss t → r ≡ receiver_of kind word
    unfolding receiver_of
    kiss_named h d e = e ∙ ap (fresh_stream fresh_kiss) d ∙ picked (same kind kiss_word) _ _ (through p h)

    module _ {bits : Bool} (q : bits ≡ same kind bits_word) (h : kiss ≡ false) where
      pub bits-named : {t : ℕ} {r : Receiver} → bits ≡ true → t ≡ time_of word → r ≡ fresh_stream fresh_bits t → r ≡ receiver_of kind word
      unfolding receiver_of
      bits-named g d e =
          passed (same kind kiss_word) _ _ _ (through p h) (e ∙ ap (fresh_stream fresh_bits) d ∙ picked (same kind bits_word) _ _ (through q g))

      pub none_named_lem : {r : Receiver} → bits ≡ false → r ≡ fresh → r ≡ receiver_of kind word
      unfolding receiver_of
      none_named_lem g e = passed (same kind kiss_word) _ _ _ (through p h) (passed (same kind bits_word) _ _ _ (through q g) e)
