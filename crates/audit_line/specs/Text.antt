-- docs/MANUAL.md, 'Training tables': the verdict on a training table as one line, as ASCII codes.
use Rattle.std.specs.Prelude.{ℕ, ◌≤◌, List, [], ◌∷◌, ◌++◌, length, eqb}
use Rattle.octets.specs.Pick.{pick}
use Rattle.answer.specs.Refusals as reason
use Rattle.decimal.specs.Text.{decimal}
use Rattle.table.specs.declared.Verdict.{Verdict}
use Rattle.table.specs.declared.Verdict.TheVariants.{Passes, Faulty}

-- The words of each reason.

-- "the table is badly formed"
abbrev pub badly_formed : List ℕ
badly_formed =
    116 ∷ 104 ∷ 101 ∷ 32 ∷ 116 ∷ 97 ∷ 98 ∷ 108 ∷ 101 ∷ 32 ∷ 105 ∷ 115 ∷ 32 ∷ 98 ∷ 97 ∷ 100 ∷ 108 ∷ 121 ∷ 32 ∷ 102 ∷ 111 ∷ 114
    ∷ 109 ∷ 101 ∷ 100 ∷ []

-- "rows out of order"
abbrev pub out_of_order : List ℕ
out_of_order = 114 ∷ 111 ∷ 119 ∷ 115 ∷ 32 ∷ 111 ∷ 117 ∷ 116 ∷ 32 ∷ 111 ∷ 102 ∷ 32 ∷ 111 ∷ 114 ∷ 100 ∷ 101 ∷ 114 ∷ []

-- "no such packet or column, or a packet that was turned away"
abbrev pub no_packet : List ℕ
no_packet =
    110 ∷ 111 ∷ 32 ∷ 115 ∷ 117 ∷ 99 ∷ 104 ∷ 32 ∷ 112 ∷ 97 ∷ 99 ∷ 107 ∷ 101 ∷ 116 ∷ 32 ∷ 111 ∷ 114 ∷ 32 ∷ 99 ∷ 111 ∷ 108 ∷ 117
    ∷ 109 ∷ 110 ∷ 44 ∷ 32 ∷ 111 ∷ 114 ∷ 32 ∷ 97 ∷ 32 ∷ 112 ∷ 97 ∷ 99 ∷ 107 ∷ 101 ∷ 116 ∷ 32 ∷ 116 ∷ 104 ∷ 97 ∷ 116 ∷ 32 ∷ 119
    ∷ 97 ∷ 115 ∷ 32 ∷ 116 ∷ 117 ∷ 114 ∷ 110 ∷ 101 ∷ 100 ∷ 32 ∷ 97 ∷ 119 ∷ 97 ∷ 121 ∷ []

-- "the value is not in the packet"
abbrev pub no_value : List ℕ
no_value =
    116 ∷ 104 ∷ 101 ∷ 32 ∷ 118 ∷ 97 ∷ 108 ∷ 117 ∷ 101 ∷ 32 ∷ 105 ∷ 115 ∷ 32 ∷ 110 ∷ 111 ∷ 116 ∷ 32 ∷ 105 ∷ 110 ∷ 32 ∷ 116 ∷ 104
    ∷ 101 ∷ 32 ∷ 112 ∷ 97 ∷ 99 ∷ 107 ∷ 101 ∷ 116 ∷ []

-- "claimed before the frame arrived that told it"
abbrev pub too_early : List ℕ
too_early =
    99 ∷ 108 ∷ 97 ∷ 105 ∷ 109 ∷ 101 ∷ 100 ∷ 32 ∷ 98 ∷ 101 ∷ 102 ∷ 111 ∷ 114 ∷ 101 ∷ 32 ∷ 116 ∷ 104 ∷ 101 ∷ 32 ∷ 102 ∷ 114 ∷ 97
    ∷ 109 ∷ 101 ∷ 32 ∷ 97 ∷ 114 ∷ 114 ∷ 105 ∷ 118 ∷ 101 ∷ 100 ∷ 32 ∷ 116 ∷ 104 ∷ 97 ∷ 116 ∷ 32 ∷ 116 ∷ 111 ∷ 108 ∷ 100 ∷ 32 ∷ 105
    ∷ 116 ∷ []

-- The words of a reason by its number; another number has none.
unfoldable pub words_of : ℕ → List ℕ
words_of n =
    pick (eqb n reason.table_form) badly_formed
    (pick (eqb n reason.row_order) out_of_order
    (pick (eqb n reason.row_packet) no_packet
    (pick (eqb n reason.row_value) no_value
    (pick (eqb n reason.row_claim) too_early []))))

-- A space, then the words, then the line's end.
abbrev pub spoken : List ℕ → List ℕ
spoken words = 32 ∷ (words ++ (10 ∷ []))

-- "passes", or "row", the row's number, the reason's number and its words: "row 2: 74: claimed before the frame arrived that told it".
abbrev pub verdict_line : Verdict → List ℕ
verdict_line Passes = 112 ∷ 97 ∷ 115 ∷ 115 ∷ 101 ∷ 115 ∷ 10 ∷ []
verdict_line (Faulty n row) = 114 ∷ 111 ∷ 119 ∷ 32 ∷ (decimal row ++ (58 ∷ 32 ∷ (decimal n ++ (58 ∷ spoken (words_of n)))))

-- The most octets that a reason's words take with the space before them and the line's end.
abbrev pub longest_words : ℕ
longest_words = 60

-- The most octets that such a line takes.
abbrev pub longest_verdict : ℕ
longest_verdict = 87

-- No verdict's line is longer.
abbrev pub VerdictsAreShort : Type 0
VerdictsAreShort = (v : Verdict) → length (verdict_line v) ≤ longest_verdict
