-- The lines of runs and of answers, byte for byte.
use Rattle.std.specs.Prelude.{ℕ, List, [], ◌∷◌, ◌++◌, codes}
use Rattle.std.specs.Fmt.{decimal}
use Rattle.gap_sets.specs.Gaps.{SetOfGaps}
use Rattle.tso_program.specs.declared.listing.Listing.{Listing}
use Rattle.tso_program.specs.declared.outcome.Outcome.{Outcome}
use Rattle.tso_program.specs.declared.shown.Shown.{Shown, TheVariants.All, TheVariants.Only, TheVariants.Truth}
use Rattle.tso_machine.specs.declared.label.Label.{Label}
use Rattle.tso_machine.specs.RunTexts.{run_text}
use Rattle.litmus_reader.specs.Names.{TextNames}
use Rattle.outcome_text.specs.Outcomes.{outcome_text}
use Rattle.report.specs.Places.{gaps_text}

-- a text after a space, or nothing where there is no text
abbrev pub after_space : List ℕ → List ℕ
after_space [] = []
after_space (b ∷ bs) = 32 ∷ b ∷ bs

-- the labels of a run
abbrev pub printed_labels : List Label → List ℕ
printed_labels labels = codes "run" ++ after_space (run_text labels) ++ 10 ∷ []

abbrev pub outcome_line : TextNames → Shown → Outcome → List ℕ
outcome_line names shown outcome = codes "outcome:" ++ after_space (outcome_text names shown outcome) ++ 10 ∷ []

-- the gaps by their places, ascending
abbrev pub passed_line : Listing → SetOfGaps → List ℕ
passed_line p gaps = codes "passed" ++ gaps_text p.threads gaps ++ 10 ∷ []

-- the gaps of a tie by their places, ascending
abbrev pub without_line : Listing → SetOfGaps → List ℕ
without_line p tie = codes "without" ++ gaps_text p.threads tie ++ 10 ∷ []

-- what says that not all is shown: values that are named, or the truth of the condition's formula
abbrev pub shown_word : Shown → List ℕ
shown_word All = []
shown_word (Only names) = codes "observed "
shown_word (Truth f) = codes "condition "

-- a set of gaps by their places, ascending, and its cost, after a word that says what the set is
abbrev pub set_line : List ℕ → Listing → Shown → SetOfGaps → ℕ → List ℕ
set_line word p shown gaps cost = word ++ 32 ∷ shown_word shown ++ codes "cost " ++ decimal cost ++ codes " set" ++ gaps_text p.threads gaps ++ 10 ∷ []

-- the set that is the answer
abbrev pub answer_line : Listing → Shown → SetOfGaps → ℕ → List ℕ
answer_line = set_line (codes "answer")

-- the set that is accepted
abbrev pub accepted_line : Listing → Shown → SetOfGaps → ℕ → List ℕ
accepted_line = set_line (codes "accepted")
