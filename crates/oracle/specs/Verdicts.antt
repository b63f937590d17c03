-- What is said of a set of gaps.
use Rattle.std.specs.Prelude.{◌≡◌, ℕ, true}
use Rattle.std.specs.FinSet as set
use Rattle.gap_sets.specs.Gaps.{SetOfGaps}
use Rattle.tso_program.specs.declared.question.Question.{Question}
use Rattle.oracle.specs.declared.oracle.Verdict.{Verdict, TheVariants.Foreign, TheVariants.Serves}
use Rattle.oracle.specs.Facts as facts

-- no gap of the set is passed
abbrev pub PassesNoneOf : SetOfGaps → facts.Foreign → Type 0
PassesNoneOf gaps run = (gap : ℕ) → set.contains run.passed gap ≡ true → set.contains gaps gap ≡ true → ⊥

-- a foreign run of the question that passes no gap of the set, or the set serves
abbrev pub IsVerdictOf : Question → SetOfGaps → Verdict → Type 0
IsVerdictOf q gaps (Foreign run) = (run.question ≡ q) × facts.IsForeignValue run × PassesNoneOf gaps run
IsVerdictOf q gaps (Serves served) = (served.question ≡ q) × (served.gaps ≡ gaps) × facts.IsServing served
