-- What is said of a condition in the words of its quantifier.
use Rattle.std.specs.Prelude.{◌≡◌, ℕ, Bool, true, false, List, ◌++◌, codes}
use Rattle.conditions.specs.declared.condition.Quantifier.{Quantifier, TheVariants.Exists, TheVariants.NotExists, TheVariants.Forall}
use Rattle.json_text.specs.Texts.{quoted}
use Rattle.json_values.specs.declared.sayings.Scope.{Scope, TheVariants.ThisRun, TheVariants.AllRuns, TheVariants.NoRun}

-- what the condition is about
abbrev pub subject : Quantifier → List ℕ
subject Exists = codes "what the condition asks about"
subject NotExists = codes "what must not happen"
subject Forall = codes "what must always hold"

-- what is said of a run whose outcome meets the formula, or does not; of a machine in which the condition holds, or fails; and of a
-- machine of which no run meets the formula, or each does
abbrev pub verb_of : Quantifier → Scope → Bool → List ℕ
verb_of Exists ThisRun true = codes " happens in this run"
verb_of Exists ThisRun false = codes " does not happen in this run"
verb_of Exists AllRuns true = codes " happens in some run"
verb_of Exists AllRuns false = codes " never happens"
verb_of Exists NoRun true = codes " never happens"
verb_of Exists NoRun false = codes " happens in every run"
verb_of NotExists ThisRun true = codes " happens in this run"
verb_of NotExists ThisRun false = codes " does not happen in this run"
verb_of NotExists AllRuns true = codes " never happens"
verb_of NotExists AllRuns false = codes " happens in some run"
verb_of NotExists NoRun true = codes " never happens"
verb_of NotExists NoRun false = codes " happens in every run"
verb_of Forall ThisRun true = codes " holds in this run"
verb_of Forall ThisRun false = codes " fails in this run"
verb_of Forall AllRuns true = codes " always holds"
verb_of Forall AllRuns false = codes " fails in some run"
verb_of Forall NoRun true = codes " never holds"
verb_of Forall NoRun false = codes " always holds"

-- what the condition is about, its formula, and a verb; of the formula's text nothing is said
abbrev pub IsSentence : Quantifier → List ℕ → List ℕ → Type 0
IsSentence quantifier verb text = (formula : List ℕ) × (text ≡ subject quantifier ++ formula ++ verb)

-- and as a string
abbrev pub IsSaying : Quantifier → List ℕ → List ℕ → Type 0
IsSaying quantifier verb json = (text : List ℕ) × IsSentence quantifier verb text × (json ≡ quoted text)
