-- What the outcomes of a program show of a litmus test's condition. The words are those of the test tools of Alglave,
-- Maranget, Sarkar and Sewell (Litmus: Running Tests against Hardware, TACAS 2011) and of herd (Alglave, Maranget and
-- Tautschnig, Herding Cats, TOPLAS 2014).
use Rattle.std.specs.Prelude.{ℕ, Bool, List, [], ◌∷◌, ◌++◌, codes, not, if◌then◌else◌}
use Rattle.std.specs.List.{list_all, list_any}
use Rattle.tso_program.specs.declared.outcome.Outcome.{Outcome}
use Rattle.tso_program.specs.declared.atom.Atom.{Atom}
use Rattle.conditions.specs.declared.condition.Condition.{Condition}
use Rattle.conditions.specs.declared.condition.Quantifier.{Quantifier, TheVariants.Exists, TheVariants.NotExists, TheVariants.Forall}
use Rattle.tso_program.specs.Tree.{Tree}
use Rattle.tso_program.specs.Truth.{truth}

-- whether some outcome meets the formula; whether all do
abbrev pub some_meets : Tree Atom → List Outcome → Bool
some_meets formula outcomes = list_any (λ outcome. truth outcome formula) outcomes

abbrev pub all_meet : Tree Atom → List Outcome → Bool
all_meet formula outcomes = list_all (λ outcome. truth outcome formula) outcomes

-- how often the formula is met: never, where no outcome meets it; always, where all do; otherwise sometimes
abbrev pub frequency : Tree Atom → List Outcome → List ℕ
frequency formula outcomes = if not (some_meets formula outcomes) then codes "Never" else if all_meet formula outcomes then codes "Always" else codes "Sometimes"

-- whether the condition holds: `exists` where some outcome meets the formula, `~exists` where none does, `forall` where all do
abbrev pub is_true_of : Quantifier → Tree Atom → List Outcome → Bool
is_true_of Exists formula outcomes = some_meets formula outcomes
is_true_of NotExists formula outcomes = not (some_meets formula outcomes)
is_true_of Forall formula outcomes = all_meet formula outcomes

abbrev pub observation_line : Condition → List Outcome → List ℕ
observation_line condition outcomes = codes "observation " ++ frequency condition.formula outcomes ++ 10 ∷ []

abbrev pub condition_line : Condition → List Outcome → List ℕ
condition_line condition outcomes = codes "condition " ++ (if is_true_of condition.quantifier condition.formula outcomes then codes "holds" else codes "fails") ++ 10 ∷ []
