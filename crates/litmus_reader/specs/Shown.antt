-- What a litmus text asks to be shown: the registers and locations that its condition and its `locations` name.
use Rattle.std.specs.Prelude.{◌≡◌, ◌↔◌, ◌⊎◌, ℕ, ◌<◌, true, List, [], ◌∷◌, Contains}
use Rattle.std.specs.Ordering.{nat_cmp}
use Rattle.std.specs.FinSet as set
use Rattle.tso_program.specs.declared.instruction.Reg.{Reg}
use Rattle.tso_program.specs.Instructions.{number}
use Rattle.tso_program.specs.declared.shown.Shown.{Shown, TheVariants.All, TheVariants.Only, TheVariants.Truth}
use Rattle.tso_program.specs.declared.shown.ShownKind.{ShownKind}
use Rattle.tso_program.specs.declared.shown.ShownKind.TheVariants as kind
use Rattle.tso_program.specs.declared.listing.Listing.{Listing}
use Rattle.tso_program.specs.Shown.{asked, shows_register, shows_location}
use Rattle.tso_program.specs.declared.question.Question.{Question}
use Rattle.tso_program.specs.declared.atom.Atom.{Atom}
use Rattle.tso_program.specs.Tree.{Tree}
use Rattle.tso_program.specs.Named.{with_register, with_location, with_named, MentionsRegister, MentionsLocation}
use Rattle.litmus_reader.specs.declared.litmus.Litmus.{Litmus}
use Rattle.litmus_reader.specs.declared.observed.Observed.{Observed, TheVariants.Location, TheVariants.Register}
use Rattle.tso_program.specs.declared.limits.TheConstants.{MAX_THREADS, MAX_LOCATIONS}

-- these and an observed place
abbrev pub with_place : set.FinSet nat_cmp → Observed → set.FinSet nat_cmp
with_place names (Location location) = with_location names location
with_place names (Register thread register) = with_register names thread (number register)

abbrev pub with_places : set.FinSet nat_cmp → List Observed → set.FinSet nat_cmp
with_places names [] = names
with_places names (place ∷ places) = with_places (with_place names place) places

-- what a formula and observed places name
abbrev pub shown_by : Tree Atom → List Observed → Shown
shown_by formula observed = Only (with_places (with_named set.empty formula) observed)

-- what is shown of outcomes: all, what the condition and `locations` name, or whether the condition's formula is true
abbrev pub shown_as : {P : Type 0} → Litmus P → ShownKind → Shown
shown_as litmus kind.Whole = All
shown_as litmus kind.Observed = shown_by litmus.condition.formula litmus.observed
shown_as litmus kind.Condition = Truth litmus.condition.formula

-- the program, with what is shown of its outcomes
abbrev pub question_of : Litmus Listing → ShownKind → Question
question_of litmus what = asked litmus.program (shown_as litmus what)

-- register r of thread t is shown exactly where the formula mentions it or it is an observed place
abbrev pub ShowsNamedRegisters : Tree Atom → List Observed → Shown → Type 0
ShowsNamedRegisters formula observed shown = (t : ℕ) (r : Reg) → t < MAX_THREADS →
    (shows_register shown t (number r) ≡ true) ↔ (MentionsRegister formula t r ⊎ Contains observed (Register t r))

-- a location is shown exactly where the formula mentions it or it is an observed place
abbrev pub ShowsNamedLocations : Tree Atom → List Observed → Shown → Type 0
ShowsNamedLocations formula observed shown = (l : ℕ) → l < MAX_LOCATIONS →
    (shows_location shown l ≡ true) ↔ (MentionsLocation formula l ⊎ Contains observed (Location l))
