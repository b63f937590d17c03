-- Litmus texts, whole: what a text stands for.
use Rattle.std.specs.Prelude.{◌≡◌, ◌⊎◌, ℕ, List, [], map, Option, Some, ⊤}
use Rattle.std.specs.Str.{IsUtf8}
use Rattle.tso_program.specs.declared.listing.Thread.{Thread}
use Rattle.tso_program.specs.declared.listing.Listing.{Listing}
use Rattle.tso_program.specs.declared.limits.ProgramFault.{ProgramFault}
use Rattle.tso_program.specs.Limits.{IsWithinLimits, IsWithinFencedLimits, first_fault, first_fenced_fault}
use Rattle.text_tokens.specs.Tokens.{Tok}
use Rattle.text_tokens.specs.Lexing.{Lexes}
use Rattle.tso_program.specs.Tree.{Tree}
use Rattle.conditions.specs.Grammar.{Spells, Sum}
use Rattle.litmus_syntax.specs.Views.{PlaceView, BodyView, EndingView}
use Rattle.litmus_syntax.specs.Grammar.{IsBody, IsEnding}
use Rattle.litmus_reader.specs.declared.litmus.Litmus.{Litmus}
use Rattle.litmus_reader.specs.declared.fault.ReadFault.{ReadFault, TheVariants.OutOfMemory}
use Rattle.litmus_reader.specs.Faults.{MatchFault}
use Rattle.litmus_reader.specs.Fronts.{HasFront, RefusesFront}
use Rattle.litmus_reader.specs.Names.{number_in}
use Rattle.litmus_reader.specs.Places.{names_of}
use Rattle.litmus_lines.specs.FirstLine.{IsFirstLine}
use Rattle.litmus_lines.specs.SkippedLines.{AreSkipped}
use Rattle.litmus_reader.specs.Labels.{all_labels, JumpsAreFound}
use Rattle.litmus_reader.specs.Meaning.{listing_of, sign_of, condition_of, observed_of}

-- The tokens from `{` on: initial values, header row and rows; then what is observed, a quantifier and signs, which spell a
-- formula. Each jump is to a label of its thread.
pub record AreParts (tokens : List Tok) (body : BodyView) (ending : EndingView) (formula : Tree (PlaceView × ℕ)) : Type 0 where
  pub others : List Tok
  pub begins : IsBody body tokens others
  pub ends : IsEnding body.threads ending others
  pub spells : Spells Sum formula (map sign_of ending.signs) []
  pub jumps : JumpsAreFound body

-- the tokens have these parts, whatever they are
abbrev pub HaveParts : List Tok → Type 0
HaveParts tokens = (body : BodyView) × (ending : EndingView) × (formula : Tree (PlaceView × ℕ)) × AreParts tokens body ending formula

-- What such tokens stand for: the names, the program, the condition, what is observed, and the labels.
pub record Means (tokens : List Tok) (litmus : Litmus Listing) : Type 0 where
  pub body : BodyView
  pub ending : EndingView
  pub formula : Tree (PlaceView × ℕ)
  pub parts : AreParts tokens body ending formula
  pub names : litmus.names ≡ names_of body ending
  pub program : litmus.program ≡ listing_of litmus.names.locations body
  pub condition : litmus.condition ≡ condition_of (number_in litmus.names.locations) ending.quantifier formula
  pub observed : litmus.observed ≡ map (observed_of (number_in litmus.names.locations)) ending.observed
  pub labels : litmus.labels ≡ all_labels body

-- What a text stands for, whatever the size of its program: it is UTF-8, its first line names the test, lines that are
-- skipped follow, and the tokens from `{` on stand for the rest.
pub record StandsFor (text : List ℕ) (litmus : Litmus Listing) : Type 0 where
  pub lines : List ℕ
  pub others : List ℕ
  pub tokens : List Tok
  pub utf8 : IsUtf8 text
  pub first_line : IsFirstLine text litmus.name lines
  pub skipped : AreSkipped lines others
  pub lexes : Lexes others tokens
  pub means : Means tokens litmus

-- a text that stands for a program within the limits
abbrev pub IsLitmus : List ℕ → Litmus Listing → Type 0
IsLitmus text litmus = StandsFor text litmus × IsWithinLimits litmus.program.threads litmus.program.memory

-- a text that stands for a program within the limits of a fenced one
abbrev pub IsFencedLitmus : List ℕ → Litmus Listing → Type 0
IsFencedLitmus text litmus = StandsFor text litmus × IsWithinFencedLimits litmus.program.threads litmus.program.memory

-- The text stands for a program, and the first limit that the program breaks is this one.
abbrev pub BreaksFirst : (List Thread → List ℕ → Option ProgramFault) → List ℕ → ProgramFault → Type 0
BreaksFirst first text limit = (litmus : Litmus Listing) × StandsFor text litmus × (first litmus.program.threads litmus.program.memory ≡ Some limit)

-- The text is UTF-8 and stands for no program, whatever its size.
abbrev pub StandsForNothing : List ℕ → Type 0
StandsForNothing text = IsUtf8 text × ((litmus : Litmus Listing) → StandsFor text litmus → ⊥)

-- What a fault says of a text: it has no front, for the first cause and at its line; or it has one, and its program breaks
-- that limit first, or it stands for no program.
abbrev pub RefusesBy : (List Thread → List ℕ → Option ProgramFault) → List ℕ → ReadFault → Type 0
RefusesBy first text fault = RefusesFront text fault ⊎ (HasFront text × MatchFault fault ⊥ (BreaksFirst first text) ⊤ (StandsForNothing text))

abbrev pub Refuses : List ℕ → ReadFault → Type 0
Refuses text fault = RefusesBy first_fault text fault

-- why bytes are not a litmus text: what the fault says of them, and that they stand for no program, unless memory ran out
pub record IsNoLitmus (text : List ℕ) (fault : ReadFault) : Type 0 where
  pub why : Refuses text fault
  pub none : (litmus : Litmus Listing) → IsLitmus text litmus → fault ≡ OutOfMemory

-- why bytes are not the litmus text of a fenced program
abbrev pub RefusesFenced : List ℕ → ReadFault → Type 0
RefusesFenced text fault = RefusesBy first_fenced_fault text fault
