-- What the parts of the reader answer.
use Rattle.std.specs.Prelude.{◌≡◌, ◌⊎◌, ℕ, ⊤, List, map, length, Option, Some, None, Result, Ok, Err, MatchOption}
use Rattle.std.specs.Str.{IsUtf8}
use Rattle.tso_program.specs.declared.listing.Listing.{Listing}
use Rattle.tso_program.specs.Limits.{IsWithinLimits, IsWithinFencedLimits, first_fault, first_fenced_fault}
use Rattle.text_tokens.specs.Tokens.{Tok}
use Rattle.text_tokens.specs.Lexing.{Lexes}
use Rattle.tso_program.specs.declared.atom.Atom.{Atom}
use Rattle.tso_program.specs.Tree.{Tree}
use Rattle.conditions.specs.Grammar.{Sign, sign_map}
use Rattle.conditions.specs.Reads.{SpellsOnly, SpellsNone}
use Rattle.litmus_syntax.specs.declared.fault.Refusal.{Refusal}
use Rattle.litmus_syntax.specs.declared.fault.SyntaxFault.{SyntaxFault, TheVariants.Refused, TheVariants.OutOfMemory as NoMemory}
use Rattle.litmus_syntax.specs.Views.{PlaceView, BodyView, SignView, EndingView}
use Rattle.litmus_syntax.specs.Grammar.{IsBody, IsEnding}
use Rattle.litmus_reader.specs.declared.litmus.Litmus.{Litmus}
use Rattle.litmus_reader.specs.declared.fault.ReadFault.{ReadFault}
use Rattle.litmus_reader.specs.Faults.{MatchFault}
use Rattle.litmus_reader.specs.Fronts.{HasFront, RefusesFront}
use Rattle.litmus_lines.specs.FirstLine.{IsFirstLine}
use Rattle.litmus_lines.specs.SkippedLines.{AreSkipped}
use Rattle.litmus_reader.specs.Places.{names_of}
use Rattle.litmus_reader.specs.Labels.{all_labels}
use Rattle.litmus_reader.specs.Meaning.{sign_of, numbered_atom, condition_of, observed_of}
use Rattle.litmus_reader.specs.Internal.Filling.{byte_in, byte_at, listing_by}
use Rattle.litmus_reader.specs.Texts.{AreParts, StandsForNothing}

-- ---- tokens that are refused

-- what a refusal says, where it is one: nothing where memory ran out
abbrev pub IfRefused : SyntaxFault → Type 0 → Type 0
IfRefused (Refused refusal) Says = Says
IfRefused NoMemory Says = ⊤

-- ---- the condition

-- the signs with the locations' numbers
abbrev pub numbered_signs : (List ℕ → ℕ) → List SignView → List (Sign Atom)
numbered_signs numbered signs = map (sign_map (numbered_atom numbered)) (map sign_of signs)

-- Where the reading of signs wasn't refused, the formula that they spell; they spell none where a token is refused.
abbrev pub ReadsFormula : Option Refusal → List (Sign Atom) → Result (Tree Atom) SyntaxFault → Type 0
ReadsFormula refusal signs (Ok f) = (refusal ≡ None) × SpellsOnly signs f
ReadsFormula refusal signs (Err fault) = IfRefused fault (refusal ≡ None → SpellsNone signs)

-- ---- the tokens

-- what was read of an ending: it, and nothing else; or none is there
abbrev pub ReadsOne : Option Refusal → ℕ → EndingView → List Tok → Type 0
ReadsOne refusal threads ending others =
    MatchOption refusal (IsEnding threads ending others × ((e : EndingView) → IsEnding threads e others → e ≡ ending)) (λ _. (e : EndingView) → IsEnding threads e others → ⊥)

-- what the readers of body and ending found
pub record Found (tokens : List Tok) (body : BodyView) (refusal : Option Refusal) (ending : EndingView) : Type 0 where
  pub others : List Tok
  pub begins : IsBody body tokens others
  pub begins_only : (b : BodyView) (rest : List Tok) → IsBody b tokens rest → (b ≡ body) × (rest ≡ others)
  pub ends : ReadsOne refusal body.threads ending others

-- What was read of tokens: their parts, which are the only ones, with the numbers of locations and the positions of labels as bytes.
pub record AreReadTokens (tokens : List Tok) (litmus : Litmus Listing) : Type 0 where
  pub body : BodyView
  pub ending : EndingView
  pub formula : Tree (PlaceView × ℕ)
  pub parts : AreParts tokens body ending formula
  pub only : (b : BodyView) (e : EndingView) (f : Tree (PlaceView × ℕ)) → AreParts tokens b e f → (b ≡ body) × (e ≡ ending) × (f ≡ formula)
  pub names : litmus.names ≡ names_of body ending
  pub program : litmus.program ≡ listing_by (byte_in litmus.names.locations) byte_at (length litmus.names.locations) body
  pub condition : litmus.condition ≡ condition_of (byte_in litmus.names.locations) ending.quantifier formula
  pub observed : litmus.observed ≡ map (observed_of (byte_in litmus.names.locations)) ending.observed
  pub labels : litmus.labels ≡ all_labels body

-- the fault of tokens that were refused, or for whose parts memory ran out
abbrev pub IsSyntaxFault : SyntaxFault → ReadFault → Type 0
IsSyntaxFault refused fault = MatchFault fault ⊥ (λ _. ⊥) (refused ≡ NoMemory) ((refusal : Refusal) × (refused ≡ Refused refusal))

-- a part is missing, a token cannot stand where it does, or a jump is to no label
abbrev pub HasNoParts : List Tok → Type 0
HasNoParts tokens = (body : BodyView) (ending : EndingView) (formula : Tree (PlaceView × ℕ)) → AreParts tokens body ending formula → ⊥

abbrev pub ReadsParts : List ℕ → List Tok → Result (Litmus Listing) SyntaxFault → Type 0
ReadsParts name tokens (Ok litmus) = (litmus.name ≡ name) × AreReadTokens tokens litmus
ReadsParts name tokens (Err fault) = IfRefused fault (HasNoParts tokens)

abbrev pub ReadsTokens : List ℕ → List Tok → Result (Litmus Listing) ReadFault → Type 0
ReadsTokens name tokens (Ok litmus) = (litmus.name ≡ name) × AreReadTokens tokens litmus
ReadsTokens name tokens (Err fault) = MatchFault fault ⊥ (λ _. ⊥) ⊤ (HasNoParts tokens)

-- ---- the text

-- What was read of a text: its first line, the text from `{` on, its tokens, which are the only ones, and what was read of them.
pub record IsReadOf (text : List ℕ) (litmus : Litmus Listing) : Type 0 where
  pub lines : List ℕ
  pub others : List ℕ
  pub tokens : List Tok
  pub utf8 : IsUtf8 text
  pub first_line : IsFirstLine text litmus.name lines
  pub first_only : (name rest : List ℕ) → IsFirstLine text name rest → (litmus.name ≡ name) × (lines ≡ rest)
  pub skipped : AreSkipped lines others
  pub skipped_only : (rest : List ℕ) → AreSkipped lines rest → others ≡ rest
  pub lexes : Lexes others tokens
  pub lexes_only : (ts : List Tok) → Lexes others ts → tokens ≡ ts
  pub read : AreReadTokens tokens litmus

-- a text without a front, or with one where it stands for nothing or memory ran out
abbrev pub RefusesText : List ℕ → ReadFault → Type 0
RefusesText text fault = RefusesFront text fault ⊎ (HasFront text × MatchFault fault ⊥ (λ _. ⊥) ⊤ (StandsForNothing text))

-- with the line of the header row
abbrev pub ReadsText : List ℕ → Result (Litmus Listing × ℕ) ReadFault → Type 0
ReadsText text (Ok read) = IsReadOf text read.0
ReadsText text (Err fault) = RefusesText text fault

-- ---- the program

-- the program of a listing, or the first limit that it breaks
abbrev pub MakesProgram : Listing → Result Listing ReadFault → Type 0
MakesProgram listing (Ok program) = (program ≡ listing) × IsWithinLimits listing.threads listing.memory
MakesProgram listing (Err fault) = MatchFault fault ⊥ (λ limit. first_fault listing.threads listing.memory ≡ Some limit) ⊤ ⊥

-- the program of a listing within the limits of a fenced program, or the first of these that it breaks
abbrev pub MakesFencedProgram : Listing → Result Listing ReadFault → Type 0
MakesFencedProgram listing (Ok program) = (program ≡ listing) × IsWithinFencedLimits listing.threads listing.memory
MakesFencedProgram listing (Err fault) = MatchFault fault ⊥ (λ limit. first_fenced_fault listing.threads listing.memory ≡ Some limit) ⊤ ⊥
