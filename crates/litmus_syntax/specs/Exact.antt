-- Readers that are exact: they read what the grammar relates to the tokens, that alone, and refuse only where it relates nothing.
use Rattle.std.specs.Prelude.{◌≡◌, ℕ, List, [], map, Result, Ok, Err, MatchOption}
use Rattle.text_tokens.specs.Tokens.{Tok}
use Rattle.litmus_syntax.specs.declared.fault.SyntaxFault.{SyntaxFault, TheVariants.Refused, TheVariants.OutOfMemory}
use Rattle.litmus_syntax.specs.declared.formula.Signs.{Signs}
use Rattle.litmus_syntax.specs.declared.ending.Ending.{Ending}
use Rattle.litmus_syntax.specs.Views.{SignView, sign_at_view, EndingView, ending_view}
use Rattle.litmus_syntax.specs.Grammar.{IsSigns, IsEnding}

-- What was read begins the tokens, and nothing else does; nothing was read only if nothing begins them, or if memory ran out.
abbrev pub ReadsNone : {Y : Type 0} → (Y → List Tok → List Tok → Type 0) → SyntaxFault → List Tok → Type 0
ReadsNone R OutOfMemory ts = Unit {0}
ReadsNone {Y} R (Refused r) ts = (y : Y) (rest : List Tok) → R y ts rest → ⊥

abbrev pub Reads : {X Y : Type 0} → (Y → List Tok → List Tok → Type 0) → (X → Y) → (X → List Tok) → Result X SyntaxFault → List Tok → Type 0
Reads {X} {Y} R view after (Ok x) ts = R (view x) ts (after x) × ((y : Y) (rest : List Tok) → R y ts rest → (y ≡ view x) × (rest ≡ after x))
Reads R view after (Err e) ts = ReadsNone R e ts

-- The signs read are those of the tokens, and no others; a refusal says that the tokens are not those of signs.
abbrev pub ReadsSigns : ℕ → Signs → List Tok → Type 0
ReadsSigns threads signs ts =
    MatchOption signs.refusal
    (IsSigns threads (map sign_at_view signs.signs.items) ts [] × ((ss : List SignView) → IsSigns threads ss ts [] → ss ≡ map sign_at_view signs.signs.items))
    (λ refusal. (ss : List SignView) → IsSigns threads ss ts [] → ⊥)

-- no ending is spelled by the tokens
abbrev pub NoEnding : ℕ → List Tok → Type 0
NoEnding threads ts = (e : EndingView) → IsEnding threads e ts → ⊥

-- The ending read is that of the tokens, and no other; a refusal, also one among the signs, says that the tokens spell no ending.
abbrev pub ReadsEnding : ℕ → Result Ending SyntaxFault → List Tok → Type 0
ReadsEnding threads (Ok ending) ts =
    MatchOption ending.signs.refusal
    (IsEnding threads (ending_view ending) ts × ((e : EndingView) → IsEnding threads e ts → e ≡ ending_view ending))
    (λ refusal. NoEnding threads ts)
ReadsEnding threads (Err (Refused r)) ts = NoEnding threads ts
ReadsEnding threads (Err OutOfMemory) ts = Unit {0}
