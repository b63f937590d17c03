-- The text of a run.
use Rattle.std.specs.Prelude.{◌≡◌, ◌≢◌, ◌==◌, ℕ, ◌<◌, List, [], ◌∷◌, ◌++◌, map, filter, length, nat_lt, Option, None, option_map, Result, Ok, Err, if◌then◌else◌}
use Rattle.std.specs.Fmt.{decimal}
use Rattle.std.specs.List.{AllByRecursion, slice_split, join_with_byte}
use Rattle.std.specs.Global.{Vec}
use Rattle.text_tokens.specs.Bytes.{is_white_space}
use Rattle.text_tokens.specs.Numbers.{plain_number_at}
use Rattle.tso_machine.specs.declared.label.Label.{Label, TheVariants.Exec, TheVariants.Flush}
use Rattle.tso_machine.specs.declared.run_text.RunFault.{RunFault, TheVariants.Token, TheVariants.OutOfMemory}

-- `e` or `f` and the thread's number, without leading zeros
abbrev pub spelling : Label → List ℕ
spelling (Exec t) = 101 ∷ decimal t
spelling (Flush t) = 102 ∷ decimal t

-- threads are numbered from 0 to 255
abbrev pub IsLabel : Label → Type 0
IsLabel (Exec t) = t < 256
IsLabel (Flush t) = t < 256

-- the words of a text: its parts between white space, without the empty ones
abbrev pub words : List ℕ → List (List ℕ)
words text = filter (λ w. nat_lt 0 (length w)) (slice_split is_white_space text)

-- the threads of the labels are in range, and the words of the text are the labels'
pub record IsRunText (text : List ℕ) (labels : List Label) : Type 0 where
  pub fits : AllByRecursion IsLabel labels
  pub spelled : words text ≡ map spelling labels

-- one space between two labels
abbrev pub run_text : List Label → List ℕ
run_text labels = join_with_byte 32 (map spelling labels)

-- what was read is this, unless memory ran out
abbrev pub GivesLabels : Result (Vec Label) RunFault → List Label → Type 0
GivesLabels (Ok v) labels = v.items ≡ labels
GivesLabels (Err (Token index)) labels = ⊥
GivesLabels (Err OutOfMemory) labels = Unit {0}

-- the text's words before the one with this index are labels', and that one is no label's
pub record IsFirstNoLabel (text : List ℕ) (index : ℕ) : Type 0 where
  pub labels : List Label
  pub count : length labels ≡ index
  pub fits : AllByRecursion IsLabel labels
  pub word : List ℕ
  pub others : List (List ℕ)
  pub text_words : words text ≡ map spelling labels ++ word ∷ others
  pub no_label : (label : Label) → IsLabel label → spelling label ≢ word

-- what a fault says of the text; out of memory says nothing
abbrev pub RunFaultIs : List ℕ → RunFault → Type 0
RunFaultIs text (Token index) = IsFirstNoLabel text index
RunFaultIs text OutOfMemory = Unit {0}

-- the label that a word spells
unfoldable pub label_at : List ℕ → Option Label
label_at [] = None
label_at (b ∷ ds) =
    if b == 101 then option_map Exec (plain_number_at 255 ds) else if b == 102 then option_map Flush (plain_number_at 255 ds) else None
