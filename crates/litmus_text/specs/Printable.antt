-- What can be printed, so that it is read again.
use Rattle.std.specs.Prelude.{◌≡◌, ℕ, ◌<◌, ◌≤◌, Bool, true, false, List, [], ◌∷◌, map, length, Option, Some, None}
use Rattle.std.specs.List.{AllByRecursion}
use Rattle.text_tokens.specs.Lexing.{IsWord}
use Rattle.litmus_syntax.specs.Words.{is_name, is_label}
use Rattle.litmus_syntax.specs.Views.{PlaceView, Location, Register, EntryView, CodeView, LoadImm, Load, StoreImm, Store, Xchg, CmpImm, Je, Jne, Jmp, CellView, BodyView, SignView, Atom, Const, Not, EndingView}
use Rattle.litmus_syntax.specs.Grammar.{NoneTwice, place_of_entry, labels_in_rows}

-- a number of the texts
abbrev pub IsTextNumber : ℕ → Type 0
IsTextNumber n = n ≤ 4294967295

-- a word that may name a location
abbrev pub IsLocationName : List ℕ → Type 0
IsLocationName x = IsWord x × (is_name x ≡ true)

-- a word that may name a label
abbrev pub IsLabelName : List ℕ → Type 0
IsLabelName l = IsWord l × (is_label l ≡ true)

-- a location's name, or a register of one of so many threads
abbrev pub IsPrintablePlace : ℕ → PlaceView → Type 0
IsPrintablePlace threads (Location x) = IsLocationName x
IsPrintablePlace threads (Register t r) = t < threads

abbrev pub IsPrintableEntry : ℕ → EntryView → Type 0
IsPrintableEntry threads e = IsPrintablePlace threads e.place × IsTextNumber e.value

abbrev pub IsPrintableCode : CodeView → Type 0
IsPrintableCode (LoadImm r n) = IsTextNumber n
IsPrintableCode (Load r x) = IsLocationName x
IsPrintableCode (StoreImm x n) = IsLocationName x × IsTextNumber n
IsPrintableCode (Store x r) = IsLocationName x
IsPrintableCode (Xchg x r) = IsLocationName x
IsPrintableCode (CmpImm r n) = IsTextNumber n
IsPrintableCode (Je l) = IsWord l
IsPrintableCode (Jne l) = IsWord l
IsPrintableCode (Jmp l) = IsWord l
IsPrintableCode _ = Unit {0}

-- an instruction or nothing
abbrev pub IsPrintableContent : Option CodeView → Type 0
IsPrintableContent None = Unit {0}
IsPrintableContent (Some c) = IsPrintableCode c

abbrev pub IsPrintableCell : CellView → Type 0
IsPrintableCell c = AllByRecursion IsLabelName c.labels × IsPrintableContent c.code

-- a cell for each of so many threads
abbrev pub IsPrintableRow : ℕ → List CellView → Type 0
IsPrintableRow threads cells = (length cells ≡ threads) × AllByRecursion IsPrintableCell cells

-- initial values that name nothing twice, at least one thread, and rows in which no label stands twice in its thread
pub record IsPrintable (b : BodyView) : Type 0 where
  pub some_thread : 0 < b.threads
  pub few_threads : IsTextNumber b.threads
  pub entries : AllByRecursion (IsPrintableEntry b.threads) b.entries
  pub none_twice : NoneTwice (map place_of_entry b.entries)
  pub rows : AllByRecursion (IsPrintableRow b.threads) b.rows
  pub labels_once : NoneTwice (labels_in_rows b.rows)

abbrev pub IsPrintableSign : ℕ → SignView → Type 0
IsPrintableSign threads (Atom p n) = IsPrintablePlace threads p × IsTextNumber n
IsPrintableSign threads _ = Unit {0}

-- whether a sign that begins with a letter or a digit comes first
abbrev pub begins_with_a_word : List SignView → Bool
begins_with_a_word [] = false
begins_with_a_word (Atom p n ∷ ss) = true
begins_with_a_word (Const b ∷ ss) = true
begins_with_a_word (Not ∷ ss) = true
begins_with_a_word (_ ∷ ss) = false

-- no sign that begins with a letter or a digit follows one that ends with one
abbrev pub SignsAreApart : List SignView → Type 0
SignsAreApart [] = Unit {0}
SignsAreApart (Atom p n ∷ ss) = (begins_with_a_word ss ≡ false) × SignsAreApart ss
SignsAreApart (Const b ∷ ss) = (begins_with_a_word ss ≡ false) × SignsAreApart ss
SignsAreApart (_ ∷ ss) = SignsAreApart ss

-- signs over so many threads that can be printed one after the other
abbrev pub ArePrintable : ℕ → List SignView → Type 0
ArePrintable threads ss = AllByRecursion (IsPrintableSign threads) ss × SignsAreApart ss

-- what is observed and a condition, over so many threads
pub record IsPrintableEnding (threads : ℕ) (e : EndingView) : Type 0 where
  pub observed : AllByRecursion (IsPrintablePlace threads) e.observed
  pub signs : ArePrintable threads e.signs
