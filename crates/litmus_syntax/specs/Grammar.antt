-- The grammar of a litmus text after the lines before `{`, over tokens: initial values, the header row, the rows, what is observed, the condition.
-- The form is a part of that of herd's X86 litmus files (Alglave, Maranget and Tautschnig, Herding Cats, TOPLAS 2014);
-- docs/formats.md tells which.
use Rattle.std.specs.Prelude.{◌≡◌, ◌≢◌, ◌<◌, ◌+◌, ◌||◌, ℕ, Bool, true, false, List, [], ◌∷◌, ◌++◌, length, map, codes, Option, Some, None}
use Rattle.std.specs.List.{All, flat_map}
use Rattle.text_tokens.specs.declared.token.Mark.{Mark}
use Rattle.text_tokens.specs.declared.token.Mark.TheVariants as the
use Rattle.text_tokens.specs.Tokens.{Tok, Word, Number, Sign, NoToken}
use Rattle.text_tokens.specs.Marks.{same_mark}
use Rattle.text_tokens.specs.Parts.{begins_with}
use Rattle.tso_program.specs.declared.instruction.Reg.{Reg}
use Rattle.conditions.specs.declared.condition.Quantifier.{Quantifier, TheVariants.Exists, TheVariants.NotExists, TheVariants.Forall}
use Rattle.litmus_syntax.specs.declared.mnemonic.Mnemonic.{Mnemonic}
use Rattle.litmus_syntax.specs.declared.mnemonic.Mnemonic.TheVariants as op
use Rattle.litmus_syntax.specs.Words.{reg_of, opens_condition, is_label, is_name, mnemonic_of, column_name}
use Rattle.litmus_syntax.specs.Views.{PlaceView, Location, Register, EntryView, CodeView, LoadImm, Copy, Load, StoreImm, Store, Xchg, Fence, CmpImm, CmpReg, Je, Jne, Jmp, CellView, BodyView, SignView, Atom, Const, Not, And, Or, Open, Close, EndingView}
use Rattle.litmus_syntax.specs.Phrases.{Phrase, ◌▸◌, ◌or◌, mark, word, number, before, no_word, Items}

-- ---- names

-- a register's name
abbrev pub register : Reg → Phrase
register r ts rest = (w : List ℕ) × (reg_of w ≡ Some r) × (ts ≡ Word w ∷ rest)

-- a location's name
abbrev pub name : List ℕ → Phrase
name x ts rest = (is_name x ≡ true) × (ts ≡ Word x ∷ rest)

-- `[x]`
abbrev pub memory : List ℕ → Phrase
memory x = mark the.OpenBracket ▸ name x ▸ mark the.CloseBracket

-- `x` or `[x]`; `t:REG`
abbrev pub IsPlace : PlaceView → Phrase
IsPlace (Location x) = name x or memory x
IsPlace (Register t r) = number t ▸ mark the.Colon ▸ register r

-- the thread of the place is one of the first so many
abbrev pub HasThread : ℕ → PlaceView → Type 0
HasThread threads (Location x) = Unit {0}
HasThread threads (Register t r) = t < threads

-- ---- lists without repetitions, and lists with `;` between their items

-- it is not any of these
abbrev pub IsNoneOf : {X : Type 0} → X → List X → Type 0
IsNoneOf x [] = Unit {0}
IsNoneOf x (y ∷ ys) = (x ≢ y) × IsNoneOf x ys

-- nothing stands twice
abbrev pub NoneTwice : {X : Type 0} → List X → Type 0
NoneTwice [] = Unit {0}
NoneTwice (x ∷ xs) = IsNoneOf x xs × NoneTwice xs

-- `;`, which may be missing before the closing mark
abbrev pub separator : Mark → Phrase
separator close = mark the.Semicolon or before close

-- ---- initial values

-- a place, `=` and a number
abbrev pub IsEntry : EntryView → Phrase
IsEntry e = IsPlace e.place ▸ mark the.Equals ▸ number e.value

abbrev pub IsEntryItem : EntryView → Phrase
IsEntryItem e = IsEntry e ▸ separator the.CloseBrace

abbrev pub place_of_entry : EntryView → PlaceView
place_of_entry e = e.place

-- entries in braces, which name nothing twice
abbrev pub IsInitial : List EntryView → Phrase
IsInitial es ts rest = (mark the.OpenBrace ▸ Items IsEntryItem (mark the.CloseBrace) es) ts rest × NoneTwice (map place_of_entry es)

-- ---- the header row

-- `| Pk`, `| Pk+1`, .. up to the last thread's column, and `;`
pub data MoreColumns : ℕ → ℕ → List Tok → List Tok → Type 0 where
  last : {k threads : ℕ} {ts rest : List Tok} → k ≡ threads → mark the.Semicolon ts rest → MoreColumns k threads ts rest
  column : {k threads : ℕ} {ts others rest : List Tok} → (mark the.Bar ▸ word (column_name k)) ts others → MoreColumns (k + 1) threads others rest → MoreColumns k threads ts rest

-- `P0`, `P1`, .. with `|` between them, and `;`
abbrev pub IsHeader : ℕ → Phrase
IsHeader threads = word (column_name 0) ▸ MoreColumns 1 threads

-- ---- instructions

-- `$n` or `n`
abbrev pub immediate : ℕ → Phrase
immediate n = (mark the.Dollar ▸ number n) or number n

abbrev pub mnemonic : Mnemonic → Phrase
mnemonic m ts rest = (w : List ℕ) × (mnemonic_of w ≡ Some m) × (ts ≡ Word w ∷ rest)

abbrev pub comma : Phrase
comma = mark the.Comma

-- an instruction; where it has two operands, what it writes comes first, and XCHG, which writes both, takes either order
abbrev pub IsCode : CodeView → Phrase
IsCode (LoadImm r n) = mnemonic op.Mov ▸ register r ▸ comma ▸ immediate n
IsCode (Copy r s) = mnemonic op.Mov ▸ register r ▸ comma ▸ register s
IsCode (Load r x) = mnemonic op.Mov ▸ register r ▸ comma ▸ memory x
IsCode (StoreImm x n) = mnemonic op.Mov ▸ memory x ▸ comma ▸ immediate n
IsCode (Store x r) = mnemonic op.Mov ▸ memory x ▸ comma ▸ register r
IsCode (Xchg x r) = mnemonic op.Xchg ▸ ((memory x ▸ comma ▸ register r) or (register r ▸ comma ▸ memory x))
IsCode Fence = mnemonic op.Mfence
IsCode (CmpImm r n) = mnemonic op.Cmp ▸ register r ▸ comma ▸ immediate n
IsCode (CmpReg r s) = mnemonic op.Cmp ▸ register r ▸ comma ▸ register s
IsCode (Je l) = mnemonic op.Je ▸ word l
IsCode (Jne l) = mnemonic op.Jne ▸ word l
IsCode (Jmp l) = mnemonic op.Jmp ▸ word l

-- ---- cells and rows

-- `WORD:`
abbrev pub IsLabelMark : List ℕ → Phrase
IsLabelMark l ts rest = (is_label l ≡ true) × (word l ▸ mark the.Colon) ts rest

-- whether `|` or `;` comes next
abbrev pub ends_cell : List Tok → Bool
ends_cell ts = begins_with the.Bar ts || begins_with the.Semicolon ts

-- an instruction or nothing, up to `|` or `;`
abbrev pub IsContent : Option CodeView → Phrase
IsContent None ts rest = (ts ≡ rest) × (ends_cell rest ≡ true)
IsContent (Some c) ts rest = IsCode c ts rest × (ends_cell rest ≡ true)

-- labels, and then an instruction or nothing
abbrev pub IsCell : CellView → Phrase
IsCell c = Items IsLabelMark (IsContent c.code) c.labels

-- `|` and a cell
abbrev pub IsNextCell : CellView → Phrase
IsNextCell c = mark the.Bar ▸ IsCell c

-- a cell for each thread, with `|` between them, and `;`
abbrev pub IsCells : List CellView → Phrase
IsCells [] ts rest = ⊥
IsCells (c ∷ cs) ts rest = (IsCell c ▸ Items IsNextCell (mark the.Semicolon) cs) ts rest

abbrev pub IsRow : ℕ → List CellView → Phrase
IsRow threads cells ts rest = (length cells ≡ threads) × IsCells cells ts rest

-- whether the part after the rows comes next: one of its words, or `~`
abbrev pub ends_rows : List Tok → Bool
ends_rows [] = false
ends_rows (Word w ∷ ts) = opens_condition w
ends_rows (Number n ∷ ts) = false
ends_rows (Sign m ∷ ts) = same_mark m the.Tilde
ends_rows (NoToken b ∷ ts) = false

abbrev pub before_ending : Phrase
before_ending ts rest = (ts ≡ rest) × (ends_rows ts ≡ true)

-- ---- labels, each with its thread

-- those of thread t's cell
abbrev pub cell_labels : ℕ → CellView → List (ℕ × List ℕ)
cell_labels t c = map (λ l. (t, l)) c.labels

-- those of cells, the first of which is thread t's
abbrev pub labels_from : ℕ → List CellView → List (ℕ × List ℕ)
labels_from t [] = []
labels_from t (c ∷ cs) = cell_labels t c ++ labels_from (t + 1) cs

abbrev pub row_labels : List CellView → List (ℕ × List ℕ)
row_labels cells = labels_from 0 cells

abbrev pub labels_in_rows : List (List CellView) → List (ℕ × List ℕ)
labels_in_rows rows = flat_map row_labels rows

-- rows up to the ending
abbrev pub IsRowList : ℕ → List (List CellView) → Phrase
IsRowList threads = Items (IsRow threads) before_ending

-- rows in which no label stands twice in its thread
abbrev pub IsRows : ℕ → List (List CellView) → Phrase
IsRows threads rows ts rest = IsRowList threads rows ts rest × NoneTwice (labels_in_rows rows)

-- ---- the whole before the ending

abbrev pub IsBody : BodyView → Phrase
IsBody b ts rest = (IsInitial b.entries ▸ IsHeader b.threads ▸ IsRows b.threads b.rows) ts rest × All (HasThread b.threads) (map place_of_entry b.entries)

-- ---- what is observed

abbrev pub IsObservedItem : ℕ → PlaceView → Phrase
IsObservedItem threads p ts rest = HasThread threads p × (IsPlace p ▸ separator the.CloseBracket) ts rest

-- `locations`, and places of so many threads in brackets; or nothing
abbrev pub IsObserved : ℕ → List PlaceView → Phrase
IsObserved threads ps =
    (word (codes "locations") ▸ mark the.OpenBracket ▸ Items (IsObservedItem threads) (mark the.CloseBracket) ps)
    or (λ ts rest. (ps ≡ []) × no_word (codes "locations") ts rest)

-- ---- the condition

abbrev pub IsQuantifier : Quantifier → Phrase
IsQuantifier Exists = word (codes "exists")
IsQuantifier NotExists = mark the.Tilde ▸ word (codes "exists")
IsQuantifier Forall = word (codes "forall")

-- a sign of a formula over so many threads
abbrev pub IsSign : ℕ → SignView → Phrase
IsSign threads (Atom p n) ts rest = HasThread threads p × (IsPlace p ▸ mark the.Equals ▸ number n) ts rest
IsSign threads (Const true) ts rest = word (codes "true") ts rest
IsSign threads (Const false) ts rest = word (codes "false") ts rest
IsSign threads Not ts rest = (word (codes "not") or mark the.Tilde) ts rest
IsSign threads And ts rest = mark the.And ts rest
IsSign threads Or ts rest = mark the.Or ts rest
IsSign threads Open ts rest = mark the.OpenParen ts rest
IsSign threads Close ts rest = mark the.CloseParen ts rest

-- no more tokens
abbrev pub the_end : Phrase
the_end ts rest = (ts ≡ []) × (rest ≡ [])

-- signs up to the end
abbrev pub IsSigns : ℕ → List SignView → Phrase
IsSigns threads = Items (IsSign threads) the_end

-- what is observed, a quantifier and signs, up to the end
abbrev pub IsEnding : ℕ → EndingView → List Tok → Type 0
IsEnding threads e ts = (IsObserved threads e.observed ▸ IsQuantifier e.quantifier ▸ IsSigns threads e.signs) ts []
