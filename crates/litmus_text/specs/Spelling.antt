-- How each part of a litmus text is written: its canonical text, in pieces.
use Rattle.std.specs.Prelude.{ℕ, List, [], ◌∷◌, ◌++◌, map, codes, true, false}
use Rattle.std.specs.List.{flat_map, range_with_len}
use Rattle.std.specs.Option.{option_to_list}
use Rattle.text_tokens.specs.declared.token.Mark.{Mark}
use Rattle.text_tokens.specs.declared.token.Mark.TheVariants as the
use Rattle.text_tokens.specs.Tokens.{Word, Number, Sign}
use Rattle.text_tokens.specs.Pieces.{Piece, Space, Part, text_of}
use Rattle.tso_program.specs.declared.instruction.Reg.{Reg}
use Rattle.conditions.specs.declared.condition.Quantifier.{Quantifier, TheVariants.Exists, TheVariants.NotExists, TheVariants.Forall}
use Rattle.litmus_syntax.specs.Words.{column_name}
use Rattle.litmus_syntax.specs.Views.{PlaceView, Location, Register, EntryView, CodeView, LoadImm, Copy, Load, StoreImm, Store, Xchg, Fence, CmpImm, CmpReg, Je, Jne, Jmp, CellView, BodyView, SignView, Atom, Const, Not, And, Or, Open, Close, EndingView}
use Rattle.litmus_reader.specs.Names.{register_name}

-- ---- white space and single tokens

abbrev pub space : Piece
space = Space 32

abbrev pub line_end : Piece
line_end = Space 10

abbrev pub word : List ℕ → Piece
word w = Part (Word w)

abbrev pub number : ℕ → Piece
number n = Part (Number n)

abbrev pub sign : Mark → Piece
sign m = Part (Sign m)

-- ---- parts in a line

-- what stands between two parts, and the next one
abbrev pub next : List Piece → List Piece → List Piece
next between ps = between ++ ps

-- parts with that between them
abbrev pub joined_by : List Piece → List (List Piece) → List Piece
joined_by between [] = []
joined_by between (ps ∷ parts) = ps ++ flat_map (next between) parts

-- ` `
abbrev pub gap : List Piece
gap = space ∷ []

-- ` | `
abbrev pub bar : List Piece
bar = space ∷ sign the.Bar ∷ space ∷ []

-- ---- places

-- a register's name, in capitals
abbrev pub register_pieces : Reg → List Piece
register_pieces r = word (register_name r) ∷ []

-- `[x]`
abbrev pub memory_pieces : List ℕ → List Piece
memory_pieces x = sign the.OpenBracket ∷ word x ∷ sign the.CloseBracket ∷ []

-- `x`; `t:REG`
abbrev pub place_pieces : PlaceView → List Piece
place_pieces (Location x) = word x ∷ []
place_pieces (Register t r) = number t ∷ sign the.Colon ∷ register_pieces r

-- `x=n`; `t:REG=n`
abbrev pub valued_pieces : PlaceView → ℕ → List Piece
valued_pieces p n = place_pieces p ++ sign the.Equals ∷ number n ∷ []

-- ---- initial values

-- ` x=n;`; ` t:REG=n;`
abbrev pub entry_pieces : EntryView → List Piece
entry_pieces e = space ∷ (valued_pieces e.place e.value ++ sign the.Semicolon ∷ [])

-- `{`, the entries, ` }`
abbrev pub initial_pieces : List EntryView → List Piece
initial_pieces es = sign the.OpenBrace ∷ (flat_map entry_pieces es ++ space ∷ sign the.CloseBrace ∷ line_end ∷ [])

-- ---- lines of columns

-- ` ;`, which ends a line of columns
abbrev pub row_end : List Piece
row_end = space ∷ sign the.Semicolon ∷ line_end ∷ []

abbrev pub line_of : List (List Piece) → List Piece
line_of columns = joined_by bar columns ++ row_end

-- `P0 | P1 | .. ;`
abbrev pub column_pieces : ℕ → List Piece
column_pieces t = word (column_name t) ∷ []

abbrev pub header_pieces : ℕ → List Piece
header_pieces threads = line_of (map column_pieces (range_with_len 0 threads))

-- ---- instructions

-- `$n`
abbrev pub immediate_pieces : ℕ → List Piece
immediate_pieces n = sign the.Dollar ∷ number n ∷ []

-- `MOV a,b` and the like
abbrev pub operation_pieces : List ℕ → List Piece → List Piece → List Piece
operation_pieces mnemonic to from = word mnemonic ∷ space ∷ (to ++ sign the.Comma ∷ from)

-- `JE NAME` and the like
abbrev pub jump_pieces : List ℕ → List ℕ → List Piece
jump_pieces mnemonic l = word mnemonic ∷ space ∷ word l ∷ []

abbrev pub code_pieces : CodeView → List Piece
code_pieces (LoadImm r n) = operation_pieces (codes "MOV") (register_pieces r) (immediate_pieces n)
code_pieces (Copy r s) = operation_pieces (codes "MOV") (register_pieces r) (register_pieces s)
code_pieces (Load r x) = operation_pieces (codes "MOV") (register_pieces r) (memory_pieces x)
code_pieces (StoreImm x n) = operation_pieces (codes "MOV") (memory_pieces x) (immediate_pieces n)
code_pieces (Store x r) = operation_pieces (codes "MOV") (memory_pieces x) (register_pieces r)
code_pieces (Xchg x r) = operation_pieces (codes "XCHG") (memory_pieces x) (register_pieces r)
code_pieces Fence = word (codes "MFENCE") ∷ []
code_pieces (CmpImm r n) = operation_pieces (codes "CMP") (register_pieces r) (immediate_pieces n)
code_pieces (CmpReg r s) = operation_pieces (codes "CMP") (register_pieces r) (register_pieces s)
code_pieces (Je l) = jump_pieces (codes "JE") l
code_pieces (Jne l) = jump_pieces (codes "JNE") l
code_pieces (Jmp l) = jump_pieces (codes "JMP") l

-- ---- rows

-- `NAME:`
abbrev pub label_pieces : List ℕ → List Piece
label_pieces l = word l ∷ sign the.Colon ∷ []

-- labels, and then an instruction or nothing, with one space between them
abbrev pub cell_pieces : CellView → List Piece
cell_pieces c = joined_by gap (map label_pieces c.labels ++ map code_pieces (option_to_list c.code))

abbrev pub row_pieces : List CellView → List Piece
row_pieces cells = line_of (map cell_pieces cells)

-- initial values, header row, rows
abbrev pub body_pieces : BodyView → List Piece
body_pieces b = initial_pieces b.entries ++ (header_pieces b.threads ++ flat_map row_pieces b.rows)

-- ---- what is observed

-- `x;`; `t:REG;`
abbrev pub observed_place_pieces : PlaceView → List Piece
observed_place_pieces p = place_pieces p ++ sign the.Semicolon ∷ []

-- `locations [`, the places with one space between them, `]`; nothing if there are no places
abbrev pub observed_pieces : List PlaceView → List Piece
observed_pieces [] = []
observed_pieces (p ∷ ps) =
    word (codes "locations") ∷ space ∷ sign the.OpenBracket ∷ (joined_by gap (map observed_place_pieces (p ∷ ps)) ++ sign the.CloseBracket ∷ line_end ∷ [])

-- ---- the condition

abbrev pub sign_pieces : SignView → List Piece
sign_pieces (Atom p n) = valued_pieces p n
sign_pieces (Const true) = word (codes "true") ∷ []
sign_pieces (Const false) = word (codes "false") ∷ []
sign_pieces Not = word (codes "not") ∷ space ∷ []
sign_pieces And = space ∷ sign the.And ∷ space ∷ []
sign_pieces Or = space ∷ sign the.Or ∷ space ∷ []
sign_pieces Open = sign the.OpenParen ∷ []
sign_pieces Close = sign the.CloseParen ∷ []

-- `exists`, `~exists` or `forall`
abbrev pub quantifier_pieces : Quantifier → List Piece
quantifier_pieces Exists = word (codes "exists") ∷ []
quantifier_pieces NotExists = sign the.Tilde ∷ word (codes "exists") ∷ []
quantifier_pieces Forall = word (codes "forall") ∷ []

-- the quantifier, and the signs of the formula
abbrev pub condition_pieces : Quantifier → List SignView → List Piece
condition_pieces q ss = quantifier_pieces q ++ space ∷ (flat_map sign_pieces ss ++ line_end ∷ [])

-- what is observed, and the condition
abbrev pub ending_pieces : EndingView → List Piece
ending_pieces e = observed_pieces e.observed ++ condition_pieces e.quantifier e.signs

-- ---- the whole

-- the lines after the first
abbrev pub lines_pieces : BodyView → EndingView → List Piece
lines_pieces b e = body_pieces b ++ ending_pieces e

-- the first line: `X86 ` and the test's name
abbrev pub heading : List ℕ → List ℕ
heading name = codes "X86 " ++ (name ++ 10 ∷ [])

-- a text of this name, with these parts
abbrev pub text_with : List ℕ → BodyView → EndingView → List ℕ
text_with name b e = heading name ++ text_of (lines_pieces b e)
