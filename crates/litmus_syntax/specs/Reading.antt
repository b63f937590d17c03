-- What each function of the reader gives.
use Rattle.std.specs.Prelude.{ℕ, Bool, true, false, List, [], ◌∷◌, codes, nat_lt, not, Option, Some, None, is_some, if◌then◌else◌}
use Rattle.std.specs.Str.{bytes_eq}
use Rattle.text_tokens.specs.declared.token.Mark.{Mark}
use Rattle.text_tokens.specs.declared.token.Mark.TheVariants as the
use Rattle.text_tokens.specs.Tokens.{Tok, Word, Number, Sign, NoToken}
use Rattle.text_tokens.specs.Steps.{◌>>=◌}
use Rattle.text_tokens.specs.Parts.{word_at, number_at, mark_at, begins_with, rest_of}
use Rattle.tso_program.specs.declared.instruction.Reg.{Reg}
use Rattle.conditions.specs.declared.condition.Quantifier.{Quantifier, TheVariants.Exists, TheVariants.NotExists, TheVariants.Forall}
use Rattle.litmus_syntax.specs.declared.fault.SyntaxFault.{SyntaxFault, TheVariants.Refused, TheVariants.OutOfMemory}
use Rattle.litmus_syntax.specs.declared.mnemonic.Mnemonic.{Mnemonic}
use Rattle.litmus_syntax.specs.declared.mnemonic.Mnemonic.TheVariants as op
use Rattle.litmus_syntax.specs.Words.{reg_of, is_label, is_name, mnemonic_of, column_name}
use Rattle.litmus_syntax.specs.Views.{PlaceView, Location, Register, EntryView, CodeView, LoadImm, Copy, Load, StoreImm, Store, Xchg, Fence, CmpImm, CmpReg, Je, Jne, Jmp, SignView, Atom, Const, Not, And, Or, Open, Close}
use Rattle.litmus_syntax.specs.Phrases.{begins_with_word}
use Rattle.litmus_syntax.specs.Grammar.{ends_cell}

-- the fault is out of memory
abbrev pub fails_for_memory : SyntaxFault → Bool
fails_for_memory OutOfMemory = true
fails_for_memory (Refused r) = false

-- ---- names and places

abbrev pub name_at : List Tok → Option (List ℕ × List Tok)
name_at ts = do
  w ← word_at ts
  if is_name w.0 then Some w else None

abbrev pub register_at : List Tok → Option (Reg × List Tok)
register_at ts = do
  w ← word_at ts
  r ← reg_of w.0
  Some (r, w.1)

unfoldable pub memory_at : List Tok → Option (List ℕ × List Tok)
memory_at ts = do
  inside ← mark_at the.OpenBracket ts
  x ← name_at inside
  rest ← mark_at the.CloseBracket x.1
  Some (x.0, rest)

unfoldable pub thread_register_at : List Tok → Option (PlaceView × List Tok)
thread_register_at ts = do
  t ← number_at ts
  rest ← mark_at the.Colon t.1
  r ← register_at rest
  Some (Register t.0 r.0, r.1)

abbrev pub as_location : List ℕ × List Tok → PlaceView × List Tok
as_location x = (Location x.0, x.1)

unfoldable pub place_at : List Tok → Option (PlaceView × List Tok)
place_at ts =
    if begins_with the.OpenBracket ts then (memory_at ts >>= λ x. Some (as_location x)) else
    if is_some (number_at ts) then thread_register_at ts else (name_at ts >>= λ x. Some (as_location x))

-- whether a thread's register comes first, and there is no such thread
abbrev pub names_missing : ℕ → List Tok → Bool
names_missing threads [] = false
names_missing threads (Word w ∷ ts) = false
names_missing threads (Number t ∷ ts) = not (nat_lt t threads)
names_missing threads (Sign m ∷ ts) = false
names_missing threads (NoToken b ∷ ts) = false

-- a place of so many threads
unfoldable pub place_among_at : ℕ → List Tok → Option (PlaceView × List Tok)
place_among_at threads ts = if names_missing threads ts then None else place_at ts

-- ---- words and marks between them

-- the tokens after this word, if it comes first
abbrev pub keyword_at : List ℕ → List Tok → Option (List Tok)
keyword_at w ts = if begins_with_word w ts then Some (rest_of ts) else None

-- the tokens after `;`, or those before the closing mark
abbrev pub separator_at : Mark → List Tok → Option (List Tok)
separator_at close ts = if begins_with close ts then Some ts else mark_at the.Semicolon ts

-- ---- initial values

-- `=` and a number
unfoldable pub equals_value_at : List Tok → Option (ℕ × List Tok)
equals_value_at ts = do
  rest ← mark_at the.Equals ts
  number_at rest

-- `=`, a number and `;`; without `;`, before `}`
unfoldable pub entry_value_at : List Tok → Option (ℕ × List Tok)
entry_value_at ts = do
  n ← equals_value_at ts
  rest ← separator_at the.CloseBrace n.1
  Some (n.0, rest)

unfoldable pub entry_at : List Tok → Option (EntryView × List Tok)
entry_at ts = do
  p ← place_at ts
  n ← entry_value_at p.1
  Some (record { place = p.0; value = n.0 }, n.1)

-- ---- the header row

unfoldable pub column_at : ℕ → List Tok → Option (List Tok)
column_at k ts = do
  w ← word_at ts
  if bytes_eq w.0 (column_name k) then Some w.1 else None

-- ---- instructions

unfoldable pub immediate_at : List Tok → Option (ℕ × List Tok)
immediate_at ts = if begins_with the.Dollar ts then (mark_at the.Dollar ts >>= λ rest. number_at rest) else number_at ts

-- what is moved into a register
unfoldable pub into_register_at : Reg → List Tok → Option (CodeView × List Tok)
into_register_at r ts =
    if begins_with the.OpenBracket ts then (memory_at ts >>= λ x. Some (Load r x.0, x.1)) else
    if is_some (word_at ts) then (register_at ts >>= λ s. Some (Copy r s.0, s.1)) else (immediate_at ts >>= λ n. Some (LoadImm r n.0, n.1))

-- what is moved into a location
unfoldable pub into_location_at : List ℕ → List Tok → Option (CodeView × List Tok)
into_location_at x ts =
    if is_some (word_at ts) then (register_at ts >>= λ r. Some (Store x r.0, r.1)) else (immediate_at ts >>= λ n. Some (StoreImm x n.0, n.1))

abbrev pub register_move_at : List Tok → Option (CodeView × List Tok)
register_move_at ts = do
  r ← register_at ts
  rest ← mark_at the.Comma r.1
  into_register_at r.0 rest

abbrev pub location_move_at : List Tok → Option (CodeView × List Tok)
location_move_at ts = do
  x ← memory_at ts
  rest ← mark_at the.Comma x.1
  into_location_at x.0 rest

-- the operands of MOV
unfoldable pub move_at : List Tok → Option (CodeView × List Tok)
move_at ts = if begins_with the.OpenBracket ts then location_move_at ts else register_move_at ts

abbrev pub location_exchange_at : List Tok → Option (CodeView × List Tok)
location_exchange_at ts = do
  x ← memory_at ts
  rest ← mark_at the.Comma x.1
  r ← register_at rest
  Some (Xchg x.0 r.0, r.1)

abbrev pub register_exchange_at : List Tok → Option (CodeView × List Tok)
register_exchange_at ts = do
  r ← register_at ts
  rest ← mark_at the.Comma r.1
  x ← memory_at rest
  Some (Xchg x.0 r.0, x.1)

-- the operands of XCHG
unfoldable pub exchange_at : List Tok → Option (CodeView × List Tok)
exchange_at ts = if begins_with the.OpenBracket ts then location_exchange_at ts else register_exchange_at ts

-- what a register is compared with
unfoldable pub compared_with_at : Reg → List Tok → Option (CodeView × List Tok)
compared_with_at r ts =
    if is_some (word_at ts) then (register_at ts >>= λ s. Some (CmpReg r s.0, s.1)) else (immediate_at ts >>= λ n. Some (CmpImm r n.0, n.1))

-- the operands of CMP
unfoldable pub compare_at : List Tok → Option (CodeView × List Tok)
compare_at ts = do
  r ← register_at ts
  rest ← mark_at the.Comma r.1
  compared_with_at r.0 rest

abbrev pub operands_at : Mnemonic → List Tok → Option (CodeView × List Tok)
operands_at op.Mov ts = move_at ts
operands_at op.Xchg ts = exchange_at ts
operands_at op.Mfence ts = Some (Fence, ts)
operands_at op.Cmp ts = compare_at ts
operands_at op.Je ts = word_at ts >>= λ l. Some (Je l.0, l.1)
operands_at op.Jne ts = word_at ts >>= λ l. Some (Jne l.0, l.1)
operands_at op.Jmp ts = word_at ts >>= λ l. Some (Jmp l.0, l.1)

unfoldable pub code_at : List Tok → Option (CodeView × List Tok)
code_at ts = do
  w ← word_at ts
  m ← mnemonic_of w.0
  operands_at m w.1

-- ---- cells

-- whether a word and `:` come first
abbrev pub begins_label : List Tok → Bool
begins_label [] = false
begins_label (Word w ∷ ts) = begins_with the.Colon ts
begins_label (Number n ∷ ts) = false
begins_label (Sign m ∷ ts) = false
begins_label (NoToken b ∷ ts) = false

unfoldable pub label_tokens_at : List Tok → Option (List ℕ × List Tok)
label_tokens_at ts = do
  w ← word_at ts
  if is_label w.0 then (mark_at the.Colon w.1 >>= λ rest. Some (w.0, rest)) else None

unfoldable pub content_at : List Tok → Option (Option CodeView × List Tok)
content_at ts =
    if ends_cell ts then Some (None, ts) else
    (code_at ts >>= λ c. if ends_cell c.1 then Some (Some c.0, c.1) else None)

-- ---- what is observed

-- `locations [`
unfoldable pub observed_begin_at : List Tok → Option (List Tok)
observed_begin_at ts = do
  rest ← keyword_at (codes "locations") ts
  mark_at the.OpenBracket rest

-- a place and `;`; without `;`, before `]`
unfoldable pub observed_item_at : ℕ → List Tok → Option (PlaceView × List Tok)
observed_item_at threads ts = do
  p ← place_among_at threads ts
  rest ← separator_at the.CloseBracket p.1
  Some (p.0, rest)

-- ---- the condition

abbrev pub not_exists_at : List Tok → Option (Quantifier × List Tok)
not_exists_at ts = do
  rest ← mark_at the.Tilde ts
  others ← keyword_at (codes "exists") rest
  Some (NotExists, others)

abbrev pub forall_at : List Tok → Option (Quantifier × List Tok)
forall_at ts = do
  rest ← keyword_at (codes "forall") ts
  Some (Forall, rest)

abbrev pub exists_at : List Tok → Option (Quantifier × List Tok)
exists_at ts = do
  rest ← keyword_at (codes "exists") ts
  Some (Exists, rest)

unfoldable pub quantifier_at : List Tok → Option (Quantifier × List Tok)
quantifier_at ts =
    if begins_with the.Tilde ts then not_exists_at ts else
    if begins_with_word (codes "forall") ts then forall_at ts else exists_at ts

-- the sign that is this word
unfoldable pub word_sign : List ℕ → Option SignView
word_sign w =
    if bytes_eq w (codes "true") then Some (Const true) else
    if bytes_eq w (codes "false") then Some (Const false) else
    if bytes_eq w (codes "not") then Some Not else None

-- the sign that is this mark
abbrev pub mark_sign : Mark → Option SignView
mark_sign the.Tilde = Some Not
mark_sign the.And = Some And
mark_sign the.Or = Some Or
mark_sign the.OpenParen = Some Open
mark_sign the.CloseParen = Some Close
mark_sign _ = None

-- a sign that is one token
abbrev pub short_sign_at : List Tok → Option (SignView × List Tok)
short_sign_at [] = None
short_sign_at (Word w ∷ ts) = word_sign w >>= λ s. Some (s, ts)
short_sign_at (Number n ∷ ts) = None
short_sign_at (Sign m ∷ ts) = mark_sign m >>= λ s. Some (s, ts)
short_sign_at (NoToken b ∷ ts) = None

unfoldable pub atom_at : ℕ → List Tok → Option (SignView × List Tok)
atom_at threads ts = do
  p ← place_among_at threads ts
  n ← equals_value_at p.1
  Some (Atom p.0 n.0, n.1)

unfoldable pub sign_at : ℕ → List Tok → Option (SignView × List Tok)
sign_at threads ts = if is_some (short_sign_at ts) then short_sign_at ts else atom_at threads ts
