-- Tokens that the grammar relates to something are tokens each.
use Rattle.litmus_reader.proofs.Vocabulary.{◌≡◌, ℕ, ◌+◌, List, [], ◌∷◌, inl, inr, Some, None, sym, subst, Tok, Word, AreAllTokens, Tree, AreParts, column_name, NotExists, codes, true, false, Option}
use Rattle.text_tokens.specs.declared.token.Mark.{Mark}
use Rattle.text_tokens.specs.declared.token.Mark.TheVariants as the
use Rattle.conditions.specs.declared.condition.Quantifier.{Quantifier}
use Rattle.litmus_syntax.specs.Views.{PlaceView, Location, Register, EntryView, CodeView, LoadImm, Copy, Load, StoreImm, Store, Xchg, Fence, CmpImm, CmpReg, Je, Jne, Jmp, CellView, BodyView, SignView, Atom, Const, Not, EndingView}
use Rattle.litmus_syntax.specs.Grammar.{memory, IsPlace, separator, IsEntryItem, IsInitial, MoreColumns, last, column, immediate, comma, IsCode, IsLabelMark, IsContent, IsCell, IsNextCell, IsCells, IsRow, before_ending, IsRows, IsObservedItem, IsObserved, IsQuantifier, IsSign, the_end, IsEnding}
use Rattle.litmus_syntax.specs.Phrases.{Phrase, ◌▸◌, ◌or◌, mark, word, number, Items, end, item}

-- where each token after a phrase is one, each token of the phrase is one too
abbrev KeepsWhole : Phrase → Type 0
KeepsWhole p = (ts rest : List Tok) → p ts rest → AreAllTokens rest → AreAllTokens ts

nothing : {ts rest : List Tok} → ts ≡ rest → AreAllTokens rest → AreAllTokens ts
nothing e whole = subst AreAllTokens (sym e) whole

then : {p q : Phrase} → KeepsWhole p → KeepsWhole q → KeepsWhole (p ▸ q)
then keeps_p keeps_q ts rest h whole = keeps_p ts h.0 h.1 (keeps_q h.0 rest h.2 whole)

either : {p q : Phrase} → KeepsWhole p → KeepsWhole q → KeepsWhole (p or q)
either keeps_p keeps_q ts rest (inl h) whole = keeps_p ts rest h whole
either keeps_p keeps_q ts rest (inr h) whole = keeps_q ts rest h whole

items : {X : Type 0} (p : X → Phrase) (q : Phrase) → ((x : X) → KeepsWhole (p x)) → KeepsWhole q → (xs : List X) → KeepsWhole (Items p q xs)
items p q keeps_p keeps_q [] ts rest (end h) whole = keeps_q ts rest h whole
items p q keeps_p keeps_q (x ∷ xs) ts rest (item {others = us} h more) whole = keeps_p x ts us h (items p q keeps_p keeps_q xs us rest more whole)

-- ---- phrases of one token

a_word : (w : List ℕ) → KeepsWhole (word w)
a_word w ts rest e = nothing e

a_number : (n : ℕ) → KeepsWhole (number n)
a_number n ts rest e = nothing e

a_mark : (m : Mark) → KeepsWhole (mark m)
a_mark m ts rest e = nothing e

-- a word that is one of some words, as the names of a register and an instruction's mnemonic
one_of : (Is : List ℕ → Type 0) → KeepsWhole (λ ts rest. (w : List ℕ) × Is w × (ts ≡ Word w ∷ rest))
one_of Is ts rest h = nothing h.2

-- ---- the grammar's phrases

a_memory : (x : List ℕ) → KeepsWhole (memory x)
a_memory x = then (a_mark the.OpenBracket) (then (λ ts rest h. nothing h.1) (a_mark the.CloseBracket))

a_place : (p : PlaceView) → KeepsWhole (IsPlace p)
a_place (Location x) = either (λ ts rest h. nothing h.1) (a_memory x)
a_place (Register t r) = then (a_number t) (then (a_mark the.Colon) (one_of _))

valued : (p : PlaceView) (n : ℕ) → KeepsWhole (IsPlace p ▸ mark the.Equals ▸ number n)
valued p n = then (a_place p) (then (a_mark the.Equals) (a_number n))

a_separator : (m : Mark) → KeepsWhole (separator m)
a_separator m = either (a_mark the.Semicolon) (λ ts rest h. nothing h.0)

columns : (k threads : ℕ) → KeepsWhole (MoreColumns k threads)
columns k threads ts rest (last e h) whole = a_mark the.Semicolon ts rest h whole
columns k threads ts rest (column {others = us} h more) whole = then (a_mark the.Bar) (a_word (column_name k)) ts us h (columns (k + 1) threads us rest more whole)

an_immediate : (n : ℕ) → KeepsWhole (immediate n)
an_immediate n = either (then (a_mark the.Dollar) (a_number n)) (a_number n)

a_comma : KeepsWhole comma
a_comma = a_mark the.Comma

an_instruction : (c : CodeView) → KeepsWhole (IsCode c)
an_instruction (LoadImm r n) = then (one_of _) (then (one_of _) (then a_comma (an_immediate n)))
an_instruction (Copy r s) = then (one_of _) (then (one_of _) (then a_comma (one_of _)))
an_instruction (Load r x) = then (one_of _) (then (one_of _) (then a_comma (a_memory x)))
an_instruction (StoreImm x n) = then (one_of _) (then (a_memory x) (then a_comma (an_immediate n)))
an_instruction (Store x r) = then (one_of _) (then (a_memory x) (then a_comma (one_of _)))
an_instruction (Xchg x r) = then (one_of _) (either (then (a_memory x) (then a_comma (one_of _))) (then (one_of _) (then a_comma (a_memory x))))
an_instruction Fence = one_of _
an_instruction (CmpImm r n) = then (one_of _) (then (one_of _) (then a_comma (an_immediate n)))
an_instruction (CmpReg r s) = then (one_of _) (then (one_of _) (then a_comma (one_of _)))
an_instruction (Je l) = then (one_of _) (a_word l)
an_instruction (Jne l) = then (one_of _) (a_word l)
an_instruction (Jmp l) = then (one_of _) (a_word l)

a_content : (c : Option CodeView) → KeepsWhole (IsContent c)
a_content None ts rest h = nothing h.0
a_content (Some c) ts rest h = an_instruction c ts rest h.0

a_cell : (c : CellView) → KeepsWhole (IsCell c)
a_cell c = items IsLabelMark (IsContent c.code) (λ l ts rest h. then (a_word l) (a_mark the.Colon) ts rest h.1) (a_content c.code) c.labels

cells : (cs : List CellView) → KeepsWhole (IsCells cs)
cells [] ts rest h = absurd h
cells (c ∷ cs) ts rest h = then (a_cell c) (items IsNextCell (mark the.Semicolon) (λ c. then (a_mark the.Bar) (a_cell c)) (a_mark the.Semicolon) cs) ts rest h

rows : (threads : ℕ) (rs : List (List CellView)) → KeepsWhole (IsRows threads rs)
rows threads rs ts rest h = items (IsRow threads) before_ending (λ cs ts rest h. cells cs ts rest h.1) (λ ts rest h. nothing h.0) rs ts rest h.0

initial : (es : List EntryView) → KeepsWhole (IsInitial es)
initial es ts rest h =
    let entry : (e : EntryView) → KeepsWhole (IsEntryItem e) = λ e. then (valued e.place e.value) (a_separator the.CloseBrace) in
    then (a_mark the.OpenBrace) (items IsEntryItem (mark the.CloseBrace) entry (a_mark the.CloseBrace) es) ts rest h.0

-- ---- after the rows

observed : (threads : ℕ) (ps : List PlaceView) → KeepsWhole (IsObserved threads ps)
observed threads ps =
    let list = items (IsObservedItem threads) (mark the.CloseBracket) (λ p ts rest h. then (a_place p) (a_separator the.CloseBracket) ts rest h.1) (a_mark the.CloseBracket) ps in
    either (then (a_word (codes "locations")) (then (a_mark the.OpenBracket) list)) (λ ts rest h. nothing h.1.0)

quantifier : (q : Quantifier) → KeepsWhole (IsQuantifier q)
quantifier NotExists = then (a_mark the.Tilde) (a_word (codes "exists"))
quantifier q = a_word _

a_sign : (threads : ℕ) (s : SignView) → KeepsWhole (IsSign threads s)
a_sign threads (Atom p n) = λ ts rest h. valued p n ts rest h.1
a_sign threads (Const true) = a_word (codes "true")
a_sign threads (Const false) = a_word (codes "false")
a_sign threads Not = either (a_word (codes "not")) (a_mark the.Tilde)
a_sign threads s = a_mark _

ending_whole : (threads : ℕ) (e : EndingView) (ts : List Tok) → IsEnding threads e ts → AreAllTokens ts
ending_whole threads e ts h =
    let signs = items (IsSign threads) the_end (a_sign threads) (λ ts rest h whole. subst AreAllTokens (sym h.0) tt) e.signs in
    then (observed threads e.observed) (then (quantifier e.quantifier) signs) ts [] h tt

-- tokens with all their parts are tokens each
pub parts_whole : (tokens : List Tok) (body : BodyView) (ending : EndingView) (f : Tree (PlaceView × ℕ)) → AreParts tokens body ending f → AreAllTokens tokens
parts_whole tokens body ending f parts =
    then (initial body.entries) (then (then (a_word (column_name 0)) (columns 1 body.threads)) (rows body.threads body.rows)) tokens parts.others parts.begins.0 (ending_whole body.threads ending parts.others parts.ends)
