-- What the tokens of a text say can be printed.
use Rattle.litmus_text.proofs.Vocabulary.{◌≡◌, ℕ, ◌+◌, true, false, List, [], ◌∷◌, map, codes, Option, Some, None, inl, inr, sym, subst, AllByRecursion, Mark, Tok, Word, Number, Sign, NoToken, Reg, Quantifier, NotExists, column_name, PlaceView, Location}
use Rattle.litmus_text.proofs.Vocabulary.{Register, EntryView, CodeView, LoadImm, Copy, Load, StoreImm, Store, Xchg, Fence, CmpImm, CmpReg, Je, Jne, Jmp, CellView, BodyView, SignView, Atom, Const, Not, EndingView, ◌▸◌, mark, number, Items, end, item}
use Rattle.litmus_text.proofs.Vocabulary.{IsTextNumber, IsLocationName, IsLabelName, IsPrintablePlace, IsPrintableEntry, IsPrintableCode, IsPrintableContent, IsPrintableCell, IsPrintableRow, IsPrintableSign, recursion_from_All, Phrase, ◌or◌, word, IsWord}
use Rattle.litmus_text.proofs.Vocabulary.{BeginsWith, BeginsWithAll, none, white_space, comment, token}
use Rattle.text_tokens.specs.declared.token.Mark.TheVariants as the
use Rattle.litmus_syntax.specs.Grammar.{register, name, memory, IsPlace, separator, IsEntryItem, NoneTwice, labels_in_rows, place_of_entry, HasThread, MoreColumns, last, column, immediate, comma, IsCode, IsLabelMark, IsContent, IsCell, IsNextCell, IsRow, before_ending, IsBody, IsObservedItem, IsObserved, IsQuantifier, IsSign, the_end, IsEnding}

-- a token as texts have them
abbrev pub IsGood : Tok → Type 0
IsGood (Word w) = IsWord w
IsGood (Number n) = IsTextNumber n
IsGood (Sign m) = Unit {0}
IsGood (NoToken b) = ⊥

abbrev pub AreGood : List Tok → Type 0
AreGood ts = AllByRecursion IsGood ts

good_token : (t : Tok) (text rest : List ℕ) → BeginsWith t text rest → IsGood t
good_token (Word w) text rest h = h.1
good_token (Number n) text rest h = h.4
good_token (Sign m) text rest h = tt
good_token (NoToken b) text rest h = h

-- the tokens of a text
pub lexed_good : (ts : List Tok) (text rest : List ℕ) → BeginsWithAll ts text rest → AreGood ts
lexed_good [] text rest none = tt
lexed_good ts text rest (white_space {text = more} h all) = lexed_good ts more rest all
lexed_good ts text rest (comment {others = others} h all) = lexed_good ts others rest all
lexed_good (t ∷ ts) text rest (token {others = others} h all) = (good_token t text others h, lexed_good ts others rest all)

-- ---- one token

-- where tokens of texts begin with the phrase, they say this much, and what follows it is of texts too
abbrev pub Says : Type 0 → Phrase → Type 0
Says A p = (ts rest : List Tok) → p ts rest → AreGood ts → A × AreGood rest

after_word : (w : List ℕ) → Says (IsWord w) (word w)
after_word w ts rest e good = let h : AreGood (Word w ∷ rest) = subst AreGood e good in (h.0, h.1)

after_number : (n : ℕ) → Says (IsTextNumber n) (number n)
after_number n ts rest e good = let h : AreGood (Number n ∷ rest) = subst AreGood e good in (h.0, h.1)

after_mark : (m : Mark) → Says (Unit {0}) (mark m)
after_mark m ts rest e good = let h : AreGood (Sign m ∷ rest) = subst AreGood e good in h

-- what two phrases say, one after the other
both : {A B : Type 0} {p q : Phrase} → Says A p → Says B q → Says (A × B) (p ▸ q)
both one two ts rest (us, h, k) good =
    let first = one ts us h good in
    let second = two us rest k first.1 in
    ((first.0, second.0), second.1)

-- what the second of them says
skip : {A B : Type 0} {p q : Phrase} → Says A p → Says B q → Says B (p ▸ q)
skip one two ts rest h good = let all = both one two ts rest h good in (all.0.1, all.1)

-- what the first of them says
keep : {A B : Type 0} {p q : Phrase} → Says A p → Says B q → Says A (p ▸ q)
keep one two ts rest h good = let all = both one two ts rest h good in (all.0.0, all.1)

either : {A : Type 0} {p q : Phrase} → Says A p → Says A q → Says A (p or q)
either one two ts rest (inl h) good = one ts rest h good
either one two ts rest (inr h) good = two ts rest h good

-- items that each say what can be printed, and then an end that says something too
after_items : {X B : Type 0} (p : X → Phrase) (q : Phrase) (P : X → Type 0) → ((x : X) → Says (P x) (p x)) → Says B q → (xs : List X) → Says (AllByRecursion P xs × B) (Items p q xs)
after_items p q P each ends [] ts rest (end h) good = let last' = ends ts rest h good in ((tt, last'.0), last'.1)
after_items p q P each ends (x ∷ xs) ts rest (item {others = us} h more) good =
    let first = each x ts us h good in
    let second = after_items p q P each ends xs us rest more first.1 in
    (((first.0, second.0.0), second.0.1), second.1)

after_all : {X B : Type 0} (p : X → Phrase) (q : Phrase) (P : X → Type 0) → ((x : X) → Says (P x) (p x)) → Says B q → (xs : List X) → Says (AllByRecursion P xs) (Items p q xs)
after_all p q P each ends xs ts rest h good = let all = after_items p q P each ends xs ts rest h good in (all.0.0, all.1)

-- ---- places and values

-- a word that is one of some words, as the names of a register and an instruction's mnemonic
one_of : (Is : List ℕ → Type 0) → Says (Unit {0}) (λ ts rest. (w : List ℕ) × Is w × (ts ≡ Word w ∷ rest))
one_of Is ts rest h good = (tt, (after_word h.0 ts rest h.2 good).1)

after_register : (r : Reg) → Says (Unit {0}) (register r)
after_register r = one_of _

after_name : (x : List ℕ) → Says (IsLocationName x) (name x)
after_name x ts rest h good = let w = after_word x ts rest h.1 good in ((w.0, h.0), w.1)

after_memory : (x : List ℕ) → Says (IsLocationName x) (memory x)
after_memory x = skip (after_mark the.OpenBracket) (keep (after_name x) (after_mark the.CloseBracket))

after_place : (threads : ℕ) (p : PlaceView) → HasThread threads p → Says (IsPrintablePlace threads p) (IsPlace p)
after_place threads (Location x) there = either (after_name x) (after_memory x)
after_place threads (Register t r) there = λ ts rest h good. (there, (skip (after_number t) (skip (after_mark the.Colon) (after_register r)) ts rest h good).1)

after_valued : (threads : ℕ) (p : PlaceView) (n : ℕ) → HasThread threads p → Says (IsPrintablePlace threads p × IsTextNumber n) (IsPlace p ▸ mark the.Equals ▸ number n)
after_valued threads p n there = both (after_place threads p there) (skip (after_mark the.Equals) (after_number n))

-- ---- initial values

after_separator : (close : Mark) → Says (Unit {0}) (separator close)
after_separator close = either (after_mark the.Semicolon) (λ ts rest here good. (tt, subst AreGood here.0 good))

after_entries : (threads : ℕ) (es : List EntryView) → AllByRecursion (HasThread threads) (map place_of_entry es) → Says (AllByRecursion (IsPrintableEntry threads) es) (Items IsEntryItem (mark the.CloseBrace) es)
after_entries threads [] there ts rest (end h) good = after_mark the.CloseBrace ts rest h good
after_entries threads (e ∷ es) there ts rest (item {others = us} h more) good =
    let first = keep (after_valued threads e.place e.value there.0) (after_separator the.CloseBrace) ts us h good in
    let second = after_entries threads es there.1 us rest more first.1 in
    ((first.0, second.0), second.1)

-- ---- the header row

after_columns : (k threads : ℕ) → Says (Unit {0}) (MoreColumns k threads)
after_columns k threads ts rest (last e h) good = after_mark the.Semicolon ts rest h good
after_columns k threads ts rest (column {others = us} h more) good =
    after_columns (k + 1) threads us rest more (skip (after_mark the.Bar) (after_word (column_name k)) ts us h good).1

-- ---- rows

after_immediate : (n : ℕ) → Says (IsTextNumber n) (immediate n)
after_immediate n = either (skip (after_mark the.Dollar) (after_number n)) (after_number n)

after_comma : Says (Unit {0}) comma
after_comma = after_mark the.Comma

after_code : (c : CodeView) → Says (IsPrintableCode c) (IsCode c)
after_code (LoadImm r n) = skip (one_of _) (skip (after_register r) (skip after_comma (after_immediate n)))
after_code (Copy r s) = skip (one_of _) (skip (after_register r) (skip after_comma (after_register s)))
after_code (Load r x) = skip (one_of _) (skip (after_register r) (skip after_comma (after_memory x)))
after_code (StoreImm x n) = skip (one_of _) (both (after_memory x) (skip after_comma (after_immediate n)))
after_code (Store x r) = skip (one_of _) (keep (after_memory x) (skip after_comma (after_register r)))
after_code (Xchg x r) = skip (one_of _) (either (keep (after_memory x) (skip after_comma (after_register r))) (skip (after_register r) (skip after_comma (after_memory x))))
after_code Fence = one_of _
after_code (CmpImm r n) = skip (one_of _) (skip (after_register r) (skip after_comma (after_immediate n)))
after_code (CmpReg r s) = skip (one_of _) (skip (after_register r) (skip after_comma (after_register s)))
after_code (Je l) = skip (one_of _) (after_word l)
after_code (Jne l) = skip (one_of _) (after_word l)
after_code (Jmp l) = skip (one_of _) (after_word l)

after_content : (c : Option CodeView) → Says (IsPrintableContent c) (IsContent c)
after_content None ts rest h good = (tt, subst AreGood h.0 good)
after_content (Some c) ts rest h good = after_code c ts rest h.0 good

after_cell : (c : CellView) → Says (IsPrintableCell c) (IsCell c)
after_cell c =
    let label : (l : List ℕ) → Says (IsLabelName l) (IsLabelMark l) = λ l ts rest h good. let first = keep (after_word l) (after_mark the.Colon) ts rest h.1 good in ((first.0, h.0), first.1) in
    after_items IsLabelMark (IsContent c.code) IsLabelName label (after_content c.code) c.labels

after_row : (threads : ℕ) (cells : List CellView) → Says (IsPrintableRow threads cells) (IsRow threads cells)
after_row threads [] ts rest h good = absurd h.1
after_row threads (c ∷ cs) ts rest h good =
    let all = both (after_cell c) (after_all IsNextCell (mark the.Semicolon) IsPrintableCell (λ d. skip (after_mark the.Bar) (after_cell d)) (after_mark the.Semicolon) cs) ts rest h.1 good in
    ((h.0, all.0), all.1)

-- ---- the whole

-- what stands before the ending can be printed, and no label stands twice in its thread
pub after_body : (b : BodyView)
    → Says ((AllByRecursion (IsPrintableEntry b.threads) b.entries × AllByRecursion (IsPrintableRow b.threads) b.rows) × NoneTwice (labels_in_rows b.rows)) (IsBody b)
after_body b ts rest ((us, initial, (vs, header, rows)), there) good =
    let entries = after_entries b.threads b.entries (recursion_from_All (HasThread b.threads) (map place_of_entry b.entries) there) in
    let first = skip (after_mark the.OpenBrace) entries ts us initial.0 good in
    let second = after_all (IsRow b.threads) before_ending (IsPrintableRow b.threads) (after_row b.threads) (λ ts rest h good. (tt {0}, subst AreGood h.0 good)) b.rows vs rest rows.0 (skip (after_word (column_name 0)) (after_columns 1 b.threads) us vs header first.1).1 in
    (((first.0, second.0), rows.1), second.1)

-- ---- the ending

after_observed : (threads : ℕ) (ps : List PlaceView) → Says (AllByRecursion (IsPrintablePlace threads) ps) (IsObserved threads ps)
after_observed threads ps =
    let places = after_all (IsObservedItem threads) (mark the.CloseBracket) (IsPrintablePlace threads) (λ p ts rest h. keep (after_place threads p h.0) (after_separator the.CloseBracket) ts rest h.1) (after_mark the.CloseBracket) ps in
    either (skip (after_word (codes "locations")) (skip (after_mark the.OpenBracket) places))
    (λ ts rest h good. (subst (λ (qs : List PlaceView). AllByRecursion (IsPrintablePlace threads) qs) (sym h.0) tt, subst AreGood h.1.0 good))

any_word : (w : List ℕ) → Says (Unit {0}) (word w)
any_word w ts rest h good = (tt, (after_word w ts rest h good).1)

after_quantifier : (q : Quantifier) → Says (Unit {0}) (IsQuantifier q)
after_quantifier NotExists = skip (after_mark the.Tilde) (any_word (codes "exists"))
after_quantifier q = any_word _

after_sign : (threads : ℕ) (s : SignView) → Says (IsPrintableSign threads s) (IsSign threads s)
after_sign threads (Atom p n) = λ ts rest h. after_valued threads p n h.0 ts rest h.1
after_sign threads Not = either (any_word (codes "not")) (after_mark the.Tilde)
after_sign threads (Const true) = any_word (codes "true")
after_sign threads (Const false) = any_word (codes "false")
after_sign threads s = after_mark _

-- so can what is observed, and the signs of the condition
pub after_ending : (threads : ℕ) (e : EndingView) (ts : List Tok) → IsEnding threads e ts → AreGood ts → AllByRecursion (IsPrintablePlace threads) e.observed × AllByRecursion (IsPrintableSign threads) e.signs
after_ending threads e ts h good =
    let signs = after_all (IsSign threads) the_end (IsPrintableSign threads) (after_sign threads) (λ ts rest h good. (tt {0}, subst AreGood (sym h.1) tt)) e.signs in
    (both (after_observed threads e.observed) (skip (after_quantifier e.quantifier) signs) ts [] h good).0
