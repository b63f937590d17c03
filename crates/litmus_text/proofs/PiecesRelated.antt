-- The tokens of printed parts are related to those parts by the grammar.
use Rattle.litmus_text.proofs.Vocabulary.{◌≡◌, ℕ, ◌+◌, ◌<◌, zero, suc, true, false, List, [], ◌∷◌, ◌++◌, map, codes, Option, Some, None, inl, inr, refl, sym, ap, ◌∙◌, subst, arith, append_assoc, flat_map-map, option_to_list, append-nil, AllByRecursion}
use Rattle.litmus_text.proofs.Vocabulary.{flat_map, range_with_len, Tok, Sign, Piece, tokens_of, Quantifier, Exists, NotExists, PlaceView, Location, Register, EntryView, CodeView, LoadImm, Copy, Load, StoreImm, Store, Xchg, Fence, CmpImm, CmpReg, Je, Jne}
use Rattle.litmus_text.proofs.Vocabulary.{Jmp, CellView, BodyView, SignView, Atom, Const, Not, EndingView, register_name, IsLabelName, IsPrintablePlace, IsPrintableEntry, IsPrintableCode, IsPrintableContent, IsPrintableCell, IsPrintableRow, IsPrintable}
use Rattle.litmus_text.proofs.Vocabulary.{IsPrintableSign, ArePrintable, IsPrintableEnding, All-from_recursion, mnemonic_of, opens_condition, Phrase, ◌▸◌, mark, number, begins_with_word, Items, end, item, space, line_end, sign, next, joined_by, bar, gap}
use Rattle.litmus_text.proofs.Vocabulary.{place_pieces, valued_pieces, entry_pieces, initial_pieces, row_end, column_pieces, header_pieces, code_pieces, label_pieces, cell_pieces, row_pieces, observed_place_pieces, observed_pieces, sign_pieces}
use Rattle.litmus_text.proofs.Vocabulary.{condition_pieces, ending_pieces, lines_pieces}
use Rattle.text_tokens.specs.declared.token.Mark.TheVariants as the
use Rattle.litmus_syntax.specs.Grammar.{IsPlace, IsEntryItem, NoneTwice, place_of_entry, IsInitial, HasThread, MoreColumns, last, column, IsHeader, IsCode, IsLabelMark, IsContent, ends_cell, IsCell, IsNextCell, IsRow, ends_rows, before_ending, IsRows, IsBody, IsObservedItem, IsObserved, IsQuantifier, IsSign, the_end, IsSigns, IsEnding}
use Rattle.litmus_text.proofs.{Lists.all_mapped, WordsWritten.register_named}

-- items one after another
items_related : {X : Type 0} (f : X → List Piece) (Item : X → Phrase) (End : Phrase) (P : X → Type 0)
    → ((x : X) (ps : List Piece) → P x → Item x (tokens_of (f x ++ ps)) (tokens_of ps))
    → (xs : List X) → AllByRecursion P xs → (ps : List Piece) (rest : List Tok) → End (tokens_of ps) rest
    → Items Item End xs (tokens_of (flat_map f xs ++ ps)) rest
items_related f Item End P each [] h ps rest e = end e
items_related f Item End P each (x ∷ xs) h ps rest e =
    rw (append_assoc (f x) (flat_map f xs) ps) (item (each x (flat_map f xs ++ ps) h.0) (items_related f Item End P each xs h.1 ps rest e))

-- spaces say nothing
joined_tokens : (parts : List (List Piece)) (ps : List Piece) → tokens_of (joined_by gap parts ++ ps) ≡ tokens_of (flat_map (next gap) parts ++ ps)
joined_tokens [] ps = refl
joined_tokens (qs ∷ parts) ps = refl

-- items with a space between them
joined_related : {X : Type 0} (f : X → List Piece) (Item : X → Phrase) (End : Phrase) (P : X → Type 0)
    → ((x : X) (ps : List Piece) → P x → Item x (tokens_of (f x ++ ps)) (tokens_of ps))
    → (xs : List X) → AllByRecursion P xs → (ps : List Piece) (rest : List Tok) → End (tokens_of ps) rest
    → Items Item End xs (tokens_of (joined_by gap (map f xs) ++ ps)) rest
joined_related f Item End P each xs h ps rest e =
    subst (λ (ts : List Tok). Items Item End xs ts rest) (sym (joined_tokens (map f xs) ps ∙ ap (λ (qs : List Piece). tokens_of (qs ++ ps)) (flat_map-map (next gap) f xs)))
    (items_related (λ x. next gap (f x)) Item End P each xs h ps rest e)

-- ---- places and entries

place_related : (threads : ℕ) (p : PlaceView) (ps : List Piece) → IsPrintablePlace threads p → IsPlace p (tokens_of (place_pieces p ++ ps)) (tokens_of ps)
place_related threads (Location x) ps h = inl (h.1, refl)
place_related threads (Register t r) ps h = (_, refl, (_, refl, (register_name r, register_named r, refl)))

-- a place, `=` and a number
valued_related : (threads : ℕ) (p : PlaceView) (n : ℕ) (ps : List Piece) → IsPrintablePlace threads p
    → (IsPlace p ▸ mark the.Equals ▸ number n) (tokens_of (valued_pieces p n ++ ps)) (tokens_of ps)
valued_related threads (Location x) n ps h = (_, inl (h.1, refl), (_, refl, refl))
valued_related threads (Register t r) n ps h = (_, (_, refl, (_, refl, (register_name r, register_named r, refl))), (_, refl, refl))

entry_related : (threads : ℕ) (e : EntryView) (ps : List Piece) → IsPrintableEntry threads e → IsEntryItem e (tokens_of (entry_pieces e ++ ps)) (tokens_of ps)
entry_related threads e ps h =
    rw (append_assoc (valued_pieces e.place e.value) (sign the.Semicolon ∷ []) ps)
    (Sign the.Semicolon ∷ tokens_of ps, valued_related threads e.place e.value (sign the.Semicolon ∷ ps) h.0, inl refl)

initial_related : (threads : ℕ) (es : List EntryView) (ps : List Piece) → AllByRecursion (IsPrintableEntry threads) es → NoneTwice (map place_of_entry es)
    → IsInitial es (tokens_of (initial_pieces es ++ ps)) (tokens_of ps)
initial_related threads es ps h once =
    let tail : List Piece = space ∷ sign the.CloseBrace ∷ line_end ∷ [] in
    rw (append_assoc (flat_map entry_pieces es) tail ps)
    ((_, refl, items_related entry_pieces IsEntryItem (mark the.CloseBrace) (IsPrintableEntry threads) (entry_related threads) es h (tail ++ ps) (tokens_of ps) refl), once)

has_thread : (threads : ℕ) (p : PlaceView) → IsPrintablePlace threads p → HasThread threads p
has_thread threads (Location x) h = tt
has_thread threads (Register t r) h = h

-- ---- the header row

columns_related : (k n threads : ℕ) → k + n ≡ threads → (ps : List Piece)
    → MoreColumns k threads (tokens_of ((flat_map (next bar) (map column_pieces (range_with_len k n)) ++ row_end) ++ ps)) (tokens_of ps)
columns_related k zero threads e ps = let all : k ≡ threads = omega (arith, e) in last all refl
columns_related k (suc n) threads e ps = let more : (k + 1) + n ≡ threads = omega (arith, e) in column (_, refl, refl) (columns_related (k + 1) n threads more ps)

header_related : (threads : ℕ) → 0 < threads → (ps : List Piece) → IsHeader threads (tokens_of (header_pieces threads ++ ps)) (tokens_of ps)
header_related zero h ps = absurd (omega (arith, h))
header_related (suc n) h ps = let all : 1 + n ≡ suc n = omega arith in (_, refl, columns_related 1 n (suc n) all ps)

-- ---- rows

code_related : (c : CodeView) (ps : List Piece) → IsPrintableCode c → IsCode c (tokens_of (code_pieces c ++ ps)) (tokens_of ps)
unfolding mnemonic_of
code_related (LoadImm r n) ps h = (_, (codes "MOV", refl, refl), (_, (register_name r, register_named r, refl), (_, refl, inl (_, refl, refl))))
code_related (Copy r s) ps h = (_, (codes "MOV", refl, refl), (_, (register_name r, register_named r, refl), (_, refl, (register_name s, register_named s, refl))))
code_related (Load r x) ps h = (_, (codes "MOV", refl, refl), (_, (register_name r, register_named r, refl), (_, refl, (_, refl, (_, (h.1, refl), refl)))))
code_related (StoreImm x n) ps h = (_, (codes "MOV", refl, refl), (_, (_, refl, (_, (h.0.1, refl), refl)), (_, refl, inl (_, refl, refl))))
code_related (Store x r) ps h = (_, (codes "MOV", refl, refl), (_, (_, refl, (_, (h.1, refl), refl)), (_, refl, (register_name r, register_named r, refl))))
code_related (Xchg x r) ps h = (_, (codes "XCHG", refl, refl), inl (_, (_, refl, (_, (h.1, refl), refl)), (_, refl, (register_name r, register_named r, refl))))
code_related Fence ps h = (codes "MFENCE", refl, refl)
code_related (CmpImm r n) ps h = (_, (codes "CMP", refl, refl), (_, (register_name r, register_named r, refl), (_, refl, inl (_, refl, refl))))
code_related (CmpReg r s) ps h = (_, (codes "CMP", refl, refl), (_, (register_name r, register_named r, refl), (_, refl, (register_name s, register_named s, refl))))
code_related (Je l) ps h = (_, (codes "JE", refl, refl), refl)
code_related (Jne l) ps h = (_, (codes "JNE", refl, refl), refl)
code_related (Jmp l) ps h = (_, (codes "JMP", refl, refl), refl)

-- further labels, and then an instruction or nothing
labelled_related : (ls : List (List ℕ)) (c : Option CodeView) (ps : List Piece) → AllByRecursion IsLabelName ls → IsPrintableContent c → ends_cell (tokens_of ps) ≡ true
    → Items IsLabelMark (IsContent c) ls (tokens_of (flat_map (next gap) (map label_pieces ls ++ map code_pieces (option_to_list c)) ++ ps)) (tokens_of ps)
labelled_related [] None ps h g e = end (refl, e)
labelled_related [] (Some c) ps h g e = rw (append-nil (code_pieces c)) (end (code_related c ps g, e))
labelled_related (l ∷ ls) c ps h g e = item (h.0.1, (_, refl, refl)) (labelled_related ls c ps h.1 g e)

cell_related : (c : CellView) (ps : List Piece) → IsPrintableCell c → ends_cell (tokens_of ps) ≡ true → IsCell c (tokens_of (cell_pieces c ++ ps)) (tokens_of ps)
cell_related c ps h e =
    subst (λ (ts : List Tok). Items IsLabelMark (IsContent c.code) c.labels ts (tokens_of ps)) (sym (joined_tokens (map label_pieces c.labels ++ map code_pieces (option_to_list c.code)) ps))
    (labelled_related c.labels c.code ps h.0 h.1 e)

-- after a cell comes `|` or `;`
cells_end : (cs : List CellView) (ps : List Piece) → ends_cell (tokens_of (flat_map (next bar) (map cell_pieces cs) ++ (row_end ++ ps))) ≡ true
cells_end [] ps = refl
cells_end (c ∷ cs) ps = refl

cells_related : (cs : List CellView) (ps : List Piece) → AllByRecursion IsPrintableCell cs
    → Items IsNextCell (mark the.Semicolon) cs (tokens_of (flat_map (next bar) (map cell_pieces cs) ++ (row_end ++ ps))) (tokens_of ps)
cells_related [] ps h = end refl
cells_related (c ∷ cs) ps h =
    let more : List Piece = flat_map (next bar) (map cell_pieces cs) in
    rw (append_assoc (cell_pieces c) more (row_end ++ ps))
    (item (_, refl, cell_related c (more ++ (row_end ++ ps)) h.0 (cells_end cs ps)) (cells_related cs ps h.1))

row_related : (threads : ℕ) → 0 < threads → (cells : List CellView) (ps : List Piece) → IsPrintableRow threads cells → IsRow threads cells (tokens_of (row_pieces cells ++ ps)) (tokens_of ps)
row_related threads some [] ps h = absurd (omega (arith, some, h.0))
row_related threads some (c ∷ cs) ps h =
    let more : List Piece = flat_map (next bar) (map cell_pieces cs) in (
      h.0,
      rw (append_assoc (cell_pieces c ++ more) row_end ps, append_assoc (cell_pieces c) more (row_end ++ ps))
          (_, cell_related c (more ++ (row_end ++ ps)) h.1.0 (cells_end cs ps), cells_related cs ps h.1.1),
    )

-- ---- what is observed

observed_item_related : (threads : ℕ) (p : PlaceView) (ps : List Piece) → IsPrintablePlace threads p → IsObservedItem threads p (tokens_of (observed_place_pieces p ++ ps)) (tokens_of ps)
observed_item_related threads p ps h =
    (has_thread threads p h, rw (append_assoc (place_pieces p) (sign the.Semicolon ∷ []) ps) (Sign the.Semicolon ∷ tokens_of ps, place_related threads p (sign the.Semicolon ∷ ps) h, inl refl))

no_locations : (q : Quantifier) (ss : List SignView) → begins_with_word (codes "locations") (tokens_of (condition_pieces q ss)) ≡ false
no_locations Exists ss = refl
no_locations q ss = refl

observed_related : (threads : ℕ) (places : List PlaceView) (q : Quantifier) (ss : List SignView) → AllByRecursion (IsPrintablePlace threads) places
    → IsObserved threads places (tokens_of (observed_pieces places ++ condition_pieces q ss)) (tokens_of (condition_pieces q ss))
observed_related threads [] q ss h = inr (refl, (refl, no_locations q ss))
observed_related threads (p ∷ places) q ss h =
    let tail : List Piece = sign the.CloseBracket ∷ line_end ∷ [] in
    let condition : List Piece = condition_pieces q ss in
    inl (
      _,
      refl,
      (
        _,
        refl,
        rw (append_assoc (joined_by gap (map observed_place_pieces (p ∷ places))) tail condition)
            (joined_related observed_place_pieces (IsObservedItem threads) (mark the.CloseBracket) (IsPrintablePlace threads) (observed_item_related threads) (p ∷ places) h (tail ++ condition) (tokens_of condition) refl),
      ),
    )

-- ---- the condition

sign_related : (threads : ℕ) (s : SignView) (ps : List Piece) → IsPrintableSign threads s → IsSign threads s (tokens_of (sign_pieces s ++ ps)) (tokens_of ps)
sign_related threads (Atom p n) ps h = (has_thread threads p h.0, valued_related threads p n ps h.0)
sign_related threads Not ps h = inl refl
sign_related threads (Const true) ps h = refl
sign_related threads s ps h = refl

signs_related : (threads : ℕ) (ss : List SignView) → ArePrintable threads ss → IsSigns threads ss (tokens_of (flat_map sign_pieces ss ++ line_end ∷ [])) []
signs_related threads ss h = items_related sign_pieces (IsSign threads) the_end (IsPrintableSign threads) (sign_related threads) ss h.0 (line_end ∷ []) [] (refl, refl)

condition_related : (threads : ℕ) (q : Quantifier) (ss : List SignView) → ArePrintable threads ss → (IsQuantifier q ▸ IsSigns threads ss) (tokens_of (condition_pieces q ss)) []
condition_related threads NotExists ss h = (_, (_, refl, refl), signs_related threads ss h)
condition_related threads q ss h = (_, refl, signs_related threads ss h)

pub ending_related : (threads : ℕ) (e : EndingView) → IsPrintableEnding threads e → IsEnding threads e (tokens_of (ending_pieces e))
ending_related threads e h =
    (tokens_of (condition_pieces e.quantifier e.signs), observed_related threads e.observed e.quantifier e.signs h.observed, condition_related threads e.quantifier e.signs h.signs)

-- ---- the whole

ending_opens : (places : List PlaceView) (q : Quantifier) (ss : List SignView) → ends_rows (tokens_of (observed_pieces places ++ condition_pieces q ss)) ≡ true
unfolding opens_condition
ending_opens [] Exists ss = refl
ending_opens [] q ss = refl
ending_opens (p ∷ places) q ss = refl

rows_related : (b : BodyView) (e : EndingView) → IsPrintable b → IsRows b.threads b.rows (tokens_of (flat_map row_pieces b.rows ++ ending_pieces e)) (tokens_of (ending_pieces e))
rows_related b e h = (
  items_related row_pieces (IsRow b.threads) before_ending (IsPrintableRow b.threads) (row_related b.threads h.some_thread) b.rows h.rows (ending_pieces e) (tokens_of (ending_pieces e))
      (refl, ending_opens e.observed e.quantifier e.signs),
  h.labels_once,
)

pub body_related : (b : BodyView) (e : EndingView) → IsPrintable b → IsBody b (tokens_of (lines_pieces b e)) (tokens_of (ending_pieces e))
body_related b e h =
    let ending : List Piece = ending_pieces e in
    let rows : List Piece = flat_map row_pieces b.rows in
    let header : List Piece = header_pieces b.threads in
    let initial : List Piece = initial_pieces b.entries in
    let same : initial ++ (header ++ (rows ++ ending)) ≡ (initial ++ (header ++ rows)) ++ ending =
    ap (λ (ps : List Piece). initial ++ ps) (sym (append_assoc header rows ending)) ∙ sym (append_assoc initial (header ++ rows) ending) in
    let parts : List Piece → Type 0 = λ ps. (IsInitial b.entries ▸ IsHeader b.threads ▸ IsRows b.threads b.rows) (tokens_of ps) (tokens_of ending) in
    let related : parts (initial ++ (header ++ (rows ++ ending))) = (
      tokens_of (header ++ (rows ++ ending)),
      initial_related b.threads b.entries (header ++ (rows ++ ending)) h.entries h.none_twice,
      (tokens_of (rows ++ ending), header_related b.threads h.some_thread (rows ++ ending), rows_related b e h),
    ) in
    (subst parts same related, All-from_recursion (HasThread b.threads) (map place_of_entry b.entries) (all_mapped (IsPrintableEntry b.threads) (HasThread b.threads) place_of_entry (λ e entry. has_thread b.threads e.place entry.0) b.entries h.entries))
