-- The pieces of parts that can be printed can be written one after the other.
use Rattle.litmus_text.proofs.Vocabulary.{◌≡◌, ℕ, ◌+◌, ◌^◌, ◌<◌, ◌≤◌, ◌==◌, zero, suc, Bool, true, false, List, [], ◌∷◌, ◌++◌, length, map, Option, Some, None, refl, sym, ap, ◌∙◌, inl, inr, arith, append_assoc, and_parts, flat_map, list_all, range_with_len}
use Rattle.litmus_text.proofs.Vocabulary.{AllByRecursion, option_to_list, is_ascii_digit, decimal, cases_Bool, Decides-eqb, is_letter, own, Piece, text_of, AreApartBefore, AreApart, Quantifier, NotExists, PlaceView, Location, Register, EntryView, CodeView}
use Rattle.litmus_text.proofs.Vocabulary.{LoadImm, Copy, Load, StoreImm, Store, Xchg, Fence, CmpImm, CmpReg, CellView, BodyView, SignView, Atom, Const, Not, And, Or, Open, Close, EndingView, IsTextNumber, IsLabelName, IsPrintablePlace, IsPrintableEntry}
use Rattle.litmus_text.proofs.Vocabulary.{IsPrintableCode, IsPrintableContent, IsPrintableCell, IsPrintableRow, IsPrintable, IsPrintableSign, begins_with_a_word, SignsAreApart, ArePrintable, IsPrintableEnding, digits_decimal, decimal_nonempty, IsWord}
use Rattle.litmus_text.proofs.Vocabulary.{NoWordGoesOn, line_end, next, joined_by, bar, gap, valued_pieces, entry_pieces, initial_pieces, row_end, line_of, column_pieces, header_pieces, code_pieces, label_pieces, cell_pieces, row_pieces, body_pieces}
use Rattle.litmus_text.proofs.Vocabulary.{observed_place_pieces, observed_pieces, sign_pieces, condition_pieces, ending_pieces, lines_pieces, sign, space}
use Rattle.text_tokens.specs.Comments.{opens}
use Rattle.litmus_text.proofs.{Lists.all_mapped, PiecesAppended.AreApartBefore-append, WordsWritten.register_word, WordsWritten.digits_in_word}
use Rattle.text_tokens.specs.declared.token.Mark.TheVariants as the

-- pieces that can be written before whatever does not go on with a word
abbrev pub IsApart : List Piece → Type 0
IsApart ps = (rest : List ℕ) → NoWordGoesOn rest → AreApartBefore ps rest

-- pieces that can be written before any text
abbrev pub EndsApart : List Piece → Type 0
EndsApart ps = (rest : List ℕ) → AreApartBefore ps rest

-- one after another
apart_all : {X : Type 0} (f : X → List Piece) (P : X → Type 0) → ((x : X) → P x → EndsApart (f x)) → (xs : List X) → AllByRecursion P xs → EndsApart (flat_map f xs)
apart_all f P each [] h rest = tt
apart_all f P each (x ∷ xs) h rest =
    AreApartBefore-append (f x) (flat_map f xs) rest (each x h.0 (text_of (flat_map f xs) ++ rest)) (apart_all f P each xs h.1 rest)

-- ---- places and entries

valued_apart : (threads : ℕ) (p : PlaceView) (n : ℕ) → IsTextNumber threads → IsPrintablePlace threads p → IsTextNumber n → IsApart (valued_pieces p n)
valued_apart threads (Location x) n few h hn rest free = ((h.0, refl), (refl, ((hn, free), tt)))
valued_apart threads (Register t r) n few h hn rest free =
    let small : t ≤ 4294967295 = omega (arith, h, few) in
    ((small, refl), (refl, ((register_word r, refl), (refl, ((hn, free), tt)))))

entry_apart : (threads : ℕ) → IsTextNumber threads → (e : EntryView) → IsPrintableEntry threads e → EndsApart (entry_pieces e)
entry_apart threads few e h rest =
    (refl, AreApartBefore-append (valued_pieces e.place e.value) (sign the.Semicolon ∷ []) rest (valued_apart threads e.place e.value few h.0 h.1 (59 ∷ rest) refl) (refl, tt))

initial_apart : (threads : ℕ) → IsTextNumber threads → (es : List EntryView) → AllByRecursion (IsPrintableEntry threads) es → EndsApart (initial_pieces es)
initial_apart threads few es h rest =
    let tail : List Piece = space ∷ sign the.CloseBrace ∷ line_end ∷ [] in
    (refl, AreApartBefore-append (flat_map entry_pieces es) tail rest (apart_all entry_pieces (IsPrintableEntry threads) (entry_apart threads few) es h (text_of tail ++ rest)) (refl, (refl, (refl, tt))))

-- ---- parts in a line

-- with a space and more between them
module _ (more : List Piece) (apart : EndsApart more) where
  -- a further part begins with a space
  parts_end : (parts : List (List Piece)) (rest : List ℕ) → NoWordGoesOn rest → NoWordGoesOn (text_of (flat_map (next (space ∷ more)) parts) ++ rest)
  parts_end [] rest free = free
  parts_end (ps ∷ parts) rest free = refl

  parts_apart : (parts : List (List Piece)) → AllByRecursion IsApart parts → IsApart (flat_map (next (space ∷ more)) parts)
  parts_apart [] h rest free = tt
  parts_apart (ps ∷ parts) h rest free =
      let others : List ℕ = text_of (flat_map (next (space ∷ more)) parts) ++ rest in
      AreApartBefore-append (next (space ∷ more) ps) (flat_map (next (space ∷ more)) parts) rest
      (refl, AreApartBefore-append more ps others (apart (text_of ps ++ others)) (h.0 others (parts_end parts rest free)))
      (parts_apart parts h.1 rest free)

  pub joined_apart : (parts : List (List Piece)) → AllByRecursion IsApart parts → IsApart (joined_by (space ∷ more) parts)
  joined_apart [] h rest free = tt
  joined_apart (ps ∷ parts) h rest free =
      AreApartBefore-append ps (flat_map (next (space ∷ more)) parts) rest (h.0 (text_of (flat_map (next (space ∷ more)) parts) ++ rest) (parts_end parts rest free)) (parts_apart parts h.1 rest free)

gaps_apart : (parts : List (List Piece)) → AllByRecursion IsApart parts → IsApart (joined_by gap parts)
gaps_apart = joined_apart [] (λ rest. tt)

line_apart : (columns : List (List Piece)) → AllByRecursion IsApart columns → EndsApart (line_of columns)
line_apart columns h rest = AreApartBefore-append (joined_by bar columns) row_end rest ((joined_apart (sign the.Bar ∷ space ∷ []) (λ rest. (refl, (refl, tt)))) columns h (text_of row_end ++ rest) refl) (refl, (refl, (refl, tt)))

names_apart : (k n : ℕ) → k + n ≤ 4294967295 → AllByRecursion IsApart (map column_pieces (range_with_len k n))
names_apart k zero h = tt
names_apart k (suc n) h =
    let small : k ≤ 4294967295 = omega (arith, h) in
    let more : (k + 1) + n ≤ 4294967295 = omega (arith, h) in
    (λ rest free. ((((refl, digits_in_word (decimal k) (digits_decimal own k (omega (arith, small))))), free), tt), names_apart (k + 1) n more)

-- ---- rows

code_apart : (c : CodeView) → IsPrintableCode c → IsApart (code_pieces c)
code_apart (LoadImm r n) h rest free = (((refl, refl), refl), (refl, ((register_word r, refl), (refl, (refl, ((h, free), tt))))))
code_apart (Copy r s) h rest free = (((refl, refl), refl), (refl, ((register_word r, refl), (refl, ((register_word s, free), tt)))))
code_apart (Load r x) h rest free = (((refl, refl), refl), (refl, ((register_word r, refl), (refl, (refl, ((h.0, refl), (refl, tt)))))))
code_apart (StoreImm x n) h rest free = (((refl, refl), refl), (refl, (refl, ((h.0.0, refl), (refl, (refl, (refl, ((h.1, free), tt))))))))
code_apart (Store x r) h rest free = (((refl, refl), refl), (refl, (refl, ((h.0, refl), (refl, (refl, ((register_word r, free), tt)))))))
code_apart (Xchg x r) h rest free = (((refl, refl), refl), (refl, (refl, ((h.0, refl), (refl, (refl, ((register_word r, free), tt)))))))
code_apart Fence h rest free = (((refl, refl), free), tt)
code_apart (CmpImm r n) h rest free = (((refl, refl), refl), (refl, ((register_word r, refl), (refl, (refl, ((h, free), tt))))))
code_apart (CmpReg r s) h rest free = (((refl, refl), refl), (refl, ((register_word r, refl), (refl, ((register_word s, free), tt)))))
code_apart _ h rest free = (((refl, refl), refl), (refl, ((h, free), tt)))

content_apart : (c : Option CodeView) → IsPrintableContent c → AllByRecursion IsApart (map code_pieces (option_to_list c))
content_apart None h = tt
content_apart (Some c) h = (code_apart c h, tt)

labels_apart : (ls : List (List ℕ)) (parts : List (List Piece)) → AllByRecursion IsLabelName ls → AllByRecursion IsApart parts → AllByRecursion IsApart (map label_pieces ls ++ parts)
labels_apart [] parts h g = g
labels_apart (l ∷ ls) parts h g = (λ rest free. ((h.0.0, refl), (refl, tt)), labels_apart ls parts h.1 g)

cell_apart : (c : CellView) → IsPrintableCell c → IsApart (cell_pieces c)
cell_apart c h = gaps_apart (map label_pieces c.labels ++ map code_pieces (option_to_list c.code)) (labels_apart c.labels (map code_pieces (option_to_list c.code)) h.0 (content_apart c.code h.1))

body_apart : (b : BodyView) → IsPrintable b → EndsApart (body_pieces b)
body_apart b h rest =
    let rows : List Piece = flat_map row_pieces b.rows in
    AreApartBefore-append (initial_pieces b.entries) (header_pieces b.threads ++ rows) rest
    (initial_apart b.threads h.few_threads b.entries h.entries (text_of (header_pieces b.threads ++ rows) ++ rest))
    (AreApartBefore-append (header_pieces b.threads) rows rest ((line_apart (map column_pieces (range_with_len 0 b.threads)) (names_apart 0 b.threads (omega (arith, h.few_threads)))) (text_of rows ++ rest))
    (apart_all row_pieces (IsPrintableRow b.threads) (λ cells h. line_apart (map cell_pieces cells) (all_mapped IsPrintableCell IsApart cell_pieces cell_apart cells h.1)) b.rows h.rows rest))

-- ---- what is observed

place_apart : (threads : ℕ) → IsTextNumber threads → (p : PlaceView) → IsPrintablePlace threads p → IsApart (observed_place_pieces p)
place_apart threads few (Location x) h rest free = ((h.0, refl), (refl, tt))
place_apart threads few (Register t r) h rest free =
    let small : t ≤ 4294967295 = omega (arith, h, few) in
    ((small, refl), (refl, ((register_word r, refl), (refl, tt))))

observed_apart : (threads : ℕ) → IsTextNumber threads → (ps : List PlaceView) → AllByRecursion (IsPrintablePlace threads) ps → EndsApart (observed_pieces ps)
observed_apart threads few [] h rest = tt
observed_apart threads few (p ∷ ps) h rest =
    let tail : List Piece = sign the.CloseBracket ∷ line_end ∷ [] in (
      ((refl, refl), refl),
      (
        refl,
        (
          refl,
          AreApartBefore-append (joined_by gap (map observed_place_pieces (p ∷ ps))) tail rest (gaps_apart (map observed_place_pieces (p ∷ ps)) (all_mapped (IsPrintablePlace threads) IsApart observed_place_pieces (place_apart threads few) (p ∷ ps) h) (text_of tail ++ rest) refl) (refl, (refl, tt)),
        ),
      ),
    )

-- ---- the condition

-- `(` before the text does not begin a comment
abbrev NoStar : List ℕ → Type 0
NoStar rest = opens (40 ∷ rest) ≡ false

other_byte : (test : ℕ → Bool) → test 42 ≡ false → (b : ℕ) → test b ≡ true → (b == 42) ≡ false
other_byte test star b h =
    elim (cases_Bool (b == 42)) [ inl t ↦ let clash : false ≡ true = sym star ∙ ap test (sym ((Decides-eqb b 42).0 t)) ∙ h in cc | inr f ↦ f ]

word_first : (w more : List ℕ) → IsWord w → NoStar (w ++ more)
word_first [] more h = absurd (let clash : is_letter 0 ≡ true = h.0 in cc)
word_first (b ∷ w) more h = other_byte is_letter refl b h.0

digits_first : (ds more : List ℕ) → 0 < length ds → list_all is_ascii_digit ds ≡ true → NoStar (ds ++ more)
digits_first [] more some h = absurd (omega (arith, some))
digits_first (d ∷ ds) more some h = other_byte is_ascii_digit refl d (and_parts (is_ascii_digit d) (list_all is_ascii_digit ds) h).0

number_first : (n : ℕ) (more : List ℕ) → n ≤ 4294967295 → NoStar (decimal n ++ more)
number_first n more h = let small : n < 2 ^ 64 = omega (arith, h) in digits_first (decimal n) more (decimal_nonempty n small) (digits_decimal own n small)

signs_free : (threads : ℕ) → IsTextNumber threads → (ss : List SignView) (rest : List ℕ) → AllByRecursion (IsPrintableSign threads) ss → NoStar rest → NoStar (text_of (flat_map sign_pieces ss) ++ rest)
signs_free threads few [] rest h free = free
signs_free threads few (Atom (Location x) n ∷ ss) rest h free = rw append_assoc (word_first x _ h.0.0.0)
signs_free threads few (Atom (Register t r) n ∷ ss) rest h free =
    let small : t ≤ 4294967295 = omega (arith, h.0.0, few) in
    rw append_assoc (number_first t _ small)
signs_free threads few (Const true ∷ ss) rest h free = refl
signs_free threads few ss rest h free = refl

signs_end : (ss : List SignView) (rest : List ℕ) → begins_with_a_word ss ≡ false → NoWordGoesOn rest → NoWordGoesOn (text_of (flat_map sign_pieces ss) ++ rest)
signs_end [] rest e free = free
signs_end (Atom p n ∷ ss) rest e free = cc
signs_end (Const b ∷ ss) rest e free = cc
signs_end (Not ∷ ss) rest e free = cc
signs_end ss rest e free = refl

signs_apart : (threads : ℕ) → IsTextNumber threads → (ss : List SignView) → AllByRecursion (IsPrintableSign threads) ss → SignsAreApart ss → (rest : List ℕ) → NoWordGoesOn rest → NoStar rest
    → AreApartBefore (flat_map sign_pieces ss) rest
signs_apart threads few [] h g rest free star = tt
signs_apart threads few (Atom p n ∷ ss) h g rest free star =
    AreApartBefore-append (valued_pieces p n) (flat_map sign_pieces ss) rest
    (valued_apart threads p n few h.0.0 h.0.1 (text_of (flat_map sign_pieces ss) ++ rest) (signs_end ss rest g.0 free))
    (signs_apart threads few ss h.1 g.1 rest free star)
signs_apart threads few (Const true ∷ ss) h g rest free star = (((refl, refl), signs_end ss rest g.0 free), signs_apart threads few ss h.1 g.1 rest free star)
signs_apart threads few (Const false ∷ ss) h g rest free star = (((refl, refl), signs_end ss rest g.0 free), signs_apart threads few ss h.1 g.1 rest free star)
signs_apart threads few (Not ∷ ss) h g rest free star = (((refl, refl), refl), (refl, signs_apart threads few ss h.1 g rest free star))
signs_apart threads few (And ∷ ss) h g rest free star = (refl, (refl, (refl, signs_apart threads few ss h.1 g rest free star)))
signs_apart threads few (Or ∷ ss) h g rest free star = (refl, (refl, (refl, signs_apart threads few ss h.1 g rest free star)))
signs_apart threads few (Open ∷ ss) h g rest free star = (signs_free threads few ss rest h.1 star, signs_apart threads few ss h.1 g rest free star)
signs_apart threads few (Close ∷ ss) h g rest free star = (refl, signs_apart threads few ss h.1 g rest free star)

signs_and_end_apart : (threads : ℕ) → IsTextNumber threads → (ss : List SignView) → ArePrintable threads ss → AreApartBefore (space ∷ (flat_map sign_pieces ss ++ line_end ∷ [])) []
signs_and_end_apart threads few ss h = (refl, AreApartBefore-append (flat_map sign_pieces ss) (line_end ∷ []) [] (signs_apart threads few ss h.0 h.1 (10 ∷ []) refl refl) (refl, tt))

condition_apart : (threads : ℕ) → IsTextNumber threads → (q : Quantifier) (ss : List SignView) → ArePrintable threads ss → AreApart (condition_pieces q ss)
condition_apart threads few NotExists ss h = (refl, (((refl, refl), refl), signs_and_end_apart threads few ss h))
condition_apart threads few q ss h = (((refl, refl), refl), signs_and_end_apart threads few ss h)

-- ---- the whole

pub lines_apart : (b : BodyView) (e : EndingView) → IsPrintable b → IsPrintableEnding b.threads e → AreApart (lines_pieces b e)
lines_apart b e h g =
    let condition : List Piece = condition_pieces e.quantifier e.signs in
    AreApartBefore-append (body_pieces b) (ending_pieces e) [] (body_apart b h (text_of (ending_pieces e) ++ []))
    (AreApartBefore-append (observed_pieces e.observed) condition [] (observed_apart b.threads h.few_threads e.observed g.observed (text_of condition ++ [])) (condition_apart b.threads h.few_threads e.quantifier e.signs g.signs))
