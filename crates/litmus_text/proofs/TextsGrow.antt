-- The text of pieces, one more part after the others.
use Rattle.litmus_text.proofs.Vocabulary.{◌≡◌, ℕ, ◌+◌, ◌<◌, suc, List, [], ◌∷◌, ◌++◌, length, map, take, drop, get_or, codes, Some, refl, sym, ap, ◌∙◌, arith, append_assoc, nat_lt, if◌then◌else◌, flat_map, range_with_len, map-range_with_len_more}
use Rattle.litmus_text.proofs.Vocabulary.{length-range_with_len, lt-ltb, Piece, text_of, Quantifier, PlaceView, EntryView, CodeView, SignView, Thread, TextNames, space, line_end, sign, next, joined_by, gap, code_pieces, label_pieces, cell_pieces}
use Rattle.litmus_text.proofs.Vocabulary.{observed_place_pieces, observed_pieces, entry_pieces, initial_pieces, sign_pieces, quantifier_pieces, condition_pieces, thread_entries, register_entries, append-nil, take_more, map_more, map_push, drop_more}
use Rattle.litmus_text.proofs.Vocabulary.{length-map, length-take-le, map-map, flat_map-append}
use Rattle.text_tokens.specs.declared.token.Mark.TheVariants as the
use Rattle.litmus_text.proofs.PiecesAppended.{text_of-append}

-- the texts of two lists of parts
pub text_of_all : {X : Type 0} (g : X → List Piece) (xs ys : List X) → text_of (flat_map g (xs ++ ys)) ≡ text_of (flat_map g xs) ++ text_of (flat_map g ys)
text_of_all g xs ys = ap text_of (flat_map-append g xs ys) ∙ text_of-append (flat_map g xs) (flat_map g ys)

-- after a text, the texts of two lists of parts
pub all_more : {X : Type 0} (g : X → List Piece) (bs : List ℕ) (xs ys : List X) → (bs ++ text_of (flat_map g xs)) ++ text_of (flat_map g ys) ≡ bs ++ text_of (flat_map g (xs ++ ys))
all_more g bs xs ys = append_assoc bs (text_of (flat_map g xs)) (text_of (flat_map g ys)) ∙ ap (λ (cs : List ℕ). bs ++ cs) (sym (text_of_all g xs ys))

-- one part more
pub one_more : {X : Type 0} (g : X → List Piece) (bs : List ℕ) (xs : List X) (x : X) → (bs ++ text_of (flat_map g xs)) ++ text_of (g x) ≡ bs ++ text_of (flat_map g (xs ++ x ∷ []))
one_more g bs xs x = ap (λ (ps : List Piece). (bs ++ text_of (flat_map g xs)) ++ text_of ps) (sym (append-nil (g x))) ∙ all_more g bs xs (x ∷ [])

-- the part of one more number
pub number_more : {X : Type 0} (g : X → List Piece) (f : ℕ → X) (bs : List ℕ) (n : ℕ)
    → (bs ++ text_of (flat_map g (map f (range_with_len 0 n)))) ++ text_of (g (f n)) ≡ bs ++ text_of (flat_map g (map f (range_with_len 0 (n + 1))))
number_more {X} g f bs n =
    one_more g bs (map f (range_with_len 0 n)) (f n) ∙ ap (λ (xs : List X). bs ++ text_of (flat_map g xs)) (sym (map-range_with_len_more f 0 n n (omega arith)))

-- the parts that one more element gives
pub element_more : {X Y : Type 0} (g : X → List Piece) (f : Y → List X) (bs : List ℕ) (ys : List Y) (i : ℕ) (d : Y) → i < length ys
    → (bs ++ text_of (flat_map g (flat_map f (take i ys)))) ++ text_of (flat_map g (f (get_or ys i d))) ≡ bs ++ text_of (flat_map g (flat_map f (take (i + 1) ys)))
element_more {X} g f bs ys i d lt =
    let front : List X = flat_map f (take i ys) in
    let same : front ++ f (get_or ys i d) ≡ flat_map f (take (i + 1) ys) =
    ap (λ (xs : List X). front ++ xs) (sym (append-nil (f (get_or ys i d)))) ∙ sym (flat_map-append f (take i ys) (get_or ys i d ∷ [])) ∙ ap (flat_map f) (sym (take_more ys i d lt)) in
    all_more g bs front (f (get_or ys i d)) ∙ ap (λ (xs : List X). bs ++ text_of (flat_map g xs)) same

-- the part that one more element gives
pub given_more : {X Y Z : Type 0} (g : Y → List Piece) (h : X → Y) (view : Z → X) (bs : List ℕ) (zs : List Z) (i : ℕ) (d : Z) → i < length zs
    → (bs ++ text_of (flat_map g (map h (map view (take i zs))))) ++ text_of (g (h (view (get_or zs i d)))) ≡ bs ++ text_of (flat_map g (map h (map view (take (i + 1) zs))))
given_more {X} {Y} {Z} g h view bs zs i d lt =
    let whole : Z → Y = λ z. h (view z) in
    simp map-map
    (one_more g bs (map whole (take i zs)) (h (view (get_or zs i d))) ∙ ap (λ (ys : List Y). bs ++ text_of (flat_map g ys)) (sym (map_more whole zs i d lt)))

-- ---- parts in a line

-- what stands before part n
abbrev pub between_at : List Piece → ℕ → List ℕ
between_at between n = if nat_lt 0 n then text_of between else []

module _ (between : List Piece) where
  pub joined_push : (columns : List (List Piece)) (ps : List Piece)
      → text_of (joined_by between (columns ++ ps ∷ [])) ≡ (text_of (joined_by between columns) ++ between_at between (length columns)) ++ text_of ps
  joined_push [] ps = ap text_of (append-nil ps)
  joined_push (qs ∷ columns) ps =
      let more : List Piece = flat_map (next between) columns in
      let same : qs ++ flat_map (next between) (columns ++ ps ∷ []) ≡ (qs ++ more) ++ next between ps =
      ap (λ (rs : List Piece). qs ++ rs) (flat_map-append (next between) columns (ps ∷ []) ∙ ap (λ (rs : List Piece). more ++ rs) (append-nil (next between ps)))
      ∙ sym (append_assoc qs more (next between ps)) in
      ap text_of same ∙ text_of-append (qs ++ more) (next between ps)
      ∙ ap (λ (bs : List ℕ). text_of (qs ++ more) ++ bs) (text_of-append between ps)
      ∙ sym (append_assoc (text_of (qs ++ more)) (text_of between) (text_of ps))
      ∙ ap (λ (bs : List ℕ). (text_of (qs ++ more) ++ bs) ++ text_of ps) (sym (rw (lt-ltb 0 (suc (length columns)) (omega arith)) refl))

  -- one part more
  pub column_more : (bs : List ℕ) (columns further : List (List Piece)) (ps : List Piece) (n : ℕ) → length columns ≡ n → further ≡ columns ++ ps ∷ []
      → ((bs ++ text_of (joined_by between columns)) ++ between_at between n) ++ text_of ps ≡ bs ++ text_of (joined_by between further)
  column_more bs columns further ps n count same =
      ap (λ (cs : List ℕ). cs ++ text_of ps) (append_assoc bs (text_of (joined_by between columns)) (between_at between n))
      ∙ append_assoc bs (text_of (joined_by between columns) ++ between_at between n) (text_of ps)
      ∙ ap (λ (m : ℕ). bs ++ ((text_of (joined_by between columns) ++ between_at between m) ++ text_of ps)) (sym count)
      ∙ ap (λ (cs : List ℕ). bs ++ cs) (sym (joined_push columns ps) ∙ ap (λ (cs : List (List Piece)). text_of (joined_by between cs)) (sym same))

  -- one number's part more
  pub number_column_more : (g : ℕ → List Piece) (bs : List ℕ) (n : ℕ)
      → ((bs ++ text_of (joined_by between (map g (range_with_len 0 n)))) ++ between_at between n) ++ text_of (g n) ≡ bs ++ text_of (joined_by between (map g (range_with_len 0 (n + 1))))
  number_column_more g bs n =
      column_more bs (map g (range_with_len 0 n)) (map g (range_with_len 0 (n + 1))) (g n) n (length-map (range_with_len 0 n) g ∙ length-range_with_len 0 n) (map-range_with_len_more g 0 n n (omega arith))

  -- one item's part more
  pub item_column_more : {X : Type 0} (g : X → List Piece) (f : ℕ → X) (bs : List ℕ) (n : ℕ)
      → ((bs ++ text_of (joined_by between (map g (map f (range_with_len 0 n))))) ++ between_at between n) ++ text_of (g (f n)) ≡ bs ++ text_of (joined_by between (map g (map f (range_with_len 0 (n + 1)))))
  item_column_more g f bs n = simp map-map (number_column_more (λ k. g (f k)) bs n)

  -- one element's part more
  pub element_column_more : {X Y : Type 0} (g : X → List Piece) (f : Y → X) (bs : List ℕ) (ys : List Y) (i : ℕ) (d : Y) → i < length ys
      → ((bs ++ text_of (joined_by between (map g (map f (take i ys))))) ++ between_at between i) ++ text_of (g (f (get_or ys i d)))
      ≡ bs ++ text_of (joined_by between (map g (map f (take (i + 1) ys))))
  element_column_more {X} {Y} g f bs ys i d lt =
      let whole : Y → List Piece = λ y. g (f y) in
      let long : length (take i ys) ≡ i = length-take-le i ys (omega arith) in
      simp map-map (column_more bs (map whole (take i ys)) (map whole (take (i + 1) ys)) (g (f (get_or ys i d))) i (length-map (take i ys) whole ∙ long) (map_more whole ys i d lt))

-- ---- registers

-- one thread more
pub thread_more : (names : TextNames) (threads : List Thread) (t : ℕ) (d : Thread) → t < length threads
    → text_of (flat_map entry_pieces (thread_entries names t (get_or threads t d).registers)) ++ text_of (flat_map entry_pieces (register_entries names (t + 1) (drop (t + 1) threads)))
    ≡ text_of (flat_map entry_pieces (register_entries names t (drop t threads)))
thread_more names threads t d lt =
    sym (text_of_all entry_pieces (thread_entries names t (get_or threads t d).registers) (register_entries names (t + 1) (drop (t + 1) threads)))
    ∙ ap (λ (ths : List Thread). text_of (flat_map entry_pieces (register_entries names t ths))) (sym (drop_more threads t d lt))

-- ---- wholes

-- pieces after pieces, after a text
pub grown : (bs : List ℕ) (ps qs : List Piece) → (bs ++ text_of ps) ++ text_of qs ≡ bs ++ text_of (ps ++ qs)
grown bs ps qs = append_assoc bs (text_of ps) (text_of qs) ∙ ap (λ (cs : List ℕ). bs ++ cs) (sym (text_of-append ps qs))

-- initial values in their braces
pub braces : (bs : List ℕ) (es fs : List EntryView)
    → (((bs ++ 123 ∷ []) ++ text_of (flat_map entry_pieces es)) ++ text_of (flat_map entry_pieces fs)) ++ codes " }\n" ≡ bs ++ text_of (initial_pieces (es ++ fs))
braces bs es fs =
    ap (λ (cs : List ℕ). cs ++ codes " }\n") (all_more entry_pieces (bs ++ 123 ∷ []) es fs)
    ∙ grown (bs ++ 123 ∷ []) (flat_map entry_pieces (es ++ fs)) (space ∷ sign the.CloseBrace ∷ line_end ∷ [])
    ∙ append_assoc bs (123 ∷ []) (text_of (flat_map entry_pieces (es ++ fs) ++ space ∷ sign the.CloseBrace ∷ line_end ∷ []))

-- a quantifier and signs
pub condition_grown : (bs : List ℕ) (q : Quantifier) (ss : List SignView)
    → (((bs ++ text_of (quantifier_pieces q)) ++ 32 ∷ []) ++ text_of (flat_map sign_pieces ss)) ++ 10 ∷ [] ≡ bs ++ text_of (condition_pieces q ss)
condition_grown bs q ss =
    let front : List ℕ = bs ++ text_of (quantifier_pieces q) in
    grown (front ++ 32 ∷ []) (flat_map sign_pieces ss) (line_end ∷ [])
    ∙ append_assoc front (32 ∷ []) (text_of (flat_map sign_pieces ss ++ line_end ∷ []))
    ∙ grown bs (quantifier_pieces q) (space ∷ (flat_map sign_pieces ss ++ line_end ∷ []))

-- ---- labels and what is observed

-- one label more
pub label_more : (bs : List ℕ) (names : List (List ℕ)) (name : List ℕ) (count : ℕ) → count ≡ length names
    → (((bs ++ text_of (joined_by gap (map label_pieces names))) ++ between_at gap count) ++ name) ++ 58 ∷ [] ≡ bs ++ text_of (joined_by gap (map label_pieces (names ++ name ∷ [])))
label_more bs names name count counted =
    append_assoc ((bs ++ text_of (joined_by gap (map label_pieces names))) ++ between_at gap count) name (58 ∷ [])
    ∙ column_more gap bs (map label_pieces names) (map label_pieces (names ++ name ∷ [])) (label_pieces name) count (length-map names label_pieces ∙ sym counted) (map_push label_pieces names name)

-- an instruction behind its labels
pub code_more : (bs : List ℕ) (names : List (List ℕ)) (c : CodeView) (count : ℕ) → count ≡ length names
    → ((bs ++ text_of (joined_by gap (map label_pieces names))) ++ between_at gap count) ++ text_of (code_pieces c) ≡ bs ++ text_of (cell_pieces (record { labels = names; code = Some c }))
code_more bs names c count counted =
    column_more gap bs (map label_pieces names) (map label_pieces names ++ code_pieces c ∷ []) (code_pieces c) count (length-map names label_pieces ∙ sym counted) refl

-- places in their brackets
pub brackets : (bs : List ℕ) (ps : List PlaceView) → 0 < length ps
    → ((bs ++ codes "locations [") ++ text_of (joined_by gap (map observed_place_pieces ps))) ++ codes "]\n" ≡ bs ++ text_of (observed_pieces ps)
brackets bs [] some = absurd (omega (arith, some))
brackets bs (p ∷ ps) some =
    grown (bs ++ codes "locations [") (joined_by gap (map observed_place_pieces (p ∷ ps))) (sign the.CloseBracket ∷ line_end ∷ [])
    ∙ append_assoc bs (codes "locations [") (text_of (joined_by gap (map observed_place_pieces (p ∷ ps)) ++ sign the.CloseBracket ∷ line_end ∷ []))
