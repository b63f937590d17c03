-- Code that a text tells: with names of locations and labels it can be printed, and stands for the same code again. Fences too.
use Rattle.litmus_text.proofs.Vocabulary.{◌≡◌, ℕ, ◌+◌, ◌<◌, ◌≤◌, zero, suc, Bool, true, false, List, [], ◌∷◌, ◌++◌, length, map, Option, Some, None, refl, sym, ap, ◌∙◌, subst, arith, slice_get, slice_index_or, nat_lt, is_some, option_map, option_and_then}
use Rattle.litmus_text.proofs.Vocabulary.{if◌then◌else◌, AllByRecursion, IsDistinct, list_all, list_any, flat_map, filter_map, cons_option, range_with_len, option_map_or, bytes_eq, length-map, length-range_with_len, Instr, Thread, code_of, instr_at}
use Rattle.litmus_text.proofs.Vocabulary.{PlaceView, Location, Register, CodeView, Load, StoreImm, Store, Xchg, Fence, Je, Jne, Jmp, CellView, NoneTwice, number_in, code_places, cell_places, cells_places, row_places, CodeLabel, instruction_of, instruction_in}
use Rattle.litmus_text.proofs.Vocabulary.{location_name_at, label_names_at, label_name_at, own_labels, moved_label, code_named, cell_of, row_of, most_cells, rows_of, IsLabelName, IsPrintableCode, IsPrintableContent, IsPrintableCell, IsPrintableRow}
use Rattle.litmus_text.proofs.Vocabulary.{place_of, moved, fenced_code, label_in, position_in, jump_of, is_found, are_found, place_among, number_at, IfSome, and_from as both_true, and_parts}
use Rattle.tso_program.specs.declared.instruction.Instr.TheVariants as instr
use Rattle.litmus_reader.specs.Meaning as meaning
use Rattle.litmus_text.proofs.{NamedPlaces.Named, LabelPlaces.labels_moved}
use Rattle.litmus_text.proofs.LabelsNamed.{label_name, SomeAt, AreGoodLabels, labels_good, found_stands, label_there, found_there, first_good}
use Rattle.litmus_text.proofs.Lists.{all_of_both, both_of_all, all_given, all_at, all_of_range, made_at, by_places}

-- a place that is named
abbrev pub IsKnown : List (List ℕ) → Named → PlaceView → Type 0
IsKnown names named (Location x) = list_any (bytes_eq x) names ≡ true
IsKnown names named (Register t r) = named t r ≡ true

-- the name that has the number of a name is that name
pub name_back : (names : List (List ℕ)) (x : List ℕ) → IsDistinct bytes_eq names → list_any (bytes_eq x) names ≡ true → location_name_at names (number_in names x) ≡ x
name_back names x once h =
    let own = place_among names x h in
    let number : number_in names x ≡ own.0 = ap (number_in names) own.2 ∙ number_at names own.0 once own.1 in
    ap (location_name_at names) number ∙ sym own.2

-- an instruction that jumps nowhere or to one of these labels
abbrev pub JumpsAmong : List CodeLabel → Option CodeView → Type 0
JumpsAmong labels o = option_map_or (λ l. is_some (label_in labels l)) (option_and_then jump_of o) true ≡ true

module _ (names : List (List ℕ)) (named : Named) (labels : List (List CodeLabel)) where
  abbrev own : ℕ → List CodeLabel
  own t = own_labels labels t

  -- instruction i of thread t stands for code that can be printed, whose places are named, and that jumps to a label of the thread
  abbrev pub IsTold : ℕ → Instr → Type 0
  IsTold t i =
      (c : CodeView) × (code_named names (own t) i ≡ c) × (instruction_of (number_in names) (position_in (own t)) c ≡ i) × IsPrintableCode c × AllByRecursion (IsKnown names named) (code_places t c)
      × JumpsAmong (own t) (Some c)

  abbrev pub IsGoodCell : ℕ → CellView → Type 0
  IsGoodCell t cell = IsPrintableCell cell × AllByRecursion (IsKnown names named) (cell_places t cell)

  -- ---- what a text's code stands for, with its labels where their fences are

  module _ (once : IsDistinct bytes_eq names) (t : ℕ) (gap : ℕ → Bool) (source : List CodeLabel) (same : own t ≡ map (moved_label gap) source)
      (good : AreGoodLabels (own t)) (labels_once : NoneTwice (map label_name (own t))) where
    stands : (l : List ℕ) → is_some (label_in source l) ≡ true → SomeAt (own t) (place_of gap (position_in source l))
    stands l h =
        let place : ℕ = place_of gap (position_in source l) in
        let there : label_names_at (own t) place ≡ label_names_at source (position_in source l) =
        ap (λ (ls : List CodeLabel). label_names_at ls place) same ∙ labels_moved gap source (position_in source l) place refl in
        subst (λ (ns : List (List ℕ)). 0 < length ns) (sym there) (found_stands source l h)

    abbrev renamed : List ℕ → List ℕ
    renamed l = label_name_at (own t) (place_of gap (position_in source l))

    again : (l : List ℕ) → is_some (label_in source l) ≡ true → (position_in (own t) (renamed l) ≡ place_of gap (position_in source l)) × (is_some (label_in (own t) (renamed l)) ≡ true)
    again l h = found_there (place_of gap (position_in source l)) (label_in (own t) (renamed l)) (label_there (own t) (place_of gap (position_in source l)) labels_once (stands l h))

    may_stand : (l : List ℕ) → is_some (label_in source l) ≡ true → IsLabelName (renamed l)
    may_stand l h = first_good (label_names_at (own t) (place_of gap (position_in source l))) (stands l h) (labels_good (own t) (place_of gap (position_in source l)) good)

    pub code_told : (c : CodeView) → IsPrintableCode c → AllByRecursion (IsKnown names named) (code_places t c) → JumpsAmong source (Some c)
        → IsTold t (moved gap (instruction_of (number_in names) (position_in source) c))
    code_told (Load r x) h k j = (Load r x, ap (λ (y : List ℕ). Load r y) (name_back names x once k.1.0), refl, h, k, refl)
    code_told (StoreImm x n) h k j = (StoreImm x n, ap (λ (y : List ℕ). StoreImm y n) (name_back names x once k.0), refl, h, k, refl)
    code_told (Store x r) h k j = (Store x r, ap (λ (y : List ℕ). Store y r) (name_back names x once k.0), refl, h, k, refl)
    code_told (Xchg x r) h k j = (Xchg x r, ap (λ (y : List ℕ). Xchg y r) (name_back names x once k.0), refl, h, k, refl)
    code_told (Je l) h k j = (Je (renamed l), refl, ap (λ (p : ℕ). instr.Je p) (again l j).0, (may_stand l j).0, tt, (again l j).1)
    code_told (Jne l) h k j = (Jne (renamed l), refl, ap (λ (p : ℕ). instr.Jne p) (again l j).0, (may_stand l j).0, tt, (again l j).1)
    code_told (Jmp l) h k j = (Jmp (renamed l), refl, ap (λ (p : ℕ). instr.Jmp p) (again l j).0, (may_stand l j).0, tt, (again l j).1)
    code_told c h k j = (c, refl, refl, h, k, refl)

    -- ---- the rows of a text

    -- told behind its fence
    abbrev IsToldMoved : Instr → Type 0
    IsToldMoved i = IsTold t (moved gap i)

    told_content : (o : Option CodeView) (rest : List Instr) → IsPrintableContent o → AllByRecursion (IsKnown names named) (option_map_or (code_places t) o []) → JumpsAmong source o
        → AllByRecursion IsToldMoved rest → AllByRecursion IsToldMoved (cons_option (option_map (instruction_of (number_in names) (position_in source)) o) rest)
    told_content None rest h k j more = more
    told_content (Some c) rest h k j more = (code_told c h k j, more)

    -- a cell of the text
    abbrev IsTellable : CellView → Type 0
    IsTellable cell = IsGoodCell t cell × (is_found source cell ≡ true)

    told_cell : (o : Option CellView) (rest : List Instr) → IfSome o IsTellable → AllByRecursion IsToldMoved rest
        → AllByRecursion IsToldMoved (cons_option (option_map (instruction_of (number_in names) (position_in source)) (option_and_then (λ cell. cell.code) o)) rest)
    told_cell None rest good' more = more
    told_cell (Some cell) rest good' more = told_content cell.code rest good'.0.0.1 good'.0.1 good'.1 more

    module _ (all : List (List CodeLabel)) (mine : slice_index_or all t [] ≡ source) where
      -- a cell of thread u
      abbrev IfGood : ℕ → CellView → Type 0
      IfGood u cell = IsGoodCell u cell × (is_found (slice_index_or all u []) cell ≡ true)

      good_at : (a u v : ℕ) (cells : List CellView) → a + u ≡ v → AllByRecursion IsPrintableCell cells → AllByRecursion (IsKnown names named) (cells_places a cells) → are_found all a cells ≡ true
          → IfSome (slice_get cells u) (IfGood v)
      good_at a u v [] e h k j = tt
      good_at a zero v (cell ∷ cells) e h k j =
          let places = both_of_all (IsKnown names named) (cell_places a cell) (cells_places (a + 1) cells) k in
          let here : is_found (slice_index_or all a []) cell ≡ true = (and_parts (is_found (slice_index_or all a []) cell) (are_found all (a + 1) cells) j).0 in
          let first : a ≡ v = omega arith in
          subst (λ (w : ℕ). IfGood w cell) first ((h.0, places.0), here)
      good_at a (suc u) v (cell ∷ cells) e h k j =
          let places = both_of_all (IsKnown names named) (cell_places a cell) (cells_places (a + 1) cells) k in
          good_at (a + 1) u v cells (omega arith) h.1 places.1 (and_parts (is_found (slice_index_or all a []) cell) (are_found all (a + 1) cells) j).1

      tellable : (o : Option CellView) → IfSome o (IfGood t) → IfSome o IsTellable
      tellable None h = tt
      tellable (Some cell) h = (h.0, subst (λ (ls : List CodeLabel). is_found ls cell ≡ true) mine h.1)

      -- `IsToldMoved` holds of a text's code
      pub rows_told : (threads : ℕ) (rows : List (List CellView)) → AllByRecursion (IsPrintableRow threads) rows → AllByRecursion (IsKnown names named) (flat_map row_places rows)
          → list_all (are_found all 0) rows ≡ true → AllByRecursion IsToldMoved (meaning.code_in (number_in names) (position_in source) rows t)
      rows_told threads [] h k j = tt
      rows_told threads (row ∷ rows) h k j =
          let places = both_of_all (IsKnown names named) (row_places row) (flat_map row_places rows) k in
          let first : are_found all 0 row ≡ true = (and_parts (are_found all 0 row) (list_all (are_found all 0) rows) j).0 in
          let others : list_all (are_found all 0) rows ≡ true = (and_parts (are_found all 0 row) (list_all (are_found all 0) rows) j).1 in
          let here : IfSome (slice_get row t) (IfGood t) = good_at 0 t t row (omega arith) h.0.1 places.0 first in
          told_cell (slice_get row t) (meaning.code_in (number_in names) (position_in source) rows t) (tellable (slice_get row t) here) (rows_told threads rows h.1 places.1 others)

    -- ---- fences

    fence_told : (b : Bool) (code : List Instr) → AllByRecursion (IsTold t) code → AllByRecursion (IsTold t) ((if b then instr.Fence ∷ [] else []) ++ code)
    fence_told true code h = ((Fence, refl, refl, tt, tt, refl), h)
    fence_told false code h = h

    pub fenced_told : (k : ℕ) (code : List Instr) → AllByRecursion IsToldMoved code → AllByRecursion (IsTold t) (fenced_code gap k code)
    fenced_told k [] h = tt
    fenced_told k (i ∷ code) h = fence_told (gap k) (moved gap i ∷ fenced_code gap (k + 1) code) (h.0, fenced_told (k + 1) code h.1)

  -- ---- the rows of the canonical text

  -- what is known of an instruction with its names
  abbrev IsGoodContent : ℕ → Option CodeView → Type 0
  IsGoodContent t o = IsPrintableContent o × AllByRecursion (IsKnown names named) (option_map_or (code_places t) o []) × JumpsAmong (own t) o

  good_content : (t : ℕ) (o : Option Instr) → IfSome o (IsTold t) → IsGoodContent t (option_map (code_named names (own t)) o)
  good_content t None h = (tt, tt, refl)
  good_content t (Some i) told = subst (λ (c : CodeView). IsGoodContent t (Some c)) (sym told.1) (told.3, told.4, told.5)

  -- `IsTold` holds of each thread's code
  abbrev pub AreTold : List Thread → Type 0
  AreTold threads = (t : ℕ) → AllByRecursion (IsTold t) (code_of threads t)

  module _ (threads : List Thread) (told : AreTold threads) (good : (t : ℕ) → AreGoodLabels (own t)) where
    content : (k t : ℕ) → IsGoodContent t (option_map (code_named names (own t)) (instr_at threads t k))
    content k t = good_content t (instr_at threads t k) (all_at (IsTold t) (code_of threads t) k (told t))

    cells_good : (k t : ℕ) → IsGoodCell t (cell_of names labels threads k t)
    cells_good k t = let c = content k t in ((labels_good (own t) k (good t), c.0), c.1)

    row_printable : (k : ℕ) → IsPrintableRow (length threads) (row_of names labels threads k)
    row_printable k = (
      length-map (range_with_len 0 (length threads)) (cell_of names labels threads k) ∙ length-range_with_len 0 (length threads),
      all_of_range IsPrintableCell (cell_of names labels threads k) (λ t. (cells_good k t).0) 0 (length threads),
    )

    pub rows_printable : AllByRecursion (IsPrintableRow (length threads)) (rows_of names labels threads)
    rows_printable = all_of_range (IsPrintableRow (length threads)) (row_of names labels threads) row_printable 0 (most_cells labels 0 threads)

    row_known : (k a n : ℕ) → AllByRecursion (IsKnown names named) (cells_places a (map (cell_of names labels threads k) (range_with_len a n)))
    row_known k a zero = tt
    row_known k a (suc n) =
        all_of_both (IsKnown names named) (cell_places a (cell_of names labels threads k a)) (cells_places (a + 1) (map (cell_of names labels threads k) (range_with_len (a + 1) n)))
        (cells_good k a).1 (row_known k (a + 1) n)

    pub rows_known : AllByRecursion (IsKnown names named) (flat_map row_places (rows_of names labels threads))
    rows_known =
        let known : List CellView → Type 0 = λ row. AllByRecursion (IsKnown names named) (row_places row) in
        all_given known (IsKnown names named) row_places (λ row h. h) (rows_of names labels threads) (all_of_range known (row_of names labels threads) (λ k. row_known k 0 (length threads)) 0 (most_cells labels 0 threads))

    row_found : (k a n : ℕ) → are_found labels a (map (cell_of names labels threads k) (range_with_len a n)) ≡ true
    row_found k a zero = refl
    row_found k a (suc n) =
        both_true (is_found (own a) (cell_of names labels threads k a)) (are_found labels (a + 1) (map (cell_of names labels threads k) (range_with_len (a + 1) n)))
        (content k a).2 (row_found k (a + 1) n)

    some_rows_found : (a n : ℕ) → list_all (are_found labels 0) (map (row_of names labels threads) (range_with_len a n)) ≡ true
    some_rows_found a zero = refl
    some_rows_found a (suc n) =
        both_true (are_found labels 0 (row_of names labels threads a)) (list_all (are_found labels 0) (map (row_of names labels threads) (range_with_len (a + 1) n)))
        (row_found a 0 (length threads)) (some_rows_found (a + 1) n)

    -- its jumps are found
    pub rows_found : list_all (are_found labels 0) (rows_of names labels threads) ≡ true
    rows_found = some_rows_found 0 (most_cells labels 0 threads)

  -- ---- what the canonical rows mean

  told_again : (t : ℕ) (o : Option Instr) → IfSome o (IsTold t) → option_map (instruction_of (number_in names) (position_in (own t))) (option_map (code_named names (own t)) o) ≡ o
  told_again t None h = refl
  told_again t (Some i) told = ap (λ (c : CodeView). Some (instruction_of (number_in names) (position_in (own t)) c)) told.1 ∙ ap (λ (x : Instr). Some x) told.2

  -- how many cells code has, with the labels of its end
  abbrev pub cells : List CodeLabel → List Instr → ℕ
  cells ls code = length code + (if nat_lt 0 (length (label_names_at ls (length code))) then 1 else 0)

  within_from : (a t u : ℕ) (threads : List Thread) → a + t ≡ u → t < length threads → cells (own u) (code_of threads t) ≤ most_cells labels a threads
  within_from a t u [] e lt = absurd (omega arith)
  within_from a zero u (thread ∷ threads) e lt =
      let first : u ≡ a = omega arith in
      let same = ap (λ (v : ℕ). cells (own v) thread.code) first in
      omega arith
  within_from a (suc t) u (thread ∷ threads) e lt = let rest = within_from (a + 1) t u threads (omega arith) (omega (arith, lt)) in omega arith

  pub within_most : (threads : List Thread) (t : ℕ) → t < length threads → cells (own t) (code_of threads t) ≤ most_cells labels 0 threads
  within_most threads t lt = within_from 0 t t threads (omega arith) lt

  filter_map_map : {X Y Z : Type 0} (h : Y → Option Z) (f : X → Y) (xs : List X) → filter_map h (map f xs) ≡ filter_map (λ x. h (f x)) xs
  filter_map_map h f [] = refl
  filter_map_map {Z = Z} h f (x ∷ xs) = ap (λ (zs : List Z). cons_option (h (f x)) zs) (filter_map_map h f xs)

  -- the code of the canonical rows is the code
  pub code_again : (threads : List Thread) → AreTold threads → (t : ℕ) → t < length threads → meaning.code_in (number_in names) (position_in (own t)) (rows_of names labels threads) t ≡ code_of threads t
  code_again threads told t lt =
      let f : List CellView → Option Instr = instruction_in (number_in names) (position_in (own t)) t in
      let at : (k : ℕ) → f (row_of names labels threads (0 + k)) ≡ slice_get (code_of threads t) k =
      λ k.
      let same : 0 + k ≡ k = omega arith in
      ap (λ (j : ℕ). f (row_of names labels threads j)) same
      ∙ ap (λ (o : Option CellView). option_map (instruction_of (number_in names) (position_in (own t))) (option_and_then (λ c. c.code) o)) (made_at (cell_of names labels threads k) (length threads) t lt)
      ∙ told_again t (slice_get (code_of threads t) k) (all_at (IsTold t) (code_of threads t) k (told t)) in
      let count : length (code_of threads t) ≤ most_cells labels 0 threads = (let w = within_most threads t lt in omega arith) in
      filter_map_map f (row_of names labels threads) (range_with_len 0 (most_cells labels 0 threads))
      ∙ by_places (λ k. f (row_of names labels threads k)) (code_of threads t) 0 (most_cells labels 0 threads) at count
