-- What a text names: each name can be printed, and each place that it names is named.
use Rattle.litmus_text.proofs.Vocabulary.{◌≡◌, ℕ, ◌+◌, ◌<◌, ◌≤◌, Bool, true, false, cond, ◌||◌, List, [], ◌∷◌, ◌++◌, length, map, fold, Option, Some, None, sym, ap, ◌∙◌, subst, inl, inr, arith, or_parts, if◌then◌else◌, slice_index_or, AllByRecursion}
use Rattle.litmus_text.proofs.Vocabulary.{list_any, find, flat_map, filter_map, option_map_or, bytes_eq, cases_Bool, list_any-append, get_or-map-range_with_len, Reg, PlaceView, Location, Register, EntryView, CodeView, LoadImm, Copy, Load, StoreImm, Store}
use Rattle.litmus_text.proofs.Vocabulary.{Xchg, CmpImm, CmpReg, CellView, BodyView, SignView, Atom, EndingView, same_place, all_registers, with_name, code_places, cell_places, cells_places, row_places, sign_places, entry_place, places, location_name}
use Rattle.litmus_text.proofs.Vocabulary.{is_register, names_of, is_named, first_value, IsTextNumber, IsLocationName, IsPrintablePlace, IsPrintableEntry, IsPrintableCode, IsPrintableContent, IsPrintableCell, IsPrintableRow, IsPrintableSign, append-nil}
use Rattle.litmus_text.proofs.Vocabulary.{same_place_itself, in_order, Stands, stand_from}
use Rattle.tso_program.specs.Instructions.{number}
use Rattle.litmus_text.proofs.{NamedPlaces.at_register, NamedPlaces.nothing_held, ToldCode.IsKnown, Lists.all_of_both, Lists.all_mapped, Lists.all_given, Lists.each_among}

-- ---- the places of a text can be printed

code_places_printable : (threads t : ℕ) (c : CodeView) → t < threads → IsPrintableCode c → AllByRecursion (IsPrintablePlace threads) (code_places t c)
code_places_printable threads t (LoadImm r n) lt h = (lt, tt)
code_places_printable threads t (Copy r s) lt h = (lt, (lt, tt))
code_places_printable threads t (Load r x) lt h = (lt, (h, tt))
code_places_printable threads t (StoreImm x n) lt h = (h.0, tt)
code_places_printable threads t (Store x r) lt h = (h, (lt, tt))
code_places_printable threads t (Xchg x r) lt h = (h, (lt, tt))
code_places_printable threads t (CmpImm r n) lt h = (lt, tt)
code_places_printable threads t (CmpReg r s) lt h = (lt, (lt, tt))
code_places_printable threads t c lt h = tt

content_places_printable : (threads t : ℕ) (c : Option CodeView) → t < threads → IsPrintableContent c → AllByRecursion (IsPrintablePlace threads) (option_map_or (code_places t) c [])
content_places_printable threads t None lt h = tt
content_places_printable threads t (Some c) lt h = code_places_printable threads t c lt h

cells_places_printable : (threads a : ℕ) (cells : List CellView) → a + length cells ≤ threads → AllByRecursion IsPrintableCell cells → AllByRecursion (IsPrintablePlace threads) (cells_places a cells)
cells_places_printable threads a [] le h = tt
cells_places_printable threads a (cell ∷ cells) le h =
    all_of_both (IsPrintablePlace threads) (cell_places a cell) (cells_places (a + 1) cells)
    (content_places_printable threads a cell.code (omega (arith, le)) h.0.1) (cells_places_printable threads (a + 1) cells (omega (arith, le)) h.1)

sign_places_printable : (threads : ℕ) (s : SignView) → IsPrintableSign threads s → AllByRecursion (IsPrintablePlace threads) (sign_places s)
sign_places_printable threads (Atom p n) h = (h.0, tt)
sign_places_printable threads s h = tt

pub places_printable : (b : BodyView) (e : EndingView) → AllByRecursion (IsPrintableEntry b.threads) b.entries → AllByRecursion (IsPrintableRow b.threads) b.rows → AllByRecursion (IsPrintablePlace b.threads) e.observed
    → AllByRecursion (IsPrintableSign b.threads) e.signs → AllByRecursion (IsPrintablePlace b.threads) (places b e)
places_printable b e entries rows shown signs =
    let ends : List PlaceView = e.observed ++ flat_map sign_places e.signs in
    all_of_both (IsPrintablePlace b.threads) (map entry_place b.entries) (flat_map row_places b.rows ++ ends) (all_mapped (IsPrintableEntry b.threads) (IsPrintablePlace b.threads) entry_place (λ e h. h.0) b.entries entries)
    (all_of_both (IsPrintablePlace b.threads) (flat_map row_places b.rows) ends
    (all_given (IsPrintableRow b.threads) (IsPrintablePlace b.threads) row_places (λ row h. cells_places_printable b.threads 0 row (omega (arith, h.0)) h.1) b.rows rows)
    (all_of_both (IsPrintablePlace b.threads) e.observed (flat_map sign_places e.signs) shown (all_given (IsPrintableSign b.threads) (IsPrintablePlace b.threads) sign_places (sign_places_printable b.threads) e.signs signs)))

-- ---- so can the names

added_good : (names : List (List ℕ)) (x : List ℕ) (b : Bool) → AllByRecursion IsLocationName names → IsLocationName x → AllByRecursion IsLocationName (if b then names else names ++ x ∷ [])
added_good names x true h g = h
added_good names x false h g = all_of_both IsLocationName names (x ∷ []) h (g, tt)

pub names_good : (threads : ℕ) (names : List (List ℕ)) (ps : List PlaceView) → AllByRecursion IsLocationName names → AllByRecursion (IsPrintablePlace threads) ps
    → AllByRecursion IsLocationName (fold with_name names (filter_map location_name ps))
names_good threads names [] h g = h
names_good threads names (Location x ∷ ps) h g = names_good threads (with_name names x) ps (added_good names x (list_any (bytes_eq x) names) h g.0) g.1
names_good threads names (Register t r ∷ ps) h g = names_good threads names ps h g.1

-- ---- which registers are named

-- those that stand among the places
pub named_is : (b : BodyView) (e : EndingView) (t : ℕ) (r : Reg) → t < b.threads → is_named (names_of b e) t r ≡ list_any (is_register t r) (places b e)
named_is b e t r lt =
    let flags : ℕ → List Bool = λ u. map (λ s. list_any (is_register u s) (places b e)) all_registers in
    ap (λ (bs : List Bool). slice_index_or bs (number r) false) (get_or-map-range_with_len flags 0 b.threads t t [] lt (omega arith))
    ∙ at_register (λ s. list_any (is_register t s) (places b e)) r false

known_of : (b : BodyView) (e : EndingView) (qs : List PlaceView) → AllByRecursion (IsPrintablePlace b.threads) qs → AllByRecursion (Stands (names_of b e).locations) qs
    → AllByRecursion (λ p. list_any (λ q. same_place q p) (places b e) ≡ true) qs → AllByRecursion (IsKnown (names_of b e).locations (is_named (names_of b e))) qs
known_of b e [] printable stand among = tt
known_of b e (Location x ∷ qs) printable stand among = (stand.0, known_of b e qs printable.1 stand.1 among.1)
known_of b e (Register t r ∷ qs) printable stand among = (named_is b e t r printable.0 ∙ among.0, known_of b e qs printable.1 stand.1 among.1)

-- each place of a text is named
pub places_known : (b : BodyView) (e : EndingView) → AllByRecursion (IsPrintablePlace b.threads) (places b e) → AllByRecursion (IsKnown (names_of b e).locations (is_named (names_of b e))) (places b e)
places_known b e printable =
    let ps : List PlaceView = places b e in
    let stand = subst (λ (qs : List PlaceView). AllByRecursion (Stands (in_order (filter_map location_name qs))) ps) (append-nil ps) (stand_from [] ps []) in
    known_of b e ps printable stand (each_among same_place same_place_itself ps)

-- ---- what the places hold

pub found_small : (threads : ℕ) (p : PlaceView) (es : List EntryView) → AllByRecursion (IsPrintableEntry threads) es → IsTextNumber (first_value es p)
found_small threads p [] h = omega arith
found_small threads p (e ∷ es) h =
    let value : Bool → ℕ = λ b. option_map_or (λ (x : EntryView). x.value) (cond b (Some e) (find (λ x. same_place x.place p) es)) 0 in
    elim (cases_Bool (same_place e.place p)) [
      | inl t ↦ subst IsTextNumber (sym (ap value t)) h.0.1
      | inr f ↦ subst IsTextNumber (sym (ap value f)) (found_small threads p es h.1)
    ]

-- a register that is not named holds 0
pub unnamed_zero : (b : BodyView) (e : EndingView) (t : ℕ) (r : Reg) → t < b.threads → is_named (names_of b e) t r ≡ false → first_value b.entries (Register t r) ≡ 0
unnamed_zero b e t r lt h =
    let f : PlaceView → Bool = is_register t r in
    let more : List PlaceView = flat_map row_places b.rows ++ (e.observed ++ flat_map sign_places e.signs) in
    let none : (list_any f (map entry_place b.entries) || list_any f more) ≡ false = sym (list_any-append f (map entry_place b.entries) more) ∙ sym (named_is b e t r lt) ∙ h in
    nothing_held (Register t r) b.entries (or_parts (list_any f (map entry_place b.entries)) (list_any f more) none).0
