-- The canonical text of a program, fenced at any gaps, stands for that program.
use Rattle.litmus_text.proofs.Vocabulary.{◌≡◌, ℕ, ◌+◌, ◌*◌, ◌<◌, ◌≤◌, suc, Bool, true, List, [], ◌∷◌, ◌++◌, length, map, get_or, Option, refl, sym, ap, ◌∙◌, subst, inl, inr, arith, AllByRecursion, IsDistinct, list_all, list_any, flat_map, filter_map}
use Rattle.litmus_text.proofs.Vocabulary.{cons_option, range_with_len, option_map_or, bytes_eq, cases_Bool, cases_lt, slice_get-get_or, slice_get_past, fill_by_all, length-map-range_with_len, bytes_eq-Decides, Tok, Reg, Thread, Listing, code_of, Tree}
use Rattle.litmus_text.proofs.Vocabulary.{tree_map, Spells, Sum, enclosed_signs_of, PlaceView, Location, Register, EntryView, CellView, BodyView, SignView, EndingView, NoneTwice, all_names, same_place, AreVisible, TextNames, all_registers, number_in}
use Rattle.litmus_text.proofs.Vocabulary.{entry_place, row_places, sign_places, places, location_name, is_register, names_of, names_among, is_named, CodeLabel, column, labels_behind, thread_labels, all_labels, position_in, are_found, JumpsAreFound, entries_of}
use Rattle.litmus_text.proofs.Vocabulary.{own_labels, moved_labels, body_of, place_named, signs_named, ending_of, litmus_fenced_at, canonical_text, IsTextNumber, IsPrintablePlace, IsPrintableEntry, IsPrintableRow, IsPrintable, IsPrintableSign, ArePrintable}
use Rattle.litmus_text.proofs.Vocabulary.{IsPrintableEnding, Gaps, gaps_in, fence, fenced_threads, same_count, fencing_stays_within_limits, first_value, memory_of, registers_of, thread_read, listing_of, observed_of, numbered_atom, condition_of, AreParts}
use Rattle.litmus_text.proofs.Vocabulary.{Means, StandsFor, IsFencedLitmus, in_order_once, HasParts, CanonicalTextIsRead, MAX_THREADS}
use Rattle.gap_sets.specs.Gaps.{SetOfGaps}
use Rattle.tso_program.specs.Limits.{IsWithinLimits}
use Rattle.litmus_reader.specs.declared.litmus.Litmus.{Litmus}
use Rattle.litmus_reader.specs.Meaning as meaning
use Rattle.litmus_text.proofs.{PrintedIsRead.printed_is_read, Lists.both_of_all, Lists.all_of_both, Lists.all_more_so, Lists.map_same, Lists.each_among}
use Rattle.litmus_text.proofs.NamedPlaces.{Named, named_places, threads_places, entry_at, RegistersAre, entries_are, Rising, rising_wider, rising_threads, places_once, placed_entries, printable_places, held_among, held_nowhere, register_among, location_among}
use Rattle.litmus_text.proofs.ToldCode.{IsKnown, AreTold, name_back, rows_printable, rows_known, rows_found, code_again}
use Rattle.litmus_text.proofs.{LabelsNamed.label_name, LabelsNamed.AreGoodLabels, LabelsNamed.Ascending, LabelsOnce.rows_once, LabelsAgain.labels_again}
use Rattle.litmus_text.proofs.ThreadsAgain.{fences_told, good, names_once, ascending, registers_at, fenced_registers, text_registers}
use Rattle.litmus_text.proofs.NamedByText.{places_printable, names_good, named_is, places_known, unnamed_zero, found_small}
use Rattle.litmus_text.proofs.NamesAgain.{locations_again, registers_again}
use Rattle.litmus_text.proofs.SaidSigns.{Said, view_of, IsSaid, IsSayable, text_said, sayable, enclosed_said, signs_are, spelled_again, signs_printable, signs_known, enclosed_apart}
use Rattle.litmus_text.proofs.GoodTokens.{AreGood, lexed_good, after_body, after_ending}

-- a text's parts, which can be printed
record IsGoodText (b : BodyView) (e : EndingView) (f : Tree Said) : Type 0 where
  some : 0 < b.threads
  few : IsTextNumber b.threads
  entries : AllByRecursion (IsPrintableEntry b.threads) b.entries
  rows : AllByRecursion (IsPrintableRow b.threads) b.rows
  labels_once : NoneTwice (all_names b.rows)
  jumps : JumpsAreFound b
  shown : AllByRecursion (IsPrintablePlace b.threads) e.observed
  signs : AllByRecursion (IsPrintableSign b.threads) e.signs
  spells : Spells Sum f (map meaning.sign_of e.signs) []

-- what a text of this name with these parts stands for
abbrev source : List ℕ → BodyView → EndingView → Tree Said → Litmus Listing
source name b e f = record {
  name = name;
  program = listing_of (names_of b e).locations b;
  names = names_of b e;
  condition = condition_of (number_in (names_of b e).locations) e.quantifier f;
  observed = map (observed_of (number_in (names_of b e).locations)) e.observed;
  labels = all_labels b;
}

-- a place that is named, named again
place_again : (names : List (List ℕ)) (named : Named) → IsDistinct bytes_eq names → (p : PlaceView) → IsKnown names named p → place_named names (observed_of (number_in names) p) ≡ p
place_again names named once (Location x) h = ap (λ (y : List ℕ). Location y) (name_back names x once h)
place_again names named once (Register t r) h = refl

places_again : (names : List (List ℕ)) (named : Named) → IsDistinct bytes_eq names → (ps : List PlaceView) → AllByRecursion (IsKnown names named) ps
    → map (place_named names) (map (observed_of (number_in names)) ps) ≡ ps
places_again names named once [] h = refl
places_again names named once (p ∷ ps) h =
    ap (λ (q : PlaceView). q ∷ map (place_named names) (map (observed_of (number_in names)) ps)) (place_again names named once p h.0) ∙ ap (λ (qs : List PlaceView). p ∷ qs) (places_again names named once ps h.1)

same_labels_count : (gaps : Gaps) (t : ℕ) (labels : List (List CodeLabel)) → length (moved_labels gaps t labels) ≡ length labels
same_labels_count gaps t [] = refl
same_labels_count gaps t (ls ∷ labels) = ap suc (same_labels_count gaps (t + 1) labels)

module _ (b : BodyView) (e : EndingView) (f : Tree Said) (text : IsGoodText b e f) (gaps : Gaps) where
  abbrev names : TextNames
  names = names_of b e

  abbrev locations : List (List ℕ)
  locations = names.locations

  abbrev named : Named
  named = is_named names

  abbrev held : PlaceView → ℕ
  held = first_value b.entries

  abbrev program : Listing
  program = fence gaps (listing_of locations b)

  abbrev threads : List Thread
  threads = fenced_threads gaps 0 (map (thread_read (number_in locations) b) (range_with_len 0 b.threads))

  abbrev labels : List (List CodeLabel)
  labels = moved_labels gaps 0 (all_labels b)

  abbrev body : BodyView
  body = body_of names labels program

  abbrev named_ones : List PlaceView
  named_ones = named_places locations named (length threads)

  -- ---- what is known of the text

  count : length threads ≡ b.threads
  count =
      same_count gaps 0 (map (thread_read (number_in locations) b) (range_with_len 0 b.threads)) ∙ length-map-range_with_len (thread_read (number_in locations) b) 0 b.threads

  once : IsDistinct bytes_eq locations
  once = in_order_once (filter_map location_name (places b e))

  printable : AllByRecursion (IsPrintablePlace b.threads) (places b e)
  printable = places_printable b e text.entries text.rows text.shown text.signs

  known_parts : AllByRecursion (IsKnown locations named) (flat_map row_places b.rows) × AllByRecursion (IsKnown locations named) e.observed × AllByRecursion (IsKnown locations named) (flat_map sign_places e.signs)
  known_parts =
      let ends : List PlaceView = e.observed ++ flat_map sign_places e.signs in
      let known = both_of_all (IsKnown locations named) (map entry_place b.entries) (flat_map row_places b.rows ++ ends) (places_known b e printable) in
      let rest = both_of_all (IsKnown locations named) (flat_map row_places b.rows) ends known.1 in
      let last = both_of_all (IsKnown locations named) e.observed (flat_map sign_places e.signs) rest.1 in
      (rest.0, last.0, last.1)

  told : AreTold locations named labels threads
  told = fences_told locations named once gaps b text.rows known_parts.0 text.jumps text.labels_once

  may_stand : (t : ℕ) → AreGoodLabels (own_labels labels t)
  may_stand = good locations named once gaps b text.rows known_parts.0 text.jumps text.labels_once

  in_turn : (t : ℕ) → Ascending 0 (length (code_of threads t)) (own_labels labels t)
  in_turn = ascending locations named once gaps b text.rows known_parts.0 text.jumps text.labels_once

  registers : RegistersAre held 0 threads
  registers = fenced_registers (first_value b.entries) gaps 0 (map (thread_read (number_in locations) b) (range_with_len 0 b.threads)) (text_registers (number_in locations) b 0 b.threads)

  small : (p : PlaceView) → IsTextNumber (held p)
  small = λ p. found_small b.threads p b.entries text.entries

  said : IsSayable locations named b.threads f
  said = (sayable locations named b.threads text.spells (text_said locations named b.threads e.signs text.signs known_parts.2)).0

  -- ---- the labels

  own_again : (t : ℕ) → t < length threads → thread_labels body.rows t ≡ own_labels labels t
  own_again t lt = labels_again locations labels threads t lt named (in_turn t)

  same_labels : labels ≡ all_labels body
  same_labels = fill_by_all (thread_labels body.rows) labels (length threads) [] (same_labels_count gaps 0 (all_labels b) ∙ length-map-range_with_len (thread_labels b.rows) 0 b.threads ∙ sym count) (λ t lt. sym (own_again t lt))

  no_cell : (rows : List (List CellView)) (t : ℕ) → AllByRecursion (IsPrintableRow (length threads)) rows → length threads ≤ t → column rows t ≡ []
  no_cell [] t h le = refl
  no_cell (row ∷ rows) t h le =
      let past : length row ≤ t = omega (arith, h.0.0, le) in
      ap (λ (o : Option CellView). cons_option o (column rows t)) (slice_get_past row t past) ∙ no_cell rows t h.1 le

  body_rows : AllByRecursion (IsPrintableRow (length threads)) body.rows
  body_rows = rows_printable locations named labels threads told may_stand

  -- ---- the canonical parts

  entries_told : entries_of names program ≡ map (entry_at held) named_ones
  entries_told = entries_are held names (memory_of locations b.entries) threads refl registers

  rising : Rising (6 * 0) (6 * length threads) (threads_places named 0 (length threads))
  rising = rising_wider (6 * 0) (6 * 0) (6 * (0 + length threads)) (6 * length threads) (threads_places named 0 (length threads)) (omega arith) (omega arith) (rising_threads named 0 (length threads))

  entries_placed : map entry_place (entries_of names program) ≡ named_ones
  entries_placed = ap (map entry_place) entries_told ∙ placed_entries held named_ones

  body_printable : IsPrintable body
  body_printable = record {
    some_thread = let some : 0 < length threads = omega (arith, text.some, count) in some;
    few_threads = subst IsTextNumber (sym count) text.few;
    entries = subst (AllByRecursion (IsPrintableEntry (length threads))) (sym entries_told)
        (printable_places held (length threads) small locations (6 * 0) (threads_places named 0 (length threads)) (names_good b.threads [] (places b e) tt printable) rising);
    none_twice = subst NoneTwice (sym entries_placed) (places_once locations (6 * 0) (6 * length threads) (threads_places named 0 (length threads)) once rising);
    rows = body_rows;
    labels_once = rows_once body.rows (λ t. elim (cases_lt t (length threads)) [
      | inl lt ↦ subst (λ (ls : List CodeLabel). NoneTwice (map label_name ls)) (sym (own_again t lt)) ((names_once locations named once gaps b text.rows known_parts.0 text.jumps text.labels_once) t)
      | inr le ↦ subst (λ (cs : List CellView). NoneTwice (map label_name (labels_behind 0 cs))) (sym (no_cell body.rows t body_rows le)) tt
    ]);
  }

  abbrev signs : List SignView
  signs = signs_named locations (tree_map (numbered_atom (number_in locations)) f)

  abbrev ending : EndingView
  ending = ending_of locations (map (observed_of (number_in locations)) e.observed) (condition_of (number_in locations) e.quantifier f)

  signs_told : signs ≡ map view_of (enclosed_signs_of f)
  signs_told = signs_are locations named b.threads once f said

  said_signs : AllByRecursion (IsSaid locations named b.threads) (enclosed_signs_of f)
  said_signs = enclosed_said locations named b.threads f said

  shown_again : ending.observed ≡ e.observed
  shown_again = places_again locations named once e.observed known_parts.1

  ending_printable : IsPrintableEnding (length threads) ending
  ending_printable = record {
    observed = subst (λ (ps : List PlaceView). AllByRecursion (IsPrintablePlace (length threads)) ps) (sym shown_again)
        (subst (λ (n : ℕ). AllByRecursion (IsPrintablePlace n) e.observed) (sym count) text.shown);
    signs =
        let each : AllByRecursion (IsPrintableSign b.threads) (map view_of (enclosed_signs_of f)) = signs_printable locations named b.threads (enclosed_signs_of f) said_signs in
        subst (ArePrintable (length threads)) (sym signs_told) (subst (λ (n : ℕ). AllByRecursion (IsPrintableSign n) (map view_of (enclosed_signs_of f))) (sym count) each, enclosed_apart f);
  }

  -- ---- what they stand for

  rest_known : AllByRecursion (IsKnown locations named) (flat_map row_places body.rows ++ (ending.observed ++ flat_map sign_places signs))
  rest_known =
      all_of_both (IsKnown locations named) (flat_map row_places body.rows) (ending.observed ++ flat_map sign_places signs) (rows_known locations named labels threads told may_stand)
      (all_of_both (IsKnown locations named) ending.observed (flat_map sign_places signs)
      (subst (λ (ps : List PlaceView). AllByRecursion (IsKnown locations named) ps) (sym shown_again) known_parts.1)
      (subst (λ (vs : List SignView). AllByRecursion (IsKnown locations named) (flat_map sign_places vs)) (sym signs_told) (signs_known locations named b.threads (enclosed_signs_of f) said_signs)))

  same_names : names ≡ names_of body ending
  same_names =
      let rest : List PlaceView = flat_map row_places body.rows ++ (ending.observed ++ flat_map sign_places signs) in
      let is : (t : ℕ) (r : Reg) → t < length threads → named t r ≡ list_any (is_register t r) (places b e) = λ t r lt. named_is b e t r (omega (arith, lt, count)) in
      let tables : (names_among (length threads) (named_ones ++ rest)).registers ≡ names.registers =
      registers_again locations named (length threads) rest (places b e) rest_known is ∙ ap (λ (n : ℕ). (names_among n (places b e)).registers) count in
      let whole : names_among (length threads) (named_ones ++ rest) ≡ names =
      λ i. record { locations = locations_again locations named (length threads) rest once rest_known i; registers = tables i } in
      sym (ap (λ (ps : List PlaceView). names_among (length threads) (ps ++ rest)) entries_placed ∙ whole)

  value_again : (p : PlaceView) → list_any (λ q. same_place q p) named_ones ≡ true → held p ≡ first_value body.entries p
  value_again p h = sym (ap (λ (es : List EntryView). first_value es p) entries_told ∙ held_among held p named_ones h)

  same_memory : program.memory ≡ memory_of locations body.entries
  same_memory =
      let alike : List ℕ → List ℕ → Bool = λ y x. bytes_eq x y in
      let stand : AllByRecursion (λ x. list_any (bytes_eq x) locations ≡ true) locations = each_among alike (λ x. (bytes_eq-Decides x x).1 refl) locations in
      map_same (λ x. held (Location x)) (λ x. first_value body.entries (Location x)) locations
      (all_more_so (λ x. list_any (bytes_eq x) locations ≡ true) (λ x. held (Location x) ≡ first_value body.entries (Location x))
      (λ x h. value_again (Location x) (location_among x locations (threads_places named 0 (length threads)) h)) locations stand)

  register_value : (t : ℕ) (r : Reg) → t < length threads → held (Register t r) ≡ first_value body.entries (Register t r)
  register_value t r lt =
      let among : list_any (is_register t r) named_ones ≡ named t r = register_among locations named (length threads) t r lt in
      elim (cases_Bool (named t r)) [
        | inl there ↦ value_again (Register t r) (among ∙ there)
        | inr other ↦
            unnamed_zero b e t r (omega (arith, lt, count)) other
            ∙ sym (ap (λ (es : List EntryView). first_value es (Register t r)) entries_told ∙ held_nowhere held (Register t r) named_ones (among ∙ other))
      ]

  same_thread : (t : ℕ) (d : Thread) → t < length threads → get_or threads t d ≡ thread_read (number_in locations) body t
  same_thread t d lt =
      let code : (get_or threads t d).code ≡ meaning.code_in (number_in locations) (position_in (thread_labels body.rows t)) body.rows t =
      sym (ap (λ (o : Option Thread). option_map_or (λ (thread : Thread). thread.code) o []) (slice_get-get_or threads t d lt)) ∙ sym (code_again locations named labels threads told t lt)
      ∙ ap (λ (ls : List CodeLabel). meaning.code_in (number_in locations) (position_in ls) body.rows t) (sym (own_again t lt)) in
      let values : (get_or threads t d).registers ≡ registers_of body.entries t = registers_at held t threads d lt registers ∙ (λ i. map (λ r. register_value t r lt i) all_registers) in
      λ i. record { code = code i; registers = values i }

  same_threads : threads ≡ map (thread_read (number_in locations) body) (range_with_len 0 (length threads))
  same_threads =
      let d : Thread = record { code = []; registers = [] } in
      fill_by_all (thread_read (number_in locations) body) threads (length threads) d refl (λ t lt. same_thread t d lt)

  -- the canonical text stands for the fenced program
  stands : (name : List ℕ) → AreVisible name
      → StandsFor (canonical_text (record (source name b e f) { program = program; labels = labels })) (record (source name b e f) { program = program; labels = labels })
  stands name visible =
      let h : HasParts (canonical_text (record (source name b e f) { program = program; labels = labels })) name body ending = printed_is_read name body ending visible body_printable ending_printable in
      let jumps : JumpsAreFound body = subst (λ (ls : List (List CodeLabel)). list_all (are_found ls 0) body.rows ≡ true) same_labels (rows_found locations named labels threads told may_stand) in
      let spells : Spells Sum f (map meaning.sign_of signs) [] = subst (λ (vs : List SignView). Spells Sum f (map meaning.sign_of vs) []) (sym signs_told) (spelled_again f) in
      record {
        lines = h.lines;
        others = h.lines;
        skipped = h.skipped;
        tokens = h.tokens;
        utf8 = h.utf8;
        first_line = h.first_line;
        lexes = h.lexes;
        means = record {
          body = body;
          ending = ending;
          formula = f;
          parts = record { others = h.others; begins = h.begins; ends = h.ends; spells = spells; jumps = jumps };
          names = same_names;
          program = λ i. record { threads = same_threads i; memory = same_memory i };
          condition = refl;
          observed = ap (map (observed_of (number_in locations))) (sym shown_again);
          labels = same_labels;
        };
      }

-- ---- of what a text stands for

fenced_text : (name : List ℕ) (b : BodyView) (e : EndingView) (f : Tree Said) (tokens : List Tok) (gaps : SetOfGaps) → AreVisible name → AreGood tokens → AreParts tokens b e f
    → IsWithinLimits (source name b e f).program.threads (source name b e f).program.memory
    → IsFencedLitmus (canonical_text (litmus_fenced_at gaps (source name b e f))) (litmus_fenced_at gaps (source name b e f))
fenced_text name b e f tokens gaps visible whole parts limits =
    let threads : List Thread = (source name b e f).program.threads in
    let count : length threads ≡ b.threads = length-map-range_with_len (thread_read (number_in (names_of b e).locations) b) 0 b.threads in
    let some : 0 < b.threads = let h : 0 < length threads = limits.shared.some_thread in omega (arith, h, count) in
    let few : IsTextNumber b.threads = let h : length threads ≤ MAX_THREADS = limits.shared.few_threads in omega (arith, h, count) in
    let before = after_body b tokens parts.others parts.begins whole in
    let behind = after_ending b.threads e parts.others parts.ends before.1 in
    let text : IsGoodText b e f = record {
      some = some;
      few = few;
      entries = before.0.0.0;
      rows = before.0.0.1;
      labels_once = before.0.1;
      jumps = parts.jumps;
      shown = behind.0;
      signs = behind.1;
      spells = parts.spells;
    } in (
      stands b e f text (gaps_in (source name b e f).program gaps) name visible,
      fencing_stays_within_limits (source name b e f).program gaps limits,
    )

pub canonical_is_read : CanonicalTextIsRead
canonical_is_read text litmus is gaps =
    let stands_for : StandsFor text litmus = is.0 in
    let means : Means stands_for.tokens litmus = stands_for.means in
    let visible : AreVisible litmus.name = stands_for.first_line.2.4 in
    let own : Litmus Listing = source litmus.name means.body means.ending means.formula in
    let same : litmus ≡ own =
    λ i. record {
      name = litmus.name;
      program = (means.program ∙ ap (λ (n : TextNames). listing_of n.locations means.body) means.names) i;
      names = means.names i;
      condition = (means.condition ∙ ap (λ (n : TextNames). condition_of (number_in n.locations) means.ending.quantifier means.formula) means.names) i;
      observed = (means.observed ∙ ap (λ (n : TextNames). map (observed_of (number_in n.locations)) means.ending.observed) means.names) i;
      labels = means.labels i;
    } in
    let limits : IsWithinLimits own.program.threads own.program.memory = subst (λ (l : Litmus Listing). IsWithinLimits l.program.threads l.program.memory) same is.1 in
    let read : IsFencedLitmus (canonical_text (litmus_fenced_at gaps own)) (litmus_fenced_at gaps own) =
    fenced_text litmus.name means.body means.ending means.formula stands_for.tokens gaps visible (lexed_good stands_for.tokens stands_for.others [] stands_for.lexes) means.parts limits in
    subst (λ (l : Litmus Listing). IsFencedLitmus (canonical_text (litmus_fenced_at gaps l)) (litmus_fenced_at gaps l)) (sym same) read
