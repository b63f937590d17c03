-- The threads of the fenced program, told by the canonical text.
use Rattle.litmus_text.proofs.Vocabulary.{◌≡◌, ℕ, ◌+◌, ◌<◌, ◌≤◌, zero, suc, List, [], ◌∷◌, length, map, get_or, Option, refl, sym, ap, ◌∙◌, subst, inl, inr, arith, slice_index_or, AllByRecursion, IsDistinct, flat_map, range_with_len, option_map_or, column}
use Rattle.litmus_text.proofs.Vocabulary.{bytes_eq, cases_lt, slice_get_past, length-map-range_with_len, get_or-map-range_with_len, Instr, Thread, code_of, Gaps, place_of, fenced_code, fenced_threads, PlaceView, Register, BodyView, NoneTwice, all_names}
use Rattle.litmus_text.proofs.Vocabulary.{all_registers, number_in, row_places, CodeLabel, thread_labels, all_labels, position_in, JumpsAreFound, first_value, thread_read, own_labels, moved_label, moved_labels, IsLabelName, map-map, IsPrintableRow, get_or_past}
use Rattle.litmus_text.proofs.Vocabulary.{fenced_code_of, ends, labels_in_rows}
use Rattle.litmus_reader.specs.Meaning as meaning
use Rattle.litmus_text.proofs.{LabelPlaces.moved_of, LabelsNamed.label_name, LabelsNamed.AreGoodLabels, LabelsNamed.Ascending, LabelsOnce.thread_own, LabelsOnce.once_in_thread}
use Rattle.litmus_text.proofs.{LabelsAgain.thread_ascending, LabelsAgain.moved_ascending, LabelsAgain.behind_good, LabelsAgain.column_printable, NamedPlaces.Named, NamedPlaces.RegistersAre}
use Rattle.litmus_text.proofs.{ToldCode.IsKnown, ToldCode.IsTold, ToldCode.AreTold, ToldCode.rows_told, ToldCode.fenced_told, Lists.all_mapped, Lists.made_at}

-- ---- labels and code

module _ (names : List (List ℕ)) (named : Named) (once : IsDistinct bytes_eq names) (gaps : Gaps) (b : BodyView) (printable : AllByRecursion (IsPrintableRow b.threads) b.rows)
    (known : AllByRecursion (IsKnown names named) (flat_map row_places b.rows)) (found : JumpsAreFound b) (labels_once : NoneTwice (all_names b.rows)) where
  abbrev source : List Thread
  source = map (thread_read (number_in names) b) (range_with_len 0 b.threads)

  abbrev threads : List Thread
  threads = fenced_threads gaps 0 source

  -- the labels, where their fences are
  abbrev labels : List (List CodeLabel)
  labels = moved_labels gaps 0 (all_labels b)

  abbrev positions : ℕ → List ℕ → ℕ
  positions t = position_in (thread_labels b.rows t)

  abbrev text_code : ℕ → List Instr
  text_code t = meaning.code_in (number_in names) (positions t) b.rows t

  own_source : (t : ℕ) → t < b.threads → slice_index_or (all_labels b) t [] ≡ thread_labels b.rows t
  own_source t lt = get_or-map-range_with_len (thread_labels b.rows) 0 b.threads t t [] lt (omega arith)

  pub own_is : (t : ℕ) → t < b.threads → own_labels labels t ≡ map (moved_label (gaps t)) (thread_labels b.rows t)
  own_is t lt = moved_of gaps t (all_labels b) ∙ ap (map (moved_label (gaps t))) (own_source t lt)

  pub own_past : (t : ℕ) → b.threads ≤ t → own_labels labels t ≡ []
  own_past t le =
      let count : length (all_labels b) ≡ b.threads = length-map-range_with_len (thread_labels b.rows) 0 b.threads in
      let past : length (all_labels b) ≤ t = omega arith in
      moved_of gaps t (all_labels b) ∙ ap (map (moved_label (gaps t))) (get_or_past (all_labels b) t [] past)

  -- what holds of each thread's moved labels holds of all
  each_thread : (P : ℕ → List CodeLabel → Type 0) → ((t : ℕ) → t < b.threads → P t (map (moved_label (gaps t)) (thread_labels b.rows t))) → ((t : ℕ) → P t []) → (t : ℕ) → P t (own_labels labels t)
  each_thread P there none t = elim (cases_lt t b.threads) [ inl lt ↦ subst (P t) (sym (own_is t lt)) (there t lt) | inr le ↦ subst (P t) (sym (own_past t le)) (none t) ]

  pub good : (t : ℕ) → AreGoodLabels (own_labels labels t)
  good =
      each_thread (λ t. AreGoodLabels) (λ t lt.
      all_mapped (λ (l : CodeLabel). IsLabelName l.name) (λ (l : CodeLabel). IsLabelName l.name) (moved_label (gaps t)) (λ l good. good) (thread_labels b.rows t)
      (behind_good 0 (column b.rows t) (column_printable b.threads b.rows t printable))) (λ t. tt)

  pub names_once : (t : ℕ) → NoneTwice (map label_name (own_labels labels t))
  names_once =
      each_thread (λ t ls. NoneTwice (map label_name ls)) (λ t lt. subst NoneTwice (sym (map-map label_name (moved_label (gaps t)) (thread_labels b.rows t))) (subst NoneTwice (thread_own t b.rows) (once_in_thread t (labels_in_rows b.rows) labels_once))) (λ t. tt)

  fenced_is : (t : ℕ) → t < b.threads → code_of threads t ≡ fenced_code (gaps t) 0 (text_code t)
  fenced_is t lt = fenced_code_of gaps t source ∙ ap (fenced_code (gaps t) 0) (ap (λ (o : Option Thread). option_map_or (λ (thread : Thread). thread.code) o []) (made_at (thread_read (number_in names) b) b.threads t lt))

  fenced_past : (t : ℕ) → b.threads ≤ t → code_of threads t ≡ []
  fenced_past t le =
      let count : length source ≡ b.threads = length-map-range_with_len (thread_read (number_in names) b) 0 b.threads in
      let past : length source ≤ t = omega arith in
      fenced_code_of gaps t source ∙ ap (λ (o : Option Thread). fenced_code (gaps t) 0 (option_map_or (λ (thread : Thread). thread.code) o [])) (slice_get_past source t past)

  pub ascending : (t : ℕ) → Ascending 0 (length (code_of threads t)) (own_labels labels t)
  ascending =
      each_thread (λ t. Ascending 0 (length (code_of threads t)))
      (λ t lt.
      let long : place_of (gaps t) (length (text_code t)) ≡ length (code_of threads t) = sym (ends (gaps t) (text_code t)) ∙ ap length (sym (fenced_is t lt)) in
      subst (λ (n : ℕ). Ascending 0 n (map (moved_label (gaps t)) (thread_labels b.rows t))) long
      (moved_ascending (gaps t) 0 (length (text_code t)) (thread_labels b.rows t) (thread_ascending (number_in names) (positions t) b.rows t)))
      (λ t. tt)

  -- `IsTold` holds of the fenced code
  pub fences_told : AreTold names named labels threads
  fences_told t =
      let all : List Instr → Type 0 = λ code. AllByRecursion (IsTold names named labels t) code in
      elim (cases_lt t b.threads) [
        | inl lt ↦
            subst all (sym (fenced_is t lt))
            (fenced_told names named labels once t (gaps t) (thread_labels b.rows t) (own_is t lt) (good t) (names_once t) 0 (text_code t)
            (rows_told names named labels once t (gaps t) (thread_labels b.rows t) (own_is t lt) (good t) (names_once t) (all_labels b) (own_source t lt) b.threads b.rows printable known found))
        | inr le ↦ subst all (sym (fenced_past t le)) tt
      ]

-- ---- registers

pub text_registers : (numbered : List ℕ → ℕ) (b : BodyView) (t n : ℕ) → RegistersAre (first_value b.entries) t (map (thread_read numbered b) (range_with_len t n))
text_registers numbered b t zero = tt
text_registers numbered b t (suc n) = (refl, text_registers numbered b (t + 1) n)

pub fenced_registers : (held : PlaceView → ℕ) (gaps : Gaps) (t : ℕ) (threads : List Thread) → RegistersAre held t threads → RegistersAre held t (fenced_threads gaps t threads)
fenced_registers held gaps t [] h = tt
fenced_registers held gaps t (thread ∷ threads) h = (h.0, fenced_registers held gaps (t + 1) threads h.1)

registers_from : (held : PlaceView → ℕ) (a t u : ℕ) (threads : List Thread) (d : Thread) → a + t ≡ u → t < length threads → RegistersAre held a threads
    → (get_or threads t d).registers ≡ map (λ r. held (Register u r)) all_registers
registers_from held a t u [] d e lt h = absurd (omega arith)
registers_from held a zero u (thread ∷ threads) d e lt h = let first : a ≡ u = omega arith in h.0 ∙ ap (λ (v : ℕ). map (λ r. held (Register v r)) all_registers) first
registers_from held a (suc t) u (thread ∷ threads) d e lt h = registers_from held (a + 1) t u threads d (omega arith) (omega (arith, lt)) h.1

-- the registers of thread t
pub registers_at : (held : PlaceView → ℕ) (t : ℕ) (threads : List Thread) (d : Thread) → t < length threads → RegistersAre held 0 threads
    → (get_or threads t d).registers ≡ map (λ r. held (Register t r)) all_registers
registers_at held t threads d lt h = registers_from held 0 t t threads d (omega arith) lt h
