-- The outcome as which a sketch must end.
use Rattle.exec_axioms.proofs.Vocabulary.{◌≡◌, ℕ, ◌<◌, Bool, List, [], ◌∷◌, ◌++◌, ◌+◌, subst, Some, get_or, length, sym, ap, ◌∙◌, inl, inr, arith, get_or_append_left, get_or_push, Truth, slice_index, cases_lt, get_or-map-range_with_len, length-map-range_with_len}
use Rattle.exec_axioms.proofs.Vocabulary.{Outcome, Shown, ProgramSketch, mode_in, IsLawful, HasNoCycle, show_registers, ShowsValues, asked, MustEndSo, NeedNotEnd, final_registers, HasEnds, EndsSo, Differ, IsWhole, EndsInValues, MustEndAs, map, slice_get}
use Rattle.exec_axioms.proofs.Vocabulary.{slice_get-get_or, slice_get_past, told, range_with_len, Atom, Tree, KnownAtom, IsKnownTruth, of_values, in_values}
use Rattle.std.proofs.lemmas.Grind.{same_number_lists}
use Rattle.tso_program.specs.Truth.{is_true_at, is_value}
use Rattle.tso_program.specs.declared.atom.Atom.TheVariants as atom
use Rattle.tso_program.proofs.KnownTruths.{known_is_true}
use Rattle.candidate_executions.specs.Sketches as sketches
use Rattle.exec_axioms.proofs.LastWrites.{some_last}

-- the parts make the whole
pub values_by : (s : ProgramSketch) (shown : Shown) (o : Outcome) → o.registers ≡ show_registers shown (final_registers s) → HasEnds s shown o.memory →
    EndsInValues s.program (mode_in s) s.chosen shown o
values_by s shown o registers ends = record {
  registers = registers;
  long = ends.long;
  memory = λ l v e h w last. ends.each l (let long = ends.long in omega arith) v (e, (w, last));
}

-- two outcomes as which a sketch must end are one
values_once : (s : ProgramSketch) (shown : Shown) (o other : Outcome) → IsLawful s → HasNoCycle s → EndsInValues s.program (mode_in s) s.chosen shown o → EndsInValues s.program (mode_in s) s.chosen shown other → o ≡ other
values_once s shown o other lawful acyclic first second =
    let registers : o.registers ≡ other.registers = first.registers ∙ sym second.registers in
    let memory : o.memory ≡ other.memory = same_number_lists o.memory other.memory (first.long ∙ sym second.long) (λ l h.
    let long = first.long in
    let (v, (e, (w, last))) = some_last s l lawful acyclic in
    sym (first.memory l v e (omega arith) w last) ∙ second.memory l v e (omega arith) w last) in
    (λ i. record { registers = registers i; memory = memory i })

pub must_end_in_once : (s : ProgramSketch) (shown : Shown) (o other : Outcome) → ShowsValues shown → IsLawful s → HasNoCycle s → MustEndAs (asked s.program shown) (mode_in s) s.chosen o →
    MustEndAs (asked s.program shown) (mode_in s) s.chosen other → o ≡ other
must_end_in_once s shown o other of lawful acyclic first second = values_once s shown o other lawful acyclic (in_values s shown o of first).1 (in_values s shown other of second).1

-- what is shown of the ends makes the outcome as which the sketch must end
pub must_end_so : (s : ProgramSketch) (shown : Shown) (end : Outcome) → ShowsValues shown → IsLawful s → IsWhole s.program (mode_in s) s.chosen → end.registers ≡ show_registers shown (final_registers s) →
    length end.memory ≡ length s.program.memory → ((l : ℕ) → l < length end.memory → EndsSo s shown l (slice_index end.memory l)) → MustEndSo s shown end
must_end_so s shown end of lawful whole registers long values =
    let must : MustEndAs (asked s.program shown) (mode_in s) s.chosen end =
    of_values s shown end of (whole, values_by s shown end registers (record { long = long; each = values })) in
    record { must_end = must; only = λ acyclic other also. must_end_in_once s shown other end of lawful acyclic also must }

-- two writes that may be the last of a location and are not shown alike leave no such outcome
pub need_not_end : (s : ProgramSketch) (shown : Shown) → ShowsValues shown → Differ s shown → NeedNotEnd s shown
need_not_end s shown of apart o must =
    let ends = (in_values s shown o of must).1 in
    let (d, (first, first_last)) = apart.first_ends in
    let (e, (second, second_last)) = apart.second_ends in
    apart.differ (ends.memory apart.location apart.first d apart.there first first_last ∙ sym (ends.memory apart.location apart.second e apart.there second second_last))

-- nor is there one while some read has no value
pub need_whole : (s : ProgramSketch) (shown : Shown) → ShowsValues shown → (IsWhole s.program (mode_in s) s.chosen → ⊥) → NeedNotEnd s shown
need_whole s shown of unread o must = unread (in_values s shown o of must).0

-- one more end
pub ends_more : (s : ProgramSketch) (shown : Shown) (values more : List ℕ) (n x : ℕ) → more ≡ values ++ x ∷ [] → length values ≡ n → ((k : ℕ) → k < n → EndsSo s shown k (slice_index values k)) → EndsSo s shown n x →
    (k : ℕ) → k < n + 1 → EndsSo s shown k (slice_index more k)
ends_more s shown values more n x is long before here k h = elim (cases_lt k n) [
  | inl lt ↦ subst (EndsSo s shown k) (sym (ap (λ xs. get_or xs k 0) is ∙ get_or_append_left values (x ∷ []) 0 k (omega arith))) (before k lt)
  | inr ge ↦
      let at : n ≡ k = omega arith in
      subst (λ m. EndsSo s shown m (slice_index more m)) at (subst (EndsSo s shown n) (sym (ap (λ xs. get_or xs n 0) is ∙ get_or_push values x 0 n long)) here)
]

-- ---- the truth with which a sketch must end

module _ (s : ProgramSketch) (f : Tree Atom) where
  -- two known truths are one, where each location has a write that may be its last
  module _ (lawful : IsLawful s) (acyclic : HasNoCycle s) where
    abbrev last_value : ℕ → ℕ
    last_value l = (some_last s l lawful acyclic).0

    may_end : (l : ℕ) → sketches.MayEndWith s.program (mode_in s) s.chosen l (last_value l)
    may_end l = let (e, (w, last)) = (some_last s l lawful acyclic).1 in (e, w, last)

    abbrev end : Outcome
    end = record { registers = final_registers s; memory = map last_value (range_with_len 0 (length s.program.memory)) }

    atom_so : (b : Bool) (a : Atom) → KnownAtom s.program (mode_in s) s.chosen b a → is_true_at end a ≡ b
    atom_so b (atom.Register t r v) (none, known) = known
    atom_so b (atom.Location l v) (known, past) = elim (cases_lt l (length s.program.memory)) [
      | inl h ↦
          let long = length-map-range_with_len last_value 0 (length s.program.memory) in
          let value : get_or end.memory l 0 ≡ last_value l = get_or-map-range_with_len last_value 0 (length s.program.memory) l l 0 h (omega arith) in
          let there : slice_get end.memory l ≡ Some (last_value l) = slice_get-get_or end.memory l 0 (omega arith) ∙ ap Some value in
          ap (λ x. is_value x v) there ∙ (known h).1 (last_value l) (may_end l)
      | inr h ↦
          let long = length-map-range_with_len last_value 0 (length s.program.memory) in
          ap (λ x. is_value x v) (slice_get_past end.memory l (omega arith)) ∙ past h
    ]

    pub one_truth : (b c : Bool) → IsKnownTruth s f b → IsKnownTruth s f c → b ≡ c
    one_truth b c first second =
        sym (known_is_true (KnownAtom s.program (mode_in s) s.chosen) (is_true_at end) atom_so b f first)
        ∙ known_is_true (KnownAtom s.program (mode_in s) s.chosen) (is_true_at end) atom_so c f second

  pub must_tell : (b : Bool) (o : Outcome) → IsLawful s → IsKnownTruth s f b → o ≡ told b → MustEndSo s (Truth f) o
  must_tell b o lawful known is = record {
    must_end = record { truth = b; known = known; is_told = is };
    only = λ acyclic other also. also.is_told ∙ ap told (one_truth lawful acyclic also.truth b also.known known) ∙ sym is;
  }
