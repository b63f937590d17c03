-- How a sketch must end, by the ends of its locations and of its threads.
use Rattle.rowless_sketches.proofs.Vocabulary.{◌≡◌, ◌↔◌, ℕ, ◌<◌, Bool, true, false, not, List, [], Some, None, IsSome, IsTrue, get_or, length, refl, sym, ap, ◌∙◌, inl, inr, arith, Truth, cases_lt, get_or-map-range_with_len, length-map-range_with_len}
use Rattle.rowless_sketches.proofs.Vocabulary.{same_Some, slice_get_within, Outcome, Shown, Access, Event, Initial, At, Writes, ProgramSketch, mode_in, trace_in, access_in, IsLawful, HasLater, WritesTo, IsWritten, IsWrittenBy, yes, no, of_some}
use Rattle.rowless_sketches.proofs.Vocabulary.{shown_registers, show_registers, show, ShowsValues, asked, EndsOnlyAs, final_registers, some_value, IsWhole, MayBeLast, EndsInValues, EndsAs, MustEndAs, none_past}
use Rattle.tso_program.proofs.Kept.{threads_long, thread_at, threads_by}
use Rattle.candidate_executions.proofs.{Sketches.MustEnd.each_ends_so, Candidates.LastWrites.outcomes_are_one}

-- nothing else is shown of a completion's outcome
pub ends_only : (s : ProgramSketch) (shown : Shown) (o : Outcome) → IsLawful s → MustEndAs (asked s.program shown) (mode_in s) s.chosen o → EndsOnlyAs s shown o
ends_only s shown o lawful must c other is has =
    let (whole, has_too, same) = each_ends_so (asked s.program shown) (mode_in s) s.chosen c o lawful.within.shared.forward_jumps lawful.is_sketch is.is_candidate is.completes must in
    same ∙ ap (show shown) (outcomes_are_one s.program (mode_in s) c whole other is.is_candidate has_too has)

-- where values are shown, a sketch ends in values, once each read has its value
abbrev pub EndsWhole : ProgramSketch → Shown → Outcome → Type 0
EndsWhole s shown o = IsWhole s.program (mode_in s) s.chosen × EndsInValues s.program (mode_in s) s.chosen shown o

pub of_values : (s : ProgramSketch) (shown : Shown) (o : Outcome) → ShowsValues shown → EndsWhole s shown o → EndsAs s.program (mode_in s) s.chosen shown o
of_values s (Truth f) o of ends = absurd of
of_values s shown o of ends = ends

pub in_values : (s : ProgramSketch) (shown : Shown) (o : Outcome) → ShowsValues shown → EndsAs s.program (mode_in s) s.chosen shown o → EndsWhole s shown o
in_values s (Truth f) o of ends = absurd of
in_values s shown o of ends = ends

pub values_test : (s : ProgramSketch) (shown : Shown) (o : Outcome) (b : Bool) → ShowsValues shown → IsTrue b ↔ EndsWhole s shown o → IsTrue b ↔ EndsAs s.program (mode_in s) s.chosen shown o
values_test s shown o b of test = (λ t. of_values s shown o of (test.0 t), λ ends. test.1 (in_values s shown o of ends))

-- an event that is there writes a location where its access does
pub writes_by : (s : ProgramSketch) (e : Event) (l : ℕ) (x : Access) (b : Bool) → access_in s e ≡ Some x → (IsTrue b ↔ ((x.location ≡ l) × IsSome x.written)) → IsTrue b ↔ WritesTo s e l
writes_by s e l x b a test = (
  λ t. (let (v, w) = some_value x.written (test.0 t).1 in (v, (x, a, (test.0 t).0, w))),
  λ (v, w). (let same : w.0 ≡ x = same_Some w.0 x (sym w.1 ∙ a) in
      test.1 (sym (ap (λ (z : Access). z.location) same) ∙ w.2, of_some x.written v (sym (ap (λ (z : Access). z.written) same) ∙ w.3))),
)

-- and one that is not there writes nothing
pub absent_writes : (s : ProgramSketch) (e : Event) (l : ℕ) → access_in s e ≡ None → IsTrue false ↔ WritesTo s e l
absent_writes s e l none = no (WritesTo s e l) (λ (v, w). (let q = sym none ∙ w.1 in cc))

-- what writes is there
pub write_within : (s : ProgramSketch) (t i l : ℕ) → WritesTo s (At t i) l → i < length (trace_in s t).accesses
write_within s t i l (v, w) = slice_get_within _ i w.0 w.1

pub thread_within : (s : ProgramSketch) (t l : ℕ) → IsWrittenBy s t l → t < length s.program.threads
thread_within s t l (i, h) = elim (cases_lt t (length s.program.threads)) [
  | inl a ↦ a
  | inr g ↦ absurd (none_past s t i (omega arith) (write_within s t i l h))
]

-- whether the initial write may be the last one
pub last_by : (s : ProgramSketch) (l : ℕ) (e : Event) (b : Bool) → (HasLater s e → ⊥) → e ≡ Initial l → (IsTrue b ↔ IsWritten s l) → IsTrue (not b) ↔ MayBeLast s.program (mode_in s) s.chosen l e
last_by s l e true later is test = no (MayBeLast s.program (mode_in s) s.chosen l e)
    (λ last. (let (t, h) = test.0 refl in
    let (i, h2) = h in
    let (v, w) = h2 in
    let same : At t i ≡ Initial l = last.only_initial is (At t i) v w in
    cc))
last_by s l e false later is test = yes (MayBeLast s.program (mode_in s) s.chosen l e) (record {
  no_later = λ d h. later (d, h);
  only_initial = λ q d v w. only d v w;
})
  where
    only : (d : Event) (v : ℕ) → Writes (access_in s) d l v → d ≡ Initial l
    only (Initial m) v w = ap Initial (ap (λ (z : Access). z.location) (same_Some _ w.0 w.1) ∙ w.2)
    only (At t i) v w = absurd (let f : false ≡ true = test.1 (t, (i, (v, w))) in cc)

-- the registers are those where the threads stop, as far as they are shown
pub final_at : (s : ProgramSketch) (t : ℕ) → t < length s.program.threads → get_or (final_registers s) t [] ≡ (trace_in s t).last.registers
final_at s t h = get_or-map-range_with_len (λ t. (trace_in s t).last.registers) 0 (length s.program.threads) t t [] h (omega arith)

pub final_long : (s : ProgramSketch) → length (final_registers s) ≡ length s.program.threads
final_long s = length-map-range_with_len (λ t. (trace_in s t).last.registers) 0 (length s.program.threads)

pub registers_long : (s : ProgramSketch) (shown : Shown) (registers : List (List ℕ)) → registers ≡ show_registers shown (final_registers s) → length registers ≡ length s.program.threads
registers_long s shown registers e = ap length e ∙ threads_long shown (final_registers s) ∙ final_long s

pub registers_at : (s : ProgramSketch) (shown : Shown) (registers : List (List ℕ)) (t : ℕ) → t < length s.program.threads → registers ≡ show_registers shown (final_registers s) →
    get_or registers t [] ≡ shown_registers shown t (trace_in s t).last.registers
registers_at s shown registers t h e =
    let final : length (final_registers s) ≡ length s.program.threads = final_long s in
    ap (λ xs. get_or xs t []) e ∙ thread_at shown (final_registers s) t (omega arith) ∙ ap (shown_registers shown t) (final_at s t h)

pub registers_shown : (s : ProgramSketch) (shown : Shown) (registers : List (List ℕ)) → length registers ≡ length s.program.threads →
    ((k : ℕ) → k < length registers → get_or registers k [] ≡ shown_registers shown k (trace_in s k).last.registers) → registers ≡ show_registers shown (final_registers s)
registers_shown s shown registers long each = threads_by shown (final_registers s) registers (long ∙ sym (final_long s))
    (λ k h. let final : length (final_registers s) ≡ length s.program.threads = final_long s in
    each k (omega arith) ∙ ap (shown_registers shown k) (sym (final_at s k (omega arith))))
