-- No refusal applies exactly within the limits.
use Rattle.tso_program.proofs.Vocabulary.{◌≡◌, ℕ, ◌+◌, ◌<◌, ◌≤◌, ◌==◌, Bool, true, false, List, [], ◌∷◌, ◌++◌, length, get_or, Option, Some, None, refl, sym, ap, ◌∙◌, arith, list_any, enumerate_from, option_map_or, nat_tests, slice_get-get_or, Instr, Thread}
use Rattle.tso_program.proofs.Vocabulary.{location_of, target_of, code_of, instr_at, accesses_of, gap_count, IsWithinSharedLimits, IsWithinLimits, IsWithinFencedLimits, first_long, is_astray, some_astray, is_backward, is_past_end, first_backward_in}
use Rattle.tso_program.proofs.Vocabulary.{first_past_end_in, first_found, first_true, shared_refusals, first_fault, first_fenced_fault, ProgramLimitsAreTheRefusals, FencedLimitsAreTheRefusals, AllByRecursion, ltb-false, le-ltb, leb-false, lt-leb, MAX_THREADS}
use Rattle.tso_program.proofs.Vocabulary.{MAX_LOCATIONS, MAX_INSTRUCTIONS, MAX_FENCED_INSTRUCTIONS, MAX_ACCESSES}
use Rattle.std.specs.Prelude.{nat_lt, nat_le, slice_get, is_some, sum_by, if◌then◌else◌, All}
use Rattle.tso_program.specs.declared.limits.ProgramFault.{ProgramFault, TheVariants.TooManyGaps}
use Rattle.tso_program.proofs.Found.{instr_found, code_found, enumerated, enumerated_back, not_found, none_found, neither, not_any, none_any, found_nowhere, nowhere_found}
use Rattle.gap_sets.specs.declared.gap_set.TheConstants.{MAX_GAPS}

-- what each test says

-- a test of what an instruction names or jumps to, where it names or jumps to something
tested : (p : ℕ → Bool) (o : Option ℕ) (n : ℕ) → option_map_or p o false ≡ false → o ≡ Some n → p n ≡ false
tested p o n e is = ap (λ z. option_map_or p z false) (sym is) ∙ e

untested : (p : ℕ → Bool) (o : Option ℕ) → ((n : ℕ) → o ≡ Some n → p n ≡ false) → option_map_or p o false ≡ false
untested p None h = refl
untested p (Some n) h = h n refl

no_fault : {F : Type 0} (b : Bool) (f : F) (rest : Option F) → (if b then Some f else rest) ≡ None → (b ≡ false) × (rest ≡ None)
no_fault true f rest e = absurd cc
no_fault false f rest e = (refl, e)

-- where nothing of a list and another applies, nothing of either does; and the other way round
no_fault_of_both : (fs gs : List (Bool × ProgramFault)) → first_true (fs ++ gs) ≡ None → (first_true fs ≡ None) × (first_true gs ≡ None)
no_fault_of_both [] gs e = (refl, e)
no_fault_of_both (f ∷ fs) gs e =
    let here = no_fault f.0 f.1 (first_true (fs ++ gs)) e in
    let rest = no_fault_of_both fs gs here.1 in
    (rw here.0 rest.0, rest.1)

pub no_fault_then : (fs gs : List (Bool × ProgramFault)) → first_true fs ≡ None → first_true (fs ++ gs) ≡ first_true gs
no_fault_then [] gs e = refl
no_fault_then (f ∷ fs) gs e = let here = no_fault f.0 f.1 (first_true fs) e in rw here.0 (no_fault_then fs gs here.1)

-- every shared test fails
record NoTest (longest : ℕ) (threads : List Thread) (memory : List ℕ) : Type 0 where
  none : (length threads == 0) ≡ false
  many : nat_lt MAX_THREADS (length threads) ≡ false
  long : is_some (first_long longest threads) ≡ false
  places : nat_lt MAX_LOCATIONS (length memory) ≡ false
  astray : some_astray (length memory) threads ≡ false
  accesses : nat_lt MAX_ACCESSES (sum_by accesses_of threads) ≡ false
  backward : is_some (first_found first_backward_in 0 threads) ≡ false
  past_end : is_some (first_found first_past_end_in 0 threads) ≡ false

-- where no refusal applies, each test fails
each_fails : (fs : List (Bool × ProgramFault)) → first_true fs ≡ None → AllByRecursion (λ f. f.0 ≡ false) fs
each_fails [] e = tt
each_fails (f ∷ fs) e = let here = no_fault f.0 f.1 (first_true fs) e in (here.0, each_fails fs here.1)

tests : (longest : ℕ) (threads : List Thread) (memory : List ℕ) → first_true (shared_refusals longest threads memory) ≡ None → NoTest longest threads memory
tests longest threads memory e =
    let t = each_fails (shared_refusals longest threads memory) e in
    let place = neither (nat_lt MAX_LOCATIONS (length memory)) (some_astray (length memory) threads) t.1.1.1.0 in
    record { none = t.0; many = t.1.0; long = t.1.1.0; places = place.0; astray = place.1; accesses = t.1.1.1.1.0; backward = t.1.1.1.1.1.0; past_end = t.1.1.1.1.1.1.0 }

-- from the tests to the facts

short_code : (longest : ℕ) (threads : List Thread) (t : ℕ) → is_some (first_long longest threads) ≡ false → length (code_of threads t) ≤ longest
short_code longest threads t e = go (slice_get threads t) refl
  where
    go : (o : Option Thread) → slice_get threads t ≡ o → length (option_map_or (λ (x : Thread). x.code) o []) ≤ longest
    go None is = omega arith
    go (Some thread) is = ltb-false longest (length thread.code) (not_found (λ (x : Thread). nat_lt longest (length x.code)) threads e t thread is)

pub all_short : (longest most : ℕ) (threads : List Thread) → longest ≤ most → is_some (first_long longest threads) ≡ false → All (λ t. length t.code ≤ most) threads
all_short longest most threads small e k d h =
    let here = ltb-false longest (length (get_or threads k d).code) (not_found (λ (x : Thread). nat_lt longest (length x.code)) threads e k (get_or threads k d) (slice_get-get_or threads k d h)) in
    omega arith

-- where no shared refusal applies, each thread is short
pub short_where_none : (threads : List Thread) (memory : List ℕ) → first_true (shared_refusals MAX_INSTRUCTIONS threads memory) ≡ None → All (λ t. length t.code ≤ MAX_INSTRUCTIONS) threads
short_where_none threads memory e = all_short MAX_INSTRUCTIONS MAX_INSTRUCTIONS threads (omega arith) (tests MAX_INSTRUCTIONS threads memory e).long

pub few_where_none : (threads : List Thread) (memory : List ℕ) → first_true (shared_refusals MAX_INSTRUCTIONS threads memory) ≡ None → length threads ≤ MAX_THREADS
few_where_none threads memory e = ltb-false MAX_THREADS (length threads) (tests MAX_INSTRUCTIONS threads memory e).many

module _ (threads : List Thread) (t k : ℕ) (x : Instr) (there : instr_at threads t k ≡ Some x) where
  astray_fact : (locations l : ℕ) → some_astray locations threads ≡ false → location_of x ≡ Some l → l < locations
  astray_fact locations l e is =
      let found = instr_found threads t k x there in
      let here : list_any (is_astray locations) found.0.code ≡ false = not_any (λ (y : Thread). list_any (is_astray locations) y.code) threads e t found.0 found.1 in
      leb-false locations l (tested (λ m. nat_le locations m) (location_of x) l (not_any (is_astray locations) found.0.code here k x found.2) is)

  forward_fact : (target : ℕ) → is_some (first_found first_backward_in 0 threads) ≡ false → target_of x ≡ Some target → k < target
  forward_fact target e is =
      let found = instr_found threads t k x there in
      let none : is_some (first_backward_in found.0) ≡ false = found_nowhere first_backward_in 0 threads e t found.0 found.1 in
      let here : is_backward (0 + k) x ≡ false = not_found (λ (i : ℕ × Instr). is_backward i.0 i.1) (enumerate_from 0 found.0.code) none k (0 + k, x) (enumerated 0 found.0.code k x found.2) in
      let h : 0 + k < target = leb-false target (0 + k) (tested (λ m. nat_le m (0 + k)) (target_of x) target here is) in
      omega arith

  inner_fact : (target : ℕ) → is_some (first_found first_past_end_in 0 threads) ≡ false → target_of x ≡ Some target → target ≤ length (code_of threads t)
  inner_fact target e is =
      let found = instr_found threads t k x there in
      let none : is_some (first_past_end_in found.0) ≡ false = found_nowhere first_past_end_in 0 threads e t found.0 found.1 in
      let here : is_past_end (length found.0.code) x ≡ false = not_found (is_past_end (length found.0.code)) found.0.code none k x found.2 in
      rw (code_found threads t found.0 found.1) (ltb-false (length found.0.code) target (tested (λ m. nat_lt (length found.0.code) m) (target_of x) target here is))

shared_within : (longest : ℕ) (threads : List Thread) (memory : List ℕ) → first_true (shared_refusals longest threads memory) ≡ None → IsWithinSharedLimits longest threads memory
shared_within longest threads memory e =
    let t = tests longest threads memory e in
    record {
      some_thread = grind (arith, nat_tests, t.none);
      few_threads = ltb-false MAX_THREADS (length threads) t.many;
      short_threads = λ u. short_code longest threads u t.long;
      few_locations = ltb-false MAX_LOCATIONS (length memory) t.places;
      located = λ u k l x there is. astray_fact threads u k x there (length memory) l t.astray is;
      few_accesses = ltb-false MAX_ACCESSES (sum_by accesses_of threads) t.accesses;
      forward_jumps = λ u k target x there is. forward_fact threads u k x there target t.backward is;
      inner_jumps = λ u k target x there is. inner_fact threads u k x there target t.past_end is;
    }

pub within : (threads : List Thread) (memory : List ℕ) → first_fault threads memory ≡ None → IsWithinLimits threads memory
within threads memory e =
    let both = no_fault_of_both (shared_refusals MAX_INSTRUCTIONS threads memory) ((nat_lt MAX_GAPS (gap_count threads), TooManyGaps) ∷ []) e in
    record {
      shared = shared_within MAX_INSTRUCTIONS threads memory both.0;
      few_gaps = ltb-false MAX_GAPS (gap_count threads) (each_fails ((nat_lt MAX_GAPS (gap_count threads), TooManyGaps) ∷ []) both.1).0;
    }

pub within_fenced : (threads : List Thread) (memory : List ℕ) → first_fenced_fault threads memory ≡ None → IsWithinFencedLimits threads memory
within_fenced threads memory e = shared_within MAX_FENCED_INSTRUCTIONS threads memory e

-- from the facts to the tests

module _ (longest : ℕ) (threads : List Thread) (memory : List ℕ) (w : IsWithinSharedLimits longest threads memory) where
  instr_there : (t k : ℕ) (x : Instr) (thread : Thread) → slice_get threads t ≡ Some thread → slice_get thread.code k ≡ Some x → instr_at threads t k ≡ Some x
  instr_there t k x thread e f = rw (code_found threads t thread e) f

  no_astray : some_astray (length memory) threads ≡ false
  no_astray = none_any (λ (x : Thread). list_any (is_astray (length memory)) x.code) threads (λ t thread e.
      none_any (is_astray (length memory)) thread.code (λ k x f.
      untested (λ l. nat_le (length memory) l) (location_of x) (λ l is. lt-leb (length memory) l (w.located t k l x (instr_there t k x thread e f) is))))

  no_backward : is_some (first_found first_backward_in 0 threads) ≡ false
  no_backward = nowhere_found first_backward_in 0 threads (λ t thread e.
      none_found (λ (i : ℕ × Instr). is_backward i.0 i.1) (enumerate_from 0 thread.code) (λ k i f.
      let back = enumerated_back 0 thread.code k i f in
      let same : i.0 ≡ k = omega (arith, back.0) in
      untested (λ target. nat_le target i.0) (target_of i.1) (λ target is.
      let h : k < target = w.forward_jumps t k target i.1 (instr_there t k i.1 thread e back.1) is in
      lt-leb target i.0 (omega arith))))

  no_past_end : is_some (first_found first_past_end_in 0 threads) ≡ false
  no_past_end = nowhere_found first_past_end_in 0 threads (λ t thread e.
      none_found (is_past_end (length thread.code)) thread.code (λ k x f.
      untested (λ target. nat_lt (length thread.code) target) (target_of x) (λ target is.
      le-ltb (length thread.code) target (rw (code_found threads t thread e) at (w.inner_jumps t k target x (instr_there t k x thread e f) is)))))

  shared_refused_not : first_true (shared_refusals longest threads memory) ≡ None
  shared_refused_not =
      let none : (length threads == 0) ≡ false = grind (arith, nat_tests, w.some_thread) in
      let long : is_some (first_long longest threads) ≡ false = none_found (λ (x : Thread). nat_lt longest (length x.code)) threads (λ t thread e.
      le-ltb longest (length thread.code) (rw (code_found threads t thread e) at (w.short_threads t))) in
      rw (none, le-ltb MAX_THREADS (length threads) w.few_threads, long, le-ltb MAX_LOCATIONS (length memory) w.few_locations, no_astray, le-ltb MAX_ACCESSES (sum_by accesses_of threads) w.few_accesses, no_backward, no_past_end) refl

refused_not : (threads : List Thread) (memory : List ℕ) → IsWithinLimits threads memory → first_fault threads memory ≡ None
refused_not threads memory w =
    no_fault_then (shared_refusals MAX_INSTRUCTIONS threads memory) ((nat_lt MAX_GAPS (gap_count threads), TooManyGaps) ∷ []) (shared_refused_not MAX_INSTRUCTIONS threads memory w.shared)
    ∙ rw (le-ltb MAX_GAPS (gap_count threads) w.few_gaps) refl

pub limits_are_the_refusals : ProgramLimitsAreTheRefusals
limits_are_the_refusals threads memory = (within threads memory, refused_not threads memory)

pub fenced_limits_are_the_refusals : FencedLimitsAreTheRefusals
fenced_limits_are_the_refusals threads memory = (within_fenced threads memory, shared_refused_not MAX_FENCED_INSTRUCTIONS threads memory)
