-- The limits of a program, and the first that a listing breaks (this project's own; docs/definitions.md).
use Rattle.std.specs.Prelude.{◌≡◌, ℕ, ◌+◌, ◌<◌, ◌≤◌, ◌==◌, ◌||◌, Bool, false, nat_lt, nat_le, List, [], ◌∷◌, ◌++◌, length, Option, Some, None, is_some, unwrap_or, sum_by, position, if◌then◌else◌, ◌↔◌}
use Rattle.std.specs.List.{list_any, enumerate_from}
use Rattle.std.specs.Option.{option_map_or}
use Rattle.tso_program.specs.declared.instruction.Instr.{Instr}
use Rattle.tso_program.specs.declared.listing.Thread.{Thread}
use Rattle.tso_program.specs.declared.limits.ProgramFault.{ProgramFault}
use Rattle.tso_program.specs.declared.limits.ProgramFault.TheVariants.{NoThreads, TooManyThreads, TooLong, Locations, TooManyAccesses, BackwardJump, JumpPastEnd, TooManyGaps}
use Rattle.tso_program.specs.Instructions.{location_of, target_of}
use Rattle.tso_program.specs.Listings.{code_of, instr_at, accesses_of, gap_count}
use Rattle.tso_program.specs.declared.limits.TheConstants.{MAX_THREADS, MAX_LOCATIONS, MAX_INSTRUCTIONS, MAX_FENCED_INSTRUCTIONS, MAX_ACCESSES}
use Rattle.gap_sets.specs.declared.gap_set.TheConstants.{MAX_GAPS}

-- each jump leads to a later instruction, or past the last one
abbrev pub JumpForward : List Thread → Type 0
JumpForward threads = (t k target : ℕ) (x : Instr) → instr_at threads t k ≡ Some x → target_of x ≡ Some target → k < target

-- threads and initial values within the limits that programs and fenced programs share; a thread has at most so many instructions
pub record IsWithinSharedLimits (longest : ℕ) (threads : List Thread) (memory : List ℕ) : Type 0 where
  pub some_thread : 0 < length threads
  pub few_threads : length threads ≤ MAX_THREADS
  pub short_threads : (t : ℕ) → length (code_of threads t) ≤ longest
  pub few_locations : length memory ≤ MAX_LOCATIONS
  pub located : (t k l : ℕ) (x : Instr) → instr_at threads t k ≡ Some x → location_of x ≡ Some l → l < length memory
  pub few_accesses : sum_by accesses_of threads ≤ MAX_ACCESSES
  pub forward_jumps : JumpForward threads
  pub inner_jumps : (t k target : ℕ) (x : Instr) → instr_at threads t k ≡ Some x → target_of x ≡ Some target → target ≤ length (code_of threads t)

-- a program within the limits
pub record IsWithinLimits (threads : List Thread) (memory : List ℕ) : Type 0 where
  pub shared : IsWithinSharedLimits MAX_INSTRUCTIONS threads memory
  pub few_gaps : gap_count threads ≤ MAX_GAPS

-- a fenced program within its limits: each thread has `MAX_INSTRUCTIONS` instructions at most, and a fence in each of the gaps between them; it may have any number of gaps
abbrev pub IsWithinFencedLimits : List Thread → List ℕ → Type 0
IsWithinFencedLimits threads memory = IsWithinSharedLimits MAX_FENCED_INSTRUCTIONS threads memory

-- the first thread of more instructions than that
abbrev pub first_long : ℕ → List Thread → Option ℕ
first_long longest threads = position (λ t. nat_lt longest (length t.code)) threads

-- an instruction that names none of so many locations
abbrev pub is_astray : ℕ → Instr → Bool
is_astray locations x = option_map_or (λ l. nat_le locations l) (location_of x) false

abbrev pub some_astray : ℕ → List Thread → Bool
some_astray locations threads = list_any (λ t. list_any (is_astray locations) t.code) threads

-- instruction k jumps to itself or to an earlier one
abbrev pub is_backward : ℕ → Instr → Bool
is_backward k x = option_map_or (λ target. nat_le target k) (target_of x) false

-- an instruction of a thread of this length jumps past its end
abbrev pub is_past_end : ℕ → Instr → Bool
is_past_end len x = option_map_or (λ target. nat_lt len target) (target_of x) false

abbrev pub first_backward_in : Thread → Option ℕ
first_backward_in thread = position (λ i. is_backward i.0 i.1) (enumerate_from 0 thread.code)

abbrev pub first_past_end_in : Thread → Option ℕ
first_past_end_in thread = position (is_past_end (length thread.code)) thread.code

-- from thread t on, the first thread in which an instruction is found, and that instruction
abbrev pub first_found : (Thread → Option ℕ) → ℕ → List Thread → Option (ℕ × ℕ)
first_found find t [] = None
first_found find t (thread ∷ threads) =
    if is_some (find thread) then Some (t, unwrap_or (find thread) 0) else first_found find (t + 1) threads

-- the first fault of a list whose test is true
abbrev pub first_true : List (Bool × ProgramFault) → Option ProgramFault
first_true [] = None
first_true (f ∷ fs) = if f.0 then Some f.1 else first_true fs

-- a fault at a place, where there is one
abbrev pub at_place : (ℕ → ℕ → ProgramFault) → Option (ℕ × ℕ) → Bool × ProgramFault
at_place fault found = (is_some found, fault (unwrap_or found (0, 0)).0 (unwrap_or found (0, 0)).1)

-- the refusals that programs and fenced programs share, in their order
abbrev pub shared_refusals : ℕ → List Thread → List ℕ → List (Bool × ProgramFault)
shared_refusals longest threads memory =
    (length threads == 0, NoThreads)
    ∷ (nat_lt MAX_THREADS (length threads), TooManyThreads)
    ∷ (is_some (first_long longest threads), TooLong (unwrap_or (first_long longest threads) 0))
    ∷ (nat_lt MAX_LOCATIONS (length memory) || some_astray (length memory) threads, Locations)
    ∷ (nat_lt MAX_ACCESSES (sum_by accesses_of threads), TooManyAccesses)
    ∷ at_place BackwardJump (first_found first_backward_in 0 threads)
    ∷ at_place JumpPastEnd (first_found first_past_end_in 0 threads)
    ∷ []

-- the first refusal of a program that applies
abbrev pub first_fault : List Thread → List ℕ → Option ProgramFault
first_fault threads memory = first_true (shared_refusals MAX_INSTRUCTIONS threads memory ++ (nat_lt MAX_GAPS (gap_count threads), TooManyGaps) ∷ [])

-- the first refusal of a fenced program that applies
abbrev pub first_fenced_fault : List Thread → List ℕ → Option ProgramFault
first_fenced_fault threads memory = first_true (shared_refusals MAX_FENCED_INSTRUCTIONS threads memory)

-- no refusal applies exactly within the limits
abbrev pub ProgramLimitsAreTheRefusals : Type 0
ProgramLimitsAreTheRefusals = (threads : List Thread) (memory : List ℕ) → (first_fault threads memory ≡ None) ↔ IsWithinLimits threads memory

-- no refusal of a fenced program applies exactly within the limits of fenced programs
abbrev pub FencedLimitsAreTheRefusals : Type 0
FencedLimitsAreTheRefusals = (threads : List Thread) (memory : List ℕ) → (first_fenced_fault threads memory ≡ None) ↔ IsWithinFencedLimits threads memory
