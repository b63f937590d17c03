-- Programs with fences put into their gaps (Bouajjani et al., ESOP 2013: fences between instructions; where jumps lead then is this project's own, docs/definitions.md).
use Rattle.std.specs.Prelude.{ℕ, zero, suc, ◌+◌, Bool, false, nat_le, List, [], ◌∷◌, ◌++◌, Option, if◌then◌else◌}
use Rattle.std.specs.List.{find}
use Rattle.std.specs.Option.{option_map_or}
use Rattle.std.specs.FinSet as set
use Rattle.gap_sets.specs.Gaps.{SetOfGaps, numbers_of_set as ascending}
use Rattle.tso_program.specs.declared.instruction.Instr.{Instr}
use Rattle.tso_program.specs.declared.instruction.Instr.TheVariants.{LoadImm, Copy, Load, StoreImm, Store, Xchg, Fence, CmpImm, CmpReg, Je, Jne, Jmp}
use Rattle.tso_program.specs.declared.listing.Thread.{Thread}
use Rattle.tso_program.specs.declared.listing.Listing.{Listing}
use Rattle.tso_program.specs.Listings.{gap_count, gap_number}
use Rattle.tso_program.specs.Limits.{IsWithinLimits, IsWithinFencedLimits}

-- a set of gaps: whether the gap before instruction k of thread t is in it
abbrev pub Gaps : Type 0
Gaps = ℕ → ℕ → Bool

-- the gaps of a set of gap numbers
abbrev pub gaps_in : Listing → SetOfGaps → Gaps
gaps_in p gaps t k = option_map_or (set.contains gaps) (gap_number p.threads t k) false

-- where place k of a thread lies in the fenced thread: past the fences before it, at its own fence where it has one
abbrev pub place_of : (ℕ → Bool) → ℕ → ℕ
place_of gap zero = 0
place_of gap (suc k) = place_of gap k + (if gap k then 2 else 1)

-- a jump leads to the fence before its target where there is one
abbrev pub moved : (ℕ → Bool) → Instr → Instr
moved gap (Je k) = Je (place_of gap k)
moved gap (Jne k) = Jne (place_of gap k)
moved gap (Jmp k) = Jmp (place_of gap k)
moved gap (LoadImm r v) = LoadImm r v
moved gap (Copy r s) = Copy r s
moved gap (Load r l) = Load r l
moved gap (StoreImm l v) = StoreImm l v
moved gap (Store l r) = Store l r
moved gap (Xchg l r) = Xchg l r
moved gap Fence = Fence
moved gap (CmpImm r v) = CmpImm r v
moved gap (CmpReg r s) = CmpReg r s

-- the instructions from instruction k on, each after an MFENCE where the gap before it is in the set
abbrev pub fenced_code : (ℕ → Bool) → ℕ → List Instr → List Instr
fenced_code gap k [] = []
fenced_code gap k (x ∷ xs) = (if gap k then Fence ∷ [] else []) ++ moved gap x ∷ fenced_code gap (k + 1) xs

-- the threads from thread t on
abbrev pub fenced_threads : Gaps → ℕ → List Thread → List Thread
fenced_threads gaps t [] = []
fenced_threads gaps t (thread ∷ threads) =
    record { code = fenced_code (gaps t) 0 thread.code; registers = thread.registers } ∷ fenced_threads gaps (t + 1) threads

-- the program with an MFENCE in each gap of the set
abbrev pub fence : Gaps → Listing → Listing
fence gaps p = record { threads = fenced_threads gaps 0 p.threads; memory = p.memory }

-- the least gap of the set that the program has not
abbrev pub first_missing : Listing → SetOfGaps → Option ℕ
first_missing p gaps = find (λ gap. nat_le (gap_count p.threads) gap) (ascending gaps)

-- a program within its limits is, with its fences, within those of a fenced program
abbrev pub FencingStaysWithinLimits : Type 0
FencingStaysWithinLimits = (p : Listing) (gaps : SetOfGaps) → IsWithinLimits p.threads p.memory →
    IsWithinFencedLimits (fence (gaps_in p gaps) p).threads (fence (gaps_in p gaps) p).memory
