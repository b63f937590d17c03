-- The definitions at programs of the literature: store buffering, R and n6 (Sewell et al., CACM 2010, section 2), and store buffering with a locked exchange.
use Rattle.std.specs.Prelude.{◌≡◌, ℕ, true, false, List, [], ◌∷◌}
use Rattle.tso_program.specs.declared.instruction.Reg.TheVariants.{Eax, Ebx}
use Rattle.tso_program.specs.declared.instruction.Instr.{Instr, TheVariants.LoadImm, TheVariants.Load, TheVariants.StoreImm, TheVariants.Xchg}
use Rattle.tso_program.specs.declared.listing.Thread.{Thread}
use Rattle.tso_program.specs.declared.listing.Listing.{Listing}
use Rattle.tso_program.specs.declared.outcome.Outcome.{Outcome}
use Rattle.tso_machine.specs.declared.label.Label.{Label, TheVariants.Exec, TheVariants.Flush}
use Rattle.tso_machine.specs.Machine.{SequentialMachine, StoreBufferMachine, no_gaps, start, IsRun, passes}

-- registers that hold 0 but for EAX and EBX
abbrev pub with_eax_ebx : ℕ → ℕ → List ℕ
with_eax_ebx eax ebx = eax ∷ ebx ∷ 0 ∷ 0 ∷ 0 ∷ 0 ∷ []

-- a thread whose registers hold 0 at first
abbrev pub thread_of : List Instr → Thread
thread_of code = record { code = code; registers = with_eax_ebx 0 0 }

-- two threads over x and y, which hold 0 at first
abbrev pub two_threads : List Instr → List Instr → Listing
two_threads first second = record { threads = thread_of first ∷ thread_of second ∷ []; memory = 0 ∷ 0 ∷ [] }

-- what the threads' EAX and EBX, and x and y, hold in the end
abbrev pub ends_with : ℕ → ℕ → ℕ → ℕ → ℕ → ℕ → Outcome
ends_with eax ebx eax' ebx' x y = record { registers = with_eax_ebx eax ebx ∷ with_eax_ebx eax' ebx' ∷ []; memory = x ∷ y ∷ [] }

-- the steps, with no gap fenced, pass the gap before instruction k of thread t
abbrev pub PassesGapBefore : Listing → List Label → ℕ → ℕ → Type 0
PassesGapBefore p labels t k = passes p (StoreBufferMachine no_gaps) (start p) labels t k ≡ true

-- they don't pass it
abbrev pub PassesNotGap : Listing → List Label → ℕ → ℕ → Type 0
PassesNotGap p labels t k = passes p (StoreBufferMachine no_gaps) (start p) labels t k ≡ false

-- store buffering: both threads read 0 where stores wait, and pass both gaps
abbrev pub store_buffering : Listing
store_buffering = two_threads (StoreImm 0 1 ∷ Load Eax 1 ∷ []) (StoreImm 1 1 ∷ Load Eax 0 ∷ [])

abbrev pub waiting_stores : List Label
waiting_stores = Exec 0 ∷ Exec 1 ∷ Exec 0 ∷ Exec 1 ∷ Flush 0 ∷ Flush 1 ∷ []

abbrev pub in_turn : List Label
in_turn = Exec 0 ∷ Exec 0 ∷ Exec 1 ∷ Exec 1 ∷ []

abbrev pub StoreBufferingIsTold : Type 0
StoreBufferingIsTold =
    IsRun store_buffering (StoreBufferMachine no_gaps) waiting_stores (ends_with 0 0 0 0 1 1)
    × PassesGapBefore store_buffering waiting_stores 0 1
    × PassesGapBefore store_buffering waiting_stores 1 1
    × IsRun store_buffering SequentialMachine in_turn (ends_with 0 0 1 0 1 1)

-- R: the second thread reads 0 from x while its store to y waits, and that store is the last to y
abbrev pub r : Listing
r = two_threads (StoreImm 0 1 ∷ StoreImm 1 1 ∷ []) (StoreImm 1 2 ∷ Load Eax 0 ∷ [])

abbrev pub r_run : List Label
r_run = Exec 1 ∷ Exec 1 ∷ Exec 0 ∷ Flush 0 ∷ Exec 0 ∷ Flush 0 ∷ Flush 1 ∷ []

abbrev pub RIsTold : Type 0
RIsTold = IsRun r (StoreBufferMachine no_gaps) r_run (ends_with 0 0 0 0 1 2) × PassesNotGap r r_run 0 1 × PassesGapBefore r r_run 1 1

-- n6: the first thread reads its own store to x, which waits, and that store is the last to x
abbrev pub n6 : Listing
n6 = two_threads (StoreImm 0 1 ∷ Load Eax 0 ∷ Load Ebx 1 ∷ []) (StoreImm 1 2 ∷ StoreImm 0 2 ∷ [])

abbrev pub n6_run : List Label
n6_run = Exec 0 ∷ Exec 0 ∷ Exec 0 ∷ Exec 1 ∷ Flush 1 ∷ Exec 1 ∷ Flush 1 ∷ Flush 0 ∷ []

abbrev pub N6IsTold : Type 0
N6IsTold =
    IsRun n6 (StoreBufferMachine no_gaps) n6_run (ends_with 1 0 0 0 1 2) × PassesGapBefore n6 n6_run 0 1 × PassesGapBefore n6 n6_run 0 2 × PassesNotGap n6 n6_run 1 1

-- an exchange in place of the first thread's store: only the second thread passes a gap
abbrev pub locked_exchange : Listing
locked_exchange = two_threads (LoadImm Ebx 1 ∷ Xchg 0 Ebx ∷ Load Eax 1 ∷ []) (StoreImm 1 1 ∷ Load Eax 0 ∷ [])

abbrev pub locked_run : List Label
locked_run = Exec 1 ∷ Exec 1 ∷ Exec 0 ∷ Exec 0 ∷ Exec 0 ∷ Flush 1 ∷ []

abbrev pub LockedExchangeIsTold : Type 0
LockedExchangeIsTold =
    IsRun locked_exchange (StoreBufferMachine no_gaps) locked_run (ends_with 0 0 0 0 1 1)
    × PassesNotGap locked_exchange locked_run 0 1
    × PassesNotGap locked_exchange locked_run 0 2
    × PassesGapBefore locked_exchange locked_run 1 1
