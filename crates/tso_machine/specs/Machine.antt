-- The two machines, their runs and their outcomes (Lamport, IEEE Transactions on Computers 1979: sequential consistency; Sewell et al., CACM 2010, section 3: x86-TSO).
use Rattle.std.specs.Prelude.{◌&&◌, ◌||◌, not, ◌≡◌, ℕ, Bool, true, false, List, [], ◌∷◌, ◌++◌, Option, Some, None, ◌==◌, if◌then◌else◌, slice_index, option_and_then, length, map}
use Rattle.std.specs.List.{range_with_len}
use Rattle.tso_program.specs.declared.action.Local.{Local}
use Rattle.tso_program.specs.declared.action.Action.{Action, TheVariants.Stop, TheVariants.Go, TheVariants.Wait, TheVariants.Read, TheVariants.Write, TheVariants.Swap}
use Rattle.tso_program.specs.declared.listing.Listing.{Listing}
use Rattle.tso_program.specs.declared.outcome.Outcome.{Outcome}
use Rattle.tso_program.specs.Actions.{loaded}
use Rattle.tso_program.specs.Listings.{action, start_of}
use Rattle.tso_program.specs.Fences.{Gaps}
use Rattle.tso_machine.specs.declared.label.Label.{Label, TheVariants.Exec, TheVariants.Flush}
use Rattle.tso_machine.specs.declared.label.Pending.{Pending}

-- sequential consistency, or store buffers with these gaps fenced
pub data Machine : Type 0 where
  SequentialMachine : Machine
  StoreBufferMachine : (gaps : Gaps) → Machine

-- no gap is fenced
abbrev pub no_gaps : Gaps
no_gaps t k = false

-- the threads, the stores that wait in their buffers, and the memory
pub record State : Type 0 where
  pub locals : ℕ → Local
  pub buffers : ℕ → List Pending  -- the oldest store first
  pub memory : ℕ → ℕ

-- f, but x at n
abbrev pub put : {A : Type 0} → (ℕ → A) → ℕ → A → ℕ → A
put f n x k = if k == n then x else f k

-- the first, or the second if the first is `None`
abbrev pub or_else : Option ℕ → Option ℕ → Option ℕ
or_else (Some v) o = Some v
or_else None o = o

-- the value of the newest store to the location in a buffer
abbrev pub newest : ℕ → List Pending → Option ℕ
newest l [] = None
newest l (w ∷ ws) = or_else (newest l ws) (if w.location == l then Some w.value else None)

-- what a load finds: the newest store in its own buffer, otherwise the value in memory
abbrev pub found : Option ℕ → ℕ → ℕ
found (Some v) m = v
found None m = m

-- only while the buffer is empty
abbrev pub when_empty : List Pending → State → Option State
when_empty [] s = Some s
when_empty (w ∷ ws) s = None

-- thread t does this, over store buffers; a locked exchange is one step from an empty buffer: under x86-TSO's lock no other
-- thread reads memory or empties its buffer
abbrev pub buffered : State → ℕ → Action → Option State
buffered s t Stop = None
buffered s t (Go next) = Some (record s { locals = put s.locals t next })
buffered s t (Wait next) = when_empty (s.buffers t) (record s { locals = put s.locals t next })
buffered s t (Read l to next) =
    Some (record s { locals = put s.locals t (loaded to (found (newest l (s.buffers t)) (s.memory l)) next) })
buffered s t (Write l v next) =
    Some (record s { locals = put s.locals t next; buffers = put s.buffers t (s.buffers t ++ record { location = l; value = v } ∷ []) })
buffered s t (Swap l v to next) =
    when_empty (s.buffers t) (record s { locals = put s.locals t (loaded to (s.memory l) next); memory = put s.memory l v })

-- the oldest store of thread t's buffer goes to memory
abbrev pub flushed : State → ℕ → List Pending → Option State
flushed s t [] = None
flushed s t (w ∷ ws) = Some (record s { buffers = put s.buffers t ws; memory = put s.memory w.location w.value })

-- thread t does this, and a store writes memory at once
abbrev pub direct : State → ℕ → Action → Option State
direct s t Stop = None
direct s t (Go next) = Some (record s { locals = put s.locals t next })
direct s t (Wait next) = Some (record s { locals = put s.locals t next })
direct s t (Read l to next) = Some (record s { locals = put s.locals t (loaded to (s.memory l) next) })
direct s t (Write l v next) = Some (record s { locals = put s.locals t next; memory = put s.memory l v })
direct s t (Swap l v to next) =
    Some (record s { locals = put s.locals t (loaded to (s.memory l) next); memory = put s.memory l v })

-- at a fenced gap, only while the buffer is empty
abbrev pub past_gap : Bool → List Pending → State → Option State
past_gap true ws s = when_empty ws s
past_gap false ws s = Some s

-- one step, or none where the event is not possible
abbrev pub step : Listing → Machine → State → Label → Option State
step p SequentialMachine s (Exec t) = direct s t (action p.threads t (s.locals t))
step p SequentialMachine s (Flush t) = None
step p (StoreBufferMachine gaps) s (Exec t) =
    option_and_then (λ s'. buffered s' t (action p.threads t (s.locals t))) (past_gap (gaps t (s.locals t).place) (s.buffers t) s)
step p (StoreBufferMachine gaps) s (Flush t) = flushed s t (s.buffers t)

abbrev pub run : Listing → Machine → State → List Label → Option State
run p mode s [] = Some s
run p mode s (l ∷ ls) = option_and_then (λ next. run p mode next ls) (step p mode s l)

abbrev pub start : Listing → State
start p = record { locals = start_of p.threads; buffers = λ t. []; memory = slice_index p.memory }

abbrev pub outcome_at : Listing → State → Outcome
outcome_at p s = record {
  registers = map (λ t. (s.locals t).registers) (range_with_len 0 (length p.threads));
  memory = map s.memory (range_with_len 0 (length p.memory));
}

-- every thread is at its end, with an empty buffer
abbrev pub HasEnded : Listing → State → Type 0
HasEnded p s = (t : ℕ) → (action p.threads t (s.locals t) ≡ Stop) × (s.buffers t ≡ [])

-- the labels are a run with this outcome
abbrev pub IsRun : Listing → Machine → List Label → Outcome → Type 0
IsRun p mode labels o = (last : State) × (run p mode (start p) labels ≡ Some last) × HasEnded p last × (o ≡ outcome_at p last)

-- some run of the mode's machine has the outcome
abbrev pub Allows : Listing → Machine → Outcome → Type 0
Allows p mode o = (labels : List Label) × IsRun p mode labels o

abbrev pub is_empty : List Pending → Bool
is_empty [] = true
is_empty (w ∷ ws) = false

abbrev pub from_some : (State → Bool) → Option State → Bool
from_some f None = false
from_some f (Some s) = f s

-- whether the step executes instruction k of thread t while t's buffer is not empty
abbrev pub passes_at : State → Label → ℕ → ℕ → Bool
passes_at s (Flush u) t k = false
passes_at s (Exec u) t k = (u == t) && (((s.locals t).place == k) && not (is_empty (s.buffers t)))

-- whether the run passes the gap before instruction k of thread t
abbrev pub passes : Listing → Machine → State → List Label → ℕ → ℕ → Bool
passes p mode s [] t k = false
passes p mode s (l ∷ ls) t k = passes_at s l t k || from_some (λ next. passes p mode next ls t k) (step p mode s l)
