-- The table of a run, byte for byte: a line of headings, and a line for each step.
use Rattle.std.specs.Prelude.{◌≡◌, ◌==◌, ◌+◌, ◌-◌, ℕ, Bool, true, false, List, [], ◌∷◌, ◌++◌, Option, Some, None, codes, fold, length, map, max, replicate, slice_get, slice_index, slice_index_or, if◌then◌else◌}
use Rattle.std.specs.Fmt.{decimal}
use Rattle.std.specs.FinSet as set
use Rattle.std.specs.List.{flat_map, join_with_byte, list_any, range_with_len}
use Rattle.std.specs.Option.{option_map_or}
use Rattle.tso_program.specs.declared.action.Local.{Local}
use Rattle.tso_program.specs.declared.action.Action.{Action, TheVariants.Stop, TheVariants.Go, TheVariants.Wait, TheVariants.Read, TheVariants.Write, TheVariants.Swap}
use Rattle.tso_program.specs.declared.instruction.Instr.{Instr}
use Rattle.tso_program.specs.declared.listing.Listing.{Listing}
use Rattle.tso_program.specs.Instructions.{number}
use Rattle.tso_program.specs.Listings.{action, instr_at}
use Rattle.tso_machine.specs.declared.label.Label.{Label, TheVariants.Exec, TheVariants.Flush}
use Rattle.tso_machine.specs.declared.label.Pending.{Pending}
use Rattle.tso_machine.specs.declared.stepping.Step.{Step}
use Rattle.tso_machine.specs.Faults.{thread_of}
use Rattle.tso_machine.specs.Machine.{Machine, start}
use Rattle.tso_machine.specs.RunTexts.{spelling}
use Rattle.tso_machine.specs.Steps.{AreSteps}
use Rattle.litmus_reader.specs.declared.litmus.Litmus.{Litmus}
use Rattle.litmus_reader.specs.Names.{TextNames}
use Rattle.litmus_text.specs.Canonical.{code_named, litmus_fenced_at, own_labels}
use Rattle.litmus_reader.specs.Pieces.{text_of}
use Rattle.litmus_text.specs.Spelling.{code_pieces}

-- ---- what a step does

-- what a thread does in a step: where a store reaches memory it executes no instruction
abbrev pub action_at : Listing → Label → Local → Action
action_at p (Exec t) before = action p.threads t before
action_at p (Flush t) before = Stop

abbrev pub action_of : Listing → Step → Action
action_of p made = action_at p made.label made.before.local

-- whether a store to the location waits
abbrev pub waits : List Pending → ℕ → Bool
waits stores l = list_any (λ store. store.location == l) stores

-- a store, where none waits after it
abbrev pub at_once : List Pending → Pending → Option Pending
at_once after store = if length after == 0 then Some store else None

-- the store that reaches memory where a thread does this, by the stores that wait before it and after it
abbrev pub written_by : Action → List Pending → List Pending → Option Pending
written_by Stop before after = slice_get before 0
written_by (Go next) before after = None
written_by (Wait next) before after = None
written_by (Read l to next) before after = None
written_by (Write l v next) before after = at_once after (record { location = l; value = v })
written_by (Swap l v to next) before after = Some (record { location = l; value = v })

abbrev pub written : Listing → Step → Option Pending
written p made = written_by (action_of p made) made.before.waiting made.after.waiting

-- ---- cells

-- `x=1`
abbrev pub value_text : TextNames → ℕ → ℕ → List ℕ
value_text names l v = slice_index_or names.locations l [] ++ codes "=" ++ decimal v

abbrev pub pending_text : TextNames → Pending → List ℕ
pending_text names store = value_text names store.location store.value

-- an instruction of thread t, as the canonical text has it
abbrev pub instruction_text : Litmus Listing → ℕ → Instr → List ℕ
instruction_text source t code = text_of (code_pieces (code_named source.names.locations (own_labels (litmus_fenced_at set.empty source).labels t) code))

-- the instruction that a step executes
abbrev pub instruction_at : Litmus Listing → Label → Local → List ℕ
instruction_at source (Exec t) before = option_map_or (instruction_text source t) (instr_at source.program.threads t before.place) []
instruction_at source (Flush t) before = []

abbrev pub instruction_cell : Litmus Listing → Step → List ℕ
instruction_cell source made = instruction_at source made.label made.before.local

-- where a value is read from: the thread's own buffer, or memory
abbrev pub from_text : Bool → List ℕ
from_text true = codes " from its buffer"
from_text false = codes " from memory"

-- what a thread that does this reads, and from where, and what it stores
abbrev pub effect_text : TextNames → Action → List Pending → List ℕ → List ℕ
effect_text names Stop before registers = []
effect_text names (Go next) before registers = []
effect_text names (Wait next) before registers = []
effect_text names (Read l to next) before registers = codes "reads " ++ value_text names l (slice_index registers (number to)) ++ from_text (waits before l)
effect_text names (Write l v next) before registers = codes "stores " ++ value_text names l v
effect_text names (Swap l v to next) before registers =
    codes "reads " ++ value_text names l (slice_index registers (number to)) ++ codes " from memory, stores " ++ value_text names l v

abbrev pub effect_cell : Litmus Listing → Step → List ℕ
effect_cell source made = effect_text source.names (action_of source.program made) made.before.waiting made.after.local.registers

-- the stores that wait after a step in its thread's buffer, the oldest first
abbrev pub waiting_cell : TextNames → Step → List ℕ
waiting_cell names made = join_with_byte 32 (map (pending_text names) made.after.waiting)

-- what reaches memory in a step
abbrev pub memory_cell : Litmus Listing → Step → List ℕ
memory_cell source made = option_map_or (pending_text source.names) (written source.program made) []

-- `-` stands where there is nothing
abbrev pub or_dash : List ℕ → List ℕ
or_dash [] = codes "-"
or_dash (byte ∷ bytes) = byte ∷ bytes

-- ---- lines

-- the cells of a line, by column
abbrev pub Cells : Type 0
Cells = List (List ℕ)

abbrev pub columns : ℕ
columns = 6

abbrev pub headings : Cells
headings = codes "step" ∷ codes "thread" ∷ codes "instruction" ∷ codes "reads and stores" ∷ codes "still waits" ∷ codes "reaches memory" ∷ []

-- the line of a step begins with its label
abbrev pub cells_of : Litmus Listing → Step → Cells
cells_of source made =
    spelling made.label ∷ (codes "P" ++ decimal (thread_of made.label)) ∷ or_dash (instruction_cell source made) ∷ or_dash (effect_cell source made)
    ∷ or_dash (waiting_cell source.names made) ∷ or_dash (memory_cell source made) ∷ []

abbrev pub rows_of : Litmus Listing → List Step → List Cells
rows_of source steps = headings ∷ map (cells_of source) steps

abbrev pub cell_at : Cells → ℕ → List ℕ
cell_at row column = slice_index_or row column []

-- how many bytes the longest cell of a column has
abbrev pub width : List Cells → ℕ → ℕ
width rows column = fold (λ most row. max most (length (cell_at row column))) 0 rows

abbrev pub widths : List Cells → List ℕ
widths rows = map (width rows) (range_with_len 0 columns)

-- what follows a cell in its line: the last one has nothing after it
abbrev pub padding : ℕ → List ℕ → Bool → List ℕ
padding width cell true = []
padding width cell false = replicate (width - length cell) 32 ++ codes "  "

abbrev pub padded : List ℕ → Cells → ℕ → List ℕ
padded widths row column = cell_at row column ++ padding (slice_index widths column) (cell_at row column) (column + 1 == columns)

abbrev pub line_of : List ℕ → Cells → List ℕ
line_of widths row = flat_map (padded widths row) (range_with_len 0 columns) ++ 10 ∷ []

abbrev pub lines_of : List Cells → List ℕ
lines_of rows = flat_map (line_of (widths rows)) rows

-- ---- the table

abbrev pub table_text : Litmus Listing → List Step → List ℕ
table_text source steps = lines_of (rows_of source steps)

-- the table of the steps that the labels make in a machine
abbrev pub IsTableOf : Litmus Listing → Machine → List Label → List ℕ → Type 0
IsTableOf source machine labels table = (steps : List Step) × AreSteps source.program machine (start source.program) labels steps × (table ≡ table_text source steps)
