-- The lines of refusals, byte for byte: the part that refuses, the fault's number and name, and where it shows.
use Rattle.std.specs.Prelude.{ℕ, List, [], ◌∷◌, ◌++◌, codes}
use Rattle.std.specs.Fmt.{decimal}
use Rattle.gap_sets.specs.declared.costs.CostFault.{CostFault}
use Rattle.gap_sets.specs.declared.costs.CostFault.TheVariants as cost
use Rattle.tso_program.specs.declared.limits.ProgramFault.{ProgramFault}
use Rattle.tso_program.specs.declared.limits.ProgramFault.TheVariants as program
use Rattle.tso_machine.specs.declared.replaying.ReplayFault.{ReplayFault}
use Rattle.tso_machine.specs.declared.replaying.ReplayFault.TheVariants as replay
use Rattle.tso_machine.specs.declared.run_text.RunFault.{RunFault}
use Rattle.tso_machine.specs.declared.run_text.RunFault.TheVariants as run
use Rattle.litmus_reader.specs.declared.fault.ReadFault.{ReadFault}
use Rattle.litmus_reader.specs.declared.fault.ReadFault.TheVariants as read
use Rattle.cost_text.specs.declared.fault.CostTextFault.{CostTextFault}
use Rattle.cost_text.specs.declared.fault.CostTextFault.TheVariants as costs

-- the line of a refusal
abbrev pub refused : List ℕ → List ℕ
refused what = codes "refused " ++ what ++ 10 ∷ []

-- the line of a refusal that ends with a number
abbrev pub refused_at : List ℕ → ℕ → List ℕ
refused_at what number = refused (what ++ 32 ∷ decimal number)

-- a program's refusal: its name and its numbers
abbrev pub program_text : ProgramFault → List ℕ
program_text program.NoThreads = codes "NoThreads"
program_text program.TooManyThreads = codes "TooManyThreads"
program_text (program.TooLong thread) = codes "TooLong " ++ decimal thread
program_text program.Locations = codes "Locations"
program_text program.TooManyAccesses = codes "TooManyAccesses"
program_text (program.BackwardJump thread k) = codes "BackwardJump " ++ decimal thread ++ 32 ∷ decimal k
program_text (program.JumpPastEnd thread k) = codes "JumpPastEnd " ++ decimal thread ++ 32 ∷ decimal k
program_text program.TooManyGaps = codes "TooManyGaps"
program_text program.OutOfMemory = codes "OutOfMemory"

abbrev pub program_line : ℕ → ProgramFault → List ℕ
program_line line fault = refused (codes "litmus 11 Program line " ++ decimal line ++ 32 ∷ program_text fault)

abbrev pub litmus_line : ReadFault → List ℕ
litmus_line (read.NotUtf8 line) = refused_at (codes "litmus 1 NotUtf8 line") line
litmus_line (read.Header line) = refused_at (codes "litmus 2 Header line") line
litmus_line (read.Initial line) = refused_at (codes "litmus 3 Initial line") line
litmus_line (read.Row line) = refused_at (codes "litmus 4 Row line") line
litmus_line (read.Instruction line) = refused_at (codes "litmus 5 Instruction line") line
litmus_line (read.Operand line) = refused_at (codes "litmus 6 Operand line") line
litmus_line (read.Label line) = refused_at (codes "litmus 7 Label line") line
litmus_line (read.Condition line) = refused_at (codes "litmus 8 Condition line") line
litmus_line (read.Number line) = refused_at (codes "litmus 9 Number line") line
litmus_line (read.Ended line) = refused_at (codes "litmus 10 Ended line") line
litmus_line (read.Program line fault) = program_line line fault
litmus_line read.OutOfMemory = refused (codes "litmus 12 OutOfMemory")

-- the refusal of a list of costs: its name and its gap
abbrev pub cost_text : CostFault → List ℕ
cost_text (cost.Zero gap) = codes "Zero " ++ decimal gap
cost_text (cost.TooLarge gap) = codes "TooLarge " ++ decimal gap
cost_text cost.TooMany = codes "TooMany"
cost_text cost.OutOfMemory = codes "OutOfMemory"

abbrev pub cost_fault_line : ℕ → CostFault → List ℕ
cost_fault_line line fault = refused (codes "costs 4 Cost line " ++ decimal line ++ 32 ∷ cost_text fault)

abbrev pub costs_line : CostTextFault → List ℕ
costs_line (costs.Line line) = refused_at (codes "costs 1 Line line") line
costs_line (costs.NoSuchGap line) = refused_at (codes "costs 2 NoSuchGap line") line
costs_line (costs.Repeated line) = refused_at (codes "costs 3 Repeated line") line
costs_line (costs.Cost line fault) = cost_fault_line line fault
costs_line costs.OutOfMemory = refused (codes "costs 5 OutOfMemory")

abbrev pub run_line : RunFault → List ℕ
run_line (run.Token index) = refused_at (codes "run 1 Token") index
run_line run.OutOfMemory = refused (codes "run 2 OutOfMemory")

abbrev pub replay_line : ReplayFault → List ℕ
replay_line (replay.NoSuchThread step) = refused_at (codes "replay 1 NoSuchThread step") step
replay_line (replay.AtEnd step) = refused_at (codes "replay 2 AtEnd step") step
replay_line (replay.BufferEmpty step) = refused_at (codes "replay 3 BufferEmpty step") step
replay_line (replay.FenceWaits step) = refused_at (codes "replay 4 FenceWaits step") step
replay_line (replay.NotEnded step) = refused_at (codes "replay 5 NotEnded step") step
replay_line replay.OutOfMemory = refused (codes "replay 6 OutOfMemory")
