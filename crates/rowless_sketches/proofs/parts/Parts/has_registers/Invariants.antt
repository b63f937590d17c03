use Rattle.rowless_sketches.proofs.Vocabulary.{◌≡◌, ℕ, ◌<◌, [], get_or, shown_registers, trace_in}
use Rattle.rowless_sketches.proofs.parts.Parts.has_registers.Given as goal

-- the registers of the threads so far are shown of those where they stop
abbrev pub invariant-loop-t : goal.invariant-loop-t
invariant-loop-t l = (k : ℕ) → k < l.t → get_or l.registers k [] ≡ shown_registers l.shown k (trace_in l.self k).last.registers
