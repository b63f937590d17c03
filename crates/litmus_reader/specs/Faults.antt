-- Cases on a fault.
use Rattle.std.specs.Prelude.{⊤}
use Rattle.tso_program.specs.declared.limits.ProgramFault.{ProgramFault}
use Rattle.litmus_lines.specs.declared.fault.LineFault.{LineFault}
use Rattle.litmus_lines.specs.declared.fault.LineFault.TheVariants as line_fault
use Rattle.litmus_reader.specs.declared.fault.ReadFault.{ReadFault}
use Rattle.litmus_reader.specs.declared.fault.ReadFault.TheVariants.{NotUtf8, Header, Initial, Row, Instruction, Operand, Label, Condition, Number, Ended, Program, OutOfMemory}

-- a fact for bytes that are not UTF-8, for a program past its limits, for out of memory, and for every other fault
abbrev pub MatchFault : ReadFault → Type 0 → (ProgramFault → Type 0) → Type 0 → Type 0 → Type 0
MatchFault (NotUtf8 line) Utf8 Limit Memory Other = Utf8
MatchFault (Program line fault) Utf8 Limit Memory Other = Limit fault
MatchFault OutOfMemory Utf8 Limit Memory Other = Memory
MatchFault (Header line) Utf8 Limit Memory Other = Other
MatchFault (Initial line) Utf8 Limit Memory Other = Other
MatchFault (Row line) Utf8 Limit Memory Other = Other
MatchFault (Instruction line) Utf8 Limit Memory Other = Other
MatchFault (Operand line) Utf8 Limit Memory Other = Other
MatchFault (Label line) Utf8 Limit Memory Other = Other
MatchFault (Condition line) Utf8 Limit Memory Other = Other
MatchFault (Number line) Utf8 Limit Memory Other = Other
MatchFault (Ended line) Utf8 Limit Memory Other = Other

-- a token that cannot stand where it does, or the end of the text
abbrev pub IsOfAToken : ReadFault → Type 0
IsOfAToken fault = MatchFault fault ⊥ (λ _. ⊥) ⊥ ⊤

-- the fault of a line before the initial values
abbrev pub of_lines : LineFault → ReadFault
of_lines (line_fault.Header line) = Header line
of_lines (line_fault.Ended line) = Ended line
