-- The words of a litmus text.
-- The form is a part of that of herd's X86 litmus files (Alglave, Maranget and Tautschnig, Herding Cats, TOPLAS 2014);
-- docs/formats.md tells which.
use Rattle.std.specs.Prelude.{◌||◌, ◌&&◌, ℕ, ◌++◌, Bool, List, not, codes, Option, Some, None, is_some, if◌then◌else◌}
use Rattle.std.specs.Str.{bytes_eq}
use Rattle.std.specs.Fmt.{decimal}
use Rattle.tso_program.specs.declared.instruction.Reg.{Reg, TheVariants.Eax, TheVariants.Ebx, TheVariants.Ecx, TheVariants.Edx, TheVariants.Esi, TheVariants.Edi}
use Rattle.litmus_syntax.specs.declared.mnemonic.Mnemonic.{Mnemonic, TheVariants.Mov, TheVariants.Xchg, TheVariants.Mfence, TheVariants.Cmp, TheVariants.Je, TheVariants.Jne, TheVariants.Jmp}

-- the register of this name, in capitals or small letters
unfoldable pub reg_of : List ℕ → Option Reg
reg_of w =
    if bytes_eq w (codes "EAX") || bytes_eq w (codes "eax") then Some Eax else
    if bytes_eq w (codes "EBX") || bytes_eq w (codes "ebx") then Some Ebx else
    if bytes_eq w (codes "ECX") || bytes_eq w (codes "ecx") then Some Ecx else
    if bytes_eq w (codes "EDX") || bytes_eq w (codes "edx") then Some Edx else
    if bytes_eq w (codes "ESI") || bytes_eq w (codes "esi") then Some Esi else
    if bytes_eq w (codes "EDI") || bytes_eq w (codes "edi") then Some Edi else None

-- the words with which the part after the rows begins
unfoldable pub opens_condition : List ℕ → Bool
opens_condition w = bytes_eq w (codes "locations") || bytes_eq w (codes "exists") || bytes_eq w (codes "forall") || bytes_eq w (codes "filter")

-- the other words of conditions
unfoldable pub joins_formula : List ℕ → Bool
joins_formula w = bytes_eq w (codes "not") || bytes_eq w (codes "true") || bytes_eq w (codes "false")

-- whether a label may have this name: no word of conditions
unfoldable pub is_label : List ℕ → Bool
is_label w = not (opens_condition w) && not (joins_formula w)

-- whether a location may have this name: neither a register nor a word of conditions
unfoldable pub is_name : List ℕ → Bool
is_name w = not (is_some (reg_of w)) && not (opens_condition w) && not (joins_formula w)

-- the mnemonic that is written so, in capitals or small letters
unfoldable pub mnemonic_of : List ℕ → Option Mnemonic
mnemonic_of w =
    if bytes_eq w (codes "MOV") || bytes_eq w (codes "mov") then Some Mov else
    if bytes_eq w (codes "XCHG") || bytes_eq w (codes "xchg") then Some Xchg else
    if bytes_eq w (codes "MFENCE") || bytes_eq w (codes "mfence") then Some Mfence else
    if bytes_eq w (codes "CMP") || bytes_eq w (codes "cmp") then Some Cmp else
    if bytes_eq w (codes "JE") || bytes_eq w (codes "je") then Some Je else
    if bytes_eq w (codes "JNE") || bytes_eq w (codes "jne") then Some Jne else
    if bytes_eq w (codes "JMP") || bytes_eq w (codes "jmp") then Some Jmp else None

-- the name of a thread's column
abbrev pub column_name : ℕ → List ℕ
column_name k = codes "P" ++ decimal k
