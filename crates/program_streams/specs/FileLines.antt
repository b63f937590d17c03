-- The lines of why a file could not be used, byte for byte.
use Rattle.std.specs.Prelude.{ℕ, List, codes}
use Rattle.program_streams.specs.declared.fault.FileFault.{FileFault}
use Rattle.program_streams.specs.declared.fault.FileFault.TheVariants as file

abbrev pub file_line : FileFault → List ℕ
file_line file.Read = codes "refused file 1 Read\n"
file_line file.Write = codes "refused file 2 Write\n"
file_line file.TooLong = codes "refused file 3 TooLong\n"
