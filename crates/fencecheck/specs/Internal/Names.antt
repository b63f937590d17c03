-- The names of files, as the program keeps them.
use Rattle.std.specs.Prelude.{option_map}
use Rattle.fencecheck.specs.declared.command.InputNames.{InputNames}
use Rattle.fencecheck.specs.Replies.{JudgedFiles}

abbrev pub file_names_of : InputNames → JudgedFiles
file_names_of n = record { litmus = n.litmus.now; certificate = n.certificate.now; costs = option_map (λ name. name.now) n.costs }
