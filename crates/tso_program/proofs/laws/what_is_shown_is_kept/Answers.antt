use Rattle.tso_program.proofs.Kept.{alike, registers_kept, locations_kept, other_registers, other_locations}
use Rattle.tso_program.proofs.laws.what_is_shown_is_kept.Goals as goal

pub returns : goal.returns
returns c = record { alike = alike; registers = registers_kept; locations = locations_kept; other_registers = other_registers; other_locations = other_locations }
