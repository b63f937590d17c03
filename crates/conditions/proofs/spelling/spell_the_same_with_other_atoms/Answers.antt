use Rattle.conditions.proofs.Mapped.{spells_mapped, spells_unmapped}
use Rattle.conditions.proofs.spelling.spell_the_same_with_other_atoms.Goals as goal

pub returns : goal.returns
returns g c = record { gains = spells_mapped; loses = spells_unmapped }
