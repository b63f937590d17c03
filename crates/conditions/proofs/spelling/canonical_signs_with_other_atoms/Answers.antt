use Rattle.conditions.proofs.CanonicalSigns.{canonical_mapped}
use Rattle.conditions.proofs.spelling.canonical_signs_with_other_atoms.Goals as goal

pub returns : goal.returns
returns g c = canonical_mapped
