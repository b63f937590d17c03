use Rattle.conditions.proofs.CanonicalSigns.{canonical_spell}
use Rattle.conditions.proofs.spelling.canonical_signs_spell.Goals as goal

pub returns : goal.returns
returns g c = canonical_spell
