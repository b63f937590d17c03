use Rattle.litmus_text.proofs.CanonicalIsRead.{canonical_is_read}
use Rattle.litmus_text.proofs.laws.canonical_text_is_read.Goals as goal

pub returns : goal.returns
returns c = canonical_is_read
