use Rattle.std.specs.Cmp.{booleans_Decides}
use Rattle.std.proofs.lemmas.Slice.Eq.{slice_eq-Decides}
use Rattle.inserted_text.proofs.same_test.is_same_row.Goals as goal

pub returns : goal.returns
returns c = (slice_eq-Decides booleans_Decides c.args.one c.args.other c.eq.result c.eq.ensures).0
