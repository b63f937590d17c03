use Rattle.tree_laws.proofs.TighterModes.{tighter_keeps_cover_by, tighter_keeps_values_by, tighter_keeps_whole, tighter_keeps_settled}
use Rattle.tree_laws.proofs.laws.a_tighter_mode_keeps_a_cover.Goals as goal

pub returns : goal.returns
returns c = record { cover = tighter_keeps_cover_by; values = tighter_keeps_values_by; whole = tighter_keeps_whole; settled = tighter_keeps_settled }
