-- What is known of truths that are made of others.
use Rattle.std.specs.Prelude.{◌&&◌, ◌||◌}
use Rattle.program_sketches.specs.declared.known_truth.Knowledge.{Knowledge}
use Rattle.program_sketches.specs.declared.known_truth.Left.{Left, TheVariants.OfAnd, TheVariants.OfOr}

-- what is known of a conjunction or a disjunction
abbrev pub joined : Left → Knowledge → Knowledge
joined (OfAnd left) right = record { is_true = left.is_true && right.is_true; is_false = left.is_false || right.is_false }
joined (OfOr left) right = record { is_true = left.is_true || right.is_true; is_false = left.is_false && right.is_false }
