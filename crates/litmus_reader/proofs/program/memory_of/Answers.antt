use Rattle.litmus_reader.proofs.Vocabulary.{◌≡◌, arith, List, fold, replicate, take, ap, ◌∙◌, Atom, common_steps, stored}
use Rattle.litmus_reader.proofs.Filled.{stored_all}
use Rattle.litmus_reader.proofs.program.memory_of.Goals as goal

pub returns : goal.returns
returns c =
    let all : take c.loop-atom.atom-index c.args.atoms.now ≡ c.args.atoms.now = grind (arith, common_steps) in
    c.loop-atom.invariant ∙ ap (λ (atoms : List Atom). fold stored (replicate c.args.locations 0) atoms) all ∙ stored_all c.args.locations c.args.atoms.now
