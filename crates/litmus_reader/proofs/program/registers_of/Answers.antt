use Rattle.litmus_reader.proofs.Vocabulary.{◌≡◌, arith, List, fold, replicate, take, ap, ◌∙◌, Atom, common_steps, with_initial}
use Rattle.litmus_reader.proofs.Filled.{loaded_all}
use Rattle.litmus_reader.proofs.program.registers_of.Goals as goal

pub returns : goal.returns
returns c =
    let all : take c.loop-atom.atom-index c.args.atoms.now ≡ c.args.atoms.now = grind (arith, common_steps) in
    c.loop-atom.invariant ∙ ap (λ (atoms : List Atom). fold with_initial (replicate c.args.threads (replicate 6 0)) atoms) all ∙ loaded_all c.args.threads c.args.atoms.now
