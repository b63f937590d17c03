use Rattle.tso_machine.proofs.laws.programs_jump_forward.Goals as goal

pub returns : goal.returns
returns c = λ p within. within.shared.forward_jumps
