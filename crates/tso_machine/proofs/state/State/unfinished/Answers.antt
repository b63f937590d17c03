use Rattle.tso_machine.proofs.Vocabulary.{ap, length, arith, Cores, FitsProgram}
use Rattle.tso_machine.proofs.Runs.{all_ended}
use Rattle.tso_machine.proofs.state.State.unfinished.Goals as goal

pub returns : goal.returns
returns c =
    let s : Cores = record { cores = c.self.inside.cores.items; memory = c.self.inside.memory.items } in
    let fits : FitsProgram c.args.program.now s = rw c.self.view_is c.requires in
    let threads = fits.threads in
    let count = ap length c.threads.ensures.value in
    rw (← c.self.view_is) (all_ended c.args.program.now s fits (λ k h. c.loop-t.invariant k (omega arith)))
