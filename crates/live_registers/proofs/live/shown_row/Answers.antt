use Rattle.std.proofs.Common.{ap, ◌∙◌, sym, arith}
use Rattle.tso_program.specs.Shown.{shows_register}
use Rattle.live_registers.proofs.ShownRegisters.{shown_is}
use Rattle.live_registers.proofs.live.shown_row.Goals as goal

pub returns : goal.returns
returns c = λ i few.
    let is = shown_is c.args.shown.now c.args.t i c.requires few in
    let same = c.loop-i.invariant.so_far i (omega (arith, few, c.loop-i-test.false)) ∙ ap (λ names. shows_register names c.args.t i) c.shown_names-names.ensures in
    (λ b. is.0 (sym same ∙ b), λ tells. same ∙ is.1 tells)
