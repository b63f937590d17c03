use Rattle.tso_program.proofs.Vocabulary.{◌≡◌, Some, ◌∙◌, sym, ap, length, subst, IsLocated, instr_at}
use Rattle.tso_program.specs.declared.action.Action.{Action}
use Rattle.tso_program.proofs.Located.{act_located}
use Rattle.tso_program.proofs.program.Program.action.Goals as goal

pub returns-in-Some-clause-located : goal.returns-in-Some-clause-located
returns-in-Some-clause-located c =
    let there : instr_at c.args.self.now.threads c.args.t c.args.local.place ≡ Some c.in-Some.instr =
    ap (λ threads. instr_at threads c.args.t c.args.local.place) (sym c.threads.ensures.value) ∙ sym c.instr_at.ensures ∙ c.in-Some.is in
    let P : Action → Type 0 = λ a. IsLocated (length c.args.self.now.memory) a in
    subst P (sym c.act.ensures) (act_located c.args.self.now.threads c.args.self.now.memory c.args.t c.args.local.place c.in-Some.instr c.args.local c.threads.ensures.within there)
