use Rattle.thread_traces.proofs.Vocabulary.{◌+◌, ◌∙◌, sym, subst, LoadImm, HasImmediate}
use Rattle.tso_program.specs.declared.instruction.Reg.{TheVariants.Eax}
use Rattle.thread_traces.proofs.Gathered.{HasCome, HasNumberBelow, come_by, number_all, numbers_push, numbers_skip}
use Rattle.thread_traces.proofs.location_values.push_numbers.Goals as goal
use Rattle.thread_traces.proofs.location_values.push_numbers.Goals.{in-Some+in_ok-push, in_default}

pub loop-instr-preserved : goal.loop-instr-preserved
loop-instr-preserved c = elim c.match-number_of.branch [
  | in-Some+in_ok-push w ↦ subst (λ v. HasCome (HasNumberBelow c.args.code.now c.args.location (c.loop-instr.instr-index + 1)) c.args.values.now.items v.items) (sym w.values-is)
      (subst (λ now. HasCome (HasNumberBelow c.args.code.now c.args.location (c.loop-instr.instr-index + 1)) c.args.values.now.items now) (sym w.in_ok-push.ensures.items)
      (numbers_push c.args.code.now c.args.location c.loop-instr.instr-index w.in-Some.value (LoadImm Eax 0) c.args.values.now.items c.loop-instr.values.items c.loop-instr-test.true
      (sym c.number_of.ensures ∙ w.in-Some.is) c.loop-instr.invariant))
  | in_default w ↦ subst (λ v. HasCome (HasNumberBelow c.args.code.now c.args.location (c.loop-instr.instr-index + 1)) c.args.values.now.items v.items) (sym w.values-is)
      (numbers_skip c.args.code.now c.args.location c.loop-instr.instr-index (LoadImm Eax 0) c.args.values.now.items c.loop-instr.values.items c.loop-instr-test.true
      (sym c.number_of.ensures ∙ w.in_default.is) c.loop-instr.invariant)
]

pub returns : goal.returns
returns c = come_by (HasNumberBelow c.args.code.now c.args.location c.loop-instr.instr-index) (HasImmediate c.args.code.now c.args.location) c.args.values.now.items c.loop-instr.values.items
    (λ v. number_all c.args.code.now c.args.location c.loop-instr.instr-index v c.loop-instr-test.false) c.loop-instr.invariant
