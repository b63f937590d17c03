use Rattle.rowless_sketches.proofs.Vocabulary.{◌≡◌, ◌↔◌, ℕ, ◌≤◌, ◌∙◌, false, true, IsTrue, List, Some, slice_get, sym, subst, ProgramSketch, mode_in, no}
use Rattle.candidate_executions.specs.Settled.{MayStillWrite, MayStore}
use Rattle.tso_program.specs.declared.instruction.Instr.{Instr}
use Rattle.rowless_sketches.proofs.SettledReads.{ahead, ended, not_there}
use Rattle.rowless_sketches.proofs.parts.Parts.may_still_write.Goals as goal

pub returns-then-is_none : goal.returns-then-is_none
returns-then-is_none c =
    let none = ended _ _ _ _ _ c.self.invariant c.args.u c.args.location c.args.value c.in-Some.trace.now (sym c.in-Some.ensures)
    (λ some. (let not_some : false ≡ true = sym c.if-is_none.ensures ∙ some in cc)) in
    subst (λ (s : ProgramSketch). IsTrue false ↔ MayStillWrite s.program (mode_in s) s.chosen c.args.u c.args.location c.args.value) c.self.view_is (no _ none)

pub returns-else-is_none : goal.returns-else-is_none
returns-else-is_none c =
    let still = ahead _ _ _ _ _ c.self.invariant c.args.u c.args.location c.args.value c.in-Some.trace.now (sym c.in-Some.ensures) c.if-is_none.ensures in
    let test = subst (λ (code : List Instr). IsTrue c.stores_from.result ↔ ((k : ℕ) × (c.in-Some.trace.now.last.place ≤ k) × ((x : Instr) × (slice_get code k ≡ Some x) × MayStore x c.args.location c.args.value)))
    c.code_at-code.ensures c.stores_from.ensures in
    subst (λ (s : ProgramSketch). IsTrue c.stores_from.result ↔ MayStillWrite s.program (mode_in s) s.chosen c.args.u c.args.location c.args.value) c.self.view_is
    (λ t. still.0 (test.0 t), λ may. test.1 (still.1 may))

pub returns-in-None : goal.returns-in-None
returns-in-None c =
    let none = not_there _ _ _ _ _ c.self.invariant c.args.u c.args.location c.args.value (sym c.in-None.ensures) in
    subst (λ (s : ProgramSketch). IsTrue false ↔ MayStillWrite s.program (mode_in s) s.chosen c.args.u c.args.location c.args.value) c.self.view_is (no _ none)
