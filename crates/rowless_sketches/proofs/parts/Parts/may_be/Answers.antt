use Rattle.rowless_sketches.proofs.Vocabulary.{◌∙◌, ℕ, ◌==◌, List, length, slice_index, ap, sym, subst, arith, ProgramSketch, IsLawful, IsOfThread, MayBeBy, each_index, not_by}
use Rattle.rowless_sketches.proofs.Known.{initial_does, initial_differs}
use Rattle.rowless_sketches.proofs.parts.Parts.may_be.Goals as goal

pub loop-t-preserved : goal.loop-t-preserved
loop-t-preserved c = each_index (λ t. MayBeBy c.args.self.now c.args.location c.args.value c.args.is (IsOfThread t) → ⊥)
    c.loop-t.t c.loop-t.invariant (not_by _ _ c.may_be_by.ensures c.if-may_be_by.false)

pub returns-then-is_so : goal.returns-then-is_so
returns-then-is_so c =
    let threads = c.self.invariant.one_each ∙ ap (λ (s : ProgramSketch). length s.program.threads) c.self.view_is in
    let memory = c.memory.ensures.value ∙ ap (λ (s : ProgramSketch). s.program.memory) c.self.view_is in
    let held = ap (λ (xs : List ℕ). slice_index xs c.args.location == c.args.value) memory in
    initial_does c.args.self.now c.args.location c.args.value c.args.is c.loop-t.t (omega (arith, c.loop-t-test.false)) c.loop-t.invariant c.is_written.result
    (subst (λ (s : ProgramSketch). IsLawful s) c.self.view_is c.self.invariant.lawful) (sym held ∙ c.is_so.ensures.0 c.if-is_so.true) c.is_written.ensures

pub returns-else-is_so : goal.returns-else-is_so
returns-else-is_so c =
    let threads = c.self.invariant.one_each ∙ ap (λ (s : ProgramSketch). length s.program.threads) c.self.view_is in
    let memory = c.memory.ensures.value ∙ ap (λ (s : ProgramSketch). s.program.memory) c.self.view_is in
    let held = ap (λ (xs : List ℕ). slice_index xs c.args.location == c.args.value) memory in
    let other = not_by _ _ c.is_so.ensures c.if-is_so.false in (
      λ t. absurd (other (c.is_so.ensures.0 t)),
      λ may. absurd (initial_differs c.args.self.now c.args.location c.args.value c.args.is c.loop-t.t (omega (arith, c.loop-t-test.false)) c.loop-t.invariant (λ so. other (held ∙ so)) may),
    )
