use Rattle.rowless_sketches.proofs.Vocabulary.{◌↔◌, Bool, Result, IsTrue, IfOk, subst, Shown, Outcome, IsLawful, ProgramSketch, mode_in, EndsOnlyAs, MustEndAs, asked}
use Rattle.rowless_sketches.proofs.{Ends.ends_only, Known.only_if}
use Rattle.rowless_sketches.proofs.rowless_sketch.RowlessSketch.must_end_as.Goals as goal

-- whether a sketch must end so
abbrev Ends : {E : Type 0} → Shown → Outcome → Result Bool E → ProgramSketch → Type 0
Ends shown o r s = IfOk r (λ (ends : Bool). IsTrue ends ↔ MustEndAs (asked s.program shown) (mode_in s) s.chosen o)

pub returns-clause-ends : goal.returns-clause-ends
returns-clause-ends c = subst (Ends c.args.shown.now c.args.outcome.now c.must_end_as.result) c.parts.ensures c.must_end_as.ensures.ends

pub returns-clause-completions : goal.returns-clause-completions
returns-clause-completions c =
    let s = c.args.self.now in
    let shown = c.args.shown.now in
    let o = c.args.outcome.now in
    let lawful = subst (λ (s : ProgramSketch). IsLawful s) c.self.view_is c.self.invariant.kept.lawful in
    only_if (MustEndAs (asked s.program shown) (mode_in s) s.chosen o) (EndsOnlyAs s shown o) c.must_end_as.result (subst (Ends shown o c.must_end_as.result) c.parts.ensures c.must_end_as.ensures.ends) (ends_only s shown o lawful)
