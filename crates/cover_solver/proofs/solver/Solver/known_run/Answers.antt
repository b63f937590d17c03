use Rattle.cover_solver.proofs.Vocabulary.{◌≡◌, ◌∙◌, true, sym, ap, subst, AreOf, Asked, Foreign, IsForeignValue}
use Rattle.std.specs.FinSet as set
use Rattle.thread_traces.proofs.KnownParts.{not_by}
use Rattle.cover_solver.proofs.solver.Solver.known_run.Goals as goal

pub returns-then-not-meets : goal.returns-then-not-meets
returns-then-not-meets c =
    let s = c.self.inside in
    let run = c.run-item.result in
    let same = c.in_ok-copy.ensures in
    let are = subst (AreOf s.question) (sym c.deref-run-items.ensures.value) c.self.invariant.1 in (
      ap (λ (f : Foreign). f.question) (same ∙ c.run-item.is) ∙ are c.loop-run.run-index run c.loop-run-test.true ∙ ap (λ (a : Asked). a.question) c.self.view_is,
      subst IsForeignValue (sym same) c.recall_facts.ensures.foreign,
      (λ gap passes there. not_by c.meets.result _ c.meets.ensures c.if-not-meets.true (gap, subst (λ p. set.contains p gap ≡ true) (ap (λ (f : Foreign). f.passed) same ∙ sym c.passed.ensures) passes, there)),
    )
