use Rattle.rowless_sketches.proofs.Vocabulary.{◌∙◌, ℕ, ◌<◌, List, length, ap, sym, subst, slice_index, Initial, shown_value, ProgramSketch, IsLawful, each_index, no, not_by, HasEndOf}
use Rattle.rowless_sketches.proofs.MemoryEnds.{same_initial, written_initial, initial_shown}
use Rattle.rowless_sketches.proofs.parts.Parts.has_initial_ends.Goals as goal
use Rattle.rowless_sketches.proofs.parts.Parts.has_initial_ends.Goals.{else-value-held-via-then-value-held+else-not-is_written, else-value-held-via-else-value-held}

pub returns-then-not-is_written : goal.returns-then-not-is_written
returns-then-not-is_written c =
    let s = c.args.self.now in
    let memory = c.memory.ensures.value ∙ ap (λ s. s.program.memory) c.self.view_is in
    let initial = ap (λ (xs : List ℕ). shown_value c.args.shown.now c.loop-l.l (slice_index xs c.loop-l.l)) memory in
    let lawful = subst (λ (s : ProgramSketch). IsLawful s) c.self.view_is c.self.invariant.lawful in
    no ((l : ℕ) → l < length c.args.memory.now → HasEndOf s c.args.shown.now c.args.memory.now (Initial l))
    (λ ends. c.if-value-held.true (c.value.ensures ∙ initial
    ∙ initial_shown s c.args.shown.now c.args.memory.now c.loop-l.l lawful c.loop-l-test.true (not_by _ _ c.is_written.ensures c.if-not-is_written.true) (ends c.loop-l.l c.loop-l-test.true)))

pub loop-l-preserved : goal.loop-l-preserved
loop-l-preserved c =
    let s = c.args.self.now in
    let memory = c.memory.ensures.value ∙ ap (λ s. s.program.memory) c.self.view_is in
    let initial = ap (λ (xs : List ℕ). shown_value c.args.shown.now c.loop-l.l (slice_index xs c.loop-l.l)) memory in
    each_index (λ l. HasEndOf s c.args.shown.now c.args.memory.now (Initial l)) c.loop-l.l c.loop-l.invariant
    (elim c.else-value-held.branch [
      | else-value-held-via-then-value-held+else-not-is_written w ↦ written_initial s c.args.shown.now c.args.memory.now c.loop-l.l (w.is_written.ensures.0 w.if-not-is_written.false)
      | else-value-held-via-else-value-held w ↦ same_initial s c.args.shown.now c.args.memory.now c.loop-l.l (sym initial ∙ sym c.value.ensures ∙ w.if-value-held.false)
    ])
