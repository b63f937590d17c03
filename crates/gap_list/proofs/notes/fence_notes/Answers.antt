use Rattle.gap_list.proofs.Vocabulary.{List, ◌++◌, ap, ◌∙◌, ℕ}
use Rattle.std.proofs.Common.{rules}
use Rattle.gap_list.specs.Notes.{note_part}
use Rattle.gap_list.proofs.Ranges.{one_more}
use Rattle.gap_list.proofs.notes.fence_notes.Goals as goal

pub loop-gap-preserved : goal.loop-gap-preserved
loop-gap-preserved c =
    let line : ℕ → List ℕ = note_part c.args.litmus.now c.args.gaps.now c.args.lines.now in
    c.in_ok-push_note.ensures
    ∙ ap (λ (text : List ℕ). text ++ line c.loop-gap.gap) c.loop-gap.invariant
    ∙ one_more line c.loop-gap.gap

pub returns : goal.returns
returns c = (c.args.lines.now, search rules)
