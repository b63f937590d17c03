use Rattle.gap_list.proofs.Vocabulary.{List, ◌++◌, ap, ◌∙◌, ℕ, entry_text}
use Rattle.gap_list.proofs.Ranges.{one_more}
use Rattle.gap_list.proofs.cost_lines.entries.Goals as goal

pub loop-gap-preserved : goal.loop-gap-preserved
loop-gap-preserved c =
    let line = entry_text c.args.program.now.threads c.args.costs.now in
    c.in_ok-push_entry.ensures ∙ ap (λ (text : List ℕ). text ++ line c.loop-gap.gap) c.loop-gap.invariant ∙ one_more line c.loop-gap.gap
