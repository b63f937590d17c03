use Rattle.std.proofs.Common.{rules, tests, ◌∙◌}
use Rattle.std.specs.FinSet as set
use Rattle.std.proofs.lemmas.Iterator.{YieldsList-from_slice}
use Rattle.std.proofs.lemmas.Iterator.Search.{find_from_yields_List}
use Rattle.cost_text.proofs.Vocabulary.{CostEntry}
use Rattle.cost_text.proofs.entry.entry_at.Goals as goal

pub returns : goal.returns
returns c =
    c.copied.ensures
    ∙ find_from_yields_List (λ (e : CostEntry). set.contains e.gaps c.args.gap) _ _ c.find.result c.find.ensures.ran (YieldsList-from_slice c.args.entries.now c.iter.ensures.rest) (λ x b q k. search (rules, tests))
