use Rattle.std.specs.Prelude.{IfOk}
use Rattle.fencer.proofs.Vocabulary.{subst}
use Rattle.litmus_text.specs.CostTexts.{IsCostText}
use Rattle.gap_sets.specs.declared.ties.TiedCosts.{TiedCosts}
use Rattle.fencer.proofs.gaps.template_file.Goals as goal

pub returns-clause-read : goal.returns-clause-read
returns-clause-read c =
    subst (λ (costs : TiedCosts). IfOk c.cost_file.result (λ lines. IsCostText lines.items c.args.source.now.program.threads costs)) c.requires.read c.cost_file.ensures.read
