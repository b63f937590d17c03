use Rattle.cert_pages.proofs.Vocabulary.{◌∙◌}
use Rattle.cert_pages.proofs.Writing.{on_ok, wrote}
use Rattle.cert_pages.proofs.writer.write_early_node.Goals as goal

pub returns : goal.returns
returns c = on_ok c.turn.result (λ e. e ∙ wrote _ _ _ _ c.in_ok-push_early_node.ensures) c.turn.ensures
