use Rattle.fencer.proofs.command.error_text.Goals as goal

pub returns : goal.returns
returns c = (c.in_ok-text.text.items, c.in_ok-push.ensures.items)
