use Rattle.documents.proofs.run.add_setting.Goals as goal

pub returns-in-Machine : goal.returns-in-Machine
returns-in-Machine c = rw c.in-Machine.is (c.add_model.ensures c.args.program.now)
