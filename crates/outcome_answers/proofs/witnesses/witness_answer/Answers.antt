use Rattle.outcome_answers.proofs.witnesses.witness_answer.Goals as goal

pub returns-in-Ok-clause-told : goal.returns-in-Ok-clause-told
returns-in-Ok-clause-told g c =
    let made = rw c.as_deref.ensures.value at c.in-Ok.ensures in
    record {
      found = c.in_ok-said.said.found;
      lines = c.in_ok-said.said.lines.items;
      document = c.in_ok-said.said.document;
      told = c.in_ok-said.ensures.told;
      delivered = record {
        line = made.line;
        noted = made.noted;
        delivered = record { lines = made.delivered.lines; ends = c.check_status.ensures; as_asked = made.delivered.as_asked; paged = made.delivered.paged };
      };
    }
