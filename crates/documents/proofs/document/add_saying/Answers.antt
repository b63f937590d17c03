use Rattle.documents.proofs.Vocabulary.{on_ok_weaker}
use Rattle.documents.proofs.Told.{added}
use Rattle.documents.proofs.document.add_saying.Goals as goal

pub returns : goal.returns
returns c = λ command members is.
    on_ok_weaker c.add.result (λ more. (
      c.in_ok-says.says,
      rw c.verb_of-verb.ensures at c.in_ok-says.ensures,
      record { first = is.first; heading = is.heading; printed = added is.first members _ _ _ is.printed more },
    )) c.add.ensures.text
