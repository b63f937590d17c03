-- A claim: a certificate, with what it is for.
use Rattle.tso_program.specs.declared.question.Question.{Question}
use Rattle.tso_program.specs.Shown.{asked_with}
use Rattle.cert_check.specs.declared.checker.Claim.{Claim}

-- the question that its certificate answers
abbrev pub question_of : Claim → Question
question_of claim = asked_with claim.costs.now.ties claim.program.now claim.shown.now
