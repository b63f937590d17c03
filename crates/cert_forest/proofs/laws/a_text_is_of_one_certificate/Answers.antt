use Rattle.cert_forest.proofs.WholeLaws.{one_text, one_certificate}
use Rattle.cert_forest.proofs.laws.a_text_is_of_one_certificate.Goals as goal

pub returns-clause-text : goal.returns-clause-text
returns-clause-text c = one_text

pub returns-clause-certificate : goal.returns-clause-certificate
returns-clause-certificate c = one_certificate
