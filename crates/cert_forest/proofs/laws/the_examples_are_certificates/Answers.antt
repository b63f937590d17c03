use Rattle.cert_forest.proofs.Examples.{told}
use Rattle.cert_forest.proofs.laws.the_examples_are_certificates.Goals as goal

pub returns : goal.returns
returns c = told
