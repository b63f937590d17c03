use Rattle.tree_laws.proofs.CertificateIsProof.{certificate_proves}
use Rattle.tree_laws.proofs.laws.a_valid_certificate_proves_the_headline.Goals as goal

pub returns : goal.returns
returns c = certificate_proves
