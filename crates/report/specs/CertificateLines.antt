-- The lines of why bytes are no certificate's text, byte for byte.
use Rattle.std.specs.Prelude.{ℕ, List, codes}
use Rattle.cert_forest.specs.declared.fault.CertFault.{CertFault}
use Rattle.cert_forest.specs.declared.fault.CertFault.TheVariants as certificate
use Rattle.report.specs.Faults.{refused, refused_at}

abbrev pub certificate_line : CertFault → List ℕ
certificate_line certificate.Header = refused (codes "certificate 1 Header")
certificate_line (certificate.Token place) = refused_at (codes "certificate 2 Token") place
certificate_line (certificate.Number place) = refused_at (codes "certificate 3 Number") place
certificate_line (certificate.TooDeep place) = refused_at (codes "certificate 4 TooDeep") place
certificate_line (certificate.TooMany place) = refused_at (codes "certificate 5 TooMany") place
certificate_line certificate.Ended = refused (codes "certificate 6 Ended")
certificate_line (certificate.Trailing place) = refused_at (codes "certificate 7 Trailing") place
certificate_line certificate.OutOfMemory = refused (codes "certificate 8 OutOfMemory")
