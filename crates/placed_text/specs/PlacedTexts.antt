-- What is placed in the program of a litmus text, by its texts.
use Rattle.std.specs.Prelude.{◌≡◌, ℕ, List, Option}
use Rattle.gap_sets.specs.Gaps.{SetOfGaps}
use Rattle.gap_sets.specs.Order.{total}
use Rattle.gap_sets.specs.Ties.{spread}
use Rattle.gap_sets.specs.declared.ties.TiedCosts.{TiedCosts}
use Rattle.tso_program.specs.declared.listing.Listing.{Listing}
use Rattle.tso_program.specs.declared.shown.ShownKind.{ShownKind}
use Rattle.tso_program.specs.declared.question.Question.{Question}
use Rattle.tso_machine.specs.Outcomes.{Headline, IsTheAnswer}
use Rattle.litmus_reader.specs.declared.litmus.Litmus.{Litmus}
use Rattle.litmus_reader.specs.Texts.{IsLitmus, IsFencedLitmus}
use Rattle.litmus_text.specs.Canonical.{canonical_text, litmus_fenced_at}
use Rattle.litmus_text.specs.GivenCosts.{AreGiven}
use Rattle.documents.specs.Documents.{IsPlacedDocument}
use Rattle.cert_forest.specs.Certificates.{Certificate}
use Rattle.cert_forest.specs.Limits.{IsCertificate}
use Rattle.cert_check.specs.Headlines.{HeadlineOfAllowed}
use Rattle.cert_forest.specs.Texts.{certificate_text}
use Rattle.tree_laws.specs.Certificates.{IsValidCertificate}
use Rattle.report.specs.Answers.{answer_line}
use Rattle.placed_text.specs.declared.problem.Problem.{Problem}
use Rattle.placed_text.specs.Verdicts.{holds_by, IsVerdict, IsVerdictIn}
use Rattle.placed_text.specs.declared.writing.AnswerText.{AnswerText}
use Rattle.placed_text.specs.declared.writing.PlacedText.{PlacedText}
use Rattle.litmus_reader.specs.Shown.{shown_as, question_of}

-- what is asked of the program of a test, with the ties of its costs
abbrev pub tied_question : Litmus Listing → ShownKind → TiedCosts → Question
tied_question source kind costs = record (question_of source kind) { ties = costs.ties }

-- the text is that of a certificate which claims these gaps, and which the checker accepts, since it is valid
pub record IsCertificateOf (q : Question) (costs : List ℕ) (gaps : SetOfGaps) (text : List ℕ) : Type 0 where
  pub claimed : Certificate
  pub of_text : IsCertificate text claimed
  pub claims : claimed.gaps ≡ gaps
  pub valid : IsValidCertificate q costs claimed

-- What the texts tell: the litmus text stands for this program, its gaps have these costs and ties, these gaps are those of the
-- names that are the answer, so that the headline holds of them, and of the gaps among sets that have of each tie all or none; the
-- program's text is the canonical one with an MFENCE in each of them, and is read as that program; the line is made of them and of
-- their total, the document says the same of them and what sequential runs decide, the set has them, and the verdict says what these
-- decide.
pub record IsAnswerText (litmus : List ℕ) (costs : Option (List ℕ)) (kind : ShownKind) (texts : AnswerText) : Type 0 where
  pub source : Litmus Listing
  pub of_text : IsLitmus litmus source
  pub gap_costs : TiedCosts
  pub given : AreGiven source.program costs gap_costs
  pub names : SetOfGaps
  pub gaps : SetOfGaps
  pub of_names : gaps ≡ spread gap_costs.ties names
  pub answer : IsTheAnswer (tied_question source kind gap_costs) gap_costs.costs names
  pub headline : Headline (tied_question source kind gap_costs) gap_costs.costs names
  pub fenced : HeadlineOfAllowed (tied_question source kind gap_costs) gap_costs.costs gaps
  pub program : texts.program.items ≡ canonical_text (litmus_fenced_at gaps source)
  pub again : IsFencedLitmus texts.program.items (litmus_fenced_at gaps source)
  pub line : texts.answer.items ≡ answer_line source.program (shown_as source kind) gaps (total gap_costs.costs names)
  pub document : IsPlacedDocument source (shown_as source kind) gap_costs gaps texts.program.items (holds_by source.condition.quantifier texts.verdict) texts.document
  pub set : texts.gaps ≡ gaps
  pub decided : IsVerdict source texts.verdict

-- what the texts tell of an answer, of whose gaps the certificate is
pub record IsPlacedText (litmus : List ℕ) (costs : Option (List ℕ)) (kind : ShownKind) (placed : PlacedText) : Type 0 where
  pub told : IsAnswerText litmus costs kind placed.texts
  pub certificate : IsCertificateOf (tied_question told.source kind told.gap_costs) told.gap_costs.costs told.gaps placed.certificate

-- the texts of a problem's answer: these gaps of its program, at this cost
pub record AreTextsOf (problem : Problem) (gaps : SetOfGaps) (cost : ℕ) (texts : AnswerText) : Type 0 where
  pub program : texts.program.items ≡ canonical_text (litmus_fenced_at gaps problem.litmus)
  pub again : (text : List ℕ) → IsLitmus text problem.litmus → IsFencedLitmus texts.program.items (litmus_fenced_at gaps problem.litmus)
  pub line : texts.answer.items ≡ answer_line problem.litmus.program problem.shown gaps cost
  pub document : IsPlacedDocument problem.litmus problem.shown problem.costs gaps texts.program.items (holds_by problem.litmus.condition.quantifier texts.verdict) texts.document
  pub set : texts.gaps ≡ gaps
  pub decided : IsVerdictIn problem texts.verdict

-- the texts of the answer that a certificate proves, and the certificate's own
pub record ArePlacedTextsOf (problem : Problem) (certificate : Certificate) (written : PlacedText) : Type 0 where
  pub texts : AreTextsOf problem certificate.gaps certificate.cost written.texts
  pub spelled : written.certificate ≡ certificate_text certificate
