-- What is reported of texts, from what their parts are.
use Rattle.placed_text.proofs.Vocabulary.{◌≡◌, ◌∙◌, ◌≤◌, ◌==◌, ℕ, Bool, true, false, List, [], Option, Some, None, ap, arith, length, map, range_with_len, refl, sym, subst, unwrap_or, length-replicate, TiedCosts, Listing, Shown, asked_with, shown_as, tied_question, names_of, gap_count, answer_line, IsPlacement, AreTextsOf, ArePlacedTextsOf, HasNoPlacedText, TellsWhy}
use Rattle.placed_text.proofs.Vocabulary.{Litmus, AreGiven, IsAnswerText, IsProblem, IsPlacedText, HasNoProgram, HasNoCosts, HasNoPlacement, HasNoProblem, IsWhyText, question_in}
use Rattle.std.proofs.lemmas.List.FromFn.{length-map-range_with_len}
use Rattle.tso_program.specs.declared.shown.ShownKind.{ShownKind}
use Rattle.std.specs.List.{list_all}
use Rattle.std.specs.Prelude.{if◌then◌else◌}
use Rattle.litmus_reader.specs.Texts.{IsLitmus}
use Rattle.litmus_text.specs.{CostTexts.Entry, CostTexts.said_of, CostTexts.name_said, CostTexts.ties_of}
use Rattle.cert_forest.specs.Certificates.{Certificate}
use Rattle.documents.specs.declared.note.Note.{Note}
use Rattle.documents.specs.Documents.{IsPlacedDocument}
use Rattle.placed_text.specs.Verdicts.{holds_by, IsVerdictIn}
use Rattle.placed_text.specs.{declared.fault.TextFault.TextFault, declared.problem.Problem.Problem, declared.writing.AnswerText.AnswerText, declared.writing.PlacedText.PlacedText}
use Rattle.placed_text.specs.declared.fault.TextFault.TheVariants as fault

-- each gap has a cost
pub one_each : (p : Listing) (text : Option (List ℕ)) (costs : TiedCosts) → AreGiven p text costs → length costs.costs ≡ gap_count p.threads
one_each p None costs is = ap length is.0 ∙ length-replicate (gap_count p.threads) 1
one_each p (Some text) costs is = ap length is.costs_are ∙ length-map-range_with_len (λ gap. unwrap_or (said_of is.entries gap) 1) 0 (gap_count p.threads)

-- ties are of the program's gaps alone
ties_few : (gaps : ℕ) (entries : List Entry) → length (ties_of gaps entries) ≤ gaps
ties_few gaps entries = by_test (list_all (λ gap. name_said entries gap == gap) (range_with_len 0 gaps))
  where
    by_test : (b : Bool) → length (if b then [] else map (name_said entries) (range_with_len 0 gaps)) ≤ gaps
    by_test true = omega arith
    by_test false = omega (arith, length-map-range_with_len (name_said entries) 0 gaps)

pub ties_within : (p : Listing) (text : Option (List ℕ)) (costs : TiedCosts) → AreGiven p text costs → length costs.ties ≤ gap_count p.threads
ties_within p None costs is = let none : length costs.ties ≡ 0 = ap length is.1 in omega arith
ties_within p (Some text) costs is = let same : length costs.ties ≡ length (ties_of (gap_count p.threads) is.entries) = ap length is.ties_are in omega (arith, ties_few (gap_count p.threads) is.entries)

module _ (litmus : List ℕ) (costs : Option (List ℕ)) where
  module _ (kind : ShownKind) (problem : Problem) where
    -- what is placed is the answer to what the kind asks
    placement_of : (certificate : Certificate) → IsProblem litmus costs kind problem → IsPlacement (question_in problem) problem.costs.costs certificate
        → IsPlacement (tied_question problem.litmus kind problem.costs) problem.costs.costs certificate
    placement_of certificate of_texts is = subst (λ (shown : Shown). IsPlacement (asked_with problem.costs.ties problem.litmus.program shown) problem.costs.costs certificate) of_texts.shown is

    -- from what is written of it
    pub answer_text : (certificate : Certificate) (texts : AnswerText) → IsProblem litmus costs kind problem → IsPlacement (question_in problem) problem.costs.costs certificate
        → AreTextsOf problem certificate.gaps certificate.cost texts → IsAnswerText litmus costs kind texts
    answer_text certificate texts of_texts placed written =
        let source = problem.litmus in
        let gaps = certificate.gaps in
        let is = placement_of certificate of_texts placed in
        record {
          source = source;
          of_text = of_texts.of_text;
          gap_costs = problem.costs;
          given = of_texts.given;
          names = names_of (question_in problem) certificate;
          gaps = gaps;
          of_names = sym is.fenced.allowed;
          answer = is.answer;
          headline = is.headline;
          fenced = is.fenced;
          program = written.program;
          again = written.again litmus of_texts.of_text;
          line = subst (λ (cost : ℕ). texts.answer.items ≡ answer_line source.program (shown_as source kind) gaps cost) is.cost
              (subst (λ (shown : Shown). texts.answer.items ≡ answer_line source.program shown gaps certificate.cost) of_texts.shown written.line);
          document = subst (λ (shown : Shown). IsPlacedDocument source shown problem.costs gaps texts.program.items (holds_by source.condition.quantifier texts.verdict) texts.document) of_texts.shown written.document;
          set = written.set;
          decided = written.decided litmus costs kind of_texts;
        }

    -- and from that with the text of its certificate
    pub placed_text : (certificate : Certificate) (written : PlacedText) → IsProblem litmus costs kind problem → IsPlacement (question_in problem) problem.costs.costs certificate
        → ArePlacedTextsOf problem certificate written → IsPlacedText litmus costs kind written
    unfolding answer_text
    placed_text certificate written of_texts placed are =
        let is = placement_of certificate of_texts placed in
        record {
          told = answer_text certificate written.texts of_texts placed are.texts;
          certificate = record {
            claimed = certificate;
            of_text = record { spelled = are.spelled; within = is.proof.within };
            claims = refl;
            valid = is.proof.valid;
          };
        }

    -- from the reasons that are given for it
    pub why_text : (certificate : Certificate) (text : List ℕ) (document : List (List ℕ)) (verdict : Option Note) → IsProblem litmus costs kind problem → IsPlacement (question_in problem) problem.costs.costs certificate
        → TellsWhy problem.litmus problem.shown problem.costs certificate.gaps (answer_line problem.litmus.program problem.shown certificate.gaps certificate.cost) text document → IsVerdictIn problem verdict
        → IsWhyText litmus costs kind text document verdict
    why_text certificate text document verdict of_texts placed tells is_verdict =
        let source = problem.litmus in
        let shown = shown_as source kind in
        let gaps = certificate.gaps in
        let is = placement_of certificate of_texts placed in
        record {
          source = source;
          of_text = of_texts.of_text;
          gap_costs = problem.costs;
          given = of_texts.given;
          names = names_of (question_in problem) certificate;
          gaps = gaps;
          of_names = sym is.fenced.allowed;
          answer = is.answer;
          told = subst (λ (cost : ℕ). TellsWhy source shown problem.costs gaps (answer_line source.program shown gaps cost) text document) is.cost
              (subst (λ (s : Shown). TellsWhy source s problem.costs gaps (answer_line source.program s gaps certificate.cost) text document) of_texts.shown tells);
          decided = is_verdict litmus costs kind of_texts;
        }

  -- the litmus text is no such text
  pub no_program : (why : TextFault) → HasNoProgram litmus why → HasNoProblem litmus costs why
  no_program (fault.Read why) is = is
  no_program (fault.CostText why) is = absurd is
  no_program fault.Workers is = absurd is
  no_program fault.OutOfMemory is = tt

  -- the costs are not given
  pub no_costs : (source : Litmus Listing) (why : TextFault) → IsLitmus litmus source → HasNoCosts source.program costs why → HasNoProblem litmus costs why
  no_costs source (fault.Read why) of_text is = absurd is
  no_costs source (fault.CostText why) of_text is = (source, of_text, is)
  no_costs source fault.Workers of_text is = absurd is
  no_costs source fault.OutOfMemory of_text is = tt

  module _ (workers : ℕ) where
    -- where no problem is read nothing is placed
    pub no_problem : (why : TextFault) → HasNoProblem litmus costs why → HasNoPlacedText litmus costs workers why
    no_problem (fault.Read why) is = is
    no_problem (fault.CostText why) is = is
    no_problem fault.Workers is = absurd is
    no_problem fault.OutOfMemory is = tt

    -- nor where the number of workers is too small or too large
    pub no_placement : (kind : ShownKind) (problem : Problem) (why : TextFault) → IsProblem litmus costs kind problem → HasNoPlacement workers why → HasNoPlacedText litmus costs workers why
    no_placement kind problem (fault.Read why) of_texts is = absurd is
    no_placement kind problem (fault.CostText why) of_texts is = absurd is
    no_placement kind problem fault.Workers of_texts is = (problem.litmus, problem.costs, of_texts.of_text, of_texts.given, is)
    no_placement kind problem fault.OutOfMemory of_texts is = tt
