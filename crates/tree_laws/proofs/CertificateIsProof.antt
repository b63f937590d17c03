-- The headline holds of the set of a valid certificate.
use Rattle.std.proofs.Common.{ℕ, ◌<◌, ◌≤◌, ◌∙◌, List, All, sym, subst, arith}
use Rattle.tree_laws.proofs.Vocabulary.{All-weaker, SetOfGaps, Better, AreGapsOf, all_sets, Question, names_of, Listing, Outcome, IsWithinLimits, Label, Rule, Whole, Early, StoreBufferMachine, no_gaps, empty_sketch, IsValidCoverBy, IsRunOutside, IsJudged, IsValidCertificateOf, IsTheAnswer, IsSequentialList, IsForeign, SomePassesNone, AValidCertificateProves}
use Rattle.gap_sets.specs.Ties.{names_in}
use Rattle.gap_sets.proofs.{Naming.names_contain, Spreading.no_greater}
use Rattle.tso_program.specs.{declared.shown.Shown.Shown, Shown.asked_with, Fences.gaps_in}
use Rattle.tso_machine.proofs.HeadlineIsTheAnswer.{headline_is_the_answer}
use Rattle.dataflow_laws.specs.DeadLoads.{Places, drop_loads, AreDead}
use Rattle.dataflow_laws.proofs.{DeadLoadsKept.answer_kept, DeadLoadsKept.foreign_kept, DeadLoadsKept.passes_kept, DroppedLimits.stay_within, DroppedPlaces.gaps_kept}
use Rattle.cert_forest.specs.Certificates.{Certificate}
use Rattle.tree_laws.specs.Laws.{IsProved}
use Rattle.tree_laws.proofs.{ListedOutcomes.sequential_list, ListedOutcomes.fenced_tree_serves, AvoidedGaps.avoided_leaves, NoBetterLeft.each_better_avoided, Regions.in_root}

-- what is outside of the list of sequential outcomes is foreign
outside_is_foreign : (q : Question) (outcomes : List Outcome) (labels : List Label) → IsSequentialList q outcomes → IsRunOutside q outcomes labels → IsForeign q labels
outside_is_foreign q outcomes labels list (o, is_run, outside) = (o, record { is_run = is_run; foreign = λ sequential. outside ((list o).1 sequential) })

module _ (q : Question) (costs : List ℕ) (c : Certificate) (within : IsWithinLimits q.program.threads q.program.memory) (positive : All (λ cost. 1 ≤ cost) costs) (valid : IsValidCertificateOf q costs c) where
  list : IsSequentialList q valid.outcomes
  list = sequential_list c.rule q c.seq_runs valid.outcomes c.seq_tree within.shared.forward_jumps valid.replayed valid.sequential

  foreign : All (IsForeign q) c.runs
  foreign = All-weaker (IsRunOutside q valid.outcomes) (IsForeign q) (λ labels. outside_is_foreign q valid.outcomes labels list) c.runs valid.foreign

  avoided : (other : SetOfGaps) → AreGapsOf q.program other → Better costs other (names_of q c) → SomePassesNone q c.runs other
  avoided other of_program = each_better_avoided q costs (names_of q c) c.runs c.gap_tree all_sets within (record { one_each = valid.one_cost_each; positive = positive }) valid.least other of_program (in_root other)

  -- a name is no greater than the gap of the set that it names
  names_of_program : AreGapsOf q.program (names_of q c)
  names_of_program name there =
      let (gap, in_set, is) = (names_contain q.ties c.gaps name).0 there in
      omega (arith, is, no_greater q.ties gap, valid.right_set.of_program gap in_set)

  is_answer : IsTheAnswer q costs (names_of q c)
  is_answer = record {
    of_program = names_of_program;
    serves = fenced_tree_serves c.rule q (names_of q c) valid.outcomes c.fenced_tree within.shared.forward_jumps list
        (subst (λ (gaps : SetOfGaps). IsValidCoverBy c.rule q (StoreBufferMachine (gaps_in q.program gaps)) valid.outcomes c.fenced_tree (empty_sketch q.program)) (sym valid.right_set.allowed) valid.fenced);
    least = λ other of_program better. avoided_leaves q c.runs other foreign (avoided other of_program better);
  }

  proves : IsProved q costs c
  proves = record { headline = (headline_is_the_answer q costs (names_of q c)).1 is_answer; answer = is_answer; allowed = valid.right_set.allowed; foreign = foreign; avoided = avoided }

-- what is proved of a question without dead loads is proved of the question itself
module _ (p : Listing) (shown : Shown) (ties : List ℕ) (here : Places) (dead : AreDead p shown here) (costs : List ℕ) (c : Certificate)
    (proved : IsProved (asked_with ties (drop_loads here p) shown) costs c) where
  own_answer : IsTheAnswer (asked_with ties p shown) costs (names_in ties c.gaps)
  own_answer = (answer_kept p shown ties here costs (names_in ties c.gaps) dead).0 proved.answer

  own_avoided : (other : SetOfGaps) → AreGapsOf p other → Better costs other (names_in ties c.gaps) → SomePassesNone (asked_with ties p shown) c.runs other
  own_avoided other of_program better =
      let of_slim : AreGapsOf (drop_loads here p) other = λ gap there. subst (λ (n : ℕ). gap < n) (sym (gaps_kept p here).0) (of_program gap there) in
      let (labels, run, none) = proved.avoided other of_slim better in (
        labels,
        run,
        λ name there (gap, is, (t, k, number, passed)).
            none name there (gap, is, (t, k, (gaps_kept p here).1 t k ∙ number, passes_kept p shown here (StoreBufferMachine no_gaps) labels t k dead ∙ passed)),
      )

  kept : IsProved (asked_with ties p shown) costs c
  kept = record {
    headline = (headline_is_the_answer (asked_with ties p shown) costs (names_in ties c.gaps)).1 own_answer;
    answer = own_answer;
    allowed = proved.allowed;
    foreign = All-weaker (IsForeign (asked_with ties (drop_loads here p) shown)) (IsForeign (asked_with ties p shown)) (λ labels (o, is). (o, (foreign_kept p shown ties here labels o dead).0 is)) c.runs proved.foreign;
    avoided = own_avoided;
  }

-- whichever question the rule judges
judged_proves : (rule : Rule) (q : Question) (costs : List ℕ) (c : Certificate) → IsWithinLimits q.program.threads q.program.memory → All (λ cost. 1 ≤ cost) costs →
    IsJudged rule q (λ judged. IsValidCertificateOf judged costs c) → IsProved q costs c
judged_proves Whole q costs c within positive valid = proves q costs c within positive valid
judged_proves Early q costs c within positive (slim, (here, are, is), valid) =
    let few : IsWithinLimits slim.threads slim.memory = subst (λ (p : Listing). IsWithinLimits p.threads p.memory) (sym is) (stay_within q.program here within) in
    kept q.program q.shown q.ties here (λ t k h. (are t k).0 h) costs c
    (subst (λ (p : Listing). IsProved (asked_with q.ties p q.shown) costs c) is (proves (asked_with q.ties slim q.shown) costs c few positive valid))

pub certificate_proves : AValidCertificateProves
certificate_proves q costs c within positive valid = judged_proves c.rule q costs c within positive valid
