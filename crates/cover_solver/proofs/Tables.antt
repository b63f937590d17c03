-- What trees and runs say of tables and of sets that serve.
use Rattle.cover_solver.proofs.Vocabulary.{◌≡◌, ℕ, true, List, Contains, subst, Result, IfOk, IfErr, if_ok, Question, Machine, machine_of_mode, Outcome, JumpForward, Label}
use Rattle.cover_solver.proofs.Vocabulary.{StoreBufferMachine, no_gaps, IsListOf, IsServing, ReplayFaultIs, IsShownRun, IsForeignRun, one_shown}
use Rattle.std.proofs.Common.{[]}
use Rattle.std.specs.FinSet as set
use Rattle.gap_sets.specs.{Gaps.SetOfGaps, Ties.spread}
use Rattle.tso_program.specs.Ordered.{outcome_cmp}
use Rattle.tso_machine.specs.Outcomes.{gaps_named, ArePassedNames}
use Rattle.tso_machine.specs.{declared.replaying.ReplayFault.ReplayFault, declared.mode.Mode.Mode}
use Rattle.tso_machine.specs.declared.replaying.ReplayFault.TheVariants as replays
use Rattle.tso_machine.proofs.Refused.{no_fault}
use Rattle.tree_laws.proofs.{ListedOutcomes.fenced_tree_serves, OneList.one_list, TiesApart.ties_change_no_whole_cover}
use Rattle.tree_laws.specs.Covers.{IsWholeCover}
use Rattle.cert_trees.specs.declared.rule.Rule.TheVariants.{Whole}
use Rattle.tso_machine.specs.TieLaws.{untied}
use Rattle.tso_machine.proofs.NamesPassed.{fenced_runs_pass_no_name}
use Rattle.cert_trees.specs.Trees.{Cover}
use Rattle.cover_search.specs.Stops.{StopLacks}
use Rattle.cover_search.specs.declared.stop.SearchStop.{SearchStop}
use Rattle.cover_search.specs.declared.stop.SearchStop.TheVariants as stop
use Rattle.cover_judge.proofs.Answered.{if_err}
use Rattle.tso_program.proofs.OutcomesOrdered.{one_way}
use Rattle.std.specs.declared.cmp.Ordering.TheVariants.{Less}
use Rattle.tso_machine.specs.declared.mode.Mode.TheVariants as modes

-- there is one list of a question's sequential outcomes
pub one_list_of_outcomes : (q : Question) (xs ys : List Outcome) → IsListOf q xs → IsListOf q ys → xs ≡ ys
one_list_of_outcomes q xs ys left right =
    one_list (λ a b. outcome_cmp a b ≡ Less) one_way xs ys left.ascend right.ascend (λ o has. (right.exact o).1 ((left.exact o).0 has)) (λ o has. (left.exact o).1 ((right.exact o).0 has))

-- a set with a tree over the sequential outcomes serves
pub serving_is : (q : Question) (gaps : SetOfGaps) (outcomes : List Outcome) (tree : Cover) → JumpForward q.program.threads → IsListOf q outcomes →
    IsWholeCover q (StoreBufferMachine (gaps_named q gaps)) outcomes tree → IsServing (record { question = q; gaps = gaps; tree = tree })
serving_is q gaps outcomes tree forward list is = record {
  serves = fenced_tree_serves Whole q gaps outcomes tree forward list.exact is.valid;
  tree = λ others are. subst (λ os. IsWholeCover q (StoreBufferMachine (gaps_named q gaps)) os tree) (one_list_of_outcomes q outcomes others list are) is;
}

-- a run with the set fenced is one with no gap fenced
unfenced_run : (q : Question) (gaps : SetOfGaps) (labels : List Label) (o : Outcome) → IsShownRun q (StoreBufferMachine (gaps_named q gaps)) labels o → IsShownRun q (StoreBufferMachine no_gaps) labels o
unfenced_run q gaps labels o (whole, is_run, shown) = (whole, ((fenced_runs_pass_no_name q gaps labels whole).0 is_run).0, shown)

-- a run with the set fenced, replayed with no gap fenced
module _ (q : Question) (gaps : SetOfGaps) (outcomes : List Outcome) (labels : List Label) (o found : Outcome) (passed : SetOfGaps) (list : IsListOf q outcomes)
    (is_run : IsShownRun q (StoreBufferMachine (gaps_named q gaps)) labels o) (new : Contains outcomes o → ⊥) (again : IsShownRun q (StoreBufferMachine no_gaps) labels found) where
  pub foreign_again : IsForeignRun q labels found
  foreign_again = record {
    is_run = again;
    foreign = λ sequential. new (subst (Contains outcomes) (one_shown q (StoreBufferMachine no_gaps) labels found o again (unfenced_run q gaps labels o is_run)) ((list.exact found).1 sequential));
  }

  pub passes_none : ArePassedNames q labels passed → (gap : ℕ) → set.contains passed gap ≡ true → set.contains gaps gap ≡ true → ⊥
  passes_none are gap passes held = ((fenced_runs_pass_no_name q gaps labels is_run.0).0 is_run.1).1 gap held ((are gap).0 passes)

-- a run with the set fenced replays with no gap fenced: nothing but out of memory refuses
pub replays_unfenced : (q : Question) (gaps : SetOfGaps) (labels : List Label) (o : Outcome) (why : ReplayFault) → IsShownRun q (StoreBufferMachine (gaps_named q gaps)) labels o →
    ReplayFaultIs q.program (StoreBufferMachine no_gaps) labels why → why ≡ replays.OutOfMemory
replays_unfenced q gaps labels o why is_run fault =
    let again = unfenced_run q gaps labels o is_run in no_fault q.program (StoreBufferMachine no_gaps) labels again.0 why again.1 fault

-- ---- a search is for the question without ties, with the gaps fenced that the set stands for

-- why a search stops is the same whatever gaps go together
lacks_with_ties : (other : Question) (mode : Machine) (os : List Outcome) (why : SearchStop) → StopLacks (untied other) mode os why → StopLacks other mode os why
lacks_with_ties other mode os (stop.New run) lacks = lacks
lacks_with_ties other mode os stop.OutOfMemory lacks = lacks

module _ (found : Result Cover SearchStop) (q other : Question) (mode : Mode) (gaps : SetOfGaps) (os outcomes : List Outcome)
    (same : q ≡ untied other) (is : mode ≡ modes.Fenced (spread other.ties gaps)) (listed : os ≡ outcomes) where
  -- what is said of the search's question, mode and list is said of the other question without ties, of the set and of its list
  moved : (P : Question → Machine → List Outcome → Type 0) → P q (machine_of_mode q.program mode) os → P (untied other) (StoreBufferMachine (gaps_named other gaps)) outcomes
  moved P has =
      subst (λ (xs : List Outcome). P (untied other) (StoreBufferMachine (gaps_named other gaps)) xs) listed
      (subst (λ (m : Mode). P (untied other) (machine_of_mode other.program m) os) is (subst (λ (r : Question). P r (machine_of_mode r.program mode) os) same has))

  -- why it stops
  pub lacks_moved : IfErr found (StopLacks q (machine_of_mode q.program mode) os) → IfErr found (StopLacks other (StoreBufferMachine (gaps_named other gaps)) outcomes)
  lacks_moved lacks =
      if_err found (StopLacks (untied other) (StoreBufferMachine (gaps_named other gaps)) outcomes) (StopLacks other (StoreBufferMachine (gaps_named other gaps)) outcomes)
      (lacks_with_ties other (StoreBufferMachine (gaps_named other gaps)) outcomes) (moved (λ r m xs. IfErr found (StopLacks r m xs)) lacks)

  -- its tree
  pub tree_moved : IfOk found (IsWholeCover q (machine_of_mode q.program mode) os) → IfOk found (IsWholeCover other (StoreBufferMachine (gaps_named other gaps)) outcomes)
  tree_moved tree =
      if_ok found (IsWholeCover (untied other) (StoreBufferMachine (gaps_named other gaps)) outcomes) (IsWholeCover other (StoreBufferMachine (gaps_named other gaps)) outcomes)
      (ties_change_no_whole_cover other.program other.shown [] other.ties (StoreBufferMachine (gaps_named other gaps)) outcomes) (moved (λ r m xs. IfOk found (IsWholeCover r m xs)) tree)
