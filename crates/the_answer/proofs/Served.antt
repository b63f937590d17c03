-- The test of a set of gaps tells whether it serves.
use Rattle.the_answer.proofs.Vocabulary.{◌≡◌, Bool, true, false, List, Contains, sym, ◌∙◌, inl, inr, list_any, cases_Bool, SetOfGaps, Outcome, Question, JumpForward, SequentialMachine, StoreBufferMachine, outcomes_of, does_serve, eq_by_cmp, Serves}
use Rattle.the_answer.proofs.Vocabulary.{LeavesOutcome, EachOutcomeIsAllowedOrNot, TheTestTellsWhatServes}
use Rattle.std.proofs.lemmas.Cmp.{eq_by_cmp_equiv}
use Rattle.std.proofs.lemmas.Map.Views.{Contains-from_any, list_any-from_Contains}
use Rattle.tso_program.specs.Ordered.{outcome_cmp}
use Rattle.tso_machine.specs.Outcomes.{gaps_named}
use Rattle.tso_program.proofs.OutcomesOrdered.{outcomes_ordered, same_by_order}
use Rattle.tso_machine.proofs.SequentialIsBuffered.{sequential_is_allowed}
use Rattle.the_answer.proofs.{Lists.each_passes, Lists.all_pass, Lists.one_fails, RunsListed.outcomes_listed}

-- whether an outcome is in a list
abbrev is_in : List Outcome → Outcome → Bool
is_in outcomes o = list_any (eq_by_cmp outcome_cmp o) outcomes

found_is_here : (o : Outcome) (outcomes : List Outcome) → is_in outcomes o ≡ true → Contains outcomes o
found_is_here o outcomes e = Contains-from_any (λ x y found. (same_by_order x y).0 found) o outcomes e

here_is_found : (o : Outcome) (outcomes : List Outcome) → Contains outcomes o → is_in outcomes o ≡ true
here_is_found o outcomes here = list_any-from_Contains (eq_by_cmp_equiv outcomes_ordered) o outcomes here

-- so a machine shows an outcome or does not
pub allowed_or_not : EachOutcomeIsAllowedOrNot
allowed_or_not q mode o forward = elim (cases_Bool (is_in (outcomes_of q mode) o)) [
  | inl e ↦ inl ((outcomes_listed q mode o forward).0 (found_is_here o (outcomes_of q mode) e))
  | inr e ↦ inr (λ allowed. (let no : false ≡ true = sym e ∙ here_is_found o (outcomes_of q mode) ((outcomes_listed q mode o forward).1 allowed) in cc))
]

module _ (q : Question) (gaps : SetOfGaps) (forward : JumpForward q.program.threads) where
  abbrev left : List Outcome
  left = outcomes_of q (StoreBufferMachine (gaps_named q gaps))

  abbrev sequential : List Outcome
  sequential = outcomes_of q SequentialMachine

  -- where the test passes each outcome is sequential
  pub passes_serves : does_serve q gaps ≡ true → Serves q gaps
  unfolding does_serve
  passes_serves e o = (
    (λ allowed.
        let here = (outcomes_listed q (StoreBufferMachine (gaps_named q gaps)) o forward).1 allowed in
        (outcomes_listed q SequentialMachine o forward).0 (found_is_here o sequential (each_passes (is_in sequential) left o e here))),
    sequential_is_allowed q (gaps_named q gaps) o,
  )

  serves_passes : Serves q gaps → does_serve q gaps ≡ true
  unfolding does_serve
  serves_passes serves = all_pass (is_in sequential) left (λ o here.
      here_is_found o sequential ((outcomes_listed q SequentialMachine o forward).1 ((serves o).0 ((outcomes_listed q (StoreBufferMachine (gaps_named q gaps)) o forward).0 here))))

  -- where it fails an outcome is found that is not
  pub fails_leaves : does_serve q gaps ≡ false → LeavesOutcome q gaps
  unfolding does_serve
  fails_leaves e =
      let (o, here, fails) = one_fails (is_in sequential) left e in
      record {
        outcome = o;
        left = (outcomes_listed q (StoreBufferMachine (gaps_named q gaps)) o forward).0 here;
        foreign = λ allowed. (let no : false ≡ true = sym fails ∙ here_is_found o sequential ((outcomes_listed q SequentialMachine o forward).1 allowed) in cc);
      }

pub test_tells : TheTestTellsWhatServes
test_tells q gaps forward = record {
  serves = (passes_serves q gaps forward, serves_passes q gaps forward);
  leaves = (fails_leaves q gaps forward, (λ l. elim (cases_Bool (does_serve q gaps)) [ inl e ↦ absurd (l.foreign ((passes_serves q gaps forward e l.outcome).0 l.left)) | inr e ↦ e ]));
}
