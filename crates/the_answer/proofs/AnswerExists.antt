-- There is an answer.
use Rattle.the_answer.proofs.Vocabulary.{◌≡◌, ℕ, zero, suc, ◌+◌, true, false, List, Option, Some, None, refl, sym, ap, ◌∙◌, subst, inl, inr, arith, nat_lt, unwrap_or, MatchOption, cases_lt, ltb-true, lt-ltb, SetOfGaps, total, Question, gap_count, JumpForward}
use Rattle.the_answer.proofs.Vocabulary.{does_serve, best_of, the_answer, IsTheAnswer, NonePasses, IsBest, TheAnswerExists, TheAnswerIsThatSet, TheHeadlineIsOfThatSet, NoServingSetCostsLess}
use Rattle.std.specs.FinSet as set
use Rattle.tso_program.proofs.Gaps.{none_below, one_more}
use Rattle.tso_machine.proofs.{AllGapsFenced.all_serve, OneAnswer.one_answer, HeadlineIsTheAnswer.headline_is_the_answer}
use Rattle.the_answer.proofs.{Served.test_tells, Best.best_is_found}

-- the set of the numbers below n
all_below : ℕ → SetOfGaps
all_below zero = set.empty
all_below (suc n) = set.insert (all_below n) n

has_all : (n gap : ℕ) → set.contains (all_below n) gap ≡ nat_lt gap n
unfolding all_below
has_all zero gap = none_below gap set.empty refl
has_all (suc n) gap = one_more (all_below n) (set.insert (all_below n) n) n (has_all n) refl gap ∙ ap (nat_lt gap) (let e : n + 1 ≡ suc n = omega arith in e)

module _ (q : Question) (costs : List ℕ) (forward : JumpForward q.program.threads) where
  abbrev count : ℕ
  count = gap_count q.program.threads

  -- the set of all gaps passes the test
  all_pass : does_serve q (all_below count) ≡ true
  all_pass = (test_tells q (all_below count) forward).serves.1 (all_serve q (all_below count) forward (λ gap h. has_all count gap ∙ lt-ltb gap count h))

  -- so it is not so that none does
  not_none : NonePasses (does_serve q) count → ⊥
  not_none none = let no : true ≡ false = sym all_pass ∙ none (all_below count) (λ gap here. ltb-true gap count (sym (has_all count gap) ∙ here)) in cc

  -- the best set of those that pass is the answer
  best_is_answer : (gaps : SetOfGaps) → IsBest (does_serve q) costs count gaps → IsTheAnswer q costs gaps
  best_is_answer gaps best = record {
    of_program = best.below;
    serves = (test_tells q gaps forward).serves.0 best.passes;
    least = λ other below better. (test_tells q other forward).leaves.0 (best.least other below better);
  }

  by_found : (o : Option SetOfGaps) → MatchOption o (NonePasses (does_serve q) count) (IsBest (does_serve q) costs count) → IsTheAnswer q costs (unwrap_or o set.empty)
  by_found None none = absurd (not_none none)
  by_found (Some gaps) best = best_is_answer gaps best

pub answer_exists : TheAnswerExists
unfolding the_answer
answer_exists q costs forward =
    by_found q costs forward (best_of (does_serve q) costs (gap_count q.program.threads) 0 set.empty) (best_is_found (does_serve q) costs (gap_count q.program.threads))

-- and it is the only one
pub answer_is : TheAnswerIsThatSet
answer_is q costs gaps within = (
  (λ is. one_answer q costs gaps (the_answer q costs) within is (answer_exists q costs within.shared.forward_jumps)),
  (λ e. subst (IsTheAnswer q costs) (sym e) (answer_exists q costs within.shared.forward_jumps)),
)

-- the headline holds of that set alone
pub headline_is : TheHeadlineIsOfThatSet
headline_is q costs gaps within = (
  (λ headline. (answer_is q costs gaps within).0 ((headline_is_the_answer q costs gaps).0 headline)),
  (λ e. (headline_is_the_answer q costs gaps).1 ((answer_is q costs gaps within).1 e)),
)

-- a cheaper set would be better, and leave an outcome
pub none_costs_less : NoServingSetCostsLess
none_costs_less q costs gaps forward of_program serves = elim (cases_lt (total costs gaps) (total costs (the_answer q costs))) [
  | inl less ↦ (let left = (answer_exists q costs forward).least gaps of_program (inl less) in absurd (left.foreign ((serves left.outcome).0 left.left)))
  | inr not_less ↦ not_less
]
