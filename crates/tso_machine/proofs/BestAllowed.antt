-- The gaps that an answer stands for are the best set that has of each tie all gaps or none.
use Rattle.std.proofs.Common.{◌≡◌, ◌≤◌, length, inl, inr, sym, ap, ◌∙◌, subst, arith}
use Rattle.std.proofs.lemmas.Bool.{cases_lt}
use Rattle.std.specs.FinSet as set
use Rattle.gap_sets.specs.Gaps.{SetOfGaps}
use Rattle.gap_sets.specs.Order.{Better, total}
use Rattle.gap_sets.specs.Ties.{IsAllowed, names_in, spread}
use Rattle.gap_sets.proofs.{Allowed.spread_allowed, Naming.names_contain, SpreadTotals.spread_costs_no_more, Spreading.no_greater, Spreading.past_the_list, Spreading.spread_contains}
use Rattle.tso_program.specs.declared.question.Question.{Question}
use Rattle.tso_program.specs.Fences.{gaps_in}
use Rattle.tso_program.specs.Listings.{gap_count}
use Rattle.tso_machine.specs.Outcomes.{AreGapsOf, IsStoreBufferOutcome, LeavesOutcome}
use Rattle.tso_machine.specs.TieLaws.{untied, AnAnswerWithoutTiesCostsNoMore, TheAnswerIsTheBestAllowedSet}
use Rattle.tso_machine.proofs.TrueNames.{names_again}

-- names of gaps of the program are gaps of the program, since they are no greater
pub names_of_program : (q : Question) (gaps : SetOfGaps) → AreGapsOf q.program gaps → AreGapsOf q.program (names_in q.ties gaps)
names_of_program q gaps of name there =
    let (gap, here, is) = (names_contain q.ties gaps name).0 there in
    omega (arith, of gap here, is, no_greater q.ties gap)

-- where no tie reaches past the program's gaps, what gaps of the program stand for are gaps of the program
pub spread_of_program : (q : Question) (names : SetOfGaps) → length q.ties ≤ gap_count q.program.threads → AreGapsOf q.program names → AreGapsOf q.program (spread q.ties names)
spread_of_program q names few of gap there = elim (past_the_list q.ties gap) [
  | inl listed ↦ omega (arith, listed, few)
  | inr own ↦ of gap (ap (set.contains names) (sym own) ∙ sym (spread_contains q.ties names gap) ∙ there)
]

-- an allowed set leaves what its names leave
leaves : (q : Question) (gaps : SetOfGaps) → IsAllowed q.ties gaps → LeavesOutcome q (names_in q.ties gaps) → LeavesOutcome (untied q) gaps
leaves q gaps allowed left = record {
  outcome = left.outcome;
  left = subst (λ (fenced : SetOfGaps). IsStoreBufferOutcome q (gaps_in q.program fenced) left.outcome) allowed left.left;
  foreign = left.foreign;
}

pub best_allowed : TheAnswerIsTheBestAllowedSet
best_allowed q costs names prices answer =
    let again : names_in q.ties (spread q.ties names) ≡ names = names_again q costs names prices.within prices.one_each prices.positive prices.ties answer in (
      record {
        of_program = spread_of_program q names prices.few_ties answer.of_program;
        allowed = spread_allowed q.ties names;
        serves = answer.serves;
        least = λ other of allowed better. leaves q other allowed (answer.least (names_in q.ties other) (names_of_program q other of) (subst (λ (s : SetOfGaps). Better costs (names_in q.ties other) s) again better));
      },
      again,
    )

-- the gaps of an answer serve without ties, so they cost no less than the answer there
pub no_more_without : AnAnswerWithoutTiesCostsNoMore
no_more_without q costs tied gaps names few each one other =
    let spread_total = spread_costs_no_more q.ties costs tied names each in
    elim (cases_lt (total tied names) (total costs gaps)) [
      | inl less ↦
          let left : LeavesOutcome (untied q) (spread q.ties names) = one.least (spread q.ties names) (spread_of_program q names few other.of_program) (inl (omega (arith, less, spread_total))) in
          absurd (left.foreign ((other.serves left.outcome).0 left.left))
      | inr not_less ↦ not_less
    ]
