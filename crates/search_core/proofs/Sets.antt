-- Sets of a program's gaps: their totals, and what serves.
use Rattle.gap_sets.proofs.Spreading.{no_greater}
use Rattle.search_core.proofs.Vocabulary.{◌≡◌, ℕ, ◌<◌, ◌≤◌, Bool, true, false, List, length, refl, sym, ap, ◌∙◌, subst, inl, inr, arith, nat_cmp_total, total, Better, MAX_GAPS, Listing, Question, gap_count, IsWithinLimits, gap_below, Serves, LeavesOutcome}
use Rattle.search_core.proofs.Vocabulary.{AreGapsOf, HaveCosts, Foreign, IsForeignValue, SetOfGaps, IsGapSet, have_same_gaps, have_same_gaps-same}
use Rattle.std.specs.FinSet as set
use Rattle.gap_sets.proofs.Subsets.{cheaper}

-- a set that serves leaves no outcome
pub unserved : (q : Question) (gaps : SetOfGaps) → LeavesOutcome q gaps → Serves q gaps → ⊥
unserved q gaps left serves = left.foreign ((serves left.outcome).0 left.left)

-- what a foreign run passes are gaps of the program
pub passed_of : (q : Question) (f : Foreign) → f.question ≡ q → IsForeignValue f → AreGapsOf q.program f.passed
passed_of q f of is = subst (λ (r : Question). AreGapsOf r.program f.passed) of (λ name there. let (gap, named, p) = (is.passed name).0 there in omega (arith, named, no_greater f.question.ties gap, gap_below f.question.program.threads p.0 p.1 gap p.2))

module _ (p : Listing) (within : IsWithinLimits p.threads p.memory) where
  pub gap_set : (gaps : SetOfGaps) → AreGapsOf p gaps → IsGapSet gaps
  gap_set gaps of gap there = let below : gap < gap_count p.threads = of gap there in let few : gap_count p.threads ≤ MAX_GAPS = within.few_gaps in omega arith

  module _ (costs : List ℕ) (have : HaveCosts p costs) where
    -- a subset is no dearer
    pub no_dearer : (part whole : SetOfGaps) → AreGapsOf p whole → ((gap : ℕ) → set.contains part gap ≡ true → set.contains whole gap ≡ true) → total costs part ≤ total costs whole
    no_dearer part whole of held = by_test (have_same_gaps part whole) refl
      where
        by_better : Better costs part whole → total costs part ≤ total costs whole
        by_better (inl less) = omega arith
        by_better (inr d) = let e : total costs part ≡ total costs whole = d.0 in omega arith

        by_test : (b : Bool) → have_same_gaps part whole ≡ b → total costs part ≤ total costs whole
        by_test true e = let same : total costs part ≡ total costs whole = ap (total costs) ((have_same_gaps-same part whole).0 e) in omega arith
        by_test false e = by_better (cheaper costs part whole have.positive (gap_set whole of)
            (λ gap there. let below : gap < gap_count p.threads = of gap there in let each : length costs ≡ gap_count p.threads = have.one_each in omega arith)
            (set.contains-is_subset nat_cmp_total part whole held) (λ q. let no : true ≡ false = sym ((have_same_gaps-same part whole).1 q) ∙ e in cc))

-- so they are below the limit
pub small_set : (q : Question) → IsWithinLimits q.program.threads q.program.memory → (f : Foreign) → f.question ≡ q → IsForeignValue f → IsGapSet f.passed
small_set q within f of is = gap_set q.program within f.passed (passed_of q f of is)

-- a dearer set is not better
pub not_better : (costs : List ℕ) (a b : SetOfGaps) → total costs b < total costs a → ¬ Better costs a b
not_better costs a b dear (inl less) = omega arith
not_better costs a b dear (inr d) = let e : total costs a ≡ total costs b = d.0 in omega arith
