-- The certificate of a search that is done is valid, and within the limits of a text.
use Rattle.fence_place.proofs.Vocabulary.{◌≡◌, ℕ, ◌*◌, ◌<◌, ◌≤◌, ◌^◌, suc, List, [], ◌∷◌, All, Some, length, sym, ap, ◌∙◌, subst, arith, get_or, recursion_from_All, slice_get, AllByRecursion, slice_get-get_or, SetOfGaps, IsGapSet, total, all_sets, MAX_GAPS}
use Rattle.fence_place.proofs.Vocabulary.{Question, IsWithinLimits, Label, Certificate, shows_of, IsValidGap, undecided, Outcome, finished_state, IsOutcome, Facts, facts_of, AreSplitRuns, IsRecorded, IsProof, Machine, SequentialMachine}
use Rattle.fence_place.proofs.Vocabulary.{StoreBufferMachine, no_gaps, IsTheAnswer, IsShownRun, IsSequentialOutcome, AreGapsOf, Cover, IsGapTo, gap_depth, IsJudged, IsRunOutside, IsValidCertificate, IsValidCertificateOf, AreSequentialRuns, Table, Foreign, IsSequentialTable, IsListOf}
use Rattle.fence_place.proofs.Vocabulary.{IsServing, IsForeignValue, few_undecided, gaps_in as gaps_of_set}
use Rattle.gap_sets.specs.Ties.{AreTies, IsAllowed, names_in, spread}
use Rattle.gap_sets.proofs.Allowed.{spread_allowed}
use Rattle.tso_machine.proofs.{BestAllowed.spread_of_program, TrueNames.names_again}
use Rattle.tree_laws.specs.Certificates.{names_of}
use Rattle.tso_program.specs.Listings.{gap_count}
use Rattle.gap_sets.specs.declared.costs.TheConstants.{MAX_COST}
use Rattle.tso_program.specs.declared.outcome.Outcome as machine
use Rattle.cert_forest.specs.TreeConstants.{MAX_COVER_DEPTH, MAX_GAP_DEPTH}
use Rattle.cert_forest.specs.Limits as limits
use Rattle.cert_forest.specs.Rule.{Rule, TheVariants.Whole}
use Rattle.tree_laws.specs.Covers.{IsWholeCover}
use Rattle.fence_place.proofs.{GapTreeValid.IsFine, GapTreeValid.fine, ShortRuns.short_run}

-- sequential runs are short
sequential_short : (q : Question) (runs : List (List Label)) (outcomes : List machine.Outcome) → IsWithinLimits q.program.threads q.program.memory →
    AreSequentialRuns q runs outcomes → AllByRecursion limits.IsWrittenRun runs
sequential_short q [] outcomes within each = tt
sequential_short q (r ∷ rs) [] within each = absurd each
sequential_short q (r ∷ rs) (o ∷ os) within each = (short_run q.program SequentialMachine r each.0.0 within each.0.1, sequential_short q rs os within each.1)

-- what holds of a certificate that is made from a table and a search
pub record IsMade (t : Table) (o : Outcome) (c : Certificate) : Type 0 where
  pub whole : c.rule ≡ Whole
  pub same_shown : c.shown ≡ shows_of t.question.shown
  pub places : limits.AreShownPlaces c.shown
  pub same_gaps : c.gaps ≡ spread o.question.ties o.served.gaps
  pub cost : c.cost ≡ total o.costs o.served.gaps
  pub seq_runs : c.seq_runs ≡ t.runs
  pub seq_tree : c.seq_tree ≡ t.tree
  pub fenced_tree : c.fenced_tree ≡ o.served.tree
  pub of_nodes : AreSplitRuns o.entries c.runs
  pub recorded : IsRecorded o.entries c.runs c.gap_tree 0
  pub few_runs : length c.runs < 2 ^ 64
  pub few_seq_runs : length c.seq_runs < 2 ^ 64

-- a tree of the solver is within the limits of a text
tree_small : (q : Question) (mode : Machine) (outcomes : List machine.Outcome) (tree : Cover) → IsWholeCover q mode outcomes tree → limits.IsCoverTo MAX_COVER_DEPTH tree
tree_small q mode outcomes tree is = let shallow = is.shallow in (omega arith, is.neat.numbers)

module _ (t : Table) (o : Outcome) (c : Certificate) (table : IsSequentialTable t) (outcome : IsOutcome o) (serving : IsServing o.served) (low : c.cost ≤ MAX_GAPS * MAX_COST)
    (same : t.question ≡ o.question) (of_served : o.served.question ≡ o.question) (answer : IsTheAnswer o.question o.costs o.served.gaps) (are : AreTies o.question.ties) (few_ties : length o.question.ties ≤ gap_count o.question.program.threads) (made : IsMade t o c) where
  facts : Facts (finished_state o)
  facts = facts_of (finished_state o) outcome.reached

  -- what holds of each run of a split
  each_run : (P : List Label → Type 0) → ((f : Foreign) → f.question ≡ o.question → IsForeignValue f → P f.labels) → (k : ℕ) (labels : List Label) → slice_get c.runs k ≡ Some labels → P labels
  each_run P give k labels at =
      let (place, e, f, first, there, split, is) = made.of_nodes k labels at in
      let s = facts.split place e f first there split in
      subst P is (give f s.of_question s.foreign)

  foreign : All (IsRunOutside o.question t.outcomes) c.runs
  foreign k d h = each_run (IsRunOutside o.question t.outcomes) outside k (get_or c.runs k d) (slice_get-get_or c.runs k d h)
    where
      outside : (f : Foreign) → f.question ≡ o.question → IsForeignValue f → IsRunOutside o.question t.outcomes f.labels
      outside f of is = (
        f.outcome,
        subst (λ (q : Question). IsShownRun q (StoreBufferMachine no_gaps) f.labels f.outcome) of is.foreign.is_run,
        (λ here. is.foreign.foreign (subst (λ (q : Question). IsSequentialOutcome q f.outcome) (same ∙ sym of) ((table.listed.exact f.outcome).0 here))),
      )

  table_tree : IsWholeCover o.question SequentialMachine t.outcomes c.seq_tree
  table_tree = subst (λ (x : Cover). IsWholeCover o.question SequentialMachine t.outcomes x) (sym made.seq_tree) (subst (λ (q : Question). IsWholeCover q SequentialMachine t.outcomes t.tree) same table.tree)

  -- the tree of the set with its gaps fenced
  fenced_tree : IsWholeCover o.question (StoreBufferMachine (gaps_of_set o.question.program c.gaps)) t.outcomes c.fenced_tree
  fenced_tree =
      let listed : IsListOf o.served.question t.outcomes = subst (λ (q : Question). IsListOf q t.outcomes) (same ∙ sym of_served) table.listed in
      let here = serving.tree t.outcomes listed in
      subst (λ (x : Cover). IsWholeCover o.question (StoreBufferMachine (gaps_of_set o.question.program c.gaps)) t.outcomes x) (sym made.fenced_tree)
      (subst (λ (g : SetOfGaps). IsWholeCover o.question (StoreBufferMachine (gaps_of_set o.question.program g)) t.outcomes o.served.tree) (sym made.same_gaps)
      (subst (λ (q : Question). IsWholeCover q (StoreBufferMachine (gaps_of_set q.program (spread q.ties o.served.gaps))) t.outcomes o.served.tree) of_served here))

  gap_tree_fine : IsFine (finished_state o) facts o.served.gaps answer c.runs c.gap_tree all_sets
  gap_tree_fine = fine (finished_state o) facts o.served.gaps answer c.runs made.few_runs c.gap_tree 0 all_sets made.recorded facts.root

  -- the gaps that the names stand for are the program's
  of_program : AreGapsOf o.question.program c.gaps
  of_program = subst (λ (g : SetOfGaps). AreGapsOf o.question.program g) (sym made.same_gaps) (spread_of_program o.question o.served.gaps few_ties answer.of_program)

  -- their names are the names that were served
  same_names : names_of o.question c ≡ o.served.gaps
  same_names = ap (names_in o.question.ties) made.same_gaps ∙ names_again o.question o.costs o.served.gaps facts.within facts.have_costs.one_each facts.have_costs.positive are answer

  valid_of : IsValidCertificateOf o.question o.costs c
  valid_of = record {
    shown = made.same_shown ∙ ap (λ (q : Question). shows_of q.shown) same;
    right_set = record { of_program = of_program; allowed = subst (IsAllowed o.question.ties) (sym made.same_gaps) (spread_allowed o.question.ties o.served.gaps) };
    one_cost_each = facts.have_costs.one_each;
    cost = made.cost ∙ ap (total o.costs) (sym same_names);
    outcomes = t.outcomes;
    replayed = subst (λ (q : Question). AreSequentialRuns q c.seq_runs t.outcomes) same
        (subst (λ (r : List (List Label)). AreSequentialRuns t.question r t.outcomes) (sym made.seq_runs) table.runs);
    sequential = rw made.whole table_tree.valid;
    foreign = foreign;
    fenced = rw made.whole fenced_tree.valid;
    least = subst (λ (g : SetOfGaps). IsValidGap o.question o.costs g c.runs c.gap_tree all_sets) (sym same_names) gap_tree_fine.valid;
  }

  is_valid : IsValidCertificate o.question o.costs c
  is_valid = subst (λ (rule : Rule). IsJudged rule o.question (λ judged. IsValidCertificateOf judged o.costs c)) (sym made.whole) valid_of

  gap_tree_small : IsGapTo c.rule MAX_GAP_DEPTH c.gap_tree
  gap_tree_small =
      let few : undecided all_sets ≤ MAX_GAPS = few_undecided all_sets in
      let deep : gap_depth c.gap_tree ≤ suc (undecided all_sets) = gap_tree_fine.deep in
      (at_most (gap_depth c.gap_tree) (undecided all_sets) deep few, subst (λ (rule : Rule). limits.HasGapNumbers rule c.gap_tree) (sym made.whole) gap_tree_fine.small_numbers)
    where
      at_most : (d u : ℕ) → d ≤ suc u → u ≤ MAX_GAPS → d ≤ MAX_GAP_DEPTH
      at_most d u h i = omega arith

  -- each gap of the program is below the limit
  below : IsGapSet c.gaps
  below gap there =
      let few = facts.within.few_gaps in
      let at = of_program gap there in
      omega arith

  foreign_short : All limits.IsWrittenRun c.runs
  foreign_short k d h = each_run limits.IsWrittenRun (λ f of is. short_run f.question.program (StoreBufferMachine no_gaps) f.labels is.foreign.is_run.0 (subst (λ (q : Question). IsWithinLimits q.program.threads q.program.memory) (sym of) facts.within) is.foreign.is_run.1) k (get_or c.runs k d) (slice_get-get_or c.runs k d h)

  pub is_proof : IsProof o.question o.costs c
  is_proof = record {
    valid = is_valid;
    within = record {
      shown = made.places;
      gaps = below;
      cost = omega arith;
      seq_runs = (made.few_seq_runs, subst (AllByRecursion limits.IsWrittenRun) (sym made.seq_runs) (sequential_short t.question t.runs t.outcomes (subst (λ (q : Question). IsWithinLimits q.program.threads q.program.memory) (sym same) facts.within) table.runs));
      seq_tree = tree_small o.question SequentialMachine t.outcomes c.seq_tree table_tree;
      runs = (made.few_runs, recursion_from_All limits.IsWrittenRun c.runs foreign_short);
      fenced_tree = tree_small o.question (StoreBufferMachine (gaps_of_set o.question.program c.gaps)) t.outcomes c.fenced_tree fenced_tree;
      gap_tree = gap_tree_small;
    };
  }
