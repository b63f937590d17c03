-- The answer without one of its ties is better, so one of the certificate's runs passes no gap of the others: it passes one of this tie.
use Rattle.placed_text.proofs.Vocabulary.{◌≡◌, ◌≢◌, ◌<◌, ◌≤◌, ◌&&◌, ℕ, Bool, true, false, All, List, length, refl, sym, ap, subst, ◌∙◌, eq-eqb, SetOfGaps, IsGapSet, names_in, spread, names_of, Question, gap_count, asked, IsReplayOf, Label, Serves}
use Rattle.std.proofs.Common.{inl, inr, ne_eqb}
use Rattle.std.proofs.lemmas.Bool.{cases_eq}
use Rattle.std.specs.Cmp.{nat_cmp_total, unsigned_tied}
use Rattle.std.specs.FinSet as set
use Rattle.std.specs.Prelude.{Contains}
use Rattle.gap_sets.specs.{CostLists.IsCostList, Order.Better, Ties.name_of}
use Rattle.gap_sets.proofs.{Spreading.spread_contains, Subsets.cheaper}
use Rattle.cert_forest.specs.Certificates.{Certificate}
use Rattle.tso_program.specs.declared.shown.Shown.{TheVariants.All as Whole}
use Rattle.tso_machine.specs.{declared.label.Model.TheVariants.Buffered, declared.replaying.Ended.Ended, FenceLaws.PassesNoGapOf, Outcomes.AreGapsOf, Outcomes.ArePassedNames, Outcomes.PassesNoNameOf}
use Rattle.tso_machine.proofs.NamesPassed.{fenced_runs_pass_no_name, names_of_passed}
use Rattle.tree_laws.specs.{Laws.IsForeign, Laws.IsProved}

second : (v w : Bool) → (v && w) ≡ true → w ≡ true
second true w e = e
second false w e = absurd cc

-- what is left holds no more
kept : (gaps : SetOfGaps) (gap other : ℕ) → set.contains (set.remove gaps gap) other ≡ true → set.contains gaps other ≡ true
kept gaps gap other there = second _ _ (sym (set.contains-remove nat_cmp_total gaps gap other) ∙ there)

-- and not the gap itself
gone : (gaps : SetOfGaps) (gap : ℕ) → set.contains (set.remove gaps gap) gap ≡ false
gone gaps gap = set.contains-remove nat_cmp_total gaps gap gap ∙ rw (unsigned_tied gap gap, eq-eqb gap gap refl) refl

differs : (gaps : SetOfGaps) (gap : ℕ) → set.contains gaps gap ≡ true → set.remove gaps gap ≢ gaps
differs gaps gap there same = let z : false ≡ true = sym (gone gaps gap) ∙ (ap (λ (s : SetOfGaps). set.contains s gap) same ∙ there) in cc

other_there : (gaps : SetOfGaps) (gap other : ℕ) → other ≢ gap → set.contains gaps other ≡ true → set.contains (set.remove gaps gap) other ≡ true
other_there gaps gap other differ there = set.contains-remove nat_cmp_total gaps gap other ∙ rw (unsigned_tied other gap, ne_eqb other gap differ, there) refl

-- a set of one has it
abbrev just : ℕ → SetOfGaps
just gap = set.insert set.empty gap

alone : (gap : ℕ) → set.contains (just gap) gap ≡ true
alone gap = set.contains-insert nat_cmp_total set.empty gap gap ∙ rw (unsigned_tied gap gap, eq-eqb gap gap refl) refl

-- a run that passes none of the names passes no gap that they stand for, and the other way round
no_gap_of : (q : Question) (names : SetOfGaps) (labels : List Label) → PassesNoNameOf q names labels → PassesNoGapOf q.program (spread q.ties names) labels
no_gap_of q names labels none gap there passes = none (name_of q.ties gap) (sym (spread_contains q.ties names gap) ∙ there) (gap, refl, passes)

no_name_of : (q : Question) (names : SetOfGaps) (labels : List Label) → PassesNoGapOf q.program (spread q.ties names) labels → PassesNoNameOf q names labels
no_name_of q names labels none name there (gap, is, passes) = none gap (spread_contains q.ties names gap ∙ ap (set.contains names) is ∙ there) passes

-- one of the runs passes no gap that the other names stand for
pub some_avoids : (q : Question) (costs : List ℕ) (c : Certificate) (names : SetOfGaps) (name : ℕ) → IsCostList costs → length costs ≡ gap_count q.program.threads → IsGapSet names → IsProved q costs c
    → names ≡ names_of q c → set.contains names name ≡ true → (labels : List Label) × Contains c.runs labels × PassesNoGapOf q.program (spread q.ties (set.remove names name)) labels
some_avoids q costs c names name limits one_each small proved same there =
    let others = set.remove names name in
    let of_program : AreGapsOf q.program names = subst (AreGapsOf q.program) (sym same) proved.answer.of_program in
    let positive : All (λ cost. 1 ≤ cost) costs = λ k d h. (limits.each k d h).0 in
    let better : Better costs others names =
    cheaper costs others names positive small (λ g held. subst (λ (n : ℕ). g < n) (sym one_each) (of_program g held)) (set.contains-is_subset nat_cmp_total others names (kept names name)) (differs names name there) in
    let (labels, run, none) = proved.avoided others (λ g held. of_program g (kept names name g held)) (subst (λ (s : SetOfGaps). Better costs others s) same better) in
    (labels, run, no_gap_of q others labels none)

-- a run that passes none of the names of a set which serves is not foreign, so one that is and passes none of the others passes this one
module _ (q : Question) (names : SetOfGaps) (name : ℕ) (labels : List Label) (ended : Ended) (serves : Serves q names) (foreign : IsForeign q labels) (replay : IsReplayOf (asked q.program Whole) Buffered labels ended)
    (avoids : PassesNoGapOf q.program (spread q.ties (set.remove names name)) labels) where
  passed : SetOfGaps
  passed = names_in q.ties ended.passed

  are_passed : ArePassedNames q labels passed
  unfolding passed
  are_passed = names_of_passed q labels ended.passed replay.passed

  passes_or_not : (b : Bool) → set.contains passed name ≡ b → b ≡ true
  passes_or_not true e = refl
  passes_or_not false e =
      let (o, is) = foreign in
      let (whole, run, shows) = is.is_run in
      let none : PassesNoNameOf q names labels = λ other there passes. elim (cases_eq other name) [
        | inl same ↦ (let no : true ≡ false = sym ((are_passed other).1 passes) ∙ ap (set.contains passed) same ∙ e in cc)
        | inr differ ↦ no_name_of q (set.remove names name) labels avoids other (other_there names name other differ there) passes
      ] in
      absurd (is.foreign ((serves o).0 (labels, (whole, (fenced_runs_pass_no_name q names labels whole).1 (run, none), shows))))

  pub passes_of_tie : (gap : ℕ) × (set.contains (spread q.ties (set.insert set.empty name)) gap ≡ true) × (set.contains ended.passed gap ≡ true)
  passes_of_tie =
      let (gap, is, passes) = (are_passed name).0 (passes_or_not (set.contains passed name) refl) in
      (gap, spread_contains q.ties (set.insert set.empty name) gap ∙ ap (set.contains (set.insert set.empty name)) is ∙ alone name, (replay.passed gap).1 passes)
