use Rattle.thread_traces.proofs.Vocabulary.{Contains, sym, subst, eqb, Contains-permutation, IsPermutation-sym}
use Rattle.std.specs.List.Sorted.{IsStrictlyIncreasing}
use Rattle.std.proofs.lemmas.List.Filters.{dedup_is}
use Rattle.std.proofs.lemmas.List.Kept.{Contains-dedup_nat, Contains-from_dedup}
use Rattle.std.proofs.lemmas.Map.Keys.{IsStrictlyIncreasing-dedup}
use Rattle.thread_traces.proofs.location_values.each_once.Goals as goal

pub returns-clause-same : goal.returns-clause-same
returns-clause-same c =
    let same = dedup_is eqb c.sort.new.self.items c.dedup.new.self.items c.dedup.ensures.filtered in
    λ v. (
      λ h. Contains-permutation c.sort.new.self.items c.args.values.items v (IsPermutation-sym c.args.values.items c.sort.new.self.items c.in_ok-sort.ensures.permutation)
          (Contains-from_dedup eqb c.sort.new.self.items v (subst (λ xs. Contains xs v) same h)),
      λ is. subst (λ xs. Contains xs v) (sym same) (Contains-dedup_nat c.sort.new.self.items v (Contains-permutation c.args.values.items c.sort.new.self.items v c.in_ok-sort.ensures.permutation is)),
    )

pub returns-clause-ascending : goal.returns-clause-ascending
returns-clause-ascending c =
    let same = dedup_is eqb c.sort.new.self.items c.dedup.new.self.items c.dedup.ensures.filtered in
    subst (λ xs. IsStrictlyIncreasing xs) (sym same) (IsStrictlyIncreasing-dedup c.sort.new.self.items c.in_ok-sort.ensures.sorted)
