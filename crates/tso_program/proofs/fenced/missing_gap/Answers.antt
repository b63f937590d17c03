use Rattle.tso_program.proofs.Vocabulary.{◌≡◌, ℕ, Option, Some, None, refl, sym, ap, ◌∙◌, rules, tests, nat_le, find, option_map}
use Rattle.std.proofs.lemmas.Iterator.Consumers.{YieldsList-from_first}
use Rattle.std.proofs.lemmas.Iterator.Search.{find_from_yields_List}
use Rattle.gap_sets.specs.Gaps.{numbers_of_set}
use Rattle.tso_program.proofs.fenced.missing_gap.Goals as goal

-- what stays as it is
unmapped : (o : Option ℕ) → option_map (λ (x : ℕ). x) o ≡ o
unmapped None = refl
unmapped (Some x) = refl

pub returns : goal.returns
returns c =
    sym (unmapped c.find.result)
    ∙ find_from_yields_List (nat_le c.gaps-count.result) _ _ c.find.result c.find.ensures.ran (YieldsList-from_first (λ (x : ℕ). x) (λ rest. rest) (numbers_of_set c.args.gaps.now) c.iter.ensures.value) (λ x b q k. search (rules, tests))
    ∙ ap (λ n. find (nat_le n) (numbers_of_set c.args.gaps.now)) c.gaps-count.ensures.value
