-- Store buffering: where both loads give 0 the accesses are a cycle, sequentially and with both gaps fenced.
use Rattle.tree_laws.proofs.Vocabulary.{◌≡◌, ◌≢◌, ℕ, Bool, true, false, [], ◌∷◌, map, refl, inl, inr, arith, lit<, these, gaps_in, Machine, SequentialMachine, StoreBufferMachine, store_buffering, Initial, entered, IsKnownCycle, event_of, around}
use Rattle.std.specs.FinSet as set
use Rattle.candidate_executions.specs.declared.event.Kind.TheVariants as union
use Rattle.tree_laws.proofs.StoreBufferingCovered.{read_twice}

-- the gaps 0:1 and 1:1
abbrev pub both_fenced : Machine
both_fenced = StoreBufferMachine (gaps_in store_buffering (these (0 ∷ 1 ∷ [])))

-- a fenced gap ends a section
new_section : (b : Bool) (n m : ℕ) → b ≡ true → m ≡ n → m ≢ entered b n
new_section true n m e q h = omega arith
new_section false n m e q h = cc

first_fenced : set.contains (these (0 ∷ 1 ∷ [])) 0 ≡ true
first_fenced = set.contains-from_list_nat (0 ∷ 1 ∷ []) 0

second_fenced : set.contains (these (0 ∷ 1 ∷ [])) 1 ≡ true
second_fenced = set.contains-from_list_nat (0 ∷ 1 ∷ []) 1

pub sequential_cycle : IsKnownCycle store_buffering SequentialMachine (read_twice SequentialMachine) union.Sequential (map event_of around)
sequential_cycle = (
  (tt, (_, _, refl, refl, inl (refl, lit< tt))),
  (
    (tt, (_, _, refl, refl, inr (inr (inr (Initial 1, (0, lit< tt, refl), inr (refl, (λ q. cc), refl), (λ q. cc)))))),
    (
      (tt, (_, _, refl, refl, inl (refl, lit< tt))),
      (tt, (_, _, refl, refl, inr (inr (inr (Initial 0, (1, lit< tt, refl), inr (refl, (λ q. cc), refl), (λ q. cc)))))),
    ),
  ),
)

pub fenced_cycle : IsKnownCycle store_buffering both_fenced (read_twice both_fenced) union.Global (map event_of around)
fenced_cycle = (
  (tt, (_, _, refl, refl, inl ((refl, lit< tt), inr (inr (new_section (set.contains (these (0 ∷ 1 ∷ [])) 0) 0 0 first_fenced refl))))),
  (
    (tt, (_, _, refl, refl, inr (inr (inr (Initial 1, (0, lit< tt, refl), inr (refl, (λ q. cc), refl), (λ q. cc)))))),
    (
      (tt, (_, _, refl, refl, inl ((refl, lit< tt), inr (inr (new_section (set.contains (these (0 ∷ 1 ∷ [])) 1) 0 0 second_fenced refl))))),
      (tt, (_, _, refl, refl, inr (inr (inr (Initial 0, (1, lit< tt, refl), inr (refl, (λ q. cc), refl), (λ q. cc)))))),
    ),
  ),
)
