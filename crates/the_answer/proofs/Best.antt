-- Of the sets of gaps that pass a test the best is found.
use Rattle.the_answer.proofs.Vocabulary.{◌≡◌, ◌≢◌, ℕ, zero, suc, ◌+◌, ◌<◌, ◌≤◌, Bool, true, false, ◌||◌, List, Option, Some, None, cond, refl, sym, ap, ◌∙◌, subst, inl, inr, arith, eq-eqb, ne_eqb, nat_cmp, nat_cmp_total, unsigned_tied, cases_lt, cases_eq}
use Rattle.the_answer.proofs.Vocabulary.{cases_Bool, ltb-true, lt-ltb, nat_lt, MatchOption, SetOfGaps, cheaper, best_of, total, HasLeastDifference, Better, AreBelow, NonePasses, IsBest, TheBestSetIsFound}
use Rattle.std.specs.FinSet as set

-- the set has below gap what the chosen set has, and nothing from the end on
record IsBetween (chosen : SetOfGaps) (gap end : ℕ) (s : SetOfGaps) : Type 0 where
  alike : (k : ℕ) → k < gap → set.contains s k ≡ set.contains chosen k
  below : AreBelow end s

-- of these sets that pass the test none is better
record IsBestBetween (test : SetOfGaps → Bool) (costs : List ℕ) (chosen : SetOfGaps) (gap end : ℕ) (s : SetOfGaps) : Type 0 where
  between : IsBetween chosen gap end s
  passes : test s ≡ true
  least : (other : SetOfGaps) → IsBetween chosen gap end other → Better costs other s → test other ≡ false

-- no set of these passes
abbrev NoneBetween : (SetOfGaps → Bool) → SetOfGaps → ℕ → ℕ → Type 0
NoneBetween test chosen gap end = (other : SetOfGaps) → IsBetween chosen gap end other → test other ≡ false

-- what was found is the best, and where nothing was none passes
abbrev IsFound : (SetOfGaps → Bool) → List ℕ → SetOfGaps → ℕ → ℕ → Option SetOfGaps → Type 0
IsFound test costs chosen gap end found = MatchOption found (NoneBetween test chosen gap end) (IsBestBetween test costs chosen gap end)

-- the set with one gap more
with_gap : (s : SetOfGaps) (gap : ℕ) → set.contains (set.insert s gap) gap ≡ true
with_gap s gap = set.contains-insert nat_cmp_total s gap gap ∙ ap (λ b. b || set.contains s gap) (unsigned_tied gap gap ∙ eq-eqb gap gap refl)

with_other : (s : SetOfGaps) (gap k : ℕ) → k ≢ gap → set.contains (set.insert s gap) k ≡ set.contains s k
with_other s gap k other = set.contains-insert nat_cmp_total s gap k ∙ ap (λ b. b || set.contains s k) (unsigned_tied k gap ∙ ne_eqb k gap other)

-- a set has nothing from its end on
outside : (t : SetOfGaps) (k end : ℕ) → AreBelow end t → end ≤ k → set.contains t k ≡ false
outside t k end below past = elim (cases_Bool (set.contains t k)) [ inl e ↦ absurd (let h = below k e in omega arith) | inr e ↦ e ]

-- the chosen set is below gap
module _ (test : SetOfGaps → Bool) (costs : List ℕ) (chosen : SetOfGaps) (gap : ℕ) (low : AreBelow gap chosen) where
  -- a set that is below gap and the same there is the chosen one
  only_chosen : (s : SetOfGaps) → IsBetween chosen gap gap s → s ≡ chosen
  only_chosen s b = set.same_set nat_cmp_total set.nat_cmp-IsAntisymmetric s chosen each
    where
      each : (k : ℕ) → set.contains s k ≡ set.contains chosen k
      each k = elim (cases_lt k gap) [ inl under ↦ b.alike k under | inr past ↦ outside s k gap b.below past ∙ sym (outside chosen k gap low past) ]

  none_chosen : test chosen ≡ false → NoneBetween test chosen gap gap
  none_chosen fails other b = ap test (only_chosen other b) ∙ fails

  alone : (passes : Bool) → test chosen ≡ passes → IsFound test costs chosen gap gap (cond passes (Some chosen) None)
  alone true e = record {
    between = record { alike = λ k h. refl; below = low };
    passes = e;
    least = λ other b better. absurd (itself other (only_chosen other b) better);
  }
    where
      itself : (other : SetOfGaps) → other ≡ chosen → Better costs other chosen → ⊥
      itself other e (inl less) = let same = ap (total costs) e in omega arith
      itself other e (inr d) = let no : true ≡ false = sym d.1.in_first ∙ ap (λ (s : SetOfGaps). set.contains s d.1.gap) e ∙ d.1.not_in_second in cc
  alone false e = none_chosen e

  module _ (end : ℕ) where
    -- the set has gap, or has it not
    wider_with : (s : SetOfGaps) → IsBetween (set.insert chosen gap) (gap + 1) end s → IsBetween chosen gap end s
    wider_with s b = record { alike = λ k h. b.alike k (omega arith) ∙ with_other chosen gap k (λ e. omega arith); below = b.below }

    -- a set that is as another at gap, where that is as the chosen one at the other gaps
    narrower : (s other : SetOfGaps) → IsBetween chosen gap end s → set.contains s gap ≡ set.contains other gap → ((k : ℕ) → k ≢ gap → set.contains other k ≡ set.contains chosen k) → IsBetween other (gap + 1) end s
    narrower s other b here alike = record {
      alike = λ k h. elim (cases_eq k gap) [
        | inl e ↦ subst (λ n. set.contains s n ≡ set.contains other n) (sym e) here
        | inr apart ↦ b.alike k (omega arith) ∙ sym (alike k apart)
      ];
      below = b.below;
    }

    -- a set without gap has no least difference from one with it
    not_earlier : (a b : SetOfGaps) → IsBetween chosen (gap + 1) end a → IsBetween (set.insert chosen gap) (gap + 1) end b → HasLeastDifference a b → ⊥
    not_earlier a b without with d = elim (cases_lt gap d.gap) [
      | inl later ↦ (let no : false ≡ true = sym (without.alike gap (omega arith) ∙ outside chosen gap gap low (omega arith)) ∙ d.alike_below gap later ∙ (with.alike gap (omega arith) ∙ with_gap chosen gap) in cc)
      | inr not_later ↦
          (let same : set.contains a d.gap ≡ set.contains chosen d.gap = without.alike d.gap (omega arith) in
          let chosen_has : set.contains chosen d.gap ≡ true = sym same ∙ d.in_first in
          let under : d.gap < gap = low d.gap chosen_has in
          let no : true ≡ false = sym chosen_has ∙ sym (with_other chosen gap d.gap (λ e. omega arith)) ∙ sym (with.alike d.gap (omega arith)) ∙ d.not_in_second in
          cc)
    ]

    -- both halves
    abbrev With : SetOfGaps → Type 0
    With = IsBestBetween test costs (set.insert chosen gap) (gap + 1) end

    abbrev Without : SetOfGaps → Type 0
    Without = IsBestBetween test costs chosen (gap + 1) end

    -- what holds of the sets with gap and of those without it holds of each
    by_half : (P : SetOfGaps → Type 0) → ((s : SetOfGaps) → IsBetween (set.insert chosen gap) (gap + 1) end s → P s) → ((s : SetOfGaps) → IsBetween chosen (gap + 1) end s → P s) →
        (s : SetOfGaps) → IsBetween chosen gap end s → P s
    by_half P with without s b = elim (cases_Bool (set.contains s gap)) [
      | inl e ↦ with s (narrower s (set.insert chosen gap) b (e ∙ sym (with_gap chosen gap)) (with_other chosen gap))
      | inr e ↦ without s (narrower s chosen b (e ∙ sym (outside chosen gap gap low (omega arith))) (λ k n. refl))
    ]

    -- the set with gap is the best where that without it is not cheaper
    with_is_best : (a : SetOfGaps) → With a → ((s : SetOfGaps) → IsBetween chosen (gap + 1) end s → Better costs s a → test s ≡ false) → IsBestBetween test costs chosen gap end a
    with_is_best a w others = record { between = wider_with a w.between; passes = w.passes; least = by_half (λ s. Better costs s a → test s ≡ false) w.least others }

    without_is_best : (a : SetOfGaps) → Without a → ((s : SetOfGaps) → IsBetween (set.insert chosen gap) (gap + 1) end s → Better costs s a → test s ≡ false) → IsBestBetween test costs chosen gap end a
    without_is_best a w others = record { between = (record { alike = λ k h. w.between.alike k (omega arith); below = w.between.below }); passes = w.passes; least = by_half (λ s. Better costs s a → test s ≡ false) others w.least }

    -- of two that were found
    both_found : (a b : SetOfGaps) → With a → Without b → (less : Bool) → nat_lt (total costs b) (total costs a) ≡ less → IsBestBetween test costs chosen gap end (cond less b a)
    both_found a b w o true e =
        let cheap : total costs b < total costs a = ltb-true (total costs b) (total costs a) e in
        without_is_best b o (λ s between better. w.least s between (inl (cheaper_still s cheap better)))
      where
        cheaper_still : (s : SetOfGaps) → total costs b < total costs a → Better costs s b → total costs s < total costs a
        cheaper_still s cheap (inl less) = omega arith
        cheaper_still s cheap (inr d) = let same = d.0 in omega arith
    both_found a b w o false e = with_is_best a w (λ s between better. o.least s between (inl (cheaper_too s between (not_less e) better)))
      where
        not_less : nat_lt (total costs b) (total costs a) ≡ false → total costs a ≤ total costs b
        not_less e = elim (cases_lt (total costs b) (total costs a)) [
          | inl less ↦ absurd (let no : true ≡ false = sym (lt-ltb (total costs b) (total costs a) less) ∙ e in cc)
          | inr h ↦ h
        ]

        cheaper_too : (s : SetOfGaps) → IsBetween chosen (gap + 1) end s → total costs a ≤ total costs b → Better costs s a → total costs s < total costs b
        cheaper_too s between h (inl less) = omega arith
        cheaper_too s between h (inr d) = absurd (not_earlier s a between w.between d.1)

    -- of the two halves
    halves : (with without : Option SetOfGaps) → IsFound test costs (set.insert chosen gap) (gap + 1) end with → IsFound test costs chosen (gap + 1) end without →
        IsFound test costs chosen gap end (cheaper costs with without)
    halves None None w o = by_half (λ s. test s ≡ false) w o
    halves None (Some b) w o = without_is_best b o (λ s between better. w s between)
    halves (Some a) None w o = with_is_best a w (λ s between better. o s between)
    halves (Some a) (Some b) w o = both_found a b w o (nat_lt (total costs b) (total costs a)) refl

-- by each gap in turn
found : (test : SetOfGaps → Bool) (costs : List ℕ) (n gap end : ℕ) (chosen : SetOfGaps) → end ≡ gap + n → AreBelow gap chosen → IsFound test costs chosen gap end (best_of test costs n gap chosen)
found test costs zero gap end chosen e low =
    let here : end ≡ gap = omega arith in
    subst (λ z. IsFound test costs chosen gap z (best_of test costs 0 gap chosen)) (sym here) (alone test costs chosen gap low (test chosen) refl)
found test costs (suc n) gap end chosen e low =
    halves test costs chosen gap low end (best_of test costs n (gap + 1) (set.insert chosen gap)) (best_of test costs n (gap + 1) chosen)
    (found test costs n (gap + 1) end (set.insert chosen gap) (omega arith) (λ k here. elim (cases_eq k gap) [ inl e ↦ omega arith | inr other ↦ let h = low k (sym (with_other chosen gap k other) ∙ here) in omega arith ]))
    (found test costs n (gap + 1) end chosen (omega arith) (λ k here. let h = low k here in omega arith))

-- from the empty set on, each set of gaps below n
of_any : (n : ℕ) (s : SetOfGaps) → AreBelow n s → IsBetween set.empty 0 n s
of_any n s below = record { alike = λ k h. absurd (omega arith); below = below }

pub best_is_found : TheBestSetIsFound
best_is_found test costs n = told (best_of test costs n 0 set.empty) (found test costs n 0 n set.empty (omega arith) (λ k here. absurd (let no : false ≡ true = sym (set.contains-empty nat_cmp k) ∙ here in cc)))
  where
    told : (o : Option SetOfGaps) → IsFound test costs set.empty 0 n o → MatchOption o (NonePasses test n) (IsBest test costs n)
    told None none = λ other below. none other (of_any n other below)
    told (Some best) b = record { below = b.between.below; passes = b.passes; least = λ other below better. b.least other (of_any n other below) better }
