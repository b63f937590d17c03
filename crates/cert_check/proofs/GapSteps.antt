-- The children of a split, judged in order: what is left to be judged decides.
use Rattle.cert_check.proofs.Vocabulary.{◌≡◌, ℕ, suc, ◌+◌, ◌<◌, List, [], ◌∷◌, length, take, drop, refl, sym, subst, arith, SetOfGaps, Region, Question, Label, first_gap, Gap, IsValidGap, FirstWrongGap, AreValidIn, IsWrongChildIn, IsBelow, with_gap}
use Rattle.cert_check.proofs.Vocabulary.{without_gap}

module _ (q : Question) (costs : List ℕ) (answer : SetOfGaps) (runs : List (List Label)) (trees : List Gap) (region : Region) (gaps : List ℕ) where
  -- the children that are left decide of all, where so many were judged
  pub record IsLeft (judged : ℕ) (left : List Gap) (rest : Region) (left_gaps : List ℕ) : Type 0 where
    pub valid : AreValidIn q costs answer runs left rest left_gaps → AreValidIn q costs answer runs trees region gaps
    pub wrong : (number : ℕ) (path : List ℕ) → IsWrongChildIn q costs answer runs left rest left_gaps number path →
        IsWrongChildIn q costs answer runs trees region gaps (judged + number) path

  pub all_left : IsLeft 0 trees region gaps
  all_left = record { valid = λ valid. valid; wrong = λ number path wrong. subst (λ n. IsWrongChildIn q costs answer runs trees region gaps n path) (omega arith) wrong }

  module _ (judged : ℕ) (tree : Gap) (left : List Gap) (rest : Region) (gap : ℕ) (left_gaps : List ℕ) (is : IsLeft judged (tree ∷ left) rest (gap ∷ left_gaps)) where
    -- the next one is valid
    pub next_valid : IsValidGap q costs answer runs tree (with_gap rest gap) → IsLeft (judged + 1) left (without_gap rest gap) left_gaps
    next_valid valid = record {
      valid = λ others. is.valid (valid, others);
      wrong = λ number path wrong. (let same : judged + suc number ≡ judged + 1 + number = omega arith in
          subst (λ n. IsWrongChildIn q costs answer runs trees region gaps n path) same (is.wrong (suc number) path (valid, wrong)));
    }

    -- or wrong
    pub next_wrong : (path : List ℕ) → IsBelow (λ n others. (n ≡ judged) × FirstWrongGap q costs answer runs tree (with_gap rest gap) others) path →
        IsBelow (IsWrongChildIn q costs answer runs trees region gaps) path
    next_wrong [] wrong = absurd wrong
    next_wrong (number ∷ path) (at, wrong) = (let same : judged + 0 ≡ number = omega arith in
        subst (λ n. IsWrongChildIn q costs answer runs trees region gaps n path) same (is.wrong 0 path wrong))

  -- none is left
  pub none_left : (judged : ℕ) (rest : Region) → IsLeft judged [] rest [] → AreValidIn q costs answer runs trees region gaps
  none_left judged rest is = is.valid tt

-- the trees that are left of a walk, from the first one on
walk_left : (m : ℕ) (walk : List Gap) → 0 < length walk → take (suc m) walk ≡ first_gap walk ∷ take m (drop 1 walk)
walk_left m [] some = absurd (omega arith)
walk_left m (t ∷ ts) some = refl

module _ (q : Question) (costs : List ℕ) (answer : SetOfGaps) (runs : List (List Label)) (trees : List Gap) (region : Region) (gaps : List ℕ)
    (n : ℕ) (walk : List Gap) (left more : List ℕ) (gap : ℕ) (rest : Region) (some : 0 < length walk) (next : left ≡ gap ∷ more)
    (is : IsLeft q costs answer runs trees region gaps n (take (length left) walk) rest left) where
  first : IsLeft q costs answer runs trees region gaps n (first_gap walk ∷ take (length more) (drop 1 walk)) rest (gap ∷ more)
  first = subst (λ ts. IsLeft q costs answer runs trees region gaps n ts rest (gap ∷ more)) (walk_left (length more) walk some)
      (subst (λ gs. IsLeft q costs answer runs trees region gaps n (take (length gs) walk) rest gs) next is)

  -- the first tree of the walk is valid for the region that must have its gap
  pub go_on : (child after : Region) → child ≡ with_gap rest gap → after ≡ without_gap rest gap → IsValidGap q costs answer runs (first_gap walk) child →
      IsLeft q costs answer runs trees region gaps (n + 1) (take (length more) (drop 1 walk)) after more
  go_on child after same e valid = subst (λ r. IsLeft q costs answer runs trees region gaps (n + 1) (take (length more) (drop 1 walk)) r more) (sym e)
      (next_valid q costs answer runs trees region gaps n (first_gap walk) (take (length more) (drop 1 walk)) rest gap more first (subst (IsValidGap q costs answer runs (first_gap walk)) same valid))

  -- or wrong
  pub stop_here : (child : Region) → child ≡ with_gap rest gap → (path : List ℕ) → IsBelow (λ m others. (m ≡ n) × FirstWrongGap q costs answer runs (first_gap walk) child others) path →
      IsBelow (IsWrongChildIn q costs answer runs trees region gaps) path
  stop_here child same path wrong =
      next_wrong q costs answer runs trees region gaps n (first_gap walk) (take (length more) (drop 1 walk)) rest gap more first path
      (subst (λ r. IsBelow (λ m others. (m ≡ n) × FirstWrongGap q costs answer runs (first_gap walk) r others) path) same wrong)

-- no gap is left
pub none_left_of : (q : Question) (costs : List ℕ) (answer : SetOfGaps) (runs : List (List Label)) (trees : List Gap) (region : Region) (gaps : List ℕ) (n : ℕ) (walk : List Gap) (left : List ℕ) (rest : Region) → left ≡ []
    → IsLeft q costs answer runs trees region gaps n (take (length left) walk) rest left → AreValidIn q costs answer runs trees region gaps
none_left_of q costs answer runs trees region gaps n walk left rest none is =
    none_left q costs answer runs trees region gaps n rest (subst (λ (gs : List ℕ). IsLeft q costs answer runs trees region gaps n (take (length gs) walk) rest gs) none is)
