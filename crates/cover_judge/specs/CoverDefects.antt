-- Which node of a cover tree is the first wrong one by a rule: a node is judged before its children, and the children in order.
use Rattle.std.specs.Prelude.{◌≡◌, ℕ, zero, suc, List, [], ◌∷◌, length, map}
use Rattle.tso_program.specs.declared.listing.Listing.{Listing}
use Rattle.tso_program.specs.declared.outcome.Outcome.{Outcome}
use Rattle.tso_program.specs.declared.question.Question.{Question}
use Rattle.cert_forest.specs.Machine.{Machine}
use Rattle.candidate_executions.specs.Sketches.{Sketch, IsKnownCycle}
use Rattle.cert_forest.specs.Trees.{Cover, Value, Source, Order, Cycle, Known, Covers, NoCover, MoreCovers, count_covers}
use Rattle.tree_laws.specs.declared.choice.OpenChoice.{OpenChoice}
use Rattle.tree_laws.specs.declared.choice.OpenChoice.TheVariants as left
use Rattle.tree_laws.specs.Rule.{Rule}
use Rattle.tree_laws.specs.CoverTrees.{event_of, AfterChoicesBy, MustEndAsNumber, IsValidCoverBy}

module _ (rule : Rule) (p : Listing) (mode : Machine) (k : Sketch) (next : OpenChoice) (count : ℕ) where
  -- it is not left to be chosen, or has not so many choices
  abbrev pub HasNotSoMany : Type 0
  HasNotSoMany = AfterChoicesBy rule p mode k next (λ ks. count ≡ length ks) → ⊥

  -- a node with so many children is wrong, or a child is the first one that has a wrong node
  abbrev pub IsWrongNode : (List Sketch → ℕ → List ℕ → Type 0) → List ℕ → Type 0
  IsWrongNode IsWrongChild [] = HasNotSoMany
  IsWrongNode IsWrongChild (number ∷ path) = AfterChoicesBy rule p mode k next (λ ks. (count ≡ length ks) × IsWrongChild ks number path)

-- of two trees at their sketches, the one of this number is the first one that has a wrong node
abbrev pub FirstWrongOfTwo : (Sketch → List ℕ → Type 0) → (Sketch → Type 0) → (Sketch → List ℕ → Type 0) → List Sketch → ℕ → List ℕ → Type 0
FirstWrongOfTwo FirstWrong IsFirstValid OtherWrong (k ∷ (j ∷ [])) zero path = FirstWrong k path
FirstWrongOfTwo FirstWrong IsFirstValid OtherWrong (k ∷ (j ∷ [])) (suc zero) path = IsFirstValid k × OtherWrong j path
FirstWrongOfTwo FirstWrong IsFirstValid OtherWrong ks number path = ⊥

module _ (rule : Rule) (q : Question) (mode : Machine) (outcomes : List Outcome) where
  abbrev mutual
    -- The node at this path is wrong, and none before it is: each node above it is right, and the trees of the children before it are valid.
    pub FirstWrongCover : Cover → Sketch → List ℕ → Type 0
    FirstWrongCover (Value t children) k path = IsWrongNode rule q.program mode k (left.Value t) (count_covers children) (λ ks n rest. FirstWrongCoverChild children ks n rest) path
    FirstWrongCover (Source read children) k path = IsWrongNode rule q.program mode k (left.Source read) (count_covers children) (λ ks n rest. FirstWrongCoverChild children ks n rest) path
    FirstWrongCover (Order first second one other) k path =
        IsWrongNode rule q.program mode k (left.Order first second) 2
        (FirstWrongOfTwo (λ j rest. FirstWrongCover one j rest) (IsValidCoverBy rule q mode outcomes one) (λ j rest. FirstWrongCover other j rest)) path
    FirstWrongCover (Cycle kind events) k path = (path ≡ []) × (IsKnownCycle q.program mode k kind (map event_of events) → ⊥)
    FirstWrongCover (Known number) k path = (path ≡ []) × (MustEndAsNumber q mode outcomes k number → ⊥)

    -- the child of this number has the first wrong node, at this path from it
    pub FirstWrongCoverChild : Covers → List Sketch → ℕ → List ℕ → Type 0
    FirstWrongCoverChild NoCover ks number path = ⊥
    FirstWrongCoverChild (MoreCovers tree trees) [] number path = ⊥
    FirstWrongCoverChild (MoreCovers tree trees) (k ∷ ks) zero path = FirstWrongCover tree k path
    FirstWrongCoverChild (MoreCovers tree trees) (k ∷ ks) (suc number) path = IsValidCoverBy rule q mode outcomes tree k × FirstWrongCoverChild trees ks number path
