-- Which node of a cover tree is the first wrong one is the same whatever gaps go together.
use Rattle.cert_check.proofs.Vocabulary.{ℕ, zero, suc, List, [], ◌∷◌, Listing, Outcome, Machine, Cover, FirstWrongCover, IsValidCoverBy, asked_with}
use Rattle.std.proofs.Common.{map}
use Rattle.tso_program.specs.declared.shown.Shown.{Shown}
use Rattle.cert_forest.specs.Rule.{Rule}
use Rattle.cert_forest.specs.Trees.{Value, Source, Order, Cycle, Known, Covers, NoCover, MoreCovers}
use Rattle.tree_laws.specs.CoverTrees.{sketch_with}
use Rattle.tree_laws.proofs.TiesApart.{ties_change_no_cover}
use Rattle.cover_judge.specs.Sketches.{Sketch}
use Rattle.cover_judge.specs.CoverDefects.{FirstWrongCoverChild, FirstWrongOfTwo}

module _ (rule : Rule) (p : Listing) (shown : Shown) (ties others : List ℕ) (mode : Machine) (outcomes : List Outcome) where
  abbrev Left : Cover → Sketch → List ℕ → Type 0
  Left tree k path = FirstWrongCover rule (asked_with ties p shown) mode outcomes tree k path

  abbrev Right : Cover → Sketch → List ℕ → Type 0
  Right tree k path = FirstWrongCover rule (asked_with others p shown) mode outcomes tree k path

  abbrev ValidLeft : Cover → Sketch → Type 0
  ValidLeft tree k = IsValidCoverBy rule (asked_with ties p shown) mode outcomes tree k

  abbrev ValidRight : Cover → Sketch → Type 0
  ValidRight tree k = IsValidCoverBy rule (asked_with others p shown) mode outcomes tree k

  valid : (tree : Cover) (k : Sketch) → ValidLeft tree k → ValidRight tree k
  valid tree k is = ties_change_no_cover rule p shown ties others mode outcomes tree k is

  two : (one other : Cover) → ((k : Sketch) (path : List ℕ) → Left one k path → Right one k path) → ((k : Sketch) (path : List ℕ) → Left other k path → Right other k path) →
      (ks : List Sketch) (n : ℕ) (path : List ℕ) → FirstWrongOfTwo (Left one) (ValidLeft one) (Left other) ks n path → FirstWrongOfTwo (Right one) (ValidRight one) (Right other) ks n path
  two one other f g (k ∷ (j ∷ [])) zero path wrong = f k path wrong
  two one other f g (k ∷ (j ∷ [])) (suc zero) path wrong = (valid one k wrong.0, g j path wrong.1)
  two one other f g ks n path wrong = wrong

  mutual
    pub same_wrong : (tree : Cover) (k : Sketch) (path : List ℕ) → Left tree k path → Right tree k path
    same_wrong (Value t children) k [] wrong = wrong
    same_wrong (Value t children) k (n ∷ path) (choices, are, (many, wrong)) = (choices, are, (many, same_child children (map (sketch_with k) choices) n path wrong))
    same_wrong (Source read children) k [] wrong = wrong
    same_wrong (Source read children) k (n ∷ path) (choices, are, (many, wrong)) = (choices, are, (many, same_child children (map (sketch_with k) choices) n path wrong))
    same_wrong (Order first second one other) k [] wrong = wrong
    same_wrong (Order first second one other) k (n ∷ path) (choices, are, (many, wrong)) =
        (choices, are, (many, two one other (same_wrong one) (same_wrong other) (map (sketch_with k) choices) n path wrong))
    same_wrong (Cycle kind events) k path wrong = wrong
    same_wrong (Known number) k path wrong = (wrong.0, (λ must. wrong.1 (record { outcome = must.outcome; is_outcome = must.is_outcome; must_end = must.must_end })))

    same_child : (trees : Covers) (ks : List Sketch) (n : ℕ) (path : List ℕ) → FirstWrongCoverChild rule (asked_with ties p shown) mode outcomes trees ks n path →
        FirstWrongCoverChild rule (asked_with others p shown) mode outcomes trees ks n path
    same_child NoCover ks n path wrong = wrong
    same_child (MoreCovers tree trees) [] n path wrong = wrong
    same_child (MoreCovers tree trees) (k ∷ ks) zero path wrong = same_wrong tree k path wrong
    same_child (MoreCovers tree trees) (k ∷ ks) (suc n) path wrong = (valid tree k wrong.0, same_child trees ks n path wrong.1)
