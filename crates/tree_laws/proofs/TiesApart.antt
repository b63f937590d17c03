-- A cover tree says nothing of ties.
use Rattle.tree_laws.proofs.Vocabulary.{ℕ, List, [], ◌∷◌, map, Listing, Outcome, Machine, Sketch, Cover, Value, Source, Order, Cycle, Known, Covers, NoCover, MoreCovers, Rule, Whole, IsValidCoverBy, AreTwo, empty_sketch}
use Rattle.tso_program.specs.{declared.shown.Shown.Shown, Shown.asked_with}
use Rattle.tree_laws.specs.CoverTrees.{AreValidCoversBy, sketch_with}
use Rattle.tree_laws.specs.Covers.{IsWholeCover}
use Rattle.tree_laws.specs.Laws.{TiesChangeNoCover}

module _ (rule : Rule) (p : Listing) (shown : Shown) (ties others : List ℕ) (mode : Machine) (outcomes : List Outcome) where
  abbrev Left : Cover → Sketch → Type 0
  Left tree k = IsValidCoverBy rule (asked_with ties p shown) mode outcomes tree k

  abbrev Right : Cover → Sketch → Type 0
  Right tree k = IsValidCoverBy rule (asked_with others p shown) mode outcomes tree k

  two : (one other : Cover) → ((k : Sketch) → Left one k → Right one k) → ((k : Sketch) → Left other k → Right other k) → (ks : List Sketch) → AreTwo (Left one) (Left other) ks → AreTwo (Right one) (Right other) ks
  two one other f g [] valid = valid
  two one other f g (k ∷ []) valid = valid
  two one other f g (k ∷ (j ∷ [])) valid = (f k valid.0, g j valid.1)
  two one other f g (k ∷ (j ∷ (h ∷ ks))) valid = valid

  mutual
    same_cover : (tree : Cover) (k : Sketch) → Left tree k → Right tree k
    same_cover (Value t children) k (choices, are, valid) = (choices, are, same_covers children (map (sketch_with k) choices) valid)
    same_cover (Source read children) k (choices, are, valid) = (choices, are, same_covers children (map (sketch_with k) choices) valid)
    same_cover (Order first second one other) k (choices, are, valid) = (choices, are, two one other (same_cover one) (same_cover other) (map (sketch_with k) choices) valid)
    same_cover (Cycle kind events) k valid = valid
    same_cover (Known number) k valid = record { outcome = valid.outcome; is_outcome = valid.is_outcome; must_end = valid.must_end }

    same_covers : (trees : Covers) (ks : List Sketch) → AreValidCoversBy rule (asked_with ties p shown) mode outcomes trees ks → AreValidCoversBy rule (asked_with others p shown) mode outcomes trees ks
    same_covers NoCover [] valid = valid
    same_covers NoCover (k ∷ ks) valid = valid
    same_covers (MoreCovers tree trees) [] valid = valid
    same_covers (MoreCovers tree trees) (k ∷ ks) valid = (same_cover tree k valid.0, same_covers trees ks valid.1)

pub ties_change_no_cover : (rule : Rule) → TiesChangeNoCover rule
ties_change_no_cover rule p shown ties others mode outcomes tree k = same_cover rule p shown ties others mode outcomes tree k

pub ties_change_no_whole_cover : (p : Listing) (shown : Shown) (ties others : List ℕ) (mode : Machine) (outcomes : List Outcome) (tree : Cover) →
    IsWholeCover (asked_with ties p shown) mode outcomes tree → IsWholeCover (asked_with others p shown) mode outcomes tree
ties_change_no_whole_cover p shown ties others mode outcomes tree is = record {
  valid = ties_change_no_cover Whole p shown ties others mode outcomes tree (empty_sketch p) is.valid;
  neat = is.neat;
  shallow = is.shallow;
}
