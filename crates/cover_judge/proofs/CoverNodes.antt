-- What a node of a cover tree says, and what its children are judged for.
use Rattle.cover_judge.proofs.Vocabulary.{◌≡◌, ℕ, zero, suc, ◌≤◌, List, [], ◌∷◌, length, map, take, drop, sym, ◌∙◌, subst, arith, Result, IsErrAnd, IfErr, OnOk, length-map, length-take-le, NodeFault, IfWrong, Outcome, Shown, asked, ProgramSketch, Sketch, mode_in, AccessId}
use Rattle.cover_judge.proofs.Vocabulary.{Cover, Order, NoCover, MoreCovers, covers_of, count_covers, first_tree, AreTwo, AreValidCoversBy, IsValidCoverBy, Choice, OpenChoice, Rule, AreChoicesOfBy, FirstWrongCover, FirstWrongCoverChild, FirstWrongOfTwo, HasNotSoMany, sketch_with, IsAtRoot, IsBelow}
use Rattle.cover_judge.proofs.Vocabulary.{IsValidAfter, IsWrongAt, AreValidAfter, IsWrongChild, AreValidFor, IsWrongFor}
use Rattle.cert_forest.proofs.NodeLaws.{covers_count}
use Rattle.tree_laws.specs.declared.choice.OpenChoice.TheVariants as left
use Rattle.cover_judge.proofs.{Answered.err_up, Answered.if_err, Answered.on_ok, ChoicesJudged.if_wrong}

module _ (rule : Rule) (shown : Shown) (outcomes : List Outcome) (s : ProgramSketch) (next : OpenChoice) where
  -- as many children as the walk has of them
  many : (count : ℕ) (walk : List Cover) → count ≤ length walk → count_covers (covers_of (take count walk)) ≡ count
  many count walk fits = covers_count (take count walk) ∙ length-take-le count walk fits

  -- the node itself is wrong
  pub wrong_by_root : (r : Result (Unit {0}) NodeFault) (fault : NodeFault) (count : ℕ) (walk : List Cover) → count ≤ length walk → IsErrAnd r (λ y. y ≡ fault) →
      IfWrong (IsAtRoot (HasNotSoMany rule s.program (mode_in s) s.chosen next count)) fault → IfErr r (IfWrong (IsWrongFor rule shown outcomes s next (take count walk)))
  wrong_by_root r fault count walk fits up wrong =
      let At = IsWrongFor rule shown outcomes s next (take count walk) in
      err_up r fault (IfWrong At) up (if_wrong (IsAtRoot (HasNotSoMany rule s.program (mode_in s) s.chosen next count)) At fault at_root wrong)
    where
      at_root : (path : List ℕ) → IsAtRoot (HasNotSoMany rule s.program (mode_in s) s.chosen next count) path → IsWrongFor rule shown outcomes s next (take count walk) path
      at_root path (at, none) = subst (IsWrongFor rule shown outcomes s next (take count walk)) (sym at) (subst (HasNotSoMany rule s.program (mode_in s) s.chosen next) (sym (many count walk fits)) none)

  -- or its children decide
  module _ (choices : List Choice) (are : AreChoicesOfBy rule s next choices) (r : Result (Unit {0}) NodeFault) (trees : List Cover) where
    pub valid_by_children : OnOk r (AreValidAfter rule shown outcomes s trees choices) → OnOk r (AreValidFor rule shown outcomes s next trees)
    valid_by_children = on_ok r (AreValidAfter rule shown outcomes s trees choices) (AreValidFor rule shown outcomes s next trees) (λ valid. (choices, are, valid))

    pub wrong_by_child : length trees ≡ length choices → IfErr r (IfWrong (IsBelow (IsWrongChild rule shown outcomes s trees choices))) → IfErr r (IfWrong (IsWrongFor rule shown outcomes s next trees))
    wrong_by_child as_many =
        if_err r (IfWrong (IsBelow (IsWrongChild rule shown outcomes s trees choices))) (IfWrong (IsWrongFor rule shown outcomes s next trees))
        (λ fault. if_wrong (IsBelow (IsWrongChild rule shown outcomes s trees choices)) (IsWrongFor rule shown outcomes s next trees) fault below)
      where
        below : (path : List ℕ) → IsBelow (IsWrongChild rule shown outcomes s trees choices) path → IsWrongFor rule shown outcomes s next trees path
        below [] wrong = absurd wrong
        below (number ∷ path) wrong = (choices, are, (covers_count trees ∙ as_many ∙ sym (length-map choices (sketch_with s.chosen)), wrong))

-- ---- the two children of a node for an order

module _ (rule : Rule) (shown : Shown) (outcomes : List Outcome) (s : ProgramSketch) (first second : AccessId) where
  abbrev Valid : Cover → Sketch → Type 0
  Valid = IsValidCoverBy rule (asked s.program shown) (mode_in s) outcomes

  abbrev Wrong : Cover → Sketch → List ℕ → Type 0
  Wrong = FirstWrongCover rule (asked s.program shown) (mode_in s) outcomes

  abbrev both : OpenChoice
  both = left.Order first second

  module _ (one other : Cover) where
    are_two : (ks : List Sketch) → AreValidCoversBy rule (asked s.program shown) (mode_in s) outcomes (MoreCovers one (MoreCovers other NoCover)) ks → AreTwo (Valid one) (Valid other) ks
    are_two [] valid = absurd valid
    are_two (k ∷ []) valid = absurd valid.1
    are_two (k ∷ (j ∷ [])) valid = (valid.0, valid.1.0)
    are_two (k ∷ (j ∷ (i ∷ ks))) valid = absurd valid.1.1

    wrong_of_two : (ks : List Sketch) (number : ℕ) (path : List ℕ) → 2 ≡ length ks → FirstWrongCoverChild rule (asked s.program shown) (mode_in s) outcomes (MoreCovers one (MoreCovers other NoCover)) ks number path →
        FirstWrongOfTwo (Wrong one) (Valid one) (Wrong other) ks number path
    wrong_of_two (k ∷ (j ∷ [])) zero path as_many wrong = wrong
    wrong_of_two (k ∷ (j ∷ [])) (suc zero) path as_many wrong = wrong
    wrong_of_two (k ∷ (j ∷ [])) (suc (suc n)) path as_many wrong = absurd wrong.1.1
    wrong_of_two ks number path as_many wrong = absurd (omega arith)

    wrong_node : (path : List ℕ) → IsWrongFor rule shown outcomes s both (one ∷ (other ∷ [])) path → IsWrongAt rule shown outcomes s (Order first second one other) s.chosen path
    wrong_node [] none = none
    wrong_node (number ∷ path) (choices, are, (as_many, wrong)) = (choices, are, (as_many, wrong_of_two (map (sketch_with s.chosen) choices) number path as_many wrong))

  module _ (r : Result (Unit {0}) NodeFault) where
    pub order_valid : (walk : List Cover) → 2 ≤ length walk → OnOk r (AreValidFor rule shown outcomes s both (take 2 walk)) →
        OnOk r (IsValidAfter rule shown outcomes s (Order first second (first_tree walk) (first_tree (drop 1 walk))) s.chosen)
    order_valid (one ∷ (other ∷ walk)) fits =
        on_ok r (AreValidFor rule shown outcomes s both (one ∷ (other ∷ []))) (IsValidAfter rule shown outcomes s (Order first second one other) s.chosen)
        (λ (choices, are, valid). (choices, are, are_two one other (map (sketch_with s.chosen) choices) valid))
    order_valid walk fits = absurd (omega arith)

    pub order_wrong : (walk : List Cover) → 2 ≤ length walk → IfErr r (IfWrong (IsWrongFor rule shown outcomes s both (take 2 walk))) →
        IfErr r (IfWrong (IsWrongAt rule shown outcomes s (Order first second (first_tree walk) (first_tree (drop 1 walk))) s.chosen))
    order_wrong (one ∷ (other ∷ walk)) fits =
        let For = IsWrongFor rule shown outcomes s both (one ∷ (other ∷ [])) in
        let At = IsWrongAt rule shown outcomes s (Order first second one other) s.chosen in
        if_err r (IfWrong For) (IfWrong At) (λ fault. if_wrong For At fault (wrong_node one other))
    order_wrong walk fits = absurd (omega arith)
