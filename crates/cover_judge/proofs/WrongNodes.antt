-- A cover tree that is valid by a rule has no wrong node, and any other has one first wrong node.
use Rattle.cover_judge.proofs.Vocabulary.{◌≡◌, ℕ, zero, suc, List, [], ◌∷◌, length, map, refl, sym, ap, ◌∙◌, subst, Listing, Outcome, Machine, Question, Sketch, Cover, Value, Source, Order, Cycle, Known, Covers, NoCover, MoreCovers, count_covers}
use Rattle.cover_judge.proofs.Vocabulary.{Choice, OpenChoice, Rule, AreChoicesBy, AfterChoicesBy, AreTwo, IsValidCoverBy, AreValidCoversBy, sketch_with, one_list_of_choices_by, NodeFault, Wrong, OutOfMemory, FirstWrongCover, FirstWrongCoverChild, FirstWrongOfTwo, IsWrongNode, IfWrong}
use Rattle.tree_laws.specs.declared.choice.OpenChoice.TheVariants as left

-- the path to the next sibling
abbrev pub next_sibling : List ℕ → List ℕ
next_sibling [] = []
next_sibling (n ∷ path) = suc n ∷ path

-- ---- a node whose children are for the choices of what is open

module _ (rule : Rule) (p : Listing) (mode : Machine) (k : Sketch) (next : OpenChoice) (count : ℕ) (IsWrongChild : List Sketch → ℕ → List ℕ → Type 0) where
  -- what holds of the sketches after its choices holds of them whichever list they are
  same_choices : (P : List Sketch → Type 0) (choices others : List Choice) → AreChoicesBy rule p mode k next choices → AreChoicesBy rule p mode k next others → P (map (sketch_with k) choices) → P (map (sketch_with k) others)
  same_choices P choices others are also = subst (λ cs. P (map (sketch_with k) cs)) (one_list_of_choices_by rule p mode k next choices others are also)

  -- a node with valid children is not wrong
  node_is_not_wrong : (Valid : List Sketch → Type 0) → ((ks : List Sketch) → Valid ks → count ≡ length ks) → ((ks : List Sketch) (n : ℕ) (path : List ℕ) → Valid ks → IsWrongChild ks n path → ⊥) →
      (path : List ℕ) → AfterChoicesBy rule p mode k next Valid → IsWrongNode rule p mode k next count IsWrongChild path → ⊥
  node_is_not_wrong Valid many not_wrong [] (choices, are, valid) none = none (choices, are, many (map (sketch_with k) choices) valid)
  node_is_not_wrong Valid many not_wrong (n ∷ path) (choices, are, valid) (others, also, (as_many, wrong)) =
      not_wrong (map (sketch_with k) others) n path (same_choices Valid choices others are also valid) wrong

  -- one node is the first wrong one
  one_of_node : ((ks : List Sketch) (n m : ℕ) (path other : List ℕ) → IsWrongChild ks n path → IsWrongChild ks m other → n ∷ path ≡ m ∷ other) →
      (path other : List ℕ) → IsWrongNode rule p mode k next count IsWrongChild path → IsWrongNode rule p mode k next count IsWrongChild other → path ≡ other
  one_of_node one [] [] wrong also = refl
  one_of_node one [] (m ∷ other) none (choices, are, (as_many, wrong)) = absurd (none (choices, are, as_many))
  one_of_node one (n ∷ path) [] (choices, are, (as_many, wrong)) none = absurd (none (choices, are, as_many))
  one_of_node one (n ∷ path) (m ∷ other) (choices, are, (as_many, wrong)) (others, are_too, (as_many_too, wrong_too)) =
      one (map (sketch_with k) choices) n m path other wrong (same_choices (λ ks. IsWrongChild ks m other) others choices are_too are wrong_too)

-- ---- two trees

module _ (V W : Sketch → Type 0) (F G : Sketch → List ℕ → Type 0) where
  two_are_two : (ks : List Sketch) → AreTwo V W ks → 2 ≡ length ks
  two_are_two (k ∷ (j ∷ [])) two = refl
  two_are_two ks two = absurd two

  two_are_not_wrong : ((k : Sketch) (path : List ℕ) → V k → F k path → ⊥) → ((k : Sketch) (path : List ℕ) → W k → G k path → ⊥) → (ks : List Sketch) (n : ℕ) (path : List ℕ) → AreTwo V W ks → FirstWrongOfTwo F V G ks n path → ⊥
  two_are_not_wrong first second (k ∷ (j ∷ [])) zero path two wrong = first k path two.0 wrong
  two_are_not_wrong first second (k ∷ (j ∷ [])) (suc zero) path two wrong = second j path two.1 wrong.1
  two_are_not_wrong first second ks n path two wrong = wrong

  one_of_two : ((k : Sketch) (path : List ℕ) → V k → F k path → ⊥) → ((k : Sketch) (path other : List ℕ) → F k path → F k other → path ≡ other) → ((k : Sketch) (path other : List ℕ) → G k path → G k other → path ≡ other) →
      (ks : List Sketch) (n m : ℕ) (path other : List ℕ) → FirstWrongOfTwo F V G ks n path → FirstWrongOfTwo F V G ks m other → n ∷ path ≡ m ∷ other
  one_of_two not_both first second (k ∷ (j ∷ [])) zero zero path other wrong also = ap (λ xs. zero ∷ xs) (first k path other wrong also)
  one_of_two not_both first second (k ∷ (j ∷ [])) zero (suc zero) path other wrong also = absurd (not_both k path also.0 wrong)
  one_of_two not_both first second (k ∷ (j ∷ [])) (suc zero) zero path other wrong also = absurd (not_both k other wrong.0 also)
  one_of_two not_both first second (k ∷ (j ∷ [])) (suc zero) (suc zero) path other wrong also = ap (λ xs. suc zero ∷ xs) (second j path other wrong.1 also.1)
  one_of_two not_both first second (k ∷ (j ∷ [])) (suc (suc n)) m path other wrong also = absurd wrong
  one_of_two not_both first second (k ∷ (j ∷ [])) n (suc (suc m)) path other wrong also = absurd also
  one_of_two not_both first second ks n m path other wrong also = absurd wrong

-- ---- trees

module _ (rule : Rule) (q : Question) (mode : Machine) (outcomes : List Outcome) where
  abbrev Valid : Cover → Sketch → Type 0
  Valid = IsValidCoverBy rule q mode outcomes

  abbrev First : Cover → Sketch → List ℕ → Type 0
  First = FirstWrongCover rule q mode outcomes

  abbrev FirstChild : Covers → List Sketch → ℕ → List ℕ → Type 0
  FirstChild = FirstWrongCoverChild rule q mode outcomes

  many_covers : (trees : Covers) (ks : List Sketch) → AreValidCoversBy rule q mode outcomes trees ks → count_covers trees ≡ length ks
  many_covers NoCover [] valid = refl
  many_covers NoCover (k ∷ ks) valid = absurd valid
  many_covers (MoreCovers tree trees) [] valid = absurd valid
  many_covers (MoreCovers tree trees) (k ∷ ks) valid = ap suc (many_covers trees ks valid.1)

  mutual
    pub valid_is_not_wrong : (tree : Cover) (k : Sketch) (path : List ℕ) → Valid tree k → First tree k path → ⊥
    valid_is_not_wrong (Value t children) k path valid wrong =
        node_is_not_wrong rule q.program mode k (left.Value t) (count_covers children) (FirstChild children) (AreValidCoversBy rule q mode outcomes children) (many_covers children) (valid_has_no_wrong children) path valid wrong
    valid_is_not_wrong (Source read children) k path valid wrong =
        node_is_not_wrong rule q.program mode k (left.Source read) (count_covers children) (FirstChild children) (AreValidCoversBy rule q mode outcomes children) (many_covers children) (valid_has_no_wrong children) path valid wrong
    valid_is_not_wrong (Order first second one other) k path valid wrong =
        node_is_not_wrong rule q.program mode k (left.Order first second) 2 (FirstWrongOfTwo (First one) (Valid one) (First other)) (AreTwo (Valid one) (Valid other)) (two_are_two (Valid one) (Valid other) (First one) (First other))
        (two_are_not_wrong (Valid one) (Valid other) (First one) (First other) (valid_is_not_wrong one) (valid_is_not_wrong other)) path valid wrong
    valid_is_not_wrong (Cycle kind events) k path valid wrong = wrong.1 valid
    valid_is_not_wrong (Known number) k path valid wrong = wrong.1 valid

    valid_has_no_wrong : (trees : Covers) (ks : List Sketch) (n : ℕ) (path : List ℕ) → AreValidCoversBy rule q mode outcomes trees ks → FirstChild trees ks n path → ⊥
    valid_has_no_wrong NoCover ks n path valid wrong = wrong
    valid_has_no_wrong (MoreCovers tree trees) [] n path valid wrong = wrong
    valid_has_no_wrong (MoreCovers tree trees) (k ∷ ks) zero path valid wrong = valid_is_not_wrong tree k path valid.0 wrong
    valid_has_no_wrong (MoreCovers tree trees) (k ∷ ks) (suc n) path valid wrong = valid_has_no_wrong trees ks n path valid.1 wrong.1

  -- so a valid tree is refused for nothing but memory
  pub valid_is_accepted : (tree : Cover) (k : Sketch) (fault : NodeFault) → Valid tree k → IfWrong (First tree k) fault → fault ≡ OutOfMemory
  valid_is_accepted tree k (Wrong path) valid wrong = absurd (valid_is_not_wrong tree k path valid wrong)
  valid_is_accepted tree k OutOfMemory valid wrong = refl

  mutual
    -- one node of a cover tree is the first wrong one
    pub one_wrong_node : (tree : Cover) (k : Sketch) (path other : List ℕ) → First tree k path → First tree k other → path ≡ other
    one_wrong_node (Value t children) k path other wrong also =
        one_of_node rule q.program mode k (left.Value t) (count_covers children) (FirstChild children) (one_wrong_child children) path other wrong also
    one_wrong_node (Source read children) k path other wrong also =
        one_of_node rule q.program mode k (left.Source read) (count_covers children) (FirstChild children) (one_wrong_child children) path other wrong also
    one_wrong_node (Order first second one two) k path other wrong also =
        one_of_node rule q.program mode k (left.Order first second) 2 (FirstWrongOfTwo (First one) (Valid one) (First two))
        (one_of_two (Valid one) (Valid two) (First one) (First two) (valid_is_not_wrong one) (one_wrong_node one) (one_wrong_node two)) path other wrong also
    one_wrong_node (Cycle kind events) k path other wrong also = wrong.0 ∙ sym also.0
    one_wrong_node (Known number) k path other wrong also = wrong.0 ∙ sym also.0

    one_wrong_child : (trees : Covers) (ks : List Sketch) (n m : ℕ) (path other : List ℕ) → FirstChild trees ks n path → FirstChild trees ks m other → n ∷ path ≡ m ∷ other
    one_wrong_child NoCover ks n m path other wrong also = absurd wrong
    one_wrong_child (MoreCovers tree trees) [] n m path other wrong also = absurd wrong
    one_wrong_child (MoreCovers tree trees) (k ∷ ks) zero zero path other wrong also = ap (λ xs. zero ∷ xs) (one_wrong_node tree k path other wrong also)
    one_wrong_child (MoreCovers tree trees) (k ∷ ks) zero (suc m) path other wrong also = absurd (valid_is_not_wrong tree k path also.0 wrong)
    one_wrong_child (MoreCovers tree trees) (k ∷ ks) (suc n) zero path other wrong also = absurd (valid_is_not_wrong tree k other wrong.0 also)
    one_wrong_child (MoreCovers tree trees) (k ∷ ks) (suc n) (suc m) path other wrong also = ap next_sibling (one_wrong_child trees ks n m path other wrong.1 also.1)
