-- A thread's labels: the first of a position names it, and in text order they are those of its places one after another.
use Rattle.litmus_text.proofs.Vocabulary.{◌≡◌, ◌≢◌, ℕ, zero, suc, ◌+◌, ◌<◌, ◌≤◌, Bool, true, false, cond, List, [], ◌∷◌, ◌++◌, length, map, Option, Some, None, refl, sym, ap, ◌∙◌, subst, inl, inr, arith, cases_eq, nat_lt, is_some, slice_index_or}
use Rattle.litmus_text.proofs.Vocabulary.{AllByRecursion, cons_option, flat_map, range_with_len, option_map_or, bytes_eq, cases_Bool, lt-ltb, bytes_eq-Decides, IsNoneOf, NoneTwice, CodeLabel, label_in, position_in, IsLabelName, named_at, label_names_at}
use Rattle.litmus_text.proofs.Vocabulary.{label_name_at, false_from_ne_true}
use Rattle.litmus_text.proofs.LabelPlaces.{here, elsewhere}

abbrev pub label_name : CodeLabel → List ℕ
label_name l = l.name

-- some label stands at the position
abbrev pub SomeAt : List CodeLabel → ℕ → Type 0
SomeAt labels k = 0 < length (label_names_at labels k)

-- ---- the first label of a position

-- whether two numbers are the same, by cases
pub same_or_not : (C : Type 0) (j k : ℕ) → (j ≡ k → C) → ((j ≡ k → ⊥) → C) → C
same_or_not C j k same other = elim (cases_eq j k) [ inl e ↦ same e | inr n ↦ other n ]

at_here : (l : CodeLabel) (labels : List CodeLabel) (k : ℕ) → l.position ≡ k → label_names_at (l ∷ labels) k ≡ l.name ∷ label_names_at labels k
at_here l labels k e = ap (λ (o : Option (List ℕ)). cons_option o (label_names_at labels k)) (here k l e)

at_others : (l : CodeLabel) (labels : List CodeLabel) (k : ℕ) → (l.position ≡ k → ⊥) → label_names_at (l ∷ labels) k ≡ label_names_at labels k
at_others l labels k other = ap (λ (o : Option (List ℕ)). cons_option o (label_names_at labels k)) (elsewhere k l other)

abbrev first : List (List ℕ) → List ℕ
first ns = slice_index_or ns 0 []

-- it is not any of the names that stand nowhere
not_among : (x : List ℕ) (labels : List CodeLabel) (k : ℕ) → IsNoneOf x (map label_name labels) → SomeAt labels k → x ≢ label_name_at labels k
not_among x [] k h some = absurd (omega (arith, some))
not_among x (l ∷ labels) k h some =
    same_or_not (x ≢ label_name_at (l ∷ labels) k) l.position k
    (λ at e. h.0 (e ∙ ap first (at_here l labels k at)))
    (λ other e. not_among x labels k h.1 (subst (λ (ns : List (List ℕ)). 0 < length ns) (at_others l labels k other) some) (e ∙ ap first (at_others l labels k other)))

-- a label of the position
abbrev StandsAt : ℕ → Option CodeLabel → Type 0
StandsAt k None = ⊥
StandsAt k (Some l) = l.position ≡ k

-- the label that it names stands at the position
pub label_there : (labels : List CodeLabel) (k : ℕ) → NoneTwice (map label_name labels) → SomeAt labels k → StandsAt k (label_in labels (label_name_at labels k))
label_there [] k once some = absurd (omega (arith, some))
label_there (l ∷ labels) k once some =
    let goal : List ℕ → Bool → Type 0 = λ name b. StandsAt k (cond b (Some l) (label_in labels name)) in
    same_or_not (StandsAt k (label_in (l ∷ labels) (label_name_at (l ∷ labels) k))) l.position k
    (λ at.
    let same : bytes_eq l.name (label_name_at (l ∷ labels) k) ≡ true = (bytes_eq-Decides l.name (label_name_at (l ∷ labels) k)).1 (sym (ap first (at_here l labels k at))) in
    subst (goal (label_name_at (l ∷ labels) k)) (sym same) at)
    (λ other.
    let rest : SomeAt labels k = subst (λ (ns : List (List ℕ)). 0 < length ns) (at_others l labels k other) some in
    let name : label_name_at labels k ≡ label_name_at (l ∷ labels) k = sym (ap first (at_others l labels k other)) in
    let apart : bytes_eq l.name (label_name_at labels k) ≡ false =
    false_from_ne_true (bytes_eq l.name (label_name_at labels k)) (λ t. not_among l.name labels k once.0 rest ((bytes_eq-Decides l.name (label_name_at labels k)).0 t)) in
    subst (λ (n : List ℕ). goal n (bytes_eq l.name n)) name (subst (goal (label_name_at labels k)) (sym apart) (label_there labels k once.1 rest)))

pub found_there : (k : ℕ) (o : Option CodeLabel) → StandsAt k o → (option_map_or (λ l. l.position) o 0 ≡ k) × (is_some o ≡ true)
found_there k None h = absurd h
found_there k (Some l) h = (h, refl)

-- ---- names that may stand

abbrev pub AreGoodLabels : List CodeLabel → Type 0
AreGoodLabels labels = AllByRecursion (λ (l : CodeLabel). IsLabelName l.name) labels

pub labels_good : (labels : List CodeLabel) (k : ℕ) → AreGoodLabels labels → AllByRecursion IsLabelName (label_names_at labels k)
labels_good [] k h = tt
labels_good (l ∷ labels) k h =
    let all : List (List ℕ) → Type 0 = λ ns. AllByRecursion IsLabelName ns in
    same_or_not (all (label_names_at (l ∷ labels) k)) l.position k
    (λ at. subst all (sym (at_here l labels k at)) (h.0, labels_good labels k h.1))
    (λ other. subst all (sym (at_others l labels k other)) (labels_good labels k h.1))

pub first_good : (ns : List (List ℕ)) → 0 < length ns → AllByRecursion IsLabelName ns → IsLabelName (first ns)
first_good [] some h = absurd (omega (arith, some))
first_good (n ∷ ns) some h = h.0

-- a label that is found stands at its position
pub found_stands : (labels : List CodeLabel) (name : List ℕ) → is_some (label_in labels name) ≡ true → SomeAt labels (position_in labels name)
found_stands [] name h = absurd cc
found_stands (l ∷ labels) name h =
    let rest : Option CodeLabel = label_in labels name in
    let at : Bool → ℕ = λ b. option_map_or (λ (m : CodeLabel). m.position) (cond b (Some l) rest) 0 in
    elim (cases_Bool (bytes_eq l.name name)) [
      | inl t ↦
          let there : l.position ≡ at (bytes_eq l.name name) = sym (ap at t) in
          let more : 0 < length (label_names_at (l ∷ labels) (at (bytes_eq l.name name))) = subst (λ (ns : List (List ℕ)). 0 < length ns) (sym (at_here l labels (at (bytes_eq l.name name)) there)) (omega arith) in
          more
      | inr f ↦
          let found : is_some rest ≡ true = sym (ap (λ (b : Bool). is_some (cond b (Some l) rest)) f) ∙ h in
          let before : SomeAt labels (position_in labels name) = found_stands labels name found in
          let same : position_in labels name ≡ at (bytes_eq l.name name) = sym (ap at f) in
          (longer (named_at (at (bytes_eq l.name name)) l) (label_names_at labels (at (bytes_eq l.name name))) (subst (SomeAt labels) same before))
    ]
  where
    longer : (o : Option (List ℕ)) (ns : List (List ℕ)) → 0 < length ns → 0 < length (cons_option o ns)
    longer None ns h = h
    longer (Some x) ns h = omega arith

-- ---- labels in the order of their positions

-- from position k on, up to position n
abbrev pub Ascending : ℕ → ℕ → List CodeLabel → Type 0
Ascending k n [] = Unit {0}
Ascending k n (l ∷ labels) = (k ≤ l.position) × (l.position ≤ n) × Ascending l.position n labels

pub ascending_from : (j k n : ℕ) (labels : List CodeLabel) → j ≤ k → Ascending k n labels → Ascending j n labels
ascending_from j k n [] le h = tt
ascending_from j k n (l ∷ labels) le h = (omega (arith, h.0), h.1, h.2)

-- before position n
abbrev pub Before : ℕ → List CodeLabel → Type 0
Before n labels = AllByRecursion (λ (l : CodeLabel). l.position < n) labels

pub none_at_end : (k n : ℕ) (labels : List CodeLabel) → Ascending k n labels → nat_lt 0 (length (label_names_at labels n)) ≡ false → Before n labels
none_at_end k n [] h none = tt
none_at_end k n (l ∷ labels) h none =
    same_or_not (Before n (l ∷ labels)) l.position n
    (λ at.
    let some : nat_lt 0 (length (l.name ∷ label_names_at labels n)) ≡ true = lt-ltb 0 (length (l.name ∷ label_names_at labels n)) (omega arith) in
    let clash : true ≡ false = sym some ∙ sym (ap (λ (ns : List (List ℕ)). nat_lt 0 (length ns)) (at_here l labels n at)) ∙ none in
    absurd cc)
    (λ other.
    let le : l.position ≤ n = h.1 in
    let ne : l.position ≢ n = other in
    (omega arith, none_at_end l.position n labels h.2 (sym (ap (λ (ns : List (List ℕ)). nat_lt 0 (length ns)) (at_others l labels n other)) ∙ none)))

pub before_more : (k n m : ℕ) (labels : List CodeLabel) → Ascending k n labels → n < m → Before m labels
before_more k n m [] h lt = tt
before_more k n m (l ∷ labels) h lt = (omega (arith, h.1), before_more l.position n m labels h.2 lt)

-- none stands past all
pub none_past : (k n r : ℕ) (labels : List CodeLabel) → Ascending k n labels → n < r → label_names_at labels r ≡ []
none_past k n r [] h lt = refl
none_past k n r (l ∷ labels) h lt = at_others l labels r (λ e. absurd (omega (arith, e, h.1, lt))) ∙ none_past l.position n r labels h.2 lt

none_before : (k n r : ℕ) (labels : List CodeLabel) → Ascending k n labels → r < k → label_names_at labels r ≡ []
none_before k n r [] h lt = refl
none_before k n r (l ∷ labels) h lt =
    at_others l labels r (λ e. absurd (omega (arith, e, h.0, lt))) ∙ none_before l.position n r labels h.2 (omega (arith, h.0, lt))

abbrev stood : ℕ → List ℕ → CodeLabel
stood r name = record { name = name; position = r }

-- those of a position
abbrev pub standing : List CodeLabel → ℕ → List CodeLabel
standing labels r = map (stood r) (label_names_at labels r)

standing_here : (l : CodeLabel) (labels : List CodeLabel) (r : ℕ) → l.position ≡ r → standing (l ∷ labels) r ≡ l ∷ standing labels r
standing_here l labels r e = ap (map (stood r)) (at_here l labels r e) ∙ (λ i. record { name = l.name; position = sym e i } ∷ standing labels r)

standing_others : (l : CodeLabel) (labels : List CodeLabel) (r : ℕ) → (l.position ≡ r → ⊥) → standing (l ∷ labels) r ≡ standing labels r
standing_others l labels r other = ap (map (stood r)) (at_others l labels r other)

same_later : (l : CodeLabel) (labels : List CodeLabel) (a m : ℕ) → l.position < a → flat_map (standing (l ∷ labels)) (range_with_len a m) ≡ flat_map (standing labels) (range_with_len a m)
same_later l labels a zero lt = refl
same_later l labels a (suc m) lt =
    ap (λ (ls : List CodeLabel). ls ++ flat_map (standing (l ∷ labels)) (range_with_len (a + 1) m)) (standing_others l labels a (λ e. absurd (omega (arith, e, lt))))
    ∙ ap (λ (ls : List CodeLabel). standing labels a ++ ls) (same_later l labels (a + 1) m (omega (arith, lt)))

first_standing : (l : CodeLabel) (labels : List CodeLabel) (n a m : ℕ) → a ≤ l.position → l.position < a + m → Ascending l.position n labels
    → flat_map (standing (l ∷ labels)) (range_with_len a m) ≡ l ∷ flat_map (standing labels) (range_with_len a m)
first_standing l labels n a zero le lt h = absurd (omega arith)
first_standing l labels n a (suc m) le lt h =
    let rest : List ℕ = range_with_len (a + 1) m in
    same_or_not (flat_map (standing (l ∷ labels)) (range_with_len a (suc m)) ≡ l ∷ flat_map (standing labels) (range_with_len a (suc m))) l.position a
    (λ at.
    ap (λ (ls : List CodeLabel). ls ++ flat_map (standing (l ∷ labels)) rest) (standing_here l labels a at)
    ∙ ap (λ (ls : List CodeLabel). l ∷ (standing labels a ++ ls)) (same_later l labels (a + 1) m (omega (arith, at))))
    (λ other.
    let ne : l.position ≢ a = other in
    let none : standing labels a ≡ [] = ap (map (stood a)) (none_before l.position n a labels h (omega arith)) in
    ap (λ (ls : List CodeLabel). ls ++ flat_map (standing (l ∷ labels)) rest) (standing_others l labels a other ∙ none)
    ∙ first_standing l labels n (a + 1) m (omega arith) (omega arith) h
    ∙ ap (λ (ls : List CodeLabel). l ∷ (ls ++ flat_map (standing labels) rest)) (sym none))

none_standing : (a m : ℕ) → flat_map (standing []) (range_with_len a m) ≡ []
none_standing a zero = refl
none_standing a (suc m) = none_standing (a + 1) m

-- position after position, they are all
pub all_standing : (labels : List CodeLabel) (k n m : ℕ) → Ascending k n labels → Before m labels → flat_map (standing labels) (range_with_len 0 m) ≡ labels
all_standing [] k n m h before = none_standing 0 m
all_standing (l ∷ labels) k n m h before =
    let within : l.position < 0 + m = omega (arith, before.0) in
    first_standing l labels n 0 m (omega arith) within h.2 ∙ ap (λ (ls : List CodeLabel). l ∷ ls) (all_standing labels l.position n m h.2 before.1)
