-- The values that a location may hold, of which each has a row of the locations that may hold it.
use Rattle.std.proofs.Common.{◌≡◌, ℕ, zero, suc, ◌+◌, ◌<◌, ◌≤◌, ◌++◌, Bool, true, false, List, [], ◌∷◌, length, drop, take, get_or, slice_index, slice_get, Some, Contains, refl, sym, ap, ◌∙◌, subst, inl, inr, arith, append_assoc, if◌then◌else◌}
use Rattle.std.proofs.lemmas.List.{append-nil, at_drop_all, drop_more, take_more}
use Rattle.std.proofs.lemmas.List.Kept.{AllPairs-from_increasing}
use Rattle.std.proofs.lemmas.Slice.Zip.{all_zipped_more}
use Rattle.std.specs.List.{AllZip}
use Rattle.std.specs.List.Sorted.{IsStrictlyIncreasing}
use Rattle.tso_program.specs.declared.listing.Listing.{Listing}
use Rattle.tso_machine.specs.HeldValues.{Location, MayHold}
use Rattle.candidate_executions.proofs.Orders.Lists.{none_here, first_or_later, first_is_here, later_is_here, get_cases}
use Rattle.held_values.specs.HeldRows.{has, AreHolders}
use Rattle.held_values.specs.HeldLists.{AreHolderRows, HasAll, IsHeldList, held_of}

-- ---- ascending lists

tail_rises : (v : ℕ) (vs : List ℕ) → IsStrictlyIncreasing (v ∷ vs) → IsStrictlyIncreasing vs
tail_rises v vs inc k h =
    let e : suc k + 1 ≡ suc (k + 1) = omega arith in
    subst (λ (j : ℕ). slice_index (v ∷ vs) (suc k) < slice_index (v ∷ vs) j) e (inc (suc k) (omega (arith, h)))

-- the first comes before each later one
first_below : (v : ℕ) (vs : List ℕ) → IsStrictlyIncreasing (v ∷ vs) → (x : ℕ) → Contains vs x → v < x
first_below v vs inc x (k, h, e) = subst (λ (y : ℕ). v < y) e (AllPairs-from_increasing (v ∷ vs) inc 0 (suc k) x (omega arith) (omega (arith, h)))

rises : (v : ℕ) (ys : List ℕ) → ((x : ℕ) → Contains ys x → v < x) → IsStrictlyIncreasing ys → IsStrictlyIncreasing (v ∷ ys)
rises v [] below inc k h = absurd (omega (arith, h))
rises v (y ∷ ys) below inc zero h = below y (first_is_here y ys)
rises v (y ∷ ys) below inc (suc k) h =
    let e : suc k + 1 ≡ suc (k + 1) = omega arith in
    subst (λ (j : ℕ). slice_index (y ∷ ys) k < slice_index (v ∷ y ∷ ys) j) (sym e) (inc k (omega (arith, h)))

-- ---- those of the values that a location may hold

held_in : (values : List ℕ) (table : List (List Bool)) (l x : ℕ) → Contains (held_of values table l) x → Contains values x
held_in (v ∷ values) (row ∷ table) l x here = go (has row l) (held_in values table l x) here
  where
    go : (b : Bool) → (Contains (held_of values table l) x → Contains values x) → Contains (if b then v ∷ held_of values table l else held_of values table l) x → Contains (v ∷ values) x
    go true more h = elim (first_or_later v (held_of values table l) x h) [
      | inl e ↦ subst (Contains (v ∷ values)) e (first_is_here v values)
      | inr later ↦ later_is_here v values x (more later)
    ]
    go false more h = later_is_here v values x (more h)
held_in [] table l x here = absurd (none_here x here)
held_in (v ∷ values) [] l x here = absurd (none_here x here)

ascending_of : (values : List ℕ) (table : List (List Bool)) (l : ℕ) → IsStrictlyIncreasing values → IsStrictlyIncreasing (held_of values table l)
ascending_of (v ∷ values) (row ∷ table) l inc k low = go (has row l) (ascending_of values table l (tail_rises v values inc)) k low
  where
    go : (b : Bool) → IsStrictlyIncreasing (held_of values table l) → IsStrictlyIncreasing (if b then v ∷ held_of values table l else held_of values table l)
    go true rest = rises v (held_of values table l) (λ x here. first_below v values inc x (held_in values table l x here)) rest
    go false rest = rest
ascending_of [] table l inc k low = absurd (omega (arith, low))
ascending_of (v ∷ values) [] l inc k low = absurd (omega (arith, low))

module _ (p : Listing) (l : ℕ) (there : l < length p.memory) where
  sound_of : (values : List ℕ) (table : List (List Bool)) → AreHolderRows p values table → (x : ℕ) → Contains (held_of values table l) x → MayHold p (Location l) x
  sound_of (v ∷ values) (row ∷ table) are x here = go (has row l) refl (sound_of values table are.1 x) here
    where
      go : (b : Bool) → has row l ≡ b → (Contains (held_of values table l) x → MayHold p (Location l) x) → Contains (if b then v ∷ held_of values table l else held_of values table l) x → MayHold p (Location l) x
      go true bit more h = elim (first_or_later v (held_of values table l) x h) [
        | inl e ↦ subst (MayHold p (Location l)) e ((are.0 l there).0 bit)
        | inr later ↦ more later
      ]
      go false bit more h = more h
  sound_of [] table are x here = absurd (none_here x here)
  sound_of (v ∷ values) [] are x here = absurd (none_here x here)

  all_of : (values : List ℕ) (table : List (List Bool)) → AreHolderRows p values table → (x : ℕ) → Contains values x → MayHold p (Location l) x → Contains (held_of values table l) x
  all_of (v ∷ values) (row ∷ table) are x here held = go (has row l) refl (λ later. all_of values table are.1 x later held)
    where
      go : (b : Bool) → has row l ≡ b → (Contains values x → Contains (held_of values table l) x) → Contains (if b then v ∷ held_of values table l else held_of values table l) x
      go true bit more = elim (first_or_later v values x here) [
        | inl e ↦ subst (Contains (v ∷ held_of values table l)) e (first_is_here v (held_of values table l))
        | inr later ↦ later_is_here v (held_of values table l) x (more later)
      ]
      go false bit more = elim (first_or_later v values x here) [
        | inl e ↦ absurd (let no : false ≡ true = sym bit ∙ (are.0 l there).1 (subst (MayHold p (Location l)) (sym e) held) in cc)
        | inr later ↦ more later
      ]
  all_of [] table are x here held = absurd (none_here x here)
  all_of (v ∷ values) [] are x here held = absurd are

  -- they are its list
  pub is_held_list : (values : List ℕ) (table : List (List Bool)) → IsStrictlyIncreasing values → HasAll p values → AreHolderRows p values table → IsHeldList p l (held_of values table l)
  is_held_list values table inc all are = record {
    ascending = ascending_of values table l inc;
    exact = λ x. (sound_of values table are x, λ held. all_of values table are x (all (Location l) x held) held);
  }

-- ---- as they are gathered

module _ (values : List ℕ) (table : List (List Bool)) (l n d : ℕ) (e : List Bool) (low : n < length values) (few : n < length table) where
  abbrev rest : List ℕ
  rest = held_of (drop (n + 1) values) (drop (n + 1) table) l

  split : held_of (drop n values) (drop n table) l ≡ (if has (get_or table n e) l then get_or values n d ∷ rest else rest)
  split = λ i. held_of (drop_more values n d low i) (drop_more table n e few i) l

  pub one_held : (held new whole : List ℕ) → has (get_or table n e) l ≡ true → new ≡ held ++ get_or values n d ∷ [] → held ++ held_of (drop n values) (drop n table) l ≡ whole → new ++ rest ≡ whole
  one_held held new whole bit is so_far =
      ap (λ (xs : List ℕ). xs ++ rest) is ∙ (append_assoc held (get_or values n d ∷ []) rest
      ∙ (ap (λ (xs : List ℕ). held ++ xs) (sym (split ∙ ap (λ (b : Bool). if b then get_or values n d ∷ rest else rest) bit)) ∙ so_far))

  pub none_held : (held whole : List ℕ) → has (get_or table n e) l ≡ false → held ++ held_of (drop n values) (drop n table) l ≡ whole → held ++ rest ≡ whole
  none_held held whole bit so_far = ap (λ (xs : List ℕ). held ++ xs) (sym (split ∙ ap (λ (b : Bool). if b then get_or values n d ∷ rest else rest) bit)) ∙ so_far

-- once all values have been gone through
pub all_held : (values : List ℕ) (table : List (List Bool)) (l n : ℕ) (held whole : List ℕ) → length values ≤ n → held ++ held_of (drop n values) (drop n table) l ≡ whole → held ≡ whole
all_held values table l n held whole past so_far =
    let none : held_of (drop n values) (drop n table) l ≡ [] = at_drop_all (λ (vs : List ℕ). held_of vs (drop n table) l) values n past in
    sym (append-nil held) ∙ (ap (λ (xs : List ℕ). held ++ xs) (sym none) ∙ so_far)

-- the rows so far, and that of one value more
pub rows_more : (p : Listing) (values : List ℕ) (table new : List (List Bool)) (n d : ℕ) (row : List Bool) → n < length values → new ≡ table ++ row ∷ [] → AreHolderRows p (take n values) table → AreHolders p (get_or values n d) row →
    AreHolderRows p (take (n + 1) values) new
rows_more p values table new n d row low is so_far one =
    subst (λ (vs : List ℕ). AllZip (AreHolders p) vs new) (sym (take_more values n d low))
    (subst (λ (rows : List (List Bool)). AllZip (AreHolders p) (take n values ++ get_or values n d ∷ []) rows) (sym is)
    (all_zipped_more (AreHolders p) (take n values) table (get_or values n d) row so_far one))

-- the lists so far, and one more
pub lists_more : (p : Listing) (lists : List (List ℕ)) (n : ℕ) (new : List ℕ) → length lists ≡ n → ((l : ℕ) (values : List ℕ) → slice_get lists l ≡ Some values → IsHeldList p l values) → IsHeldList p n new →
    (l : ℕ) (values : List ℕ) → slice_get (lists ++ new ∷ []) l ≡ Some values → IsHeldList p l values
lists_more p lists n new many made is l values e = elim (get_cases lists new l values e) [
  | inl a ↦ made l values a
  | inr b ↦ subst (λ (x : List ℕ). IsHeldList p l x) (sym b.1) (subst (λ (k : ℕ). IsHeldList p k new) (sym many ∙ sym b.0) is)
]
