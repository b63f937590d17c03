-- Each node of the record of a search that is done stands where the walk for its region ends.
use Rattle.hunt_board.proofs.Vocabulary.{◌≡◌, ◌≢◌, ℕ, zero, suc, ◌+◌, ◌<◌, false, true≢false, List, [], ◌∷◌, Option, Some, None, cond, refl, sym, ap, ◌∙◌, subst, inl, inr, arith, position_from, AllPairs, slice_get, same_Some, none-some, Region, Foreign, Entry}
use Rattle.hunt_board.proofs.Vocabulary.{Status, Split, Outcome, IsOutcome, finished_state, SetOfGaps, IsGapSet, all_sets, with_gap, without_gap, IsInRegion, child_regions, HasNoneOf, open_gaps, open_exact, open_ascending, Facts, facts_of, WalkLeads}
use Rattle.hunt_board.proofs.Vocabulary.{StandsOnlyAt, ends, goes, child_by, child_in, child_of}
use Rattle.std.specs.Option.{option_map}
use Rattle.std.specs.FinSet as set
use Rattle.std.proofs.lemmas.List.Kept.{AllPairs-from_increasing}
use Rattle.search_core.proofs.{Lists.first_is_here, Lists.later_is_here, Regions.new_or_old, Regions.true_or_false, Regions.in_root}
use Rattle.search_core.proofs.{Sets.small_set, Working.kept_old, Working.has_new, Working.not_again, Working.later}
use Rattle.hunt_board.proofs.Parents.{IsChildAt, HaveParents, parents_of}

-- a walk ends at one place
pub same_end : (entries : List Entry) (n : Region) (place a b : ℕ) → WalkLeads entries n place a → WalkLeads entries n place b → a ≡ b
same_end entries n place a b (ends _ none) (ends _ none') = refl
same_end entries n place a b (ends _ none) (goes _ child _ some rest) = absurd (none-some child (sym none ∙ some))
same_end entries n place a b (goes _ child _ some rest) (ends _ none) = absurd (none-some child (sym none ∙ some))
same_end entries n place a b (goes _ child _ some rest) (goes _ child' _ some' rest') =
    same_end entries n child a b rest (subst (λ k. WalkLeads entries n k b) (sym (same_Some child child' (sym some ∙ some'))) rest')

-- a gap that is not there, and not the new one, is not there then
still_missing : (s : SetOfGaps) (gap q : ℕ) → gap ≢ q → set.contains s q ≡ false → set.contains (set.insert s gap) q ≡ false
still_missing s gap q differ missing = elim (true_or_false (set.contains (set.insert s gap) q)) [
  | inr none ↦ none
  | inl there ↦ elim (new_or_old s gap q there) [ inl same ↦ absurd (differ same) | inr old ↦ absurd (true≢false (sym old ∙ missing)) ]
]

-- a set in the region of a child is in that of its parent, and the child is that of the first of the gaps that the set has
in_child : (n : Region) (gaps : List ℕ) (i : ℕ) (c : Region) (other : SetOfGaps) (k : ℕ) → slice_get (child_regions n gaps) i ≡ Some c → IsInRegion c other →
    IsInRegion n other × (position_from (set.contains other) k gaps ≡ Some (k + i))
in_child n [] i c other k e inside = absurd (none-some c e)
in_child n (gap ∷ gaps) zero c other k e inside =
    let here : IsInRegion (with_gap n gap) other = subst (λ (d : Region). IsInRegion d other) (sym (same_Some (with_gap n gap) c e)) inside in (
      record { holds = λ q h. here.holds q (kept_old n.must gap q h); avoids = here.avoids },
      ap (λ b. cond b (Some k) (position_from (set.contains other) (k + 1) gaps)) (here.holds gap (has_new n.must gap)) ∙ ap (λ (j : ℕ). Some j) (omega arith),
    )
in_child n (gap ∷ gaps) (suc i) c other k e inside =
    let (rest, first) = in_child (without_gap n gap) gaps i c other (k + 1) e inside in (
      record { holds = rest.holds; avoids = λ q h. rest.avoids q (kept_old n.never gap q h) },
      ap (λ b. cond b (Some k) (position_from (set.contains other) (k + 1) gaps)) (rest.avoids gap (has_new n.never gap)) ∙ first ∙ ap (λ (j : ℕ). Some j) (omega arith),
    )

-- where the set has none of them, there is no first one
no_first : (other : SetOfGaps) (k : ℕ) (gaps : List ℕ) → HasNoneOf other gaps → position_from (set.contains other) k gaps ≡ None
no_first other k [] none = refl
no_first other k (gap ∷ gaps) none =
    ap (λ b. cond b (Some k) (position_from (set.contains other) (k + 1) gaps)) (none gap (first_is_here gap gaps))
    ∙ no_first other (k + 1) gaps (λ q here. none q (later_is_here gap gaps q here))

-- what the sets of a child must have is in its region, where it is so of its parent, which neither must nor must not have the gaps
child_holds : (n : Region) (gaps : List ℕ) (i : ℕ) (c : Region) → slice_get (child_regions n gaps) i ≡ Some c → AllPairs (λ a b. a < b) gaps → HasNoneOf n.must gaps → HasNoneOf n.never gaps →
    IsInRegion n n.must → IsInRegion c c.must
child_holds n [] i c e up must never holds = absurd (none-some c e)
child_holds n (gap ∷ gaps) zero c e up must never holds = subst (λ (d : Region). IsInRegion d d.must) (same_Some (with_gap n gap) c e) (record {
  holds = λ q h. h;
  avoids = λ q h. still_missing n.must gap q (λ same. true≢false (sym h ∙ subst (λ (g : ℕ). set.contains n.never g ≡ false) same (never gap (first_is_here gap gaps)))) (holds.avoids q h);
})
child_holds n (gap ∷ gaps) (suc i) c e up must never holds =
    child_holds (without_gap n gap) gaps i c e (later gap gaps up) (λ q here. must q (later_is_here gap gaps q here))
    (λ q here. still_missing n.never gap q (not_again gap gaps up q here) (never q (later_is_here gap gaps q here)))
    (record {
      holds = λ q h. h;
      avoids = λ q h. elim (new_or_old n.never gap q h) [ inl same ↦ subst (λ (g : ℕ). set.contains n.must g ≡ false) same (must gap (first_is_here gap gaps)) | inr old ↦ holds.avoids q old ];
    })

module _ (o : Outcome) (is : IsOutcome o) where
  facts : Facts (finished_state o)
  facts = facts_of (finished_state o) is.reached

  parents : HaveParents o.entries
  parents = parents_of (finished_state o) is.reached

  module _ (place : ℕ) (e : Entry) (f : Foreign) (first : ℕ) (there : slice_get o.entries place ≡ Some e) (split : e.status ≡ Split f first) where
    small : IsGapSet f.passed
    small = let at = facts.split place e f first there split in small_set (finished_state o).question facts.within f at.of_question at.foreign

    -- what a split node's sets must have has none of the gaps that its run passes
    none_must : HasNoneOf e.node.must (open_gaps f.passed e.node.never)
    none_must gap here = elim (true_or_false (set.contains e.node.must gap)) [
      | inl has ↦ absurd ((facts.split place e f first there split).passes_none gap ((open_exact f.passed e.node.never small gap).0 here).0 has)
      | inr missing ↦ missing
    ]

    none_never : HasNoneOf e.node.never (open_gaps f.passed e.node.never)
    none_never gap here = ((open_exact f.passed e.node.never small gap).0 here).1

  module _ (place : ℕ) (n : Region) (c : IsChildAt o.entries place n) where
    earlier : c.parent < place
    earlier = let later = (facts.split c.parent c.above c.run c.first c.there c.split).later in let at = c.at in omega arith

    -- the walk for a set of the node goes from the parent to it
    goes_there : (m : Region) → IsInRegion n m.must → child_of o.entries c.parent m ≡ Some place
    goes_there m inside =
        let number = (in_child c.above.node (open_gaps c.run.passed c.above.node.never) c.number n m.must 0 c.is_child inside).1 in
        ap (λ (x : Option Entry). child_in x m) c.there ∙ ap (λ (x : Status). child_by x c.above.node.never m.must) c.split
        ∙ ap (option_map (λ (k : ℕ). c.first + k)) number ∙ ap (λ (k : ℕ). Some k) (let at = c.at in omega arith)

    holds_there : IsInRegion c.above.node c.above.node.must → IsInRegion n n.must
    holds_there holds =
        let gaps = open_gaps c.run.passed c.above.node.never in
        child_holds c.above.node gaps c.number n c.is_child (AllPairs-from_increasing gaps (open_ascending c.run.passed c.above.node.never))
        (none_must c.parent c.above c.run c.first c.there c.split) (none_never c.parent c.above c.run c.first c.there c.split) holds

  -- what the sets of a node must have is in its region
  holds : (bound place : ℕ) → place < bound → (e : Entry) → slice_get o.entries place ≡ Some e → IsInRegion e.node e.node.must
  holds zero place below e there = absurd (omega arith)
  holds (suc bound) place below e there = elim (parents place e there) [
    | inl root ↦ subst (λ (n : Region). IsInRegion n n.must) (sym root.1) (in_root all_sets.must)
    | inr c ↦ holds_there place e.node c (holds bound c.parent (let h = earlier place e.node c in omega arith) c.above c.there)
  ]

  -- the walk for a set of a node comes to it
  comes : (bound place : ℕ) → place < bound → (e : Entry) → slice_get o.entries place ≡ Some e → (m : Region) (end : ℕ) → IsInRegion e.node m.must → WalkLeads o.entries m place end → WalkLeads o.entries m 0 end
  comes zero place below e there m end inside rest = absurd (omega arith)
  comes (suc bound) place below e there m end inside rest = elim (parents place e there) [
    | inl root ↦ subst (λ (k : ℕ). WalkLeads o.entries m k end) root.0 rest
    | inr c ↦ comes bound c.parent (let h = earlier place e.node c in omega arith) c.above c.there m end
        (in_child c.above.node (open_gaps c.run.passed c.above.node.never) c.number e.node m.must 0 c.is_child inside).0
        (goes c.parent place end (goes_there place e.node c m inside) rest)
  ]

  -- and that for its own region ends there
  ends_there : (place : ℕ) (e : Entry) → slice_get o.entries place ≡ Some e → child_of o.entries place e.node ≡ None
  ends_there place e there = ap (λ (x : Option Entry). child_in x e.node) there ∙ by_status e.status refl
    where
      by_status : (s : Status) → e.status ≡ s → child_by s e.node.never e.node.must ≡ None
      by_status (Split f first) h = ap (option_map (λ (k : ℕ). first + k)) (no_first e.node.must 0 (open_gaps f.passed e.node.never) (none_must place e f first there h))
      by_status s h = refl

  found : (place : ℕ) (e : Entry) → slice_get o.entries place ≡ Some e → WalkLeads o.entries e.node 0 place
  found place e there =
      comes (suc place) place (omega arith) e there e.node place (holds (suc place) place (omega arith) e there) (ends place (ends_there place e there))

  pub stands_only : (n : Region) (place : ℕ) → WalkLeads o.entries n 0 place → StandsOnlyAt o.entries n place
  stands_only n place leads p e there same = same_end o.entries n 0 p place (subst (λ (m : Region). WalkLeads o.entries m 0 p) same (found p e there)) leads
