use Rattle.cover_judge.proofs.Vocabulary.{◌≡◌, ◌↔◌, ◌<◌, ℕ, List, Contains, get_or, length, refl, sym, subst, arith, IfOk, Listing}
use Rattle.std.specs.List.Sorted.{IsStrictlyIncreasing}
use Rattle.std.proofs.lemmas.Option.{slice_get_read}
use Rattle.candidate_executions.specs.Values.{IsHeldValue}
use Rattle.tree_laws.specs.CoverTrees.{IsValueBy}
use Rattle.held_values.specs.HeldLists.{AreHeldLists, IsHeldList}
use Rattle.cover_judge.specs.RuleValues.{AreListsBy}
use Rattle.cover_judge.proofs.Answered.{if_ok}
use Rattle.cover_judge.proofs.values.values_by.Goals as goal

-- the list of a location
listed : (p : Listing) (lists : List (List ℕ)) (location : ℕ) (values : List ℕ) → AreHeldLists p lists → location < length p.memory → values ≡ get_or lists location values → IsHeldList p location values
listed p lists location values are there at =
    let many = are.one_each in
    let here : location < length lists = omega arith in
    are.each location values (slice_get_read lists (length lists) location values refl here at)

pub returns-in-Whole-clause-exact : goal.returns-in-Whole-clause-exact
returns-in-Whole-clause-exact c =
    subst (λ rule. IfOk c.values_for.result (λ values. (v : ℕ) → Contains values v ↔ IsValueBy rule c.args.sketch.now.program c.args.location v)) (sym c.in-Whole.is) c.values_for.ensures.exact

pub returns-in-Early-clause-exact : goal.returns-in-Early-clause-exact
returns-in-Early-clause-exact c =
    let p = c.args.sketch.now.program in
    let lists = subst (λ rule. AreListsBy rule p c.args.lists.now) c.in-Early.is c.requires.lists in
    let values = c.index-lists-location.result in
    let held = listed p c.args.lists.now c.args.location values lists c.requires.there c.index-lists-location.is in
    if_ok c.copy.result (λ others. others ≡ values) _ (λ others same. subst (λ rule. (v : ℕ) → Contains others v ↔ IsValueBy rule p c.args.location v) (sym c.in-Early.is)
    (subst (λ (own : List ℕ). (v : ℕ) → Contains own v ↔ IsHeldValue p c.args.location v) (sym same) held.exact)) c.copy.ensures

pub returns-in-Early-clause-ascending : goal.returns-in-Early-clause-ascending
returns-in-Early-clause-ascending c =
    let p = c.args.sketch.now.program in
    let lists = subst (λ rule. AreListsBy rule p c.args.lists.now) c.in-Early.is c.requires.lists in
    let values = c.index-lists-location.result in
    let held = listed p c.args.lists.now c.args.location values lists c.requires.there c.index-lists-location.is in
    if_ok c.copy.result (λ others. others ≡ values) _ (λ others same. subst IsStrictlyIncreasing (sym same) held.ascending) c.copy.ensures
