use Rattle.rowless_sketches.proofs.Vocabulary.{◌≡◌, ◌∙◌, ◌↔◌, ◌<◌, ℕ, List, Some, Contains, slice_get, length, get_or, refl, sym, ap, subst, arith, Result, Ok, Err, IfOk, slice_get_read, Listing, IsValueOf, ProgramSketch}
use Rattle.std.specs.List.Sorted.{IsStrictlyIncreasing}
use Rattle.thread_traces.specs.ValueLists.{AreValueLists, IsValueList}
use Rattle.rowless_sketches.proofs.rowless_sketch.RowlessSketch.values_for.Goals as goal

-- what holds of a list holds of an equal one that is handed out
handed : {E : Type 0} (r : Result (List ℕ) E) (values : List ℕ) (P : List ℕ → Type 0) → IfOk r (λ other. other ≡ values) → P values → IfOk r P
handed (Ok other) values P same is = subst P (sym same) is
handed (Err e) values P same is = tt

-- the list of a location
listed : (p q : Listing) (lists : List (List ℕ)) (location : ℕ) (values : List ℕ) → p ≡ q → AreValueLists p lists → location < length q.memory → values ≡ get_or lists location values → IsValueList q location values
listed p q lists location values same are there at =
    let many : length lists ≡ length q.memory = are.one_each ∙ ap (λ (x : Listing). length x.memory) same in
    let here : location < length lists = omega arith in
    subst (λ (x : Listing). IsValueList x location values) same (are.each location values (slice_get_read lists (length lists) location values refl here at))

pub returns-in-Some-clause-exact : goal.returns-in-Some-clause-exact
returns-in-Some-clause-exact c =
    let values = c.in-Some.values.now in
    let there : slice_get c.self.inside.values.items c.args.location ≡ Some values = ap (λ (ls : List (List ℕ)). slice_get ls c.args.location) (sym c.as_slice.ensures.value) ∙ sym c.in-Some.ensures in
    let is = subst (λ (x : Listing). IsValueList x c.args.location values) (ap (λ (s : ProgramSketch). s.program) c.self.view_is) (c.self.invariant.lists_are c.args.location values there) in
    handed c.copy.result values (λ others. (v : ℕ) → Contains others v ↔ IsValueOf c.args.self.now.program c.args.location v) c.copy.ensures is.exact

pub returns-in-Some-clause-ascending : goal.returns-in-Some-clause-ascending
returns-in-Some-clause-ascending c =
    let values = c.in-Some.values.now in
    let there : slice_get c.self.inside.values.items c.args.location ≡ Some values = ap (λ (ls : List (List ℕ)). slice_get ls c.args.location) (sym c.as_slice.ensures.value) ∙ sym c.in-Some.ensures in
    let is = c.self.invariant.lists_are c.args.location values there in
    handed c.copy.result values IsStrictlyIncreasing c.copy.ensures is.ascending

pub returns-in_ok-lists-in-None-clause-exact : goal.returns-in_ok-lists-in-None-clause-exact
returns-in_ok-lists-in-None-clause-exact c =
    let values = c.index-as_slice-location.result in
    let at = subst (λ (ls : List (List ℕ)). values ≡ get_or ls c.args.location values) c.as_slice-in-None.ensures.value c.index-as_slice-location.is in
    let is = listed c.self.inside.base.program c.args.self.now.program c.in_ok-lists-in-None.lists.items c.args.location values (ap (λ (s : ProgramSketch). s.program) c.self.view_is) c.in_ok-lists-in-None.ensures c.requires at in
    handed c.copy-in-None.result values (λ others. (v : ℕ) → Contains others v ↔ IsValueOf c.args.self.now.program c.args.location v) c.copy-in-None.ensures is.exact

pub returns-in_ok-lists-in-None-clause-ascending : goal.returns-in_ok-lists-in-None-clause-ascending
returns-in_ok-lists-in-None-clause-ascending c =
    let values = c.index-as_slice-location.result in
    let at = subst (λ (ls : List (List ℕ)). values ≡ get_or ls c.args.location values) c.as_slice-in-None.ensures.value c.index-as_slice-location.is in
    let is = listed c.self.inside.base.program c.args.self.now.program c.in_ok-lists-in-None.lists.items c.args.location values (ap (λ (s : ProgramSketch). s.program) c.self.view_is) c.in_ok-lists-in-None.ensures c.requires at in
    handed c.copy-in-None.result values IsStrictlyIncreasing c.copy-in-None.ensures is.ascending
