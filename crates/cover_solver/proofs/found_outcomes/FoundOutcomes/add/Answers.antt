use Rattle.cover_solver.proofs.Vocabulary.{◌≡◌, ◌∙◌, Err, IfErr, List, ℕ, Result, ap, arith, map, subst, sym, Label, Outcome, AreRunsOf, IsShownRun, Vec}
use Rattle.std.proofs.Common.{length}
use Rattle.std.proofs.lemmas.List.{length-map}
use Rattle.std.proofs.lemmas.Slice.Zip.{AllZip-long}
use Rattle.std.specs.List.{insert}
use Rattle.tree_laws.specs.Ascending.{Ascend, BelongsAt}
use Rattle.tree_laws.proofs.AscendingSearched.{searched}
use Rattle.cover_solver.proofs.Inserted.{ascend_insert, zip_insert, map_insert}
use Rattle.cover_solver.proofs.found_outcomes.FoundOutcomes.add.Goals as goal

abbrev items_of : Vec Label → List Label
items_of = λ labels. labels.items

pub insert-requires-in-Err : goal.insert-requires-in-Err
insert-requires-in-Err c =
    let os = c.args.self.now.outcomes.items in
    let runs = c.args.self.now.runs.items in
    let (q, mode, are) = c.requires in
    let long = AllZip-long (IsShownRun q mode) (map items_of runs) os are.runs in
    let same = length-map runs items_of in
    let list = ap length c.deref.ensures.value in
    let bound = c.in-Err.ensures.bound in
    omega (arith, long, same, list, bound, c.args.self.now.runs.ok.0)

pub returns-in_ok-insert-2 : goal.returns-in_ok-insert-2
returns-in_ok-insert-2 c q mode are is_run =
    let os = c.args.self.now.outcomes.items in
    let runs = c.args.self.now.runs.items in
    let o = c.args.run.outcome in
    let place = c.in-Err.place in
    let up = subst Ascend (sym c.deref.ensures.value) are.ascend in
    let found = searched c.deref.result.now o c.binary_search.result up c.binary_search.ensures.bound c.binary_search.ensures.position in
    let belongs : BelongsAt os o place = subst (λ (xs : List Outcome). BelongsAt xs o place) c.deref.ensures.value (subst (λ (r : Result ℕ ℕ). IfErr r (BelongsAt c.deref.result.now o)) c.in-Err.is found.belongs) in
    record {
      ascend = subst Ascend (sym c.in_ok-insert.ensures.items) (ascend_insert os o place belongs are.ascend);
      runs = subst (AreRunsOf q mode (map items_of c.insert-in-Err.new.self.items)) (sym c.in_ok-insert.ensures.items)
          (subst (λ (rs : List (List Label)). AreRunsOf q mode rs (insert os place o)) (sym (ap (map items_of) c.in_ok-insert-2.ensures.items ∙ map_insert items_of runs place c.args.run.labels))
          (zip_insert (IsShownRun q mode) (map items_of runs) os place c.args.run.labels.items o are.runs is_run));
    }
