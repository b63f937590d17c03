use Rattle.cover_solver.proofs.Vocabulary.{◌↔◌, Contains, IfOk, List, Err, Ok, Result, ap, map, subst, sym, asked, machine_of_mode, AllowsShown, AreRunsOf, IsListOfAll, Label, Outcome, Vec}
use Rattle.tree_laws.specs.Ascending.{Ascend}
use Rattle.tree_laws.specs.Covers.{IsWholeCover}
use Rattle.cover_solver.proofs.Listing.{allowed_by_tree}
use Rattle.cover_solver.proofs.found_outcomes.found_outcomes.Goals as goal

both_hold : {T E : Type 0} (r : Result T E) (P Q R : T → Type 0) → ((x : T) → P x → Q x → R x) → IfOk r P → IfOk r Q → IfOk r R
both_hold (Ok x) P Q R follows one other = follows x one other
both_hold (Err e) P Q R follows one other = tt

pub loop-init : goal.loop-init
loop-init c = (let search = c.args.search.now in c.none-found.ensures (asked search.program.now search.shown.now) (machine_of_mode search.program.now search.mode))

pub returns-in-Ok : goal.returns-in-Ok
returns-in-Ok c =
    let search = c.args.search.now in
    let q = asked search.program.now search.shown.now in
    let m = machine_of_mode search.program.now search.mode in
    let found = c.loop.found in
    let are = c.loop.invariant in
    let outs = found.outcomes.items in
    let runs = map (λ (labels : Vec Label). labels.items) found.runs.items in
    let tree = subst (λ (os : List Outcome). IsWholeCover q m os c.in-Ok.field-0) c.deref.ensures.value c.in-Ok.ensures.tree in
    both_hold c.into_list.result _ _ (IsListOfAll q m) (λ list same_outcomes same_runs.
    let same = sym (ap (λ (v : Vec Outcome). v.items) same_outcomes) in
    record {
      ascend = subst Ascend same are.ascend;
      runs = subst (AreRunsOf q m list.runs) same (subst (λ (rs : List (List Label)). AreRunsOf q m rs outs) (sym same_runs) are.runs);
      exact = λ o. subst (λ (os : List Outcome). Contains os o ↔ AllowsShown q m o) same (allowed_by_tree q m runs outs c.in-Ok.field-0 c.recall_facts.ensures.within.shared.forward_jumps are.runs tree.valid o);
    }) c.into_list.ensures.outcomes c.into_list.ensures.runs
