use Rattle.cover_solver.proofs.Vocabulary.{Contains, List, ap, subst, sym, arc_value, asked, SequentialMachine, IsSequentialTable, Label, Outcome, Question, Vec}
use Rattle.tree_laws.specs.Covers.{IsWholeCover}
use Rattle.cover_search.specs.Stops.{StopLacks}
use Rattle.cover_solver.proofs.table.sequential.Goals as goal

pub unreachable-requires : goal.unreachable-requires
unreachable-requires c =
    let q = asked c.args.program.now c.args.shown.now in
    let run = c.in-Err-New.field-0-0 in
    let stop = subst (StopLacks q SequentialMachine c.deref.result.now) c.in-Err-New.field-0-is c.in-Err-New.ensures.stop in
    stop.1 (subst (λ (os : List Outcome). Contains os run.outcome) (sym c.deref.ensures.value) ((c.in_ok-list.ensures.exact run.outcome).1 (run.labels.items, stop.0)))

pub new-requires-3 : goal.new-requires-3
new-requires-3 c =
    let q = asked c.args.program.now c.args.shown.now in
    let list = c.in_ok-list.list in
    let all = c.in_ok-list.ensures in
    let tree = c.in-Ok.tree in
    let outcomes = arc_value c.in_ok-outcomes.outcomes in
    let runs = arc_value c.in_ok-runs.runs in
    let table : IsSequentialTable (record { question = q; outcomes = list.outcomes.items; runs = list.runs; tree = tree }) = record {
      listed = record { ascend = all.ascend; exact = all.exact };
      runs = all.runs;
      tree = subst (λ (os : List Outcome). IsWholeCover q SequentialMachine os tree) c.deref.ensures.value c.in-Ok.ensures.tree;
    } in
    subst (λ (x : Question). IsSequentialTable (record { question = x; outcomes = outcomes.items; runs = runs; tree = tree })) (sym c.in_ok-question.ensures)
    (subst (λ (os : List Outcome). IsSequentialTable (record { question = q; outcomes = os; runs = runs; tree = tree })) (sym (ap (λ (v : Vec Outcome). v.items) c.in_ok-outcomes.ensures.ok))
    (subst (λ (rs : List (List Label)). IsSequentialTable (record { question = q; outcomes = list.outcomes.items; runs = rs; tree = tree })) (sym c.in_ok-runs.ensures.ok) table))
