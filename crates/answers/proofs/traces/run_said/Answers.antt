use Rattle.answers.proofs.Vocabulary.{◌++◌, List, refl, subst, Label, outcome_line, passed_line}
use Rattle.answers.specs.Traces.{IsTraceTable}
use Rattle.tso_program.specs.declared.shown.Shown.{TheVariants.All}
use Rattle.answers.proofs.traces.run_said.Goals as goal

pub returns-in-Ok-clause-run : goal.returns-in-Ok-clause-run
returns-in-Ok-clause-run c bytes spelled =
    let litmus = c.args.litmus.now in
    let table = subst (λ (labels : List Label). IsTraceTable litmus c.args.run.now.model labels c.in_ok-drawings.drawings.table.items) c.deref-2.ensures.value c.in_ok-drawings.ensures.table in
    record {
      ending = outcome_line litmus.names All c.in_ok-ended.ended.outcome ++ passed_line litmus.program c.in_ok-ended.ended.passed;
      run = record {
        litmus = litmus;
        spelled = spelled;
        steps = c.in_ok-labels.labels.items;
        read = rw c.as_slice.ensures.value at c.in_ok-labels.ensures.found;
        outcome = c.in_ok-ended.ended.outcome;
        run = rw (c.empty.ensures, c.deref.ensures.value) at c.in_ok-ended.ensures.run;
        passed = c.in_ok-ended.ended.passed;
        passes = rw (c.empty.ensures, c.deref.ensures.value) at c.in_ok-ended.ensures.passed;
        printed = refl;
      };
      printed = (c.in_ok-drawings.drawings.table.items, table, c.in-Ok.ensures);
      told = rw c.deref-2.ensures.value at c.in_ok-drawings.ensures.told;
    }
