use Rattle.answers.proofs.Vocabulary.{refl}
use Rattle.answers.proofs.replays.run_lines.Goals as goal

pub returns-in-Ok-clause-run : goal.returns-in-Ok-clause-run
returns-in-Ok-clause-run c bytes spelled = (
  refl,
  record {
    litmus = c.args.litmus.now;
    spelled = spelled;
    steps = c.in_ok-steps.steps.items;
    read = c.in_ok-steps.ensures.found;
    outcome = c.in_ok-ended.ended.outcome;
    run = rw (c.empty.ensures, c.deref.ensures.value) at c.in_ok-ended.ensures.run;
    passed = c.in_ok-ended.ended.passed;
    passes = rw (c.empty.ensures, c.deref.ensures.value) at c.in_ok-ended.ensures.passed;
    printed = c.in-Ok.ensures;
  },
)
