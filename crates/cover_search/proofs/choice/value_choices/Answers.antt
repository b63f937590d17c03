use Rattle.cover_search.proofs.Vocabulary.{sym, ap, ◌∙◌, map}
use Rattle.tree_laws.specs.declared.choice.Choice.TheVariants as choice
use Rattle.cover_judge.proofs.ChoicesJudged.{values_may}
use Rattle.cover_search.proofs.choice.value_choices.Goals as goal

pub returns-clause-values : goal.returns-clause-values
returns-clause-values c = record {
  values = c.in_ok-values.values.items;
  next = record {
    location = c.in-Some.location;
    next = sym c.next_read.ensures.value ∙ c.in-Some.is;
    ascending = c.in_ok-values.ensures.ascending;
    exact = c.in_ok-values.ensures.exact;
  };
  each = c.in_ok-each_value.ensures ∙ ap (map (choice.Value c.args.t)) c.deref.ensures.value;
}

pub returns-clause-may : goal.returns-clause-may
returns-clause-may c = values_may c.args.sketch.now c.args.t c.in_ok-each_value.field-0.items (returns-clause-values c)
