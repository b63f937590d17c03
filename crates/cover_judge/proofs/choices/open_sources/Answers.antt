use Rattle.cover_judge.proofs.Vocabulary.{map, refl}
use Rattle.tree_laws.specs.declared.choice.Choice.TheVariants as choice
use Rattle.cover_judge.proofs.ChoicesJudged.{found_sources, found_none, no_sources}
use Rattle.cover_judge.proofs.choices.open_sources.Goals as goal

pub returns-then-lacks_source : goal.returns-then-lacks_source
returns-then-lacks_source c =
    let lacks = rw c.event_of.ensures at (c.lacks_source.ensures c.if-lacks_source.true) in
    no_sources c.args.sketch.now c.args.read _ lacks (rw c.new.ensures.items refl)

pub returns-in_default : goal.returns-in_default
returns-in_default c = found_none c.args.sketch.now c.args.read c.event_of-2.result c.event_of-2.ensures c.in_ok-sources.field-0 c.in_ok-sources.ensures c.in_default.is

pub returns : goal.returns
returns c =
    let sources = c.in-Some.sources in
    found_sources c.args.sketch.now c.args.read c.event_of-2.result c.event_of-2.ensures c.in_ok-sources.field-0 c.in_ok-sources.ensures sources (map (choice.Source c.args.read) sources.items) c.in-Some.is refl
