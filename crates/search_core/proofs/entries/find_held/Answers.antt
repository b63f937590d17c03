use Rattle.search_core.proofs.Vocabulary.{slice_get_read, sym, refl, ◌∙◌, is_held_by}
use Rattle.search_core.proofs.Steps.{none_so_far, none_at_all}
use Rattle.search_core.proofs.entries.find_held.Goals as goal

pub returns-then-is_held_by : goal.returns-then-is_held_by
returns-then-is_held_by c = record {
  before = c.index-entries-place.result;
  there = slice_get_read c.args.entries.now _ c.loop-place.place c.index-entries-place.result refl c.loop-place-test.true c.index-entries-place.is;
  held_there = sym c.is_held_by.ensures ∙ c.if-is_held_by.true;
  is_node = refl;
}

pub loop-place-preserved : goal.loop-place-preserved
loop-place-preserved c = none_so_far (is_held_by c.args.seat) c.args.entries.now c.loop-place.place c.index-entries-place.result c.loop-place-test.true c.index-entries-place.is
    (sym c.is_held_by.ensures ∙ c.if-is_held_by.false) c.loop-place.invariant

pub returns : goal.returns
returns c = λ place n h. none_at_all (is_held_by c.args.seat) c.args.entries.now c.loop-place.place c.loop-place-test.false c.loop-place.invariant place h.before h.there h.held_there
