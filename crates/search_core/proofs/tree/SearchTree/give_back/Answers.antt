use Rattle.search_core.proofs.Vocabulary.{refl, subst, the_view, SearchState, GivesBack, gives_back, goes_on}
use Rattle.search_core.proofs.Moves.{seated, holds_nothing, is_within, give_event}
use Rattle.search_core.proofs.tree.SearchTree.give_back.Goals as goal

pub returns-in_default-clause-fault : goal.returns-in_default-clause-fault
returns-in_default-clause-fault c = (refl, holds_nothing (the_view c.self.inside) c.args.self.now c.self.view_is c.deref.result.now c.deref.ensures.value c.args.seat c.in_default.ensures)

pub mark-requires : goal.mark-requires
mark-requires c = is_within (the_view c.self.inside) c.args.self.now c.self.view_is c.deref.result.now c.deref.ensures.value c.in-Some.place c.in-Some.ensures.before c.in-Some.ensures.there

event : (c : goal.After-mark) → GivesBack (the_view c.self.inside) (record (the_view c.self.inside) { entries = c.mark.new.entries.items }) c.args.seat
event c = give_event (the_view c.self.inside) c.args.self.now c.self.view_is c.deref.result.now c.deref.ensures.value c.mark.new.entries.items c.args.seat c.in-Some.place c.in-Some.node
    c.in-Some.ensures c.mark.ensures

pub invariant_of-self : goal.invariant_of-self
invariant_of-self c = goes_on (the_view c.self.inside) (record (the_view c.self.inside) { entries = c.mark.new.entries.items }) c.args.seat c.self.invariant (seated (the_view c.self.inside) c.args.self.now c.self.view_is c.args.seat c.requires) (gives_back (event c))

pub returns-clause-given : goal.returns-clause-given
returns-clause-given c = subst (λ (s : SearchState). GivesBack s (record (the_view c.self.inside) { entries = c.mark.new.entries.items }) c.args.seat) c.self.view_is (event c)
