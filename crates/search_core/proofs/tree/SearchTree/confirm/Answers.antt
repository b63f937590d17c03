use Rattle.search_core.proofs.Vocabulary.{Some, refl, subst, inl, inr, the_view, SearchState, Confirms, confirms, goes_on}
use Rattle.search_core.proofs.Moves.{seated, holds_nothing, is_within, confirm_event}
use Rattle.search_core.proofs.tree.SearchTree.confirm.Goals as goal

pub returns-in_default-clause-fault : goal.returns-in_default-clause-fault
returns-in_default-clause-fault c = (refl, holds_nothing (the_view c.self.inside) c.args.self.now c.self.view_is c.deref.result.now c.deref.ensures.value c.args.seat c.in_default.ensures)

pub mark-requires : goal.mark-requires
mark-requires c = is_within (the_view c.self.inside) c.args.self.now c.self.view_is c.deref.result.now c.deref.ensures.value c.in-Some.place c.in-Some.ensures.before c.in-Some.ensures.there

older : (c : goal.After-drop-served-inside-then-not-better-4) → Confirms (the_view c.self.inside) (record (the_view c.self.inside) { entries = c.mark.new.entries.items }) c.args.seat c.args.served
older c = let s = the_view c.self.inside in
    let n = c.is_better-better.ensures.no c.if-not-better.true in
    confirm_event s c.args.self.now c.self.view_is c.deref.result.now c.deref.ensures.value c.mark.new.entries.items c.args.seat c.in-Some.place c.in-Some.node
    c.in-Some.ensures c.args.served s.best c.requires.of_question c.requires.of_node c.is_better-better.ensures.serving (inr (n.0, n.1, refl, n.2)) c.mark.ensures

newer : (c : goal.Joined-self) → Confirms (the_view c.self.inside) (record (the_view c.self.inside) { entries = c.mark.new.entries.items; best = Some c.args.served }) c.args.seat c.args.served
newer c = let s = the_view c.self.inside in
    confirm_event s c.args.self.now c.self.view_is c.deref.result.now c.deref.ensures.value c.mark.new.entries.items c.args.seat c.in-Some.place c.in-Some.node
    c.in-Some.ensures c.args.served (Some c.args.served) c.requires.of_question c.requires.of_node c.is_better-better.ensures.serving (inl (refl, c.is_better-better.ensures.yes c.if-not-better.false)) c.mark.ensures

pub invariant_of-self : goal.invariant_of-self
invariant_of-self c = goes_on (the_view c.self.inside) (record (the_view c.self.inside) { entries = c.mark.new.entries.items }) c.args.seat c.self.invariant (seated (the_view c.self.inside) c.args.self.now c.self.view_is c.args.seat c.requires.seat) (confirms c.args.served (older c))

pub returns-then-not-better-clause-confirmed : goal.returns-then-not-better-clause-confirmed
returns-then-not-better-clause-confirmed c = subst (λ (s : SearchState). Confirms s (record (the_view c.self.inside) { entries = c.mark.new.entries.items }) c.args.seat c.args.served) c.self.view_is (older c)

pub invariant_of-self-2 : goal.invariant_of-self-2
invariant_of-self-2 c = goes_on (the_view c.self.inside) (record (the_view c.self.inside) { entries = c.mark.new.entries.items; best = Some c.args.served }) c.args.seat c.self.invariant (seated (the_view c.self.inside) c.args.self.now c.self.view_is c.args.seat c.requires.seat) (confirms c.args.served (newer c))

pub returns-clause-confirmed : goal.returns-clause-confirmed
returns-clause-confirmed c = subst (λ (s : SearchState). Confirms s (record (the_view c.self.inside) { entries = c.mark.new.entries.items; best = Some c.args.served }) c.args.seat c.args.served) c.self.view_is (newer c)
