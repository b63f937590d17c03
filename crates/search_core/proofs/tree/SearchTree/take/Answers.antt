use Rattle.search_core.proofs.Vocabulary.{◌≡◌, ℕ, true, false, Option, Some, None, sym, ◌∙◌, subst, the_view, SearchState, HoldsNode, HoldsNothing, HoldsOnly, MatchOption, Region, TakesNode, takes, IsReached, goes_on, is_some}
use Rattle.search_core.proofs.{OneNode.taken_only, Moves.seated, Moves.is_within, Moves.node_gaps, Moves.no_open, Moves.take_event}
use Rattle.search_core.proofs.tree.SearchTree.take.Goals as goal

some_held : (s : SearchState) (seat : ℕ) (o : Option Region) → is_some o ≡ true → MatchOption o (HoldsNothing s seat) (HoldsOnly s seat) → (n : Region) × HoldsNode s seat n
some_held s seat None e h = absurd cc
some_held s seat (Some n) e h = (n, h.held)

none_held : (s : SearchState) (seat : ℕ) (o : Option Region) → is_some o ≡ false → MatchOption o (HoldsNothing s seat) (HoldsOnly s seat) → HoldsNothing s seat
none_held s seat None e h = h
none_held s seat (Some n) e h = absurd cc

pub returns-then-is_some-clause-fault : goal.returns-then-is_some-clause-fault
returns-then-is_some-clause-fault c = some_held c.args.self.now c.args.seat c.held-held.result (sym c.is_some.ensures ∙ c.if-is_some.true) c.held-held.ensures.value

pub returns-in_default-clause-fault : goal.returns-in_default-clause-fault
returns-in_default-clause-fault c = (
  none_held c.args.self.now c.args.seat c.held-held.result (sym c.is_some.ensures ∙ c.if-is_some.false) c.held-held.ensures.value,
  no_open (the_view c.self.inside) c.args.self.now c.self.view_is c.deref.result.now c.deref.ensures.value c.in_default.ensures,
)

pub mark-requires : goal.mark-requires
mark-requires c = is_within (the_view c.self.inside) c.args.self.now c.self.view_is c.deref.result.now c.deref.ensures.value c.in-Some.place c.in-Some.ensures.before c.in-Some.ensures.there

event : (c : goal.After-mark) → TakesNode (the_view c.self.inside) (record (the_view c.self.inside) { entries = c.mark.new.entries.items }) c.args.seat c.in-Some.node
event c = take_event (the_view c.self.inside) c.args.self.now c.self.view_is c.deref.result.now c.deref.ensures.value c.mark.new.entries.items c.args.seat c.in-Some.place c.in-Some.node
    (none_held c.args.self.now c.args.seat c.held-held.result (sym c.is_some.ensures ∙ c.if-is_some.false) c.held-held.ensures.value) c.in-Some.ensures c.mark.ensures

reached : (c : goal.After-mark) → IsReached (record (the_view c.self.inside) { entries = c.mark.new.entries.items })
reached c = goes_on (the_view c.self.inside) (record (the_view c.self.inside) { entries = c.mark.new.entries.items }) c.args.seat c.self.invariant (seated (the_view c.self.inside) c.args.self.now c.self.view_is c.args.seat c.requires) (takes c.in-Some.node (event c))

pub invariant_of-self : goal.invariant_of-self
invariant_of-self c = reached c

pub returns-clause-holds : goal.returns-clause-holds
returns-clause-holds c = taken_only (the_view c.self.inside) (record (the_view c.self.inside) { entries = c.mark.new.entries.items }) c.args.seat c.in-Some.node (reached c) (event c)

pub returns-clause-taken : goal.returns-clause-taken
returns-clause-taken c = subst (λ (s : SearchState). TakesNode s (record (the_view c.self.inside) { entries = c.mark.new.entries.items }) c.args.seat c.in-Some.node) c.self.view_is (event c)

pub returns-clause-of_program : goal.returns-clause-of_program
returns-clause-of_program c = node_gaps (the_view c.self.inside) c.args.self.now c.self.view_is c.deref.result.now c.deref.ensures.value c.self.invariant c.in-Some.place c.in-Some.ensures.before c.in-Some.ensures.there c.in-Some.node c.in-Some.ensures.is_node
