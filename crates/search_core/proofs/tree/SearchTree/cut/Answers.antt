use Rattle.search_core.proofs.Vocabulary.{◌≡◌, true, false, sym, ◌∙◌, subst, the_view, SearchState, Cuts, cuts, IsReasonOf, CutsNode, goes_on}
use Rattle.search_core.proofs.Moves.{seated, holds_nothing, does_hold, is_within, cut_event, why_cut}
use Rattle.search_core.proofs.tree.SearchTree.cut.Goals as goal

pub returns-in_default-clause-fault : goal.returns-in_default-clause-fault
returns-in_default-clause-fault c = holds_nothing (the_view c.self.inside) c.args.self.now c.self.view_is c.deref.result.now c.deref.ensures.value c.args.seat c.in_default.ensures

pub returns-then-not-cuts-clause-fault : goal.returns-then-not-cuts-clause-fault
returns-then-not-cuts-clause-fault c = (
  c.in-Some.node,
  does_hold (the_view c.self.inside) c.args.self.now c.self.view_is c.deref.result.now c.deref.ensures.value c.args.seat c.in-Some.place c.in-Some.node c.in-Some.ensures,
  subst (λ (s : SearchState). ¬ CutsNode s c.args.reason c.in-Some.node) c.self.view_is (λ may. (let yes = c.cuts.ensures.value.1 may in let no : true ≡ false = sym yes ∙ c.if-not-cuts.true in absurd cc)),
)

pub mark-requires : goal.mark-requires
mark-requires c = is_within (the_view c.self.inside) c.args.self.now c.self.view_is c.deref.result.now c.deref.ensures.value c.in-Some.place c.in-Some.ensures.before c.in-Some.ensures.there

event : (c : goal.Joined-reason-5) → Cuts (the_view c.self.inside) (record (the_view c.self.inside) { entries = c.mark.new.entries.items }) c.args.seat
event c = cut_event (the_view c.self.inside) c.args.self.now c.self.view_is c.deref.result.now c.deref.ensures.value c.mark.new.entries.items c.args.seat c.in-Some.place c.in-Some.node
    c.in-Some.ensures (why_cut (the_view c.self.inside) c.args.reason c.in-Some.node (subst (λ (s : SearchState). IsReasonOf s c.args.reason) (sym c.self.view_is) c.requires.of_search) c.cuts.ensures.bound (c.cuts.ensures.value.0 c.if-not-cuts.false)) c.mark.ensures

pub invariant_of-self : goal.invariant_of-self
invariant_of-self c = goes_on (the_view c.self.inside) (record (the_view c.self.inside) { entries = c.mark.new.entries.items }) c.args.seat c.self.invariant (seated (the_view c.self.inside) c.args.self.now c.self.view_is c.args.seat c.requires.seat) (cuts (event c))

pub returns-clause-cut : goal.returns-clause-cut
returns-clause-cut c = subst (λ (s : SearchState). Cuts s (record (the_view c.self.inside) { entries = c.mark.new.entries.items }) c.args.seat) c.self.view_is (event c)

pub returns-clause-lawful : goal.returns-clause-lawful
returns-clause-lawful c = (
  c.in-Some.node,
  does_hold (the_view c.self.inside) c.args.self.now c.self.view_is c.deref.result.now c.deref.ensures.value c.args.seat c.in-Some.place c.in-Some.node c.in-Some.ensures,
  subst (λ (s : SearchState). CutsNode s c.args.reason c.in-Some.node) c.self.view_is (c.cuts.ensures.value.0 c.if-not-cuts.false),
)
