use Rattle.search_core.proofs.Vocabulary.{◌≡◌, ℕ, ◌<◌, ◌↔◌, IsTrue, Bool, true, false, List, ◌++◌, sym, ap, ◌∙◌, subst, arith, length, length-append, Entry, the_view, SearchState, set-append_left, slice_set, SetOfGaps, Region, Foreign, Split, children, entry}
use Rattle.search_core.proofs.Vocabulary.{open_entries, Splits, splits, goes_on, DoMeet}
use Rattle.std.specs.FinSet as set
use Rattle.search_core.proofs.Moves.{seated, holds_nothing, does_hold, is_within, split_event}
use Rattle.search_core.proofs.tree.SearchTree.split.Goals as goal

-- sets that do not meet have no gap in common
apart : (a b : SetOfGaps) (r : Bool) → IsTrue r ↔ DoMeet a b → r ≡ false → (gap : ℕ) → set.contains a gap ≡ true → set.contains b gap ≡ true → ⊥
apart a b r test e gap there too = let yes = test.1 (gap, there, too) in let no : true ≡ false = sym yes ∙ e in absurd cc

longer : (es cs : List Entry) (place : ℕ) → place < length es → place < length (es ++ cs)
longer es cs place h = omega (arith, length-append es cs)

-- the entries after a split
after_split : (es all items cs : List Entry) (place seat first : ℕ) (n : Region) (kept f : Foreign) → place < length es → kept ≡ f → first ≡ length es → cs ≡ open_entries seat (children n f.passed) → all ≡ es ++ cs →
    items ≡ slice_set all place (entry n seat (Split kept first)) → items ≡ slice_set es place (entry n seat (Split f (length es))) ++ open_entries seat (children n f.passed)
after_split es all items cs place seat first n kept f within same at kids e is =
    is ∙ (λ i. slice_set (e i) place (entry n seat (Split (same i) (at i)))) ∙ (λ i. slice_set (es ++ kids i) place (entry n seat (Split f (length es))))
    ∙ set-append_left es (open_entries seat (children n f.passed)) place (entry n seat (Split f (length es))) within

pub returns-in_default-clause-fault : goal.returns-in_default-clause-fault
returns-in_default-clause-fault c = holds_nothing (the_view c.self.inside) c.args.self.now c.self.view_is c.deref.result.now c.deref.ensures.value c.args.seat c.in_default.ensures

pub returns-then-meets-clause-fault : goal.returns-then-meets-clause-fault
returns-then-meets-clause-fault c = (
  c.in-Some.node,
  does_hold (the_view c.self.inside) c.args.self.now c.self.view_is c.deref.result.now c.deref.ensures.value c.args.seat c.in-Some.place c.in-Some.node c.in-Some.ensures,
  subst (λ (s : SetOfGaps). DoMeet s c.in-Some.node.must) c.passed-passed.ensures (c.meets.ensures.0 c.if-meets.true),
)

pub mark-requires : goal.mark-requires
mark-requires c =
    let h = is_within (the_view c.self.inside) c.args.self.now c.self.view_is c.deref.result.now c.deref.ensures.value c.in-Some.place c.in-Some.ensures.before c.in-Some.ensures.there in
    subst (λ (l : List Entry). c.in-Some.place < length l) (sym c.in_ok-append.ensures.items) (longer c.self.inside.entries.items c.in_ok-opened.opened.items c.in-Some.place h)

event : (c : goal.After-drop-opened-2) → Splits (the_view c.self.inside) (record (the_view c.self.inside) { entries = c.mark.new.entries.items }) c.args.seat c.args.run.now
event c =
    let s = the_view c.self.inside in
    let f = c.args.run.now in
    let within = is_within s c.args.self.now c.self.view_is c.deref.result.now c.deref.ensures.value c.in-Some.place c.in-Some.ensures.before c.in-Some.ensures.there in
    let long = c.self.inside.entries.ok.0 in
    let len = c.len-first.ensures in
    split_event s c.args.self.now c.self.view_is c.deref.result.now c.deref.ensures.value c.mark.new.entries.items c.args.seat c.in-Some.place c.in-Some.node
    c.in-Some.ensures f c.requires.of_question c.recall_facts.ensures.foreign
    (subst (λ (a : SetOfGaps). (gap : ℕ) → set.contains a gap ≡ true → set.contains c.in-Some.node.must gap ≡ true → ⊥) c.passed-passed.ensures (apart c.passed-passed.result c.in-Some.node.must c.meets.result c.meets.ensures c.if-meets.false))
    (after_split s.entries c.append.new.self.items c.mark.new.entries.items c.in_ok-opened.opened.items c.in-Some.place c.args.seat c.len-first.result c.in-Some.node c.in_ok-kept.kept f within
    c.in_ok-kept.ensures (omega arith) (c.in_ok-opened.ensures ∙ ap (λ (a : SetOfGaps). open_entries c.args.seat (children c.in-Some.node a)) c.passed-passed.ensures) c.in_ok-append.ensures.items c.mark.ensures)

pub invariant_of-self-2 : goal.invariant_of-self-2
invariant_of-self-2 c = goes_on (the_view c.self.inside) (record (the_view c.self.inside) { entries = c.mark.new.entries.items }) c.args.seat c.self.invariant (seated (the_view c.self.inside) c.args.self.now c.self.view_is c.args.seat c.requires.seat) (splits c.args.run.now (event c))

pub returns-clause-split : goal.returns-clause-split
returns-clause-split c = subst (λ (s : SearchState). Splits s (record (the_view c.self.inside) { entries = c.mark.new.entries.items }) c.args.seat c.args.run.now) c.self.view_is (event c)
