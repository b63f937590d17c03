use Rattle.fence_place.proofs.Vocabulary.{◌≡◌, ◌∙◌, ◌<◌, ◌≤◌, ◌+◌, ◌-◌, ◌*◌, length, arith, true, get_or, slice_get-get_or, open_gaps, MAX_GAPS, few_open, is_closed, on_ok}
use Rattle.fence_place.proofs.Recording.{split_event, other_event, kids_there, split_facts}
use Rattle.fence_place.proofs.RecordPushed.{bound_pushed, split_pushed, none_pushed, one_pushed}
use Rattle.fence_place.proofs.certificates.+push_tree.Goals as goal

pub push_tree-returns-in_default-event : goal.push_tree-returns-in_default-event
push_tree-returns-in_default-event t c =
    let (e, there, is) = c.in-Some.ensures in
    let closed : is_closed e ≡ true = other_event e.status c.in-Some.settled.event c.in_default-event.not-Split is.is_event in
    bound_pushed c.args.finished.now.entries c.args.numbers.now c.args.number e c.args.nodes.now.items c.push.new.self.items there closed c.in_ok-push.ensures.items

pub push_tree-unreachable-requires-in_default-first_child : goal.push_tree-unreachable-requires-in_default-first_child
push_tree-unreachable-requires-in_default-first_child t c =
    let (e, there, is) = c.in-Some.ensures in
    let s = split_event e.status c.in-Some.settled.event c.in-Split.run' c.in-Split.is is.is_event in
    c.in_default-first_child.ensures.none s.1 (e, there, s.0, s.2)

pub push_tree-overflow_cast-children : goal.push_tree-overflow_cast-children
push_tree-overflow_cast-children t c =
    let few : length (open_gaps c.passed.result c.in-Some.settled.node.never) ≤ MAX_GAPS = few_open c.passed.result c.in-Some.settled.node.never in
    let count : c.count_open-count.result ≡ length (open_gaps c.passed.result c.in-Some.settled.node.never) = c.count_open-count.ensures in
    omega arith

pub push_tree-push_trees-requires : goal.push_tree-push_trees-requires
push_tree-push_trees-requires t c =
    let o = c.args.finished.now in
    let first = c.in-Some-first_child.first in
    let (e, f, there, split, same_run, same_node) = split_facts o c.args.number first c.in-Some.settled c.in-Split.run' c.in-Some.ensures c.in-Split.is c.in-Some-first_child.ensures.some in
    let kids = kids_there o c.recall_facts.ensures.outcome c.args.number first e f there split in
    let later : c.args.number < first = kids.0 in
    let many : length c.args.numbers.now ≡ length o.entries = c.requires.as_many in
    let within : c.args.number < length c.args.numbers.now = c.requires.there in
    let count : c.count_open-count.result ≡ length (open_gaps f.passed e.node.never) = c.count_open-count.ensures ∙ (λ i. length (open_gaps (c.passed.ensures i) c.in-Some.settled.node.never))
    ∙ (λ i. length (open_gaps (same_run i).passed (same_node i).never)) in
    let fall = c.decreases in
    let less : 2 * (length c.args.numbers.now - first) + 1 < t = omega arith in
    (less, (many, λ i h. (let z : first + i < length o.entries = kids.1 i (omega arith) in omega arith)))

pub push_tree-returns : goal.push_tree-returns
push_tree-returns t c =
    let o = c.args.finished.now in
    let first = c.in-Some-first_child.first in
    let number = c.args.number in
    let (e, f, there, split, same_run, same_node) = split_facts o number first c.in-Some.settled c.in-Split.run' c.in-Some.ensures c.in-Split.is c.in-Some-first_child.ensures.some in
    let count : c.count_open-count.result ≡ length (open_gaps f.passed e.node.never) = c.count_open-count.ensures ∙ (λ i. length (open_gaps (c.passed.ensures i) c.in-Some.settled.node.never))
    ∙ (λ i. length (open_gaps (same_run i).passed (same_node i).never)) in
    let run = get_or c.args.numbers.now number 0 in
    on_ok c.push_trees.result _ _ (split_pushed o.entries c.args.numbers.now number run c.count_open-count.result e f first c.args.nodes.now.items _ c.push_trees.new.nodes.items there split
    (slice_get-get_or c.args.numbers.now number 0 c.requires.there) count c.in_ok-push-2.ensures.items) c.push_trees.ensures

pub push_trees-loop-i-init : goal.push_trees-loop-i-init
push_trees-loop-i-init t c = none_pushed c.args.finished.now.entries c.args.numbers.now c.args.first c.args.nodes.now.items

pub push_trees-loop-i-preserved : goal.push_trees-loop-i-preserved
push_trees-loop-i-preserved t c =
    one_pushed c.args.finished.now.entries c.args.numbers.now c.args.first c.loop-i.i c.args.nodes.now.items c.loop-i.nodes.items c.push_tree.new.nodes.items c.loop-i.invariant c.in_ok-push_tree.ensures
