use Rattle.cert_trees.proofs.Vocabulary.{◌≡◌, ℕ, ◌≤◌, ◌+◌, ◌-◌, ◌++◌, List, length, take, drop, refl, ap, sym, ◌∙◌, arith, copy_within, remove_range, length-drop, take_all}
use Rattle.std.proofs.lemmas.List.Edits.{take-paste}
use Rattle.cert_trees.proofs.node.take_out.Goals as goal

-- what is copied over the nodes that go ends where as many are left
taken_out : {A : Type 0} (xs : List A) (from to end left : ℕ) → from ≤ to → to ≤ length xs → end ≡ length xs → left ≡ end - (to - from)
    → take left (copy_within xs to end from) ≡ remove_range xs from to
taken_out xs from to end left order within all many =
    let n = end - to in
    let count : left ≡ from + n = omega arith in
    let fits : from ≤ length xs = omega arith in
    let enough : n ≤ length (drop to xs) = omega (arith, length-drop to xs) in
    let rest : take n (drop to xs) ≡ drop to xs = take_all n (drop to xs) (omega (arith, length-drop to xs)) in
    ap (λ (m : ℕ). take m (copy_within xs to end from)) count ∙ take-paste xs from (drop to xs) n fits enough ∙ ap (λ ys. take from xs ++ ys) rest

pub returns : goal.returns
returns c =
    let xs = c.args.nodes.now.items in
    let end = c.len.result in
    let all : end ≡ length xs = omega (arith, c.len.ensures, c.args.nodes.now.ok.0) in
    c.truncate.ensures.items ∙ ap (take (end - (c.args.to - c.args.from))) c.copy_within.ensures.items
    ∙ ap (λ (m : ℕ). take (end - (c.args.to - c.args.from)) (copy_within xs c.args.to m c.args.from)) (sym c.len.ensures)
    ∙ taken_out xs c.args.from c.args.to end (end - (c.args.to - c.args.from)) c.requires.order c.requires.within all refl
