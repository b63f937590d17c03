use Rattle.std.proofs.Common.{◌≡◌, ◌∙◌, ◌+◌, ◌<◌, ◌++◌, [], ℕ, ap, length, subst, sym, drop, arith}
use Rattle.std.specs.Global.{Vec}
use Rattle.std.proofs.lemmas.Slice.Zip.{AllZip-long}
use Rattle.held_values.specs.HeldLists.{IsHeldList, held_of}
use Rattle.held_values.specs.HeldRows.{AreHolders}
use Rattle.held_values.proofs.ListsHeld.{all_held, is_held_list, none_held, one_held}
use Rattle.held_values.proofs.lists.held_at.Goals as goal
use Rattle.held_values.proofs.lists.held_at.Goals.{then-table-n+in_ok-push, else-table-n}

pub bounds-table-n : goal.bounds-table-n
bounds-table-n c = omega (arith, c.loop-n-test.true, AllZip-long (AreHolders c.args.program.now) c.args.values.now c.args.table.now c.requires.table)

pub bounds-table-l : goal.bounds-table-l
bounds-table-l c = let few = c.recall_facts.ensures.within.shared.few_locations in omega (arith, c.requires.there, few)

pub loop-n-preserved : goal.loop-n-preserved
loop-n-preserved c =
    let values = c.args.values.now in
    let table = c.args.table.now in
    let whole = held_of values table c.args.l in
    let few : c.loop-n.n < length table = omega (arith, c.loop-n-test.true, AllZip-long (AreHolders c.args.program.now) values table c.requires.table) in
    elim c.if-table-n.branch [
      | then-table-n+in_ok-push w ↦
          one_held values table c.args.l c.loop-n.n 0 [] c.loop-n-test.true few c.loop-n.held.items c.if-table-n.held.items whole w.if-table-n.true
          (ap (λ (v : Vec ℕ). v.items) w.held-is ∙ w.in_ok-push.ensures.items) c.loop-n.invariant
      | else-table-n w ↦
          subst (λ (v : Vec ℕ). v.items ++ held_of (drop (c.loop-n.n + 1) values) (drop (c.loop-n.n + 1) table) c.args.l ≡ whole) (sym w.held-is)
          (none_held values table c.args.l c.loop-n.n 0 [] c.loop-n-test.true few c.loop-n.held.items whole w.if-table-n.false c.loop-n.invariant)
    ]

pub returns : goal.returns
returns c =
    let p = c.args.program.now in
    let whole = held_of c.args.values.now c.args.table.now c.args.l in
    subst (IsHeldList p c.args.l) (sym (all_held c.args.values.now c.args.table.now c.args.l c.loop-n.n c.loop-n.held.items whole (omega (arith, c.loop-n-test.false)) c.loop-n.invariant))
    (is_held_list p c.args.l c.requires.there c.args.values.now c.args.table.now c.requires.ascending c.requires.all c.requires.table)
