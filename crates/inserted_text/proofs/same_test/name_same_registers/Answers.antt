use Rattle.std.proofs.Common.{◌∙◌, ◌++◌, ◌∷◌, ℕ, Bool, List, [], ap₂, sym, arith, rules}
use Rattle.std.proofs.lemmas.List.FromFn.{map-range_with_len_more}
use Rattle.inserted_text.specs.Internal.SameTests.{named_registers}
use Rattle.inserted_text.proofs.same_test.name_same_registers.Goals as goal

pub loop-thread-preserved : goal.loop-thread-preserved
loop-thread-preserved c =
    let one : ℕ → List Bool = named_registers c.args.one.now in
    let other : ℕ → List Bool = named_registers c.args.other.now in
    let n = c.loop-thread.thread in
    map-range_with_len_more one 0 n n (omega arith)
    ∙ ap₂ (λ (rows : List (List Bool)) (row : List Bool). rows ++ row ∷ []) c.loop-thread.invariant (search rules)
    ∙ sym (map-range_with_len_more other 0 n n (omega arith))
