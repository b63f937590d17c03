use Rattle.std.proofs.Common.{◌≡◌, ◌∙◌, Bool, true, false, List, length, sym, subst}
use Rattle.std.proofs.lemmas.Slice.Eq.{slice_eq-Decides}
use Rattle.std.specs.Cmp.{booleans_Decides}
use Rattle.held_values.specs.HeldRows.{IsPassed}
use Rattle.held_values.proofs.Bits.{fewer}
use Rattle.held_values.proofs.PassesMade.{exact, still_initial}
use Rattle.held_values.proofs.holders.all_holders.Goals as goal

pub returns-then-eq : goal.returns-then-eq
returns-then-eq c =
    let p = c.args.program.now in
    let same : c.pass.new.holders ≡ c.loop-holders.holders = (slice_eq-Decides booleans_Decides c.pass.new.holders c.loop-holders.holders c.eq.result c.eq.ensures).0 c.if-eq.true in
    exact p c.args.value c.pass.new.holders c.recall_facts.ensures.within
    (subst (λ (h : List Bool). IsPassed p c.args.value (length p.threads) h c.pass.new.holders) (sym same) c.in_ok-pass.ensures)
    (still_initial p c.args.value (length p.threads) c.loop-holders.holders c.pass.new.holders c.in_ok-pass.ensures c.loop-holders.invariant)

pub loop-holders-smaller : goal.loop-holders-smaller
loop-holders-smaller c =
    fewer c.loop-holders.holders c.pass.new.holders c.in_ok-pass.ensures.long c.in_ok-pass.ensures.kept (λ same.
    (let no : false ≡ true = sym c.if-eq.false ∙ (slice_eq-Decides booleans_Decides c.pass.new.holders c.loop-holders.holders c.eq.result c.eq.ensures).1 same in cc))
