use Rattle.tso_program.proofs.Vocabulary.{◌≡◌, List, ℕ, None, ◌∙◌, sym, subst, Listing, IsWithinFencedLimits, first_fenced_fault}
use Rattle.tso_program.proofs.WithinLimits.{within_fenced}
use Rattle.tso_program.proofs.fenced.FencedProgram.new.Goals as goal

pub returns-clause-limits : goal.returns-clause-limits
returns-clause-limits c =
    let none : first_fenced_fault c.args.threads.items c.args.memory.items ≡ None =
    (λ i. first_fenced_fault ((sym c.as_slice.ensures.value) i) ((sym c.as_slice-2.ensures.value) i)) ∙ sym c.broken_fenced_limit.ensures ∙ c.in_default.is in
    within_fenced c.args.threads.items c.args.memory.items none

pub invariant_of-result : goal.invariant_of-result
invariant_of-result c =
    let none : first_fenced_fault c.args.threads.items c.args.memory.items ≡ None =
    (λ i. first_fenced_fault ((sym c.as_slice.ensures.value) i) ((sym c.as_slice-2.ensures.value) i)) ∙ sym c.broken_fenced_limit.ensures ∙ c.in_default.is in
    let P : Listing → Type 0 = λ l. IsWithinFencedLimits l.threads l.memory in
    let Q : List ℕ → Type 0 = λ m. IsWithinFencedLimits c.of.result m in
    subst P (sym c.in_ok-new.ensures.ok) (subst Q (sym c.of-2.ensures) (subst (λ ts. IsWithinFencedLimits ts c.args.memory.items) (sym c.of.ensures) (within_fenced c.args.threads.items c.args.memory.items none)))
