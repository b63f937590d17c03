use Rattle.tso_program.proofs.Vocabulary.{◌≡◌, List, ℕ, None, ◌∙◌, sym, subst, Listing, IsWithinLimits, first_fault}
use Rattle.tso_program.proofs.WithinLimits.{within}
use Rattle.tso_program.proofs.program.Program.new.Goals as goal

pub returns-clause-limits : goal.returns-clause-limits
returns-clause-limits c =
    let none : first_fault c.args.threads.items c.args.memory.items ≡ None =
    (λ i. first_fault ((sym c.as_slice.ensures.value) i) ((sym c.as_slice-2.ensures.value) i)) ∙ sym c.broken_limit.ensures ∙ c.in_default.is in
    within c.args.threads.items c.args.memory.items none

pub invariant_of-result : goal.invariant_of-result
invariant_of-result c =
    let none : first_fault c.args.threads.items c.args.memory.items ≡ None =
    (λ i. first_fault ((sym c.as_slice.ensures.value) i) ((sym c.as_slice-2.ensures.value) i)) ∙ sym c.broken_limit.ensures ∙ c.in_default.is in
    let P : Listing → Type 0 = λ l. IsWithinLimits l.threads l.memory in
    subst P (sym c.in_ok-new.ensures.ok) (let Q : List ℕ → Type 0 = λ m. IsWithinLimits c.of.result m in subst Q (sym c.of-2.ensures) (subst (λ ts. IsWithinLimits ts c.args.memory.items) (sym c.of.ensures) (within c.args.threads.items c.args.memory.items none)))
