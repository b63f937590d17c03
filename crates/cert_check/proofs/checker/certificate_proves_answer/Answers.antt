use Rattle.cert_check.proofs.Vocabulary.{sym, subst, Listing}
use Rattle.tso_program.specs.Limits.{IsWithinLimits}
use Rattle.cert_check.proofs.checker.certificate_proves_answer.Goals as goal

pub returns-clause-valid : goal.returns-clause-valid
returns-clause-valid c q certificate is valid =
    c.a_valid_certificate_proves_the_headline.ensures q c.args.costs.now certificate (subst (λ (p : Listing). IsWithinLimits p.threads p.memory) (sym is) c.recall_facts.ensures.within) (λ k d h. (c.recall_facts-2.ensures.limits.each k d h).0) valid

pub returns-clause-told : goal.returns-clause-told
returns-clause-told c q gaps cost is = c.the_headline_tells_the_answer.ensures q c.args.costs.now gaps cost (subst (λ (p : Listing). IsWithinLimits p.threads p.memory) (sym is) c.recall_facts.ensures.within)
