use Rattle.thread_traces.proofs.Vocabulary.{Contains, inl, inr, subst}
use Rattle.std.proofs.lemmas.Result.{IfOk-weaker}
use Rattle.candidate_executions.proofs.Orders.Lists.{none_here}
use Rattle.thread_traces.proofs.location_values.known_values.Goals as goal

pub returns-clause-exact : goal.returns-clause-exact
returns-clause-exact c =
    let pushed = c.in_ok-push_known.ensures in
    IfOk-weaker c.each_once.result _ _ (λ once same v. (
      λ h. elim ((pushed v).0 ((same v).0 h)) [ inl old ↦ absurd (none_here v (subst (λ xs. Contains xs v) c.new-values.ensures.items old)) | inr is ↦ is ],
      λ is. (same v).1 ((pushed v).1 (inr is)),
    )) c.each_once.ensures.same
