use Rattle.std.proofs.lemmas.Result.{IfOk-weaker}
use Rattle.thread_traces.proofs.location_values.values_of.Goals as goal

pub returns-clause-exact : goal.returns-clause-exact
returns-clause-exact c =
    let gathered = c.in_ok-gathered.ensures in
    IfOk-weaker c.each_once.result _ _ (λ once same v. (λ h. (gathered v).0 ((same v).0 h), λ is. (same v).1 ((gathered v).1 is))) c.each_once.ensures.same
