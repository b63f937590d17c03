use Rattle.fencer.proofs.Vocabulary.{◌∙◌, inl, inr, refl, sym, codes, IfOk-weaker, version_line, answer, no_command, of_job, nothing, version, prints_line, prints_made, prints_more, prints_nothing}
use Rattle.fencer.proofs.Served.{other}
use Rattle.fencer.proofs.command.run_words.Goals as goal

pub returns-then-asks_version-clause-told : goal.returns-then-asks_version-clause-told
returns-then-asks_version-clause-told g c =
    prints_line c.version_line.result 0 (version_line (codes "fencer")) _ _ _ c.print.result (version (sym c.asks_version.ensures ∙ c.if-asks_version.true)) c.version_line.ensures c.print.ensures

pub returns-in-Ok-clause-told : goal.returns-in-Ok-clause-told
returns-in-Ok-clause-told g c =
    prints_more _ _ _ _ c.run_job.result (λ status text is. answer c.in-Ok.job status text (sym c.asks_version.ensures ∙ c.if-asks_version.false) c.in-Ok.ensures.job is) c.run_job.ensures.told

pub returns-in-Ok-clause-others : goal.returns-in-Ok-clause-others
returns-in-Ok-clause-others g c =
    λ name not_asked. c.run_job.ensures.others name
    (λ named. not_asked (record { job = c.in-Ok.job; asked = c.in-Ok.ensures.job; named = inl named }))
    (λ named. not_asked (record { job = c.in-Ok.job; asked = c.in-Ok.ensures.job; named = inr (inl named) }))
    (λ named. not_asked (record { job = c.in-Ok.job; asked = c.in-Ok.ensures.job; named = inr (inr named) }))

pub returns-in-OutOfMemory-clause-told : goal.returns-in-OutOfMemory-clause-told
returns-in-OutOfMemory-clause-told g c = prints_nothing _ _

pub returns-clause-told : goal.returns-clause-told
returns-clause-told g c =
    let refused = other c.in-Err.ensures.refused (λ memory. c.in_default.not-OutOfMemory (c.kind.ensures ∙ memory)) in
    prints_made c.error_text.result 2 _ _ _ c.print-in_default.result
    (IfOk-weaker c.error_text.result _ _ (λ text ends. no_command text.items (sym c.asks_version.ensures ∙ c.if-asks_version.false) refused ends) c.error_text.ensures) (rw c.tell_hint.ensures at c.print-in_default.ensures)

pub returns-in-Ok-clause-read : goal.returns-in-Ok-clause-read
returns-in-Ok-clause-read g c = of_job c.in-Ok.job c.in-Ok.ensures.job c.run_job.ensures.read

pub returns-in-OutOfMemory-clause-read : goal.returns-in-OutOfMemory-clause-read
returns-in-OutOfMemory-clause-read g c = nothing refl

pub returns-clause-read : goal.returns-clause-read
returns-clause-read g c = nothing refl

pub returns-then-asks_version-clause-read : goal.returns-then-asks_version-clause-read
returns-then-asks_version-clause-read g c = nothing refl
