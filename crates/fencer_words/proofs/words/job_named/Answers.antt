use Rattle.fencer_words.proofs.Vocabulary.{◌≡◌, ◌⊎◌, IfNone, IfSome, Option, inr, map, subst, string_bytes, app_of, kind_of, Error, OutOfMemory, IsNoCommand, IsJobMet, MeetsNoJob}
use Rattle.clap.proofs.TakesLemmas.{passed_up}
use Rattle.fencer_words.specs.declared.job.Job.{Job}
use Rattle.fencer_words.proofs.Faultless.{no_command, no_fault, reads, met_nothing}
use Rattle.fencer_words.proofs.words.job_named.Goals as goal

pub returns-in_err-matches-clause-refused : goal.returns-in_err-matches-clause-refused
returns-in_err-matches-clause-refused c =
    let made = c.in_ok-command.ensures in
    passed_up c.from_residual-in_err-matches.result c.in_err-matches.field-0.0 (λ (error : Error). (kind_of error ≡ OutOfMemory) ⊎ IsNoCommand (map string_bytes c.args.words.now)) c.from_residual-in_err-matches.ensures.1
    (no_command (app_of c.in_ok-command.field-0) made.choices (map string_bytes c.args.words.now) c.in_err-matches.field-0.0 made.are_choices made.built.shape c.in_err-matches.ensures.kinds)

pub returns-in-Some-clause-job : goal.returns-in-Some-clause-job
returns-in-Some-clause-job c =
    let made = c.in_ok-command.ensures in
    let words = map string_bytes c.args.words.now in
    let app = app_of c.in_ok-command.field-0 in
    let none = no_fault app made.choices words made.built.shape c.in_ok-matches.ensures.kinds in
    let job = subst (λ (o : Option Job). IfSome o (IsJobMet c.in_ok-matches.matches)) c.in-Some.is c.in_ok-job.ensures.some in
    record {
      choices = made.choices;
      are_choices = made.are_choices;
      name = job.name;
      rows = job.rows;
      no_fault = none;
      read = reads app made.choices words c.in_ok-matches.matches made.built.shape none c.in_ok-matches.ensures.matches job.name job.rows job.met;
      once = job.once;
      not_in_vain = job.not_in_vain;
      input_once = job.input_once;
      asked = job.asked;
    }

pub returns-clause-refused : goal.returns-clause-refused
returns-clause-refused c =
    let made = c.in_ok-command.ensures in
    let words = map string_bytes c.args.words.now in
    let app = app_of c.in_ok-command.field-0 in
    let none = no_fault app made.choices words made.built.shape c.in_ok-matches.ensures.kinds in
    let is_none = met_nothing app made.choices words c.in_ok-matches.matches made.built.shape none c.in_ok-matches.ensures.matches made.are_choices
    (subst (λ (o : Option Job). IfNone o (MeetsNoJob c.in_ok-matches.matches)) c.in-None.is c.in_ok-job.ensures.none) in
    inr is_none
