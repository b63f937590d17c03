use Rattle.fencer_words.proofs.Vocabulary.{◌≡◌, ◌⊎◌, inr, map, string_bytes, kind_of, clashing, Error, OutOfMemory, IsNoCommand}
use Rattle.clap.proofs.TakesLemmas.{passed_up}
use Rattle.fencer_words.proofs.words.read_words.Goals as goal

pub returns-in_err-check_files-clause-refused : goal.returns-in_err-check_files-clause-refused
returns-in_err-check_files-clause-refused c =
    passed_up c.from_residual-in_err-check_files.result c.in_err-check_files.field-0.0 (λ (error : Error). (kind_of error ≡ OutOfMemory) ⊎ IsNoCommand (map string_bytes c.args.words.now))
    c.from_residual-in_err-check_files.ensures.1 (inr (clashing c.in_ok-job.job c.in_ok-job.ensures.job c.in_err-check_files.ensures.clashing))
