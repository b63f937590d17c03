use Rattle.answers.proofs.Vocabulary.{option_map}
use Rattle.answers.proofs.Delivered.{both_keep, still_held}
use Rattle.answers.proofs.delivery.keep_files.Goals as goal

pub returns-in-Ok-keep_file-clause-kept : goal.returns-in-Ok-keep_file-clause-kept
returns-in-Ok-keep_file-clause-kept g c =
    let first = option_map (λ name. name.now) c.args.first in
    let second = option_map (λ name. name.now) c.args.second in
    record {
      in_first = still_held first second (g.S.FileStore.held c.keep_file.new.files) (g.S.FileStore.held c.keep_file-in-Ok.new.files) c.args.answer.now.first c.in-Ok.ensures.kept c.keep_file-in-Ok.ensures.others;
      in_second = c.in-Ok-keep_file.ensures.kept;
    }

pub returns-in-Ok-keep_file-clause-others : goal.returns-in-Ok-keep_file-clause-others
returns-in-Ok-keep_file-clause-others g c =
    both_keep (option_map (λ name. name.now) c.args.first) (option_map (λ name. name.now) c.args.second) (g.S.FileStore.held c.args.files.now) (g.S.FileStore.held c.keep_file.new.files) (g.S.FileStore.held c.keep_file-in-Ok.new.files) c.keep_file.ensures.others c.keep_file-in-Ok.ensures.others
