-- The names of files, as a job's are kept.
use Rattle.std.specs.Prelude.{option_map}
use Rattle.fencer_words.specs.declared.files.FileNames.{FileNames as Kept}
use Rattle.fencer_words.specs.CommandFiles.{FileNames}

abbrev pub kept_names : Kept → FileNames
kept_names n = record {
  litmus = option_map (λ name. name.now) n.litmus;
  costs = option_map (λ name. name.now) n.costs;
  first = option_map (λ name. name.now) n.first;
  second = option_map (λ name. name.now) n.second;
  third = option_map (λ name. name.now) n.third;
}
