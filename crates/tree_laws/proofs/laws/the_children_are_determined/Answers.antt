use Rattle.tree_laws.proofs.OneList.{one_list_of_values_by, one_list_of_sources_by, one_list_of_choices_by, one_list_of_gaps}
use Rattle.tree_laws.proofs.DecidedBounds.{cheapest_are_one, bound_is_decided}
use Rattle.tree_laws.proofs.laws.the_children_are_determined.Goals as goal

pub returns : goal.returns
returns c = record { values = one_list_of_values_by; sources = one_list_of_sources_by; choices = one_list_of_choices_by; gaps = one_list_of_gaps; cheapest = cheapest_are_one; bound = bound_is_decided }
