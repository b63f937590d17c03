-- What many proofs of this crate speak of, imported once.
pub use Rattle.std.proofs.Common.{List, None, Option, Some, [], ap, append-nil, append_assoc, arith, get_or, length, map, refl, subst, suc, sym, take, ℕ, ◌++◌, ◌+◌, ◌<◌, ◌∙◌, ◌∷◌, ◌≡◌, ◌≤◌}
pub use Rattle.std.proofs.lemmas.List.{map-append}
pub use Rattle.std.specs.List.{All, flat_map, range_with_len}
pub use Rattle.outcome_text.proofs.Joined.{flat_range_more}
pub use Rattle.tso_program.specs.declared.listing.Listing.{Listing}
pub use Rattle.tso_machine.specs.declared.label.Label.{Label}
pub use Rattle.sequential_states.specs.Executions.{IsAnswer}
pub use Rattle.survey_text.specs.Surveys.{fence_line, unexecuted_line}
pub use Rattle.survey_text.specs.Visits.{AreVisits, IsVisit, first_places, place_of, thread_places}
pub use Rattle.survey_text.specs.declared.visit.Visit.{Visit}
