use Rattle.cover_search.proofs.Vocabulary.{◌≡◌, ◌↔◌, ℕ, Option, Some, Contains, true, false, not, IsSome, refl, sym, subst, ap, ◌∙◌, Event, event_of}
use Rattle.std.specs.Option.{is_some}
use Rattle.program_sketches.proofs.Chosen.{has_source_by}
use Rattle.cover_search.proofs.open_choice.needs_source.Goals as goal

pub returns-clause-needs : goal.returns-clause-needs
returns-clause-needs c =
    let chosen = subst (λ e. (source : Event) → (c.source.result ≡ Some source) ↔ Contains c.args.sketch.now.chosen.sources (e, source)) c.event_of.ensures c.source.ensures in
    λ yes. record {
      is_read = (c.requires.access, c.requires.is_access, subst (λ (o : Option ℕ). IsSome o) (sym c.requires.reads) refl);
      free = λ h. (let is = (chosen h.0).1 h.1 in let none : true ≡ false = sym (ap is_some is) ∙ c.is_none.ensures ∙ ap not yes in absurd cc);
    }

pub returns-clause-has : goal.returns-clause-has
returns-clause-has c =
    let chosen = subst (λ e. (source : Event) → (c.source.result ≡ Some source) ↔ Contains c.args.sketch.now.chosen.sources (e, source)) c.event_of.ensures c.source.ensures in
    λ none reads. (has_source_by c.args.sketch.now (event_of c.args.read.read) c.source.result (is_some c.source.result) refl chosen).0 (c.is_none.ensures ∙ ap not none)
