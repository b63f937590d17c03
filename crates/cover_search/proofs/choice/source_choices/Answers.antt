use Rattle.cover_search.proofs.Vocabulary.{◌↔◌, ◌≡◌, Some, Contains, sym, ap, ◌∙◌, map, subst, Event, IsSourceOf, IsWhole, mode_in, event_of, IsRead}
use Rattle.candidate_executions.proofs.Orders.Lists.{some_value}
use Rattle.tree_laws.specs.declared.choice.Choice.TheVariants as choice
use Rattle.cover_judge.proofs.ChoicesJudged.{sources_are, sources_may, no_source}
use Rattle.cover_search.proofs.choice.source_choices.Goals as goal

pub returns-then-is_some-clause-sources : goal.returns-then-is_some-clause-sources
returns-then-is_some-clause-sources c open_read =
    let (source, e) = some_value c.source.result (sym c.is_some.ensures ∙ c.if-is_some.true) in
    open_read.free (source, subst (λ (d : Event). Contains c.args.sketch.now.chosen.sources (d, source)) c.event_of.ensures ((c.source.ensures source).0 e))

pub returns-in_ok-each_source-in-Ok-clause-sources : goal.returns-in_ok-each_source-in-Ok-clause-sources
returns-in_ok-each_source-in-Ok-clause-sources c =
    let s = c.args.sketch.now in
    let read = event_of c.args.read in
    let sources = c.in-Ok.sources.items in
    let found = subst (λ (d : Event). (source : Event) → (c.source.result ≡ Some source) ↔ Contains s.chosen.sources (d, source)) c.event_of.ensures c.source.ensures in
    let free = no_source s read c.source.result (sym c.is_some.ensures ∙ c.if-is_some.false) found in
    let allowed = subst (λ (d : Event). IsWhole s.program (mode_in s) s.chosen × IsRead s d) c.event_of-2.ensures c.in-Ok.ensures.allowed in
    let exact = subst (λ (d : Event). (source : Event) → Contains sources source ↔ IsSourceOf s.program (mode_in s) s.chosen source d) c.event_of-2.ensures c.in-Ok.ensures.exact in
    record {
      sources = sources;
      next = sources_are s read sources allowed free c.in-Ok.ensures.ordered exact;
      each = c.in_ok-each_source-in-Ok.ensures ∙ ap (map (choice.Source c.args.read)) c.deref.ensures.value;
    }

pub returns-in_ok-each_source-in-Ok-clause-may : goal.returns-in_ok-each_source-in-Ok-clause-may
returns-in_ok-each_source-in-Ok-clause-may c =
    sources_may c.args.sketch.now c.args.read c.in_ok-each_source-in-Ok.field-0.items (returns-in_ok-each_source-in-Ok-clause-sources c)
