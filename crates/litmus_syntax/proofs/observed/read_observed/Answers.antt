use Rattle.litmus_syntax.proofs.Vocabulary.{◌∙◌, sym, map, map_push, toks, place_view}
use Rattle.text_tokens.specs.declared.token.Mark.TheVariants as the
use Rattle.litmus_syntax.proofs.Options.{handed_on, mark_is_there}
use Rattle.litmus_syntax.proofs.ObservedLaws.{observed_begins, no_begin, next_observed, observed_stops, observed_ends}
use Rattle.litmus_syntax.proofs.observed.read_observed.Goals as goal

pub loop-rest-init : goal.loop-rest-init
loop-rest-init c = rw c.new-places.ensures.items (observed_begins c.args.threads (toks c.args.tokens.now) (toks c.in_ok-rest.rest.now) c.in_ok-rest.ensures)

pub loop-rest-preserved : goal.loop-rest-preserved
loop-rest-preserved c = rw (c.in_ok-push.ensures.items, map_push)
    (next_observed c.args.threads (toks c.args.tokens.now) (map place_view c.loop-rest.places.items) (toks c.loop-rest.rest.now) (place_view c.in_ok-place.place) (toks c.in_ok-place.after.now) c.loop-rest.invariant (sym c.begins.ensures ∙ c.loop-rest-test.true)
    c.in_ok-place.ensures.gives)

pub returns-in_err-rest : goal.returns-in_err-rest
returns-in_err-rest c = rw (handed_on c.from_residual.result c.from_residual.ensures.1) (no_begin c.args.threads (toks c.args.tokens.now) (sym c.begins_word.ensures ∙ c.if-not-begins_word.false) c.in_err-rest.ensures)

pub returns-in_err-place : goal.returns-in_err-place
returns-in_err-place c =
    rw (handed_on c.from_residual-in_err-place.result c.from_residual-in_err-place.ensures.1)
    (observed_stops c.args.threads (toks c.args.tokens.now) (map place_view c.loop-rest.places.items) (toks c.loop-rest.rest.now) c.loop-rest.invariant (sym c.begins.ensures ∙ c.loop-rest-test.true) c.in_err-place.ensures.gives)

pub returns-in_err-end : goal.returns-in_err-end
returns-in_err-end c = absurd (mark_is_there the.CloseBracket (toks c.loop-rest.rest.now) (sym c.begins.ensures ∙ c.loop-rest-test.false) c.in_err-end.ensures.gives)

pub returns : goal.returns
returns c = observed_ends c.args.threads (toks c.args.tokens.now) (map place_view c.loop-rest.places.items) (toks c.loop-rest.rest.now) (toks c.in_ok-end.end.now) c.loop-rest.invariant c.in_ok-end.ensures.gives
