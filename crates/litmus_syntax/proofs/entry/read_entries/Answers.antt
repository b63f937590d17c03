use Rattle.litmus_syntax.proofs.Vocabulary.{◌∙◌, sym, map, map_push, toks, place_view, entry_view}
use Rattle.text_tokens.specs.declared.token.Mark.TheVariants as the
use Rattle.litmus_syntax.proofs.Options.{handed_on, mark_is_there, not_taken}
use Rattle.litmus_syntax.proofs.EntryLaws.{no_entry_yet, one_more_entry, place_again_stands, no_place_stands, no_value_stands, entries_end}
use Rattle.litmus_syntax.proofs.entry.read_entries.Goals as goal

pub returns-in_err-rest : goal.returns-in_err-rest
returns-in_err-rest c = rw (handed_on c.from_residual.result c.from_residual.ensures.1) (λ es last h. not_taken the.OpenBrace (toks c.args.tokens.now) c.in_err-rest.ensures.gives h.0.0 h.0.1)

pub loop-alloc-init : goal.loop-alloc-init
loop-alloc-init c = rw c.new-entries.ensures.items (no_entry_yet (toks c.args.tokens.now) (toks c.in_ok-rest.rest.now) c.args.seen.now c.in_ok-rest.ensures.gives c.requires)

pub returns-in_err-place : goal.returns-in_err-place
returns-in_err-place c =
    rw (handed_on c.from_residual-in_err-place.result c.from_residual-in_err-place.ensures.1)
    (no_place_stands (toks c.args.tokens.now) (map entry_view c.loop-alloc.entries.items) (toks c.loop-alloc.rest.now) c.loop-alloc.seen c.loop-alloc.invariant (sym c.begins.ensures ∙ c.loop-alloc-test.true) c.in_err-place.ensures.gives)

pub returns-in_err-value : goal.returns-in_err-value
returns-in_err-value c =
    rw (handed_on c.from_residual-in_err-value.result c.from_residual-in_err-value.ensures.1)
    (no_value_stands (toks c.args.tokens.now) (map entry_view c.loop-alloc.entries.items) (toks c.loop-alloc.rest.now) c.loop-alloc.seen (place_view c.in_ok-place.place) (toks c.in_ok-place.after.now) c.loop-alloc.invariant
    (sym c.begins.ensures ∙ c.loop-alloc-test.true) c.in_ok-place.ensures.gives c.in_err-value.ensures.gives)

pub returns-then-not-branch : goal.returns-then-not-branch
returns-then-not-branch c =
    place_again_stands (toks c.args.tokens.now) (map entry_view c.loop-alloc.entries.items) (toks c.loop-alloc.rest.now) c.loop-alloc.seen (place_view c.in_ok-place.place) (toks c.in_ok-place.after.now) c.loop-alloc.invariant
    (sym c.begins.ensures ∙ c.loop-alloc-test.true) c.in_ok-place.ensures.gives (sym c.if-not-branch.true ∙ c.in_ok-add.ensures.new)

pub loop-alloc-preserved : goal.loop-alloc-preserved
loop-alloc-preserved c = rw (c.in_ok-push.ensures.items, map_push)
    (one_more_entry (toks c.args.tokens.now) (map entry_view c.loop-alloc.entries.items) (toks c.loop-alloc.rest.now) c.loop-alloc.seen c.add.new.self (place_view c.in_ok-place.place) c.in_ok-value.value (toks c.in_ok-place.after.now)
    (toks c.in_ok-value.after.now) c.loop-alloc.invariant (sym c.begins.ensures ∙ c.loop-alloc-test.true) c.in_ok-place.ensures.gives (sym c.if-not-branch.false ∙ c.in_ok-add.ensures.new) c.in_ok-add.ensures.added c.in_ok-value.ensures.gives)

pub returns-in_err-end : goal.returns-in_err-end
returns-in_err-end c = absurd (mark_is_there the.CloseBrace (toks c.loop-alloc.rest.now) (sym c.begins.ensures ∙ c.loop-alloc-test.false) c.in_err-end.ensures.gives)

pub returns : goal.returns
returns c = entries_end (toks c.args.tokens.now) (map entry_view c.loop-alloc.entries.items) (toks c.loop-alloc.rest.now) (toks c.in_ok-end.end.now) c.loop-alloc.seen c.loop-alloc.invariant c.in_ok-end.ensures.gives
