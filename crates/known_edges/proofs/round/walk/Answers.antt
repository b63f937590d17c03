use Rattle.known_edges.proofs.Vocabulary.{◌≡◌, ◌∙◌, ◌∷◌, ◌++◌, [], List, Some, Contains, slice_get, drop, ap, sym, subst, Event, IsRound}
use Rattle.std.proofs.lemmas.Result.{IfOk-weaker}
use Rattle.known_edges.proofs.NumberWalks.{IsWalk, event_at, comes_back, goes_on}
use Rattle.known_edges.proofs.round.walk.Goals as goal

pub bounds-events-d : goal.bounds-events-d
bounds-events-d c = let (e, edge, there) = c.requires.on c.loop-path.d c.loop-path.invariant.1.here in (c.requires.numbered c.loop-path.d e edge).0

pub returns-in-Some : goal.returns-in-Some
returns-in-Some c =
    let events = c.args.events.now in
    let next = c.next_number-next in
    let at = subst (λ (path : List Event). slice_get path c.in-Some.place ≡ Some (event_at events next.result)) (c.as_slice.ensures.value ∙ c.in_ok-push.ensures.items) c.in-Some.ensures.1 in
    let back = comes_back events c.args.relation.now c.args.row c.loop-path.path.items c.loop-path.d c.loop-path.open next.result c.without-open.result c.requires.numbered c.loop-path.invariant.1 next.ensures.2 c.in-Some.place at in
    IfOk-weaker c.from_place.result _ _
    (λ round items. subst (λ (es : List Event). IsRound events c.args.relation.now es) (sym (items ∙ ap (drop c.in-Some.place) c.in_ok-push.ensures.items)) back)
    c.from_place.ensures

pub loop-path-preserved : goal.loop-path-preserved
loop-path-preserved c =
    let events = c.args.events.now in
    let next = c.next_number-next in
    let fresh = λ (h : Contains (c.loop-path.path.items ++ event_at events c.loop-path.d ∷ []) (event_at events next.result)).
    c.in_default.ensures (subst (λ (path : List Event). Contains path (event_at events next.result)) (sym (c.as_slice.ensures.value ∙ c.in_ok-push.ensures.items)) h) in
    let more = goes_on events c.args.relation.now c.args.row c.loop-path.path.items c.loop-path.d c.loop-path.open next.result c.without-open.result c.requires.numbered c.loop-path.invariant.1 next.ensures.2
    next.ensures.1 c.without-open.ensures.numbers fresh in
    (next.ensures.0, subst (λ (path : List Event). IsWalk events c.args.relation.now c.args.row path next.result c.without-open.result) (sym c.in_ok-push.ensures.items) more)
