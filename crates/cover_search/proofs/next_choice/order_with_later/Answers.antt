use Rattle.cover_search.proofs.Vocabulary.{◌≡◌, ◌<◌, length, get_or, List, subst, sym, inl, inr, arith, cases_lt, WrittenValue, IsWrittenValue, AreWritesInOrder}
use Rattle.cover_search.proofs.NothingLeft.{in_order_at}
use Rattle.cover_search.proofs.next_choice.order_with_later.Goals as goal

pub needs_order-requires-clause-first : goal.needs_order-requires-clause-first
needs_order-requires-clause-first c =
    let first : WrittenValue = record { write = record { thread = 0; access = 0 }; location = 0; value = 0 } in
    subst (λ (ws : List WrittenValue). IsWrittenValue c.args.sketch.now (get_or ws c.args.place first)) (sym c.as_slice-writes.ensures.value) (c.requires.accesses.writes.each c.args.place first c.requires.place)

pub needs_order-requires-clause-second : goal.needs_order-requires-clause-second
needs_order-requires-clause-second c =
    let first : WrittenValue = record { write = record { thread = 0; access = 0 }; location = 0; value = 0 } in
    let n = c.loop-later.later in
    subst (λ (ws : List WrittenValue). IsWrittenValue c.args.sketch.now (get_or ws n first)) (sym c.as_slice-writes.ensures.value)
    (c.requires.accesses.writes.each n first (subst (λ (ws : List WrittenValue). n < length ws) c.as_slice-writes.ensures.value c.loop-later-test.true))

pub loop-later-preserved : goal.loop-later-preserved
loop-later-preserved c =
    let s = c.args.sketch.now in
    let n = c.loop-later.later in
    let writes = c.args.accesses.now.writes.items in
    let first : WrittenValue = record { write = record { thread = 0; access = 0 }; location = 0; value = 0 } in
    let within : n < length writes = subst (λ (ws : List WrittenValue). n < length ws) c.as_slice-writes.ensures.value c.loop-later-test.true in
    λ j d l h. elim (cases_lt j n) [
      | inl low ↦ c.loop-later.invariant j d l low
      | inr high ↦ (
          let same : j ≡ n = omega arith in
          in_order_at s writes c.args.place n j first d c.requires.place within same
          (subst (λ (ws : List WrittenValue). AreWritesInOrder s (get_or ws c.args.place first) (get_or ws n first)) c.as_slice-writes.ensures.value (c.needs_order.ensures.has c.if-needs_order.false)))
    ]
