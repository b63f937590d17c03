use Rattle.fence_place.proofs.Vocabulary.{[], Option, arith, ap, sym, ◌∙◌, subst, All, IfSome, AreOf, IsReadyWorker, All-pop, All-push, SeatView, IsOf, IsFresh}
use Rattle.fence_place.proofs.hunting.workers_at.Goals as goal

pub loop-seat-preserved : goal.loop-seat-preserved
loop-seat-preserved c =
    let h = c.args.hunt.now in
    let popped = All-pop (IsFresh h) c.loop-seat.seats.items c.pop.new.self.items c.pop.result c.pop.ensures.items c.loop-seat.invariant.0 in
    let fresh : IsFresh h c.in-Some.seat = subst (λ (r : Option SeatView). IfSome r (IsFresh h)) c.in-Some.is popped.1 in
    let none : AreOf h.question [] = λ k d below. absurd (omega arith) in
    let ready : IsReadyWorker h c.new.result = (
      record {
        of = subst (IsOf h) (sym c.new.ensures.seat) fresh.0;
        holds = ap (λ (s : SeatView). s.node) c.new.ensures.seat ∙ fresh.1;
        known = subst (AreOf h.question) (sym c.new.ensures.known) none;
      },
      c.new.ensures.stop,
    ) in (
      popped.0,
      subst (All (IsReadyWorker h)) (sym c.in_ok-push.ensures.items) (All-push (IsReadyWorker h) c.loop-seat.row.items c.new.result c.loop-seat.invariant.1 ready),
    )
