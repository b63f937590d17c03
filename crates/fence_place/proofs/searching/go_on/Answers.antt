use Rattle.fence_place.proofs.Vocabulary.{sym, subst, ◌<◌, ◌≡◌, ◌∙◌, ℕ, arith, Question, AreGapsOf, IsDone, work_left}
use Rattle.search_core.specs.Faults.{TakeFaultIs}
use Rattle.fence_place.proofs.Settling.{all_done, none_after}
use Rattle.fence_place.proofs.searching.go_on.Goals as goal

pub returns-in-Err-NothingOpen-clause-done : goal.returns-in-Err-NothingOpen-clause-done
returns-in-Err-NothingOpen-clause-done g c = λ _.
    let fault = subst (TakeFaultIs c.args.tree.now 0) c.in-Err-NothingOpen.field-0-is c.in-Err-NothingOpen.ensures.fault in
    subst IsDone (sym c.in-Err-NothingOpen.ensures.unchanged) (all_done c.args.tree.now c.requires.rest.none_held fault.1)

pub settle-requires-clause-ready : goal.settle-requires-clause-ready
settle-requires-clause-ready g c κs within =
    let same = c.in-Ok.ensures.same in
    record {
      of_question = same.question ∙ c.requires.rest.of_question;
      known = c.requires.rest.known;
      in_hand = record { is_seat = subst (λ (n : ℕ). 0 < n) (sym same.seats) c.requires.rest.seats; holds = c.in-Ok.ensures.holds };
      gaps = subst (λ (q : Question). AreGapsOf q.program c.in-Ok.node.must) c.requires.rest.of_question c.in-Ok.ensures.of_program;
    }

pub returns-clause-rest : goal.returns-clause-rest
returns-clause-rest g c =
    let same = c.in-Ok.ensures.same in
    let settled = c.in_ok-settle.ensures in
    record {
      of_question = settled.same.question ∙ same.question ∙ c.requires.rest.of_question;
      seats = subst (λ (n : ℕ). 0 < n) (sym (settled.same.seats ∙ same.seats)) c.requires.rest.seats;
      known = settled.known;
      none_held = none_after c.args.tree.now c.take.new.self c.in-Ok.node c.requires.rest.none_held c.in-Ok.ensures.taken c.settle.new.tree settled.settled;
    }

pub returns-clause-less : goal.returns-clause-less
returns-clause-less g c = λ _.
    let settled : work_left c.settle.new.tree.entries < work_left c.take.new.self.entries = c.settling_lessens_the_work.ensures.settled c.take.new.self c.settle.new.tree 0 c.recall_facts.ensures.reached c.in_ok-settle.ensures.settled in
    let taken : work_left c.take.new.self.entries ≡ work_left c.args.tree.now.entries = c.settling_lessens_the_work.ensures.taken c.args.tree.now c.take.new.self 0 c.in-Ok.node c.in-Ok.ensures.taken in
    omega arith
