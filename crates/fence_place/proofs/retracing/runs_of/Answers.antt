use Rattle.fence_place.proofs.Vocabulary.{◌≡◌, ◌∙◌, ℕ, Some, refl, sym, ap, subst, slice_get, AreOf, Foreign, Entry, SettledEvent, Outcome, finished_state, IsOutcome, IsEventOf, facts_of, IsOfQuestion}
use Rattle.search_core.specs.declared.finished.SettledEvent.TheVariants as event
use Rattle.fence_place.proofs.Recording.{split_event}
use Rattle.fence_place.proofs.retracing.runs_of.Goals as goal
use Rattle.fence_place.proofs.retracing.runs_of.Goals.{in-Some+in_ok-add_run, in_default}

of_question : (o : Outcome) → IsOutcome o → (place : ℕ) (e : Entry) → slice_get o.entries place ≡ Some e → (v : SettledEvent) → IsEventOf e.status v → IsOfQuestion o.question v
of_question o is place e there (event.Split run) h =
    let s = split_event e.status (event.Split run) run refl h in
    ap (λ (f : Foreign). f.question) s.3 ∙ ((facts_of (finished_state o) is.reached).split place e s.0 s.1 there s.2).of_question
of_question o is place e there v h = tt

pub loop-number-preserved : goal.loop-number-preserved
loop-number-preserved c =
    let o = c.args.finished.now in
    elim c.match-settled.branch [
      | in-Some+in_ok-add_run w ↦
          let at = w.in-Some.ensures in
          subst (λ r. AreOf o.question r.items) (sym w.runs-is)
          (w.in_ok-add_run.ensures o.question (of_question o c.recall_facts.ensures.outcome c.loop-number.number at.0 at.1 w.in-Some.settled.event at.2.is_event) c.loop-number.invariant)
      | in_default w ↦ subst (λ r. AreOf o.question r.items) (sym w.runs-is) c.loop-number.invariant
    ]
