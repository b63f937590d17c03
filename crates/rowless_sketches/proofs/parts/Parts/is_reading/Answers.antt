use Rattle.rowless_sketches.proofs.Vocabulary.{◌≡◌, ◌↔◌, ◌∙◌, ℕ, Bool, false, Option, None, IsSome, refl, IsTrue, ap, sym, subst, is_some, ProgramSketch, mode_in, trace_next, past_next, no_trace}
use Rattle.candidate_executions.specs.Sketches as sketches
use Rattle.rowless_sketches.proofs.parts.Parts.is_reading.Goals as goal

tested : (o next : Option ℕ) (b : Bool) → b ≡ is_some o → o ≡ next → IsTrue b ↔ IsSome next
tested o next b is same = subst (λ (x : Option ℕ). IsTrue b ↔ IsSome x) same (subst (λ (t : Bool). IsTrue t ↔ IsSome o) (sym is) (λ t. t, λ some. some))

pub returns-in-Some : goal.returns-in-Some
returns-in-Some c =
    let trace = c.in-Some.thread_trace.now in
    let there = sym c.in-Some.ensures in
    tested trace.next _ c.is_some.result c.is_some.ensures
    ((c.self.invariant.traces_are c.args.thread trace there).next ∙ sym (trace_next _ _ _ _ _ c.self.invariant c.args.thread trace there)
    ∙ ap (λ (s : ProgramSketch). sketches.next_read s.program (mode_in s) s.chosen c.args.thread) c.self.view_is)

pub returns-in-None : goal.returns-in-None
returns-in-None c =
    tested None _ false refl
    (sym (past_next _ _ _ _ _ c.self.invariant c.args.thread (no_trace _ _ _ _ _ c.self.invariant c.args.thread (sym c.in-None.ensures)))
    ∙ ap (λ (s : ProgramSketch). sketches.next_read s.program (mode_in s) s.chosen c.args.thread) c.self.view_is)
