use Rattle.rowless_sketches.proofs.Vocabulary.{◌≡◌, ◌∙◌, ◌+◌, true, false, length, refl, sym, subst, Vec, slice_get_read, Event, At, IsSourceOf, ProgramSketch, mode_in, ReadsThisValue, AreListedTo}
use Rattle.rowless_sketches.proofs.SourceLists.{next_thread, unwritten}
use Rattle.rowless_sketches.proofs.parts.Parts.push_sources.Goals as goal
use Rattle.rowless_sketches.proofs.parts.Parts.push_sources.Goals.{then-writes+in_ok-push_sources_in, else-writes}

pub loop-t-preserved : goal.loop-t-preserved
loop-t-preserved c h =
    let s = c.args.self.now in
    let read = c.args.read in
    let t = c.loop-t.t in
    let traces = c.self.inside.thread_traces.now in
    let before = c.loop-t.invariant h in
    let own = c.thread_trace-item.result in
    let at = slice_get_read traces (length traces) t own refl c.loop-t-test.true c.thread_trace-item.is in
    let reads = subst (λ (k : ProgramSketch). ReadsThisValue k read c.args.location c.args.value) (sym c.self.view_is) c.requires in
    elim c.if-writes.branch [
      | then-writes+in_ok-push_sources_in w ↦ subst (λ (v : Vec Event). AreListedTo s read (t + 1) 0 v.items) (sym w.sources-is) (w.in_ok-push_sources_in.ensures before)
      | else-writes w ↦ subst (λ (v : Vec Event). AreListedTo s read (t + 1) 0 v.items) (sym w.sources-is) (next_thread s read t 0 c.loop-t.sources.items before
          (λ j past gives. unwritten c.self.inside.program.now c.self.inside.mode.now traces c.self.inside.sources.now c.self.inside.pairs.now c.self.invariant read c.args.location c.args.value t own at reads
          (λ i x here place written. (let no : true ≡ false = sym (c.writes.ensures i x here place written) ∙ w.if-writes.false in cc))
          j (subst (λ (k : ProgramSketch). IsSourceOf k.program (mode_in k) k.chosen (At t j) read) (sym c.self.view_is) gives)))
    ]
