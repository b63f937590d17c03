use Rattle.known_edges.proofs.Vocabulary.{◌≤◌, ℕ, List, length, sym, ap, subst, refl, arith, MAX_INSTRUCTIONS, Event, ThreadTrace, accesses_at, AreAccesses, HaveLocations, AreWriteRows, EachEnds, FitRow}
use Rattle.known_edges.proofs.{Located.are_located, Numbered.courses_short, Numbered.fit_row, Starts.numbered_all}
use Rattle.known_edges.proofs.numbered_traces.Traces.new.Goals as goal

pub number_accesses-requires-clause-short : goal.number_accesses-requires-clause-short
number_accesses-requires-clause-short c =
    let (p, mode, sources, pairs, kept) = c.requires in
    subst (λ (thread_traces : List ThreadTrace). (t : ℕ) → length (accesses_at thread_traces t) ≤ MAX_INSTRUCTIONS) (sym c.as_slice-2.ensures.value)
    (courses_short p mode c.args.thread_traces.items sources pairs kept)

pub number_accesses-requires-clause-fit : goal.number_accesses-requires-clause-fit
number_accesses-requires-clause-fit c =
    let (p, mode, sources, pairs, kept) = c.requires in
    subst (λ (thread_traces : List ThreadTrace). FitRow thread_traces) (sym c.as_slice-2.ensures.value) (fit_row p mode c.args.thread_traces.items sources pairs kept)

pub invariant_of-result-2 : goal.invariant_of-result-2
invariant_of-result-2 c =
    let (p, mode, sources, pairs, kept) = c.requires in
    let accesses = subst (λ (thread_traces : List ThreadTrace). AreAccesses thread_traces c.number_accesses.new.events.items) c.as_slice-2.ensures.value c.in_ok-number_accesses.ensures.accesses in
    let ends = subst (λ (thread_traces : List ThreadTrace). EachEnds thread_traces) c.as_slice.ensures.value (c.each_ends.ensures.0 c.if-not-each_ends.false) in
    record {
      numbered = numbered_all c.args.thread_traces.items c.number_accesses.new.events.items (fit_row p mode c.args.thread_traces.items sources pairs kept) accesses;
      ends = (λ t. ends, λ h. refl);
      starts_are = c.in_ok-number_accesses.ensures.starts;
      counts_are = c.in_ok-number_accesses.ensures.counts;
      written_are = subst (λ (thread_traces : List ThreadTrace). AreWriteRows thread_traces c.number_accesses.new.events.items c.write_rows-written.result) c.as_slice-3.ensures.value
          (subst (λ (events : List Event). AreWriteRows c.as_slice-3.result.now events c.write_rows-written.result) c.as_slice-4.ensures.value c.write_rows-written.ensures);
    }

pub returns-clause-numbered : goal.returns-clause-numbered
returns-clause-numbered c =
    let (p, mode, sources, pairs, kept) = c.requires in
    let accesses = subst (λ (thread_traces : List ThreadTrace). AreAccesses thread_traces c.number_accesses.new.events.items) c.as_slice-2.ensures.value c.in_ok-number_accesses.ensures.accesses in
    numbered_all c.args.thread_traces.items c.number_accesses.new.events.items (fit_row p mode c.args.thread_traces.items sources pairs kept) accesses

pub write_rows-written-requires-clause-few : goal.write_rows-written-requires-clause-few
write_rows-written-requires-clause-few c =
    let (p, mode, sources, pairs, kept) = c.requires in
    let accesses = subst (λ (thread_traces : List ThreadTrace). AreAccesses thread_traces c.number_accesses.new.events.items) c.as_slice-2.ensures.value c.in_ok-number_accesses.ensures.accesses in
    let few = (numbered_all c.args.thread_traces.items c.number_accesses.new.events.items (fit_row p mode c.args.thread_traces.items sources pairs kept) accesses).few in
    let long = ap length c.as_slice-4.ensures.value in
    omega arith

pub write_rows-written-requires-clause-located : goal.write_rows-written-requires-clause-located
write_rows-written-requires-clause-located c =
    let (p, mode, sources, pairs, kept) = c.requires in
    subst (λ (thread_traces : List ThreadTrace). HaveLocations thread_traces) (sym c.as_slice-3.ensures.value) (are_located p mode c.args.thread_traces.items sources pairs kept)
