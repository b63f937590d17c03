use Rattle.cover_search.proofs.Vocabulary.{◌≡◌, ◌<◌, ◌+◌, length, ap, inl, inr, arith, slice_get_within, cases_lt, trace_in, read_there, AccessId, event_of, IsItself}
use Rattle.cover_search.proofs.TakenIn.{none_taken, taken_after, same_access}
use Rattle.cover_search.proofs.accesses.WholeAccesses.add_thread.Goals as goal

pub loop-access-init : goal.loop-access-init
loop-access-init c = none_taken c.args.sketch.now (λ (a : AccessId). (a.thread ≡ c.args.t) × (a.access < 0)) c.args.self.now (λ a is. (let low = is.1 in omega arith))

pub loop-access-preserved : goal.loop-access-preserved
loop-access-preserved c =
    let t = c.args.t in
    let n = c.loop-access.access in
    let Before : AccessId → Type 0 = λ a. (a.thread ≡ t) × (a.access < n) in
    let After : AccessId → Type 0 = λ a. (a.thread ≡ t) × (a.access < n + 1) in
    let id : AccessId = record { thread = t; access = n } in
    taken_after c.args.sketch.now Before (IsItself id) After c.args.self.now c.loop-access.self c.add_access.new.self c.loop-access.invariant c.in_ok-add_access.ensures
    (λ a is. elim (cases_lt a.access n) [ inl low ↦ inl (is.0, low) | inr high ↦ inr (let low = is.1 in same_access a t n is.0 (omega arith)) ])

pub returns : goal.returns
returns c =
    let s = c.args.sketch.now in
    let kept = c.loop-access.invariant in
    let end = c.accesses-access-end.ensures in
    let below : (a : AccessId) → a.thread ≡ c.args.t → a.access < length (trace_in s a.thread).accesses → a.access < c.loop-access.access =
    λ a own low. (let many = ap (λ t. length (trace_in s t).accesses) own in omega (arith, end, many, c.loop-access-test.false)) in
    record {
      reads = kept.reads;
      writes = kept.writes;
      kept_reads = kept.kept_reads;
      kept_writes = kept.kept_writes;
      read = λ a own reads. kept.read a (own, below a own (read_there s (event_of a) reads)) reads;
      written = λ a own writes. kept.written a (own, below a own (let (l, v, of_a) = writes in slice_get_within _ a.access of_a.0 of_a.1)) writes;
    }
