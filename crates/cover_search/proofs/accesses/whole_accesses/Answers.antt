use Rattle.cover_search.proofs.Vocabulary.{All, length, ap, sym, subst, ◌∙◌, inl, inr, arith, cases_lt, Listing, read_there, thread_within, event_of, IsReadValue, IsWrittenValue}
use Rattle.cover_search.proofs.TakenIn.{thread_there}
use Rattle.cover_search.proofs.accesses.whole_accesses.Goals as goal

pub loop-t-init : goal.loop-t-init
loop-t-init c =
    let s = c.args.sketch.now in
    record {
      reads = subst (All (IsReadValue s)) (sym c.in_ok-accesses.ensures.reads) (λ k d h. absurd (omega arith));
      writes = subst (All (IsWrittenValue s)) (sym c.in_ok-accesses.ensures.writes) (λ k d h. absurd (omega arith));
      read = λ a low. absurd (omega arith);
      written = λ a low. absurd (omega arith);
    }

pub loop-t-preserved : goal.loop-t-preserved
loop-t-preserved c =
    let n = c.loop-t.t in
    let kept = c.loop-t.invariant in
    let takes = c.in_ok-add_thread.ensures in
    record {
      reads = takes.reads kept.reads;
      writes = takes.writes kept.writes;
      read = λ a low reads. elim (cases_lt a.thread n) [
        | inl before ↦ takes.kept_reads a (kept.read a before reads)
        | inr high ↦ takes.read a (omega arith) reads
      ];
      written = λ a low writes. elim (cases_lt a.thread n) [
        | inl before ↦ takes.kept_writes a (kept.written a before writes)
        | inr high ↦ takes.written a (omega arith) writes
      ];
    }

pub returns : goal.returns
returns c =
    let s = c.args.sketch.now in
    let kept = c.loop-t.invariant in
    let many = ap length (c.threads.ensures.value ∙ ap (λ (p : Listing). p.threads) c.program.ensures.value) in
    record {
      whole = c.requires;
      reads = record {
        each = kept.reads;
        all = λ a reads. kept.read a (let there = thread_there s a.thread a.access (read_there s (event_of a) reads) in omega (arith, c.loop-t-test.false)) reads;
      };
      writes = record {
        each = kept.writes;
        all = λ a writes. kept.written a (let (l, v, of_a) = writes in let there = thread_within s a.thread l (a.access, (v, of_a)) in omega (arith, c.loop-t-test.false)) writes;
      };
      unsourced = c.first_unsourced-accesses.ensures;
    }
