use Rattle.sequential_states.proofs.Vocabulary.{ap, length, arith, inl, inr, subst, sym, cases_eq, cases_lt, IsThreadAtEnd}
use Rattle.sequential_states.proofs.Steps.{past_end}
use Rattle.sequential_states.proofs.Ending.{no_further, both_further}
use Rattle.sequential_states.proofs.walk.Walk.end.Goals as goal

pub loop-t-init : goal.loop-t-init
loop-t-init c = record { longer = no_further c.args.program.now c.args.self.now c.requires; ended = λ u h. absurd (omega arith) }

pub end_thread-requires : goal.end_thread-requires
end_thread-requires c = c.loop-t.invariant.longer.walked

pub loop-t-preserved : goal.loop-t-preserved
loop-t-preserved c = record {
  longer = both_further c.args.program.now c.args.self.now c.loop-t.self c.end_thread.new.self c.loop-t.invariant.longer c.in_ok-end_thread.ensures.longer;
  ended = λ u h. elim (cases_eq u c.loop-t.t) [
    | inl q ↦ subst (IsThreadAtEnd c.args.program.now c.end_thread.new.self.state) (sym q) c.in_ok-end_thread.ensures.ended
    | inr n ↦ c.in_ok-end_thread.ensures.longer.ended u (c.loop-t.invariant.ended u (omega arith))
  ];
}

pub returns-clause-ended : goal.returns-clause-ended
returns-clause-ended c = λ t. elim (cases_lt t c.loop-t.t) [
  | inl h ↦ c.loop-t.invariant.ended t h
  | inr h ↦ past_end c.args.program.now c.loop-t.self.state t c.loop-t.invariant.longer.walked.fits
      (let count = ap length c.threads.ensures.value in let fits = c.loop-t.invariant.longer.walked.fits.threads in omega arith)
]
