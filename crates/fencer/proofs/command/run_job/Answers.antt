use Rattle.fencer.proofs.command.run_job.Goals as goal

pub returns-in-Replay-clause-told : goal.returns-in-Replay-clause-told
returns-in-Replay-clause-told g c = rw c.in-Replay.is c.run_replay.ensures.told

pub returns-in-Replay-clause-read : goal.returns-in-Replay-clause-read
returns-in-Replay-clause-read g c = rw c.in-Replay.is c.run_replay.ensures.read

pub returns-in-Trace-clause-told : goal.returns-in-Trace-clause-told
returns-in-Trace-clause-told g c = rw c.in-Trace.is c.run_trace.ensures.told

pub returns-in-Trace-clause-others : goal.returns-in-Trace-clause-others
returns-in-Trace-clause-others g c = rw c.in-Trace.is (λ name not_first not_second not_third. c.run_trace.ensures.others name not_first not_second)

pub returns-in-Trace-clause-read : goal.returns-in-Trace-clause-read
returns-in-Trace-clause-read g c = rw c.in-Trace.is c.run_trace.ensures.read

pub returns-in-Outcomes-clause-told : goal.returns-in-Outcomes-clause-told
returns-in-Outcomes-clause-told g c = rw c.in-Outcomes.is c.run_outcomes.ensures.told

pub returns-in-Outcomes-clause-read : goal.returns-in-Outcomes-clause-read
returns-in-Outcomes-clause-read g c = rw c.in-Outcomes.is c.run_outcomes.ensures.read

pub returns-in-Place-clause-told : goal.returns-in-Place-clause-told
returns-in-Place-clause-told g c = rw c.in-Place.is c.run_place.ensures.told

pub returns-in-Place-clause-others : goal.returns-in-Place-clause-others
returns-in-Place-clause-others g c = rw c.in-Place.is c.run_place.ensures.others

pub returns-in-Place-clause-read : goal.returns-in-Place-clause-read
returns-in-Place-clause-read g c = rw c.in-Place.is c.run_place.ensures.read

pub returns-in-Why-clause-told : goal.returns-in-Why-clause-told
returns-in-Why-clause-told g c = rw c.in-Why.is c.run_why.ensures.told

pub returns-in-Why-clause-others : goal.returns-in-Why-clause-others
returns-in-Why-clause-others g c = rw c.in-Why.is (λ name not_first not_second not_third. c.run_why.ensures.others name not_first not_second)

pub returns-in-Why-clause-read : goal.returns-in-Why-clause-read
returns-in-Why-clause-read g c = rw c.in-Why.is c.run_why.ensures.read

pub returns-in-Gaps-clause-told : goal.returns-in-Gaps-clause-told
returns-in-Gaps-clause-told g c = rw c.in-Gaps.is c.run_gaps.ensures.told

pub returns-in-Gaps-clause-read : goal.returns-in-Gaps-clause-read
returns-in-Gaps-clause-read g c = rw c.in-Gaps.is c.run_gaps.ensures.read

pub returns-in-Witness-clause-told : goal.returns-in-Witness-clause-told
returns-in-Witness-clause-told g c = rw c.in-Witness.is c.run_witness.ensures.told

pub returns-in-Witness-clause-others : goal.returns-in-Witness-clause-others
returns-in-Witness-clause-others g c = rw c.in-Witness.is (λ name not_first not_second not_third. c.run_witness.ensures.others name not_first not_second)

pub returns-in-Survey-clause-told : goal.returns-in-Survey-clause-told
returns-in-Survey-clause-told g c = rw c.in-Survey.is c.run_survey.ensures.told

pub returns-in-Survey-clause-read : goal.returns-in-Survey-clause-read
returns-in-Survey-clause-read g c = rw c.in-Survey.is c.run_survey.ensures.read

pub returns-in-Witness-clause-read : goal.returns-in-Witness-clause-read
returns-in-Witness-clause-read g c = rw c.in-Witness.is c.run_witness.ensures.read
