-- Why there is no answer, and how an answer is printed.
use Rattle.std.specs.Prelude.{◌≡◌, ℕ, Bool, List, ◌∷◌, ◌++◌, Result, Ok, Err, codes}
use Rattle.std.specs.Fmt.{decimal}
use Rattle.oracle.specs.declared.fault.SolveFault.{SolveFault}
use Rattle.oracle.specs.declared.fault.SolveFault.TheVariants as solve
use Rattle.report.specs.Faults.{refused, litmus_line, replay_line, run_line}
use Rattle.answers.specs.declared.refusals.AnswerFault.{AnswerFault}
use Rattle.answers.specs.declared.refusals.AnswerFault.TheVariants as answer_fault
use Rattle.answers.specs.declared.refusals.Reply.{Reply}
use Rattle.answers.specs.Refused.{RefusalSays}

abbrev pub solve_line : SolveFault → List ℕ
solve_line solve.NoRun = refused (codes "solve 1 NoRun")
solve_line solve.OutOfMemory = refused (codes "solve 2 OutOfMemory")

-- that the program has no gap at a place
abbrev pub no_gap_text : ℕ → ℕ → List ℕ
no_gap_text t k = codes "fences 1 NoSuchGap " ++ decimal t ++ 58 ∷ decimal k

abbrev pub no_gap_line : ℕ → ℕ → List ℕ
no_gap_line t k = refused (no_gap_text t k)

-- the line of a refusal
abbrev pub refusal_line : AnswerFault → List ℕ
refusal_line (answer_fault.Litmus fault) = litmus_line fault
refusal_line (answer_fault.Run fault) = run_line fault
refusal_line (answer_fault.Replay fault) = replay_line fault
refusal_line (answer_fault.NoSuchGap t k) = no_gap_line t k
refusal_line (answer_fault.Solve fault) = solve_line fault

-- what is printed, with its status: the lines of an answer, or the line of a refusal or its document
abbrev pub IsTold : Bool → Result Reply AnswerFault → ℕ → List ℕ → Type 0
IsTold json (Ok reply) status text = (status ≡ reply.status) × (text ≡ reply.lines.items)
IsTold json (Err why) status text = (status ≡ 1) × RefusalSays json (refusal_line why) text
