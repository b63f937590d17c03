-- What is printed of an answer.
use Rattle.answers.proofs.Vocabulary.{ℕ, Bool, List, Option, Result, Ok, Err, IfOk, IfErr, sym, subst, TEXT_LIMIT, IsTold, IsAnswerTo, answered, refused}
use Rattle.program_streams.specs.Files.{AreOfFile}
use Rattle.answers.specs.{declared.refusals.AnswerFault.AnswerFault, declared.refusals.Reply.Reply}

-- of an answer to the text of a file
module _ (Answers : List ℕ → ℕ → List ℕ → Type 0) (Refuses : List ℕ → AnswerFault → Type 0) (json : Bool) (path : List ℕ) (input : Option (List ℕ)) (files : List ℕ → Option (List ℕ)) (bytes : List ℕ) (of_file : AreOfFile TEXT_LIMIT path input files bytes) where
  pub told_answer : (answer : Result Reply AnswerFault) → IfOk answer (λ reply. Answers bytes reply.status reply.lines.items) → IfErr answer (Refuses bytes) → (status : ℕ) (text : List ℕ) → IsTold json answer status text → IsAnswerTo Answers Refuses json path input files status text
  told_answer (Ok reply) answers none status text is =
      subst (λ (s : ℕ). IsAnswerTo Answers Refuses json path input files s text) (sym is.0)
      (subst (λ (t : List ℕ). IsAnswerTo Answers Refuses json path input files reply.status t) (sym is.1) (answered bytes reply.status reply.lines.items of_file answers))
  told_answer (Err why) none refuses status text is =
      subst (λ (s : ℕ). IsAnswerTo Answers Refuses json path input files s text) (sym is.0) (refused bytes why text of_file refuses is.1)
