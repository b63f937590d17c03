use Rattle.tso_machine.proofs.Vocabulary.{ℕ, List, [], ◌∷◌, ◌++◌, ◌≡◌, ◌∙◌, ap, sym, take, arith, append_assoc, All, recursion_from_All, All-more, string_bytes, common_steps, IsLabel, run_text}
use Rattle.tso_machine.proofs.RunsRead.{text_more, text_first, read_again}
use Rattle.tso_machine.proofs.run_text.write_run.Goals as goal
use Rattle.tso_machine.proofs.run_text.write_run.Goals.{then-i-gt0+in_ok-push, else-i-gt0}

pub loop-i-preserved : goal.loop-i-preserved
loop-i-preserved c = record {
  text = elim c.if-i-gt0.branch [
    | then-i-gt0+in_ok-push w ↦
        let before : string_bytes c.if-i-gt0.out ≡ run_text (take c.loop-i.i c.args.labels.now) ++ 32 ∷ [] = ap string_bytes w.out-is ∙ w.in_ok-push.ensures.bytes ∙ ap (λ (e : List ℕ). string_bytes c.loop-i.out ++ e) (w.in_ok-push.ensures.ascii (omega arith)) ∙ ap (λ (b : List ℕ). b ++ 32 ∷ []) c.loop-i.invariant.text in
        c.in_ok-push_label.ensures.text ∙ rw before (append_assoc (run_text (take c.loop-i.i c.args.labels.now)) (32 ∷ []) _ ∙ sym (text_more c.args.labels.now c.loop-i.i _ c.loop-i-test.true w.if-i-gt0.true))
    | else-i-gt0 w ↦
        let before : string_bytes c.if-i-gt0.out ≡ run_text (take c.loop-i.i c.args.labels.now) = ap string_bytes w.out-is ∙ c.loop-i.invariant.text in
        c.in_ok-push_label.ensures.text ∙ rw before (sym (text_first c.args.labels.now c.loop-i.i _ c.loop-i-test.true w.if-i-gt0.false))
  ];
  fits = All-more IsLabel c.args.labels.now c.loop-i.i _ c.loop-i-test.true c.loop-i.invariant.fits c.push_label.ensures.fits;
}

pub returns-clause-read_back : goal.returns-clause-read_back
returns-clause-read_back c =
    let all : take c.loop-i.i c.args.labels.now ≡ c.args.labels.now = grind (arith, common_steps) in
    let fits : All IsLabel c.args.labels.now = rw all at c.loop-i.invariant.fits in
    let text : c.into_bytes.result.items ≡ run_text c.args.labels.now = grind (arith, common_steps) in
    record {
      fits = recursion_from_All IsLabel c.args.labels.now fits;
      spelled = rw text (read_again c.args.labels.now (recursion_from_All IsLabel c.args.labels.now fits));
    }
