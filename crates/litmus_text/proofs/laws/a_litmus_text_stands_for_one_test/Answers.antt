use Rattle.litmus_text.proofs.OneTest.{test_once}
use Rattle.litmus_text.proofs.laws.a_litmus_text_stands_for_one_test.Goals as goal

pub returns : goal.returns
returns c = record { test = test_once; program = (λ text one other h g. test_once text one other h.0 g.0); fenced = (λ text one other h g. test_once text one other h.0 g.0) }
