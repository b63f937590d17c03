use Rattle.fencer_words.proofs.Vocabulary.{◌++◌, List, [], ◌∷◌, ℕ, Bor, sym, subst, map_more, AreThreadTexts}
use Rattle.fencer_words.proofs.ThreadTexts.{no_thread_at, no_threads, one_thread_more}
use Rattle.fencer_words.proofs.fences.threads_in.Goals as goal

pub loop-text-init : goal.loop-text-init
loop-text-init c = rw c.new-threads.ensures.items no_threads

pub returns-in-None-clause-none : goal.returns-in-None-clause-none
returns-in-None-clause-none c = λ threads are.
    let now : Bor (List ℕ) → List ℕ = λ text. text.now in
    no_thread_at now c.args.texts.now threads c.loop-text.text-index _ c.loop-text-test.true are
    (λ n small is. let found = c.number.ensures.only n small is in let none = c.in-None.is in cc)

pub loop-text-preserved : goal.loop-text-preserved
loop-text-preserved c =
    let texts = c.args.texts.now in
    let i = c.loop-text.text-index in
    let now : Bor (List ℕ) → List ℕ = λ text. text.now in
    let is = rw c.in-Some.is at c.number.ensures.found in
    rw c.in_ok-push-in-Some.ensures.items
    (subst (λ (ts : List (List ℕ)). AreThreadTexts ts (c.loop-text.threads.items ++ c.in-Some.thread ∷ [])) (sym (map_more now texts i _ c.loop-text-test.true))
    (one_thread_more _ _ _ c.in-Some.thread c.loop-text.invariant is.1 is.0))
