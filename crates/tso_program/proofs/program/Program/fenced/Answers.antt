use Rattle.tso_program.proofs.Vocabulary.{◌≡◌, List, ℕ, ◌∙◌, sym, subst, Listing, IsWithinFencedLimits, gaps_in, fenced_threads}
use Rattle.tso_program.proofs.FencedLimits.{fencing_stays_within_limits}
use Rattle.tso_program.proofs.program.Program.fenced.Goals as goal

pub invariant_of-result : goal.invariant_of-result
invariant_of-result c =
    let p : Listing = c.args.self.now in
    let P : Listing → Type 0 = λ l. IsWithinFencedLimits l.threads l.memory in
    let Q : List ℕ → Type 0 = λ m. IsWithinFencedLimits c.of.result m in
    let threads : c.of.result ≡ fenced_threads (gaps_in p c.args.gaps.now) 0 p.threads = c.of.ensures ∙ c.in_ok-fenced_threads.ensures.value in
    let memory : c.of-2.result ≡ p.memory = c.of-2.ensures ∙ c.in_ok-from_slice.ensures.items ∙ c.memory.ensures.value in
    subst P (sym c.in_ok-new.ensures.ok) (subst Q (sym memory) (subst (λ ts. IsWithinFencedLimits ts p.memory) (sym threads) (fencing_stays_within_limits p c.args.gaps.now c.fenced_threads.ensures.within)))
