use Rattle.std.proofs.Common.{◌≡◌, ◌∙◌, sym}
use Rattle.std.specs.Bool.{Decides}
use Rattle.std.proofs.lemmas.Bool.Decides.{Decides-eqb}
use Rattle.std.proofs.lemmas.Slice.Eq.{slice_eq-Decides}
use Rattle.tso_program.proofs.SamePrograms.{thread_decides}
use Rattle.inserted_text.proofs.same_test.is_same_program.Goals as goal

pub returns-then-eq : goal.returns-then-eq
returns-then-eq c =
    let xs = c.threads.result.now in
    let ys = c.threads-then-eq.result.now in
    let decides : Decides c.eq-then-eq.result (xs ≡ ys) = slice_eq-Decides thread_decides xs ys c.eq-then-eq.result c.eq-then-eq.ensures in
    let left : xs ≡ c.args.one.now.threads = c.threads.ensures.value in
    let right : ys ≡ c.args.other.now.threads = c.threads-then-eq.ensures.value in
    let same_memory : c.memory.result.now ≡ c.memory-2.result.now = (slice_eq-Decides Decides-eqb c.memory.result.now c.memory-2.result.now c.eq.result c.eq.ensures).0 c.if-eq.true in
    let memory : c.args.one.now.memory ≡ c.args.other.now.memory = sym c.memory.ensures.value ∙ same_memory ∙ c.memory-2.ensures.value in
    λ t. (let same = sym left ∙ decides.0 t ∙ right in λ i. record { threads = same i; memory = memory i })
