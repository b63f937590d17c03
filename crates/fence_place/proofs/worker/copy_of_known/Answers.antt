use Rattle.fence_place.proofs.Vocabulary.{◌≡◌, ℕ, Some, Ok, Err, sym, ap, subst, ◌∙◌, Result, Foreign, PassesNoneOf, IfOk, IfSome, slice_get}
use Rattle.std.specs.Result.{result_ok}
use Rattle.fence_place.proofs.Workers.{read_at}
use Rattle.fence_place.proofs.worker.copy_of_known.Goals as goal

some_of : {E : Type 0} (P : Foreign → Type 0) (r : Result Foreign E) (x : Foreign) → P x → IfOk r (λ other. other ≡ x) → IfSome (result_ok r) P
some_of P (Ok other) x holds same = subst P (sym same) holds
some_of P (Err e) x holds same = tt

pub returns-clause-known : goal.returns-clause-known
returns-clause-known c =
    let P : Foreign → Type 0 = λ run. (place : ℕ) × (slice_get c.args.known.now place ≡ Some run) in
    let found = c.in_ok-place.ensures in
    let same = read_at c.args.known.now c.in_ok-place.place found.0 c.in_ok-run.run'.now _ found.1 c.in_ok-run.ensures.lookup.1 in
    subst (λ r. IfSome r P) (sym c.ok.ensures.value) (some_of P c.copy.result c.in_ok-run.run'.now (c.in_ok-place.place, found.1 ∙ ap Some same) c.copy.ensures)

pub returns-clause-passes_none : goal.returns-clause-passes_none
returns-clause-passes_none c =
    let P : Foreign → Type 0 = PassesNoneOf c.args.node.now.must in
    let found = c.in_ok-place.ensures in
    let same = read_at c.args.known.now c.in_ok-place.place found.0 c.in_ok-run.run'.now _ found.1 c.in_ok-run.ensures.lookup.1 in
    subst (λ r. IfSome r P) (sym c.ok.ensures.value) (some_of P c.copy.result c.in_ok-run.run'.now (subst P same found.2) c.copy.ensures)
