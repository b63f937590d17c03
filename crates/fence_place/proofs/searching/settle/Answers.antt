use Rattle.fence_place.proofs.Vocabulary.{◌≡◌, ◌∙◌, List, Some, sym, subst, slice_get, Foreign, PassesNoneOf, SearchState, MaySplit, by_split, HasSettled}
use Rattle.tree_laws.proofs.Lists.{found_has}
use Rattle.fence_place.proofs.Workers.{read_at}
use Rattle.fence_place.proofs.searching.settle.Goals as goal

pub split_held-requires : goal.split_held-requires
split_held-requires g c =
    let q = g.O.Oracle.question c.args.oracle.now in
    let runs = c.args.known.now.items in
    let found = c.in-Some.ensures in
    let at : slice_get runs c.in-Some.place ≡ Some found.0 = subst (λ (l : List Foreign). slice_get l c.in-Some.place ≡ Some found.0) c.deref.ensures.value found.1 in
    let same = read_at runs c.in-Some.place found.0 c.index.result.now _ at c.index.ensures in
    let of = found_has (λ (run : Foreign). run.question ≡ q) runs c.in-Some.place found.0 at c.requires.ready.known in
    let may : MaySplit c.args.tree.now 0 c.index.result.now = record {
      node = c.args.node.now;
      in_hand = c.requires.ready.in_hand;
      of_question = subst (λ (run : Foreign). run.question ≡ c.args.tree.now.question) same (of ∙ sym c.requires.ready.of_question);
      passes_none = subst (PassesNoneOf c.args.node.now.must) same found.2;
    } in
    subst (λ (s : SearchState). MaySplit s 0 c.index.result.now) (sym c.in_default.ensures.unchanged) may

pub returns-in_ok-split_held-in-Some : goal.returns-in_ok-split_held-in-Some
returns-in_ok-split_held-in-Some g c =
    subst (λ (s : SearchState). HasSettled (g.O.Oracle.question c.args.oracle.now) (g.O.Oracle.may_lack_runs c.args.oracle.now) s c.split_held.new.self c.args.known.now.items _) c.in_default.ensures.unchanged
    (record { settled = by_split c.index.result.now c.in_ok-split_held-in-Some.ensures.split; known = c.requires.ready.known; same = c.split_held.ensures.same; fault = tt })
