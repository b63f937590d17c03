use Rattle.fence_place.proofs.Vocabulary.{◌≡◌, ◌∙◌, sym, subst, All-push, Foreign, AreOf, by_confirm, by_split, IsVerdictOf}
use Rattle.fence_place.proofs.searching.settle_by_oracle.Goals as goal

pub split_held-requires : goal.split_held-requires
split_held-requires g c =
    let said = subst (IsVerdictOf (g.O.Oracle.question c.args.oracle.now) c.args.node.now.must) c.in-Foreign.is c.in_ok-run.ensures.verdict in
    record { node = c.args.node.now; in_hand = c.requires.ready.in_hand; of_question = said.0 ∙ sym c.requires.ready.of_question; passes_none = said.2 }

pub confirm_held-requires : goal.confirm_held-requires
confirm_held-requires g c =
    let said = subst (IsVerdictOf (g.O.Oracle.question c.args.oracle.now) c.args.node.now.must) c.in-Serves.is c.in_ok-run.ensures.verdict in
    record { node = c.args.node.now; in_hand = c.requires.ready.in_hand; of_question = said.0 ∙ sym c.requires.ready.of_question; of_node = said.1 }

pub returns-in_ok-push-in-Foreign : goal.returns-in_ok-push-in-Foreign
returns-in_ok-push-in-Foreign g c =
    let q = g.O.Oracle.question c.args.oracle.now in
    let said = subst (IsVerdictOf q c.args.node.now.must) c.in-Foreign.is c.in_ok-run.ensures.verdict in
    record {
      settled = by_split c.in-Foreign.run' c.in_ok-split_held-in-Foreign.ensures.split;
      known = subst (AreOf q) (sym c.in_ok-push-in-Foreign.ensures.items) (All-push (λ (run : Foreign). run.question ≡ q) c.args.known.now.items c.in-Foreign.run' c.requires.ready.known said.0);
      same = c.split_held.ensures.same;
      fault = tt;
    }

pub returns-in-Serves : goal.returns-in-Serves
returns-in-Serves g c = record { settled = by_confirm c.in-Serves.served c.confirm_held.ensures.confirmed; known = c.requires.ready.known; same = c.confirm_held.ensures.same; fault = tt }
