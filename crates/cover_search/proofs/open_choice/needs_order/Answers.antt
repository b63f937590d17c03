use Rattle.cover_search.proofs.Vocabulary.{◌↔◌, IsTrue, subst, IsOrdered, not_by, event_of}
use Rattle.cover_search.proofs.NothingLeft.{pair_of, unless}
use Rattle.cover_search.proofs.open_choice.needs_order.Goals as goal

pub returns-clause-needs : goal.returns-clause-needs
returns-clause-needs c =
    let s = c.args.sketch.now in
    let ordered = subst (λ d. IsTrue c.are_in_order.result ↔ IsOrdered s d (event_of c.args.second.write)) c.event_of.ensures
    (subst (λ e. IsTrue c.are_in_order.result ↔ IsOrdered s c.event_of.result e) c.event_of-2.ensures c.are_in_order.ensures) in
    λ yes. record {
      is_pair = pair_of s c.args.first c.args.second c.requires.first c.requires.second c.if-first-second.false (not_by _ _ c.is_same.ensures c.if-is_same.false);
      free = unless _ _ ordered yes;
    }
