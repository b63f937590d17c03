-- What holds of each state that a history reaches.
use Rattle.search_core.proofs.Vocabulary.{◌≡◌, ℕ, zero, suc, ◌<◌, ◌≤◌, true, true≢false, List, [], ◌∷◌, Option, Some, Contains, refl, sym, ◌∙◌, subst, inl, inr, arith, slice_get, nat_cmp, same_Some, none-some, slice_get_within, SetOfGaps, total, Better}
use Rattle.search_core.proofs.Vocabulary.{all_sets, with_gap, without_gap, child_regions, open_gaps, Region, not_itself, Listing, Question, gap_count, IsWithinLimits, Serves, AreGapsOf, HaveCosts, first_is_here, later_is_here, Serving, Entry, Open, Split}
use Rattle.search_core.proofs.Vocabulary.{IsCeiling, SearchState, IsStart, IsBeatenBy, IsBestAfter, Confirms, IsEvent, splits, cuts, confirms, IsReached, starts, goes_on, open_exact, new_or_old, in_root, entry, is_closed}
use Rattle.std.specs.FinSet as set
use Rattle.search_core.proofs.{Places.Each, Places.each_one, Sets.passed_of, Sets.small_set, Sets.not_better}
use Rattle.search_core.proofs.Changes.{HasNode, IsSplitAs, SplitsHold, Change, changed, each_changed, follows, node_stays, splits_stay, change_of, best_of, state_after}
use Rattle.search_core.proofs.NoneLost.{NoneLost, lost_by_none, lost_by_no_cut, lost_by_no_confirming, lost_by_no_split}

-- some serving set is at least as good
pub record IsBelow (q : Question) (costs : List ℕ) (must : SetOfGaps) : Type 0 where
  pub other : SetOfGaps
  pub of_program : AreGapsOf q.program other
  pub serves : Serves q other
  pub as_good : ¬ Better costs must other

-- the best set serves
abbrev pub BestServes : Question → Option Serving → Type 0
BestServes q best = (b : Serving) → best ≡ Some b → (b.question ≡ q) × AreGapsOf q.program b.gaps × Serves q b.gaps

abbrev pub AreOfProgram : Listing → List Entry → Type 0
AreOfProgram p es = Each (λ (e : Entry). AreGapsOf p e.node.must) es

abbrev pub ClosedAreBelow : Question → List ℕ → List Entry → Type 0
ClosedAreBelow q costs es = Each (λ (e : Entry). is_closed e ≡ true → IsBelow q costs e.node.must) es

pub record Facts (s : SearchState) : Type 0 where
  pub within : IsWithinLimits s.question.program.threads s.question.program.memory
  pub have_costs : HaveCosts s.question.program s.costs
  pub best_serves : BestServes s.question s.best
  pub of_program : AreOfProgram s.question.program s.entries
  pub closed : ClosedAreBelow s.question s.costs s.entries
  pub split : SplitsHold s.question s.entries
  pub root : HasNode s.entries 0 all_sets
  pub none_lost : NoneLost s.question s.costs within have_costs s.entries s.best

-- the gaps that children must have are the program's
kids_of : (p : Listing) (n : Region) (gaps : List ℕ) → AreGapsOf p n.must → ((gap : ℕ) → Contains gaps gap → gap < gap_count p.threads) → Each (λ (c : Region). AreGapsOf p c.must) (child_regions n gaps)
kids_of p n [] of each k c e = absurd (none-some c e)
kids_of p n (gap ∷ gaps) of each zero c e = subst (λ (d : Region). AreGapsOf p d.must) (same_Some (with_gap n gap) c e)
    (λ q h. elim (new_or_old n.must gap q h) [ inl same ↦ subst (λ g. g < gap_count p.threads) same (each gap (first_is_here gap gaps)) | inr old ↦ of q old ])
kids_of p n (gap ∷ gaps) of each (suc k) c e = kids_of p (without_gap n gap) gaps of (λ q h. each q (later_is_here gap gaps q h)) k c e

-- the start
at_start : (s : SearchState) → IsStart s → Facts s
at_start s is = record {
  within = is.within;
  have_costs = is.have_costs;
  best_serves = λ b e. absurd (none-some b (sym is.no_best ∙ e));
  of_program = subst (AreOfProgram s.question.program) (sym is.only_root) (each_one (λ (x : Entry). AreGapsOf s.question.program x.node.must) (entry all_sets 0 Open) (λ q h. absurd (true≢false (sym h ∙ set.contains-empty nat_cmp q))));
  closed = subst (ClosedAreBelow s.question s.costs) (sym is.only_root) (each_one (λ (x : Entry). is_closed x ≡ true → IsBelow s.question s.costs x.node.must) (entry all_sets 0 Open) (λ h. absurd cc));
  split = subst (SplitsHold s.question) (sym is.only_root) (λ k e f first at h. absurd (each_one (λ (x : Entry). x.status ≡ Split f first → ⊥) (entry all_sets 0 Open) (λ q. cc) k e at h));
  root = subst (λ es. HasNode es 0 all_sets) (sym is.only_root) (record { here = entry all_sets 0 Open; there = refl; is_node = refl });
  none_lost = subst (λ es. NoneLost s.question s.costs is.within is.have_costs es s.best) (sym is.only_root)
      (λ gaps of better. inr (inr (record { place = 0; entry = entry all_sets 0 Open; there = refl; live = refl; inside = in_root gaps })));
}

-- a node changes, and others are opened
module _ (s : SearchState) (facts : Facts s) (c : Change s.entries) where
  must_of : AreGapsOf s.question.program c.now.node.must
  must_of = subst (λ (n : Region). AreGapsOf s.question.program n.must) (sym c.same) (facts.of_program c.place c.before c.there)

  module _ (split : IsSplitAs s.question (changed s.entries c) c.place c.now.node c.now.status) where
    opened_of : (k : ℕ) (n : Region) → slice_get c.opened k ≡ Some n → AreGapsOf s.question.program n.must
    opened_of k n at =
        let (f, is_split, kid) = c.of_split k n at in
        let so = subst (IsSplitAs s.question (changed s.entries c) c.place c.now.node) is_split split in
        kids_of s.question.program c.now.node (open_gaps f.passed c.now.node.never) must_of
        (λ gap here. passed_of s.question f so.of_question so.foreign gap ((open_exact f.passed c.now.node.never (small_set s.question facts.within f so.of_question so.foreign) gap).0 here).0) k n kid

    by_change : (best : Option Serving) → BestServes s.question best → (is_closed c.now ≡ true → IsBelow s.question s.costs c.now.node.must) →
        NoneLost s.question s.costs facts.within facts.have_costs (changed s.entries c) best → Facts (record s { entries = changed s.entries c; best = best })
    by_change best serves closed lost = record {
      within = facts.within;
      have_costs = facts.have_costs;
      best_serves = serves;
      of_program = each_changed s.entries c (λ (y : Entry). AreGapsOf s.question.program y.node.must) facts.of_program must_of opened_of;
      closed = each_changed s.entries c (λ (y : Entry). is_closed y ≡ true → IsBelow s.question s.costs y.node.must) facts.closed closed (λ k n at is. absurd cc);
      split = splits_stay s.entries c s.question facts.split split;
      root = node_stays s.entries c 0 all_sets facts.root;
      none_lost = lost;
    }

module _ (s after : SearchState) (facts : Facts s) (seat : ℕ) where
  below_best : (must : SetOfGaps) → IsBeatenBy s.costs s.best must → IsBelow s.question s.costs must
  below_best must why = let serves = facts.best_serves why.0 why.1 in record { other = why.0.gaps; of_program = serves.1; serves = serves.2; as_good = why.2 }

  below_ceiling : (must : SetOfGaps) (cost : ℕ) → IsCeiling s.question s.costs cost → cost < total s.costs must → IsBelow s.question s.costs must
  below_ceiling must cost ceiling dear = record {
    other = ceiling.gaps;
    of_program = ceiling.of_program;
    serves = ceiling.serves;
    as_good = not_better s.costs must ceiling.gaps (let low : total s.costs ceiling.gaps ≤ cost = ceiling.within in omega arith);
  }

  -- a confirmed set serves
  confirmed_serves : (b : Serving) → Confirms s after seat b → (b.question ≡ s.question) × AreGapsOf s.question.program b.gaps × Serves s.question b.gaps
  confirmed_serves b t = (
    t.of_question,
    subst (λ (g : SetOfGaps). AreGapsOf s.question.program g) (sym t.of_node) (must_of s facts (change_of s after seat (confirms b t))),
    subst (λ (q : Question). Serves q b.gaps) t.of_question t.serves.serves,
  )

  serves_after : (event : IsEvent s after seat) → BestServes s.question (best_of s after seat event)
  serves_after (confirms b t) = by_best t.best_after
    where
      by_best : IsBestAfter s.costs b s.best t.best → BestServes s.question t.best
      by_best (inl (now, older)) c is = subst (λ (d : Serving). (d.question ≡ s.question) × AreGapsOf s.question.program d.gaps × Serves s.question d.gaps) (same_Some b c (sym now ∙ is)) (confirmed_serves b t)
      by_best (inr (old, was, now, beaten)) c is = facts.best_serves c (sym now ∙ is)
  serves_after event = facts.best_serves

  closed_after : (event : IsEvent s after seat) → let now = (change_of s after seat event).now in is_closed now ≡ true → IsBelow s.question s.costs now.node.must
  closed_after (cuts t) is = elim t.why [ inl why ↦ below_best t.node.must why | inr why ↦ below_ceiling t.node.must why.0 why.1 why.2 ]
  closed_after (confirms b t) is =
      let (of, gaps, serves) = confirmed_serves b t in
      subst (IsBelow s.question s.costs) t.of_node (record { other = b.gaps; of_program = gaps; serves = serves; as_good = not_itself s.costs b.gaps })
  closed_after event is = absurd cc

  split_after : (event : IsEvent s after seat) → let c = change_of s after seat event in IsSplitAs s.question (changed s.entries c) c.place c.now.node c.now.status
  split_after (splits f t) = record {
    of_question = t.of_question;
    foreign = t.foreign;
    passes_none = t.passes_none;
    later = slice_get_within s.entries t.place t.there.before t.there.there;
    kids = λ j n e. record { here = entry n seat Open; there = follows s.entries (change_of s after seat (splits f t)) j n e; is_node = refl };
  }
  split_after event = tt

  none_lost_after : (event : IsEvent s after seat) → NoneLost s.question s.costs facts.within facts.have_costs (changed s.entries (change_of s after seat event)) (best_of s after seat event)
  none_lost_after (splits f t) = lost_by_no_split s.question s.costs facts.within facts.have_costs s.entries (change_of s after seat (splits f t)) f t.of_question t.foreign refl s.best facts.none_lost
  none_lost_after (cuts t) = lost_by_no_cut s.question s.costs facts.within facts.have_costs s.entries (change_of s after seat (cuts t)) s.best t.why facts.none_lost
  none_lost_after (confirms b t) = lost_by_no_confirming s.question s.costs facts.within facts.have_costs s.entries (change_of s after seat (confirms b t)) b s.best t.best t.of_node t.best_after facts.none_lost
  none_lost_after event = lost_by_none s.question s.costs facts.within facts.have_costs s.entries (change_of s after seat event) refl s.best facts.none_lost

  after_event : IsEvent s after seat → Facts after
  after_event event = subst Facts (sym (state_after s after seat event))
      (by_change s facts (change_of s after seat event) (split_after event) (best_of s after seat event) (serves_after event) (closed_after event) (none_lost_after event))

pub facts_of : (s : SearchState) → IsReached s → Facts s
facts_of s (starts _ is) = at_start s is
facts_of after (goes_on s _ seat r seated event) = after_event s after (facts_of s r) seat event
