-- What each event leaves of the work.
use Rattle.search_core.proofs.Vocabulary.{◌≡◌, ℕ, ◌+◌, ◌<◌, sum_by, subst, sym, arith, one-le-pow, children, SearchState, IsEvent, takes, gives_back, splits, cuts, confirms, work_left, work_of, live_work, undecided, by_split, by_cut, by_confirm}
use Rattle.search_core.proofs.Vocabulary.{SettlingLessensTheWork, TakingLeavesTheWork, GivingBackLeavesTheWork}
use Rattle.search_core.proofs.{Kept.facts_of, Sets.small_set, Changes.change_of, Changes.state_after, Working.change_work, Working.split_work}

module _ (s after : SearchState) (seat : ℕ) where
  work_after : (event : IsEvent s after seat) → let c = change_of s after seat event in work_left after.entries + work_of c.now.node ≡ work_left s.entries + live_work c.now + sum_by work_of c.opened
  work_after event =
      let c = change_of s after seat event in
      subst (λ (a : SearchState). work_left a.entries + work_of c.now.node ≡ work_left s.entries + live_work c.now + sum_by work_of c.opened) (sym (state_after s after seat event)) (change_work s.entries c)

pub settling_lessens : SettlingLessensTheWork
settling_lessens s after seat r (by_split f u) =
    let small = small_set s.question (facts_of s r).within f u.of_question u.foreign in
    let less : sum_by work_of (children u.node f.passed) < work_of u.node = split_work f.passed u.node small u.passes_none in
    let left : work_left after.entries + work_of u.node ≡ work_left s.entries + 0 + sum_by work_of (children u.node f.passed) = work_after s after seat (splits f u) in
    omega arith
settling_lessens s after seat r (by_cut u) =
    let left : work_left after.entries + work_of u.node ≡ work_left s.entries + 0 + 0 = work_after s after seat (cuts u) in
    omega (arith, one-le-pow (undecided u.node) 2 (omega arith))
settling_lessens s after seat r (by_confirm b u) =
    let left : work_left after.entries + work_of u.node ≡ work_left s.entries + 0 + 0 = work_after s after seat (confirms b u) in
    omega (arith, one-le-pow (undecided u.node) 2 (omega arith))

pub taking_leaves : TakingLeavesTheWork
taking_leaves s after seat n t = let left : work_left after.entries + work_of n ≡ work_left s.entries + work_of n + 0 = work_after s after seat (takes n t) in omega arith

pub giving_back_leaves : GivingBackLeavesTheWork
giving_back_leaves s after seat t = let left : work_left after.entries + work_of t.node ≡ work_left s.entries + work_of t.node + 0 = work_after s after seat (gives_back t) in omega arith
