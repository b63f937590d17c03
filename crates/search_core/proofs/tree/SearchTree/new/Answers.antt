use Rattle.search_core.proofs.Vocabulary.{◌≡◌, ◌∙◌, ℕ, List, [], ◌∷◌, ◌++◌, length, None, sym, ap, subst, refl, all_sets, Region, Listing, Question, IsWithinLimits, gap_count, HaveCosts, Entry, Open, entry, starts, IsStart, IsSeatCount}
use Rattle.gap_sets.specs.CostLists.{IsCostList}
use Rattle.search_core.proofs.tree.SearchTree.new.Goals as goal

have : (p : Listing) (costs : List ℕ) → length costs ≡ gap_count p.threads → IsCostList costs → HaveCosts p costs
have p costs each list = record { one_each = each; positive = λ k d h. (list.each k d h).0 }

start : (p q : Question) (costs list : List ℕ) (seats : ℕ) (entries : List Entry) (root : Region) → q ≡ p → list ≡ costs → IsWithinLimits p.program.threads p.program.memory → HaveCosts p.program costs → IsSeatCount seats →
    root ≡ all_sets → entries ≡ entry root 0 Open ∷ [] → IsStart (record { question = q; costs = list; seats = seats; entries = entries; best = None })
start p q costs list seats entries root e f within have seats_are same is =
    subst (λ (r : Question). IsStart (record { question = r; costs = list; seats = seats; entries = entries; best = None })) (sym e)
    (subst (λ (l : List ℕ). IsStart (record { question = p; costs = l; seats = seats; entries = entries; best = None })) (sym f)
    (record { within = within; have_costs = have; seats = seats_are; only_root = is ∙ ap (λ (r : Region). entry r 0 Open ∷ []) same; no_best = refl }))

begun : (c : goal.In_ok-copy-2) → IsStart (record { question = c.in_ok-copy.field-0; costs = c.in_ok-copy-2.field-0; seats = c.args.seats; entries = c.push.new.self.items; best = None })
begun c = start c.args.table.now.question c.in_ok-copy.field-0 c.args.costs.now c.in_ok-copy-2.field-0 c.args.seats c.push.new.self.items c.all.result
    (c.in_ok-copy.ensures ∙ c.question-question.ensures.value) c.in_ok-copy-2.ensures (subst (λ (q : Question). IsWithinLimits q.program.threads q.program.memory) c.question-question.ensures.value c.recall_facts.ensures.within)
    (have c.args.table.now.question.program c.args.costs.now c.requires.one_each c.recall_facts-2.ensures.limits) c.requires.seats c.all.ensures
    (c.in_ok-push.ensures.items ∙ ap (λ l. l ++ entry c.all.result 0 Open ∷ []) c.new-entries.ensures.items)

pub invariant_of-result : goal.invariant_of-result
invariant_of-result c = starts _ (begun c)
