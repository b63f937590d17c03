use Rattle.fence_place.proofs.Vocabulary.{◌≡◌, ◌∙◌, ◌<◌, ◌≤◌, ◌^◌, ℕ, List, length, refl, sym, ap, subst, total, Label, Certificate, AreShownPlaces, Question, shows_of, Serving, IsServing, Entry, Gap, AreSplitRuns, AreNumbersOf, IsNumbered, IsRecorded, IsProof}
use Rattle.std.specs.Arc.{arc_value}
use Rattle.gap_sets.specs.Ties.{AreTies, spread}
use Rattle.tso_program.specs.Listings.{gap_count}
use Rattle.cert_forest.specs.Rule.TheVariants.{Whole}
use Rattle.fence_place.proofs.CertificateMade.{is_proof}
use Rattle.fence_place.proofs.certificates.certify.Goals as goal

-- with the runs as they are listed the tree is the record
recorded : (entries : List Entry) (here numbers : List ℕ) (runs : List (List Label)) (tree : Gap) → here ≡ numbers → IsNumbered entries here tree 0 → AreNumbersOf entries runs numbers → IsRecorded entries runs tree 0
recorded entries here numbers runs tree same is are = subst (λ (ns : List ℕ). IsNumbered entries ns tree 0) same is runs are

pub returns-clause-runs : goal.returns-clause-runs
returns-clause-runs c = subst (λ (runs : List (List Label)). AreSplitRuns c.args.finished.now.entries runs) (sym c.runs.view_is) c.in_ok-runs.ensures.runs

pub returns-clause-proof : goal.returns-clause-proof
returns-clause-proof c =
    let o = c.args.finished.now in
    let t = c.args.table.now in
    let is_served = c.served-served.ensures.value in
    let ties : c.question-2.result.now.ties ≡ o.question.ties = ap (λ (q : Question). q.ties) (c.question-2.ensures.value ∙ c.requires.question) in
    let served_gaps : c.set.result ≡ o.served.gaps = c.set.ensures ∙ ap (λ (s : Serving). s.gaps) is_served in
    let same_gaps : c.spread-set.result ≡ spread o.question.ties o.served.gaps = c.spread-set.ensures ∙ (λ i. spread (ties i) (served_gaps i)) in
    let cost : c.total.result ≡ total o.costs o.served.gaps = c.total.ensures.value ∙ (λ i. total (c.costs.ensures.value i) ((c.set-2.ensures ∙ ap (λ (s : Serving). s.gaps) is_served) i)) in
    let are : AreTies o.question.ties = subst AreTies ties c.recall_facts-3.ensures in
    let few : length o.question.ties ≤ gap_count o.question.program.threads = subst (λ (q : Question). length q.ties ≤ gap_count q.program.threads) c.requires.question c.requires.ties in
    let low = c.total.ensures.limit in
    let with_runs : List (List Label) → Certificate = λ (runs : List (List Label)). record {
      rule = Whole;
      shown = c.of-shows.result;
      gaps = c.spread-set.result;
      cost = c.total.result;
      seq_runs = arc_value c.in_ok-seq_runs.seq_runs;
      seq_tree = c.in_ok-copy.field-0;
      runs = runs;
      fenced_tree = c.in_ok-copy-2.field-0;
      gap_tree = c.in_ok-gap_tree.gap_tree;
    } in
    subst (λ (runs : List (List Label)). IsProof o.question o.costs (with_runs runs)) (sym c.runs.view_is)
    (is_proof t o (with_runs c.in_ok-runs.runs)
    c.recall_facts.ensures.table c.served-served.ensures.outcome (subst IsServing is_served c.recall_facts-2.ensures.serving) low c.requires.question c.served-served.ensures.answer.0 c.served-served.ensures.answer.1 are few
    (record {
      whole = refl;
      same_shown = c.of-shows.ensures ∙ ap (λ (q : Question). shows_of q.shown) c.question.ensures.value;
      places = subst AreShownPlaces (sym c.of-shows.ensures) c.names_have_places.ensures;
      same_gaps = same_gaps;
      cost = cost;
      seq_runs = c.in_ok-seq_runs.ensures;
      seq_tree = c.in_ok-copy.ensures ∙ c.tree.ensures;
      fenced_tree = c.in_ok-copy-2.ensures ∙ c.tree-2.ensures ∙ ap (λ (s : Serving). s.tree) is_served;
      of_nodes = c.in_ok-runs.ensures.runs;
      recorded = recorded o.entries _ c.in_ok-runs.numbers.items c.in_ok-runs.runs c.in_ok-gap_tree.gap_tree c.deref.ensures.value c.in_ok-gap_tree.ensures c.in_ok-runs.ensures.numbers;
      few_runs = c.len.ensures.few;
      few_seq_runs = subst (λ (runs : List (List Label)). length runs < 2 ^ 64) c.deref-2.ensures c.len-2.ensures.few;
    }))
