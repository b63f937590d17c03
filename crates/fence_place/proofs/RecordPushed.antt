-- The nodes of the record's gap tree, put after the others one by one.
use Rattle.fence_place.proofs.Vocabulary.{◌≡◌, ℕ, ◌+◌, true, List, [], ◌∷◌, ◌++◌, Some, length, length-append, arith, refl, sym, ap, ◌∙◌, subst, append_assoc, slice_get, open_gaps, GapNode, Gap, Split, Bound, gap_trees_of, Foreign}
use Rattle.fence_place.proofs.Vocabulary.{Entry, is_closed, spell_gap, spell_gaps, gaps_count, listed_gaps, AreRecorded, PushesRecorded, PushesRecords}
use Rattle.std.proofs.lemmas.List.{append-nil}
use Rattle.cert_forest.specs.GapNode.TheVariants as node
use Rattle.cert_forest.proofs.Spelled.{each_append}
use Rattle.search_core.specs.declared.entry.Status.TheVariants as status
use Rattle.fence_place.proofs.Recording.{recorded_more}

one_longer : (ts : List Gap) (t : Gap) (i : ℕ) → length ts ≡ i → length (ts ++ t ∷ []) ≡ i + 1
one_longer ts t i e = omega (arith, length-append ts (t ∷ []))

module _ (entries : List Entry) (numbers : List ℕ) where
  pub bound_pushed : (place : ℕ) (e : Entry) (old new : List GapNode) → slice_get entries place ≡ Some e → is_closed e ≡ true → new ≡ old ++ node.Bound ∷ [] → PushesRecorded entries numbers place old new
  bound_pushed place e old new there closed pushed = record { tree = Bound []; recorded = λ runs are. (e, there, closed); pushed = pushed }

  pub split_pushed : (place run count : ℕ) (e : Entry) (f : Foreign) (first : ℕ) (old mid new : List GapNode) → slice_get entries place ≡ Some e → e.status ≡ status.Split f first → slice_get numbers place ≡ Some run
      → count ≡ length (open_gaps f.passed e.node.never) → mid ≡ old ++ node.Split count run ∷ [] → PushesRecords entries numbers first count mid new → PushesRecorded entries numbers place old new
  split_pushed place run count e f first old mid new there split numbered same root kids = record {
    tree = Split run (gap_trees_of kids.trees);
    recorded = λ runs are. (e, f, first, there, split, (are place run numbered).runs_at e f first there split, subst (AreRecorded entries runs (gap_trees_of kids.trees) first) same (kids.recorded runs are));
    pushed =
        kids.pushed ∙ ap (λ xs. xs ++ spell_gaps kids.trees) root ∙ append_assoc old (node.Split count run ∷ []) (spell_gaps kids.trees)
        ∙ (λ i. old ++ node.Split (sym (gaps_count kids.trees ∙ kids.as_many) i) run ∷ sym (listed_gaps kids.trees) i);
  }

  pub none_pushed : (first : ℕ) (old : List GapNode) → PushesRecords entries numbers first 0 old old
  none_pushed first old = record { trees = []; as_many = refl; recorded = λ runs are. tt; pushed = sym (append-nil old) }

  pub one_pushed : (first i : ℕ) (old now new : List GapNode) → PushesRecords entries numbers first i old now → PushesRecorded entries numbers (first + i) now new → PushesRecords entries numbers first (i + 1) old new
  one_pushed first i old now new so more = record {
    trees = so.trees ++ more.tree ∷ [];
    as_many = one_longer so.trees more.tree i so.as_many;
    recorded = λ runs are. recorded_more entries runs so.trees more.tree first i (so.recorded runs are) (more.recorded runs are);
    pushed =
        more.pushed ∙ ap (λ xs. xs ++ spell_gap more.tree) so.pushed ∙ append_assoc old (spell_gaps so.trees) (spell_gap more.tree)
        ∙ ap (λ xs. old ++ (spell_gaps so.trees ++ xs)) (sym (append-nil (spell_gap more.tree)))
        ∙ ap (λ xs. old ++ xs) (sym (each_append spell_gap so.trees (more.tree ∷ [])));
  }
