-- What is kept where sources or orders are dropped from the end.
use Rattle.rowless_sketches.proofs.Vocabulary.{◌≡◌, ◌≢◌, ℕ, List, [], ◌∷◌, ◌++◌, Some, None, IsSome, Option, get_or, length, take, sym, ap, ◌∙◌, subst, arith, option_to_list, get_or_append_left, length-append, length_push}
use Rattle.rowless_sketches.proofs.Vocabulary.{AllPairs, Contains-append_left, Listing, Mode, Event, ThreadTrace, KeepsTraces, AreOtherTwo}
use Rattle.std.proofs.Math.Seq.{take-append_seam}

-- what holds of each two of a list holds of each two of its first part
first_pairs : {X : Type 0} (R : X → X → Type 0) (xs ys : List X) → AllPairs R (xs ++ ys) → AllPairs R xs
first_pairs R xs ys all i j d less here =
    let long = length-append xs ys in
    let both = all i j d less (omega arith) in
    let one = get_or_append_left xs ys d i (omega arith) in
    let other = get_or_append_left xs ys d j here in
    subst (λ x. R x (get_or xs j d)) one (subst (λ y. R (get_or (xs ++ ys) i d) y) other both)

-- what is left where the last element is taken from a list that was longer by one
pub last_dropped : {X : Type 0} (old new earlier : List X) (x : X) (o : Option X) → old ≡ new ++ option_to_list o → IsSome o → old ≡ earlier ++ x ∷ [] → new ≡ earlier
last_dropped old new earlier x None e some f = (let no : IsSome {T = ℕ} None = some in absurd cc)
last_dropped old new earlier x (Some y) e some f =
    let same : length new ≡ length earlier = omega (arith, ap length e, ap length f, length_push new y, length_push earlier x) in
    sym (take-append_seam new (y ∷ [])) ∙ ap (take (length new)) (sym e ∙ f) ∙ ap (λ (n : ℕ). take n (earlier ++ x ∷ [])) same ∙ take-append_seam earlier (x ∷ [])

module _ (p : Listing) (mode : Mode) (thread_traces : List ThreadTrace) (sources pairs : List (Event × Event)) where
  pub fewer_sources : (ys : List (Event × Event)) → KeepsTraces p mode thread_traces (sources ++ ys) pairs → KeepsTraces p mode thread_traces sources pairs
  fewer_sources ys kept = record {
    lawful = record {
      within = kept.lawful.within;
      is_sketch = record {
        each_thread = kept.lawful.is_sketch.each_thread;
        used = kept.lawful.is_sketch.used;
        sources = λ e s h. kept.lawful.is_sketch.sources e s (Contains-append_left sources ys (e, s) h);
        pairs = kept.lawful.is_sketch.pairs;
      };
      values = kept.lawful.values;
      one_source = first_pairs (λ (a b : Event × Event). a.0 ≢ b.0) sources ys kept.lawful.one_source;
      one_order = kept.lawful.one_order;
    };
    one_each = kept.one_each;
    traces_are = kept.traces_are;
  }

  pub fewer_pairs : (ys : List (Event × Event)) → KeepsTraces p mode thread_traces sources (pairs ++ ys) → KeepsTraces p mode thread_traces sources pairs
  fewer_pairs ys kept = record {
    lawful = record {
      within = kept.lawful.within;
      is_sketch = record {
        each_thread = kept.lawful.is_sketch.each_thread;
        used = kept.lawful.is_sketch.used;
        sources = kept.lawful.is_sketch.sources;
        pairs = λ d e h. kept.lawful.is_sketch.pairs d e (Contains-append_left pairs ys (d, e) h);
      };
      values = kept.lawful.values;
      one_source = kept.lawful.one_source;
      one_order = first_pairs AreOtherTwo pairs ys kept.lawful.one_order;
    };
    one_each = kept.one_each;
    traces_are = kept.traces_are;
  }
