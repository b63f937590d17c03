-- One thread more without its dead loads.
use Rattle.std.proofs.Common.{◌≡◌, ℕ, ◌+◌, ◌<◌, ◌++◌, ◌∷◌, Bool, List, [], length, drop, get_or, sym, ap, ◌∙◌, append_assoc}
use Rattle.std.proofs.lemmas.List.{drop_more}
use Rattle.std.proofs.lemmas.Option.{slice_get-get_or}
use Rattle.std.specs.Option.{option_map_or}
use Rattle.std.specs.Prelude.{slice_index_or}
use Rattle.tso_program.specs.declared.listing.Listing.{Listing}
use Rattle.tso_program.specs.declared.listing.Thread.{Thread}
use Rattle.tso_program.specs.Listings.{code_of}
use Rattle.dataflow_laws.specs.DeadLoads.{dropped_code, dropped_threads}
use Rattle.live_registers.specs.DeadPlaces.{dead_at, dead_by}

module _ (p : Listing) (tables : List (List (List Bool))) (t : ℕ) (thread made : Thread) (rows : List (List Bool)) where
  abbrev rest : List Thread
  rest = dropped_threads (dead_by p tables) (t + 1) (drop (t + 1) p.threads)

  abbrev without : (ℕ → Bool) → Thread
  without dead = record { code = dropped_code dead 0 thread.code; registers = thread.registers }

  pub thread_step : (done new whole : List Thread) → t < length p.threads → thread ≡ get_or p.threads t thread → rows ≡ slice_index_or tables t [] → made ≡ without (dead_at thread.code rows) →
      new ≡ done ++ made ∷ [] → done ++ dropped_threads (dead_by p tables) t (drop t p.threads) ≡ whole → new ++ rest ≡ whole
  thread_step done new whole there item rows_are made_is new_is so_far =
      let code : code_of p.threads t ≡ thread.code = ap (λ o. option_map_or (λ (z : Thread). z.code) o []) (slice_get-get_or p.threads t thread there) ∙ ap (λ (z : Thread). z.code) (sym item) in
      let dead : dead_at thread.code rows ≡ dead_by p tables t = λ i. dead_at ((sym code) i) (rows_are i) in
      let same : made ≡ without (dead_by p tables t) = made_is ∙ ap without dead in
      let split : drop t p.threads ≡ thread ∷ drop (t + 1) p.threads = drop_more p.threads t thread there ∙ ap (λ z. z ∷ drop (t + 1) p.threads) (sym item) in
      ap (λ z. z ++ rest) new_is
      ∙ (append_assoc done (made ∷ []) rest ∙ (ap (λ z. done ++ z ∷ rest) same ∙ (ap (λ zs. done ++ dropped_threads (dead_by p tables) t zs) (sym split) ∙ so_far)))
