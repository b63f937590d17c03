-- What ties cost, each as much as its dearest gap.
use Rattle.gap_list.proofs.Vocabulary.{◌≡◌, ◌∙◌, ℕ, ◌+◌, List, [], ◌∷◌, ap, arith, length, map, range_with_len, subst, sym, IsCostText, as_read, cost_file_text}
use Rattle.std.proofs.lemmas.List.FromFn.{length-map-range_with_len, map-range_with_len_more}
use Rattle.std.proofs.lemmas.List.Sums.{fold-append}
use Rattle.std.specs.Global.{Vec}
use Rattle.std.specs.List.{fold}
use Rattle.std.specs.Prelude.{Err, IfOk, Ok, Result, max}
use Rattle.gap_sets.specs.declared.ties.TiedCosts.{TiedCosts}
use Rattle.tso_program.specs.declared.listing.Listing.{Listing}
use Rattle.tso_program.specs.Listings.{gap_count}
use Rattle.gap_list.specs.TiedFiles.{IsTiedFile, at_dearest, cost_beside, dearest}

-- of one gap more
pub dearest_more : (costs ties : List ℕ) (gap other most : ℕ) → most ≡ dearest other costs ties gap → max most (cost_beside costs ties gap other) ≡ dearest (other + 1) costs ties gap
dearest_more costs ties gap other most is =
    let beside : ℕ → ℕ = cost_beside costs ties gap in
    ap (λ (m : ℕ). max m (beside other)) is
    ∙ sym (ap (fold max 0) (map-range_with_len_more beside 0 other other (omega arith)) ∙ fold-append max 0 (map beside (range_with_len 0 other)) (beside other ∷ []))

-- there is a cost for each gap
pub dearest_each : (gaps : ℕ) (costs ties : List ℕ) (tied : TiedCosts) → tied ≡ at_dearest gaps costs ties → length tied.costs ≡ gaps
dearest_each gaps costs ties tied is = ap (λ (t : TiedCosts). length t.costs) is ∙ length-map-range_with_len (dearest gaps costs ties) 0 gaps

-- a file of these costs that could be made is what is printed
pub is_tied_file : {E : Type 0} (made : Result (Vec ℕ) E) (p : Listing) (costs ties : List ℕ) (tied : TiedCosts) → tied ≡ at_dearest (gap_count p.threads) costs ties
    → IfOk made (λ v. v.items ≡ cost_file_text p.threads tied) → IfOk made (λ v. IsCostText v.items p.threads (as_read (gap_count p.threads) tied)) → IfOk made (λ v. IsTiedFile p costs v.items)
is_tied_file (Ok v) p costs ties tied is text read =
    (ties, text ∙ ap (cost_file_text p.threads) is, subst (λ (t : TiedCosts). IsCostText v.items p.threads (as_read (gap_count p.threads) t)) is read)
is_tied_file (Err e) p costs ties tied is text read = tt
