-- The four certificates have their texts, and are within the limits.
use Rattle.cert_forest.proofs.Vocabulary.{◌≡◌, refl, [], ◌∷◌, lit<, lit≤, decimal, decimal_digit, Kind, MAX_GAPS, numbers_of_set, PLACES, MAX_COVER_DEPTH, IsCoverTo, HasNumbers, TheExamplesAreCertificates, either, observed_tree}
use Rattle.cert_trees.specs.Kind.TheVariants as kinds
use Rattle.gap_sets.specs.Laws.{these}
use Rattle.cert_forest.specs.StoreBuffering.{cover_of}
use Rattle.cert_forest.proofs.Ascending.{Ascend, numbers_back, ascending_are_below}

-- single digits
d0 : decimal 0 ≡ 48 ∷ []
d0 = decimal_digit 0 (lit< tt)

d1 : decimal 1 ≡ 49 ∷ []
d1 = decimal_digit 1 (lit< tt)

d2 : decimal 2 ≡ 50 ∷ []
d2 = decimal_digit 2 (lit< tt)

d3 : decimal 3 ≡ 51 ∷ []
d3 = decimal_digit 3 (lit< tt)

d4 : decimal 4 ≡ 52 ∷ []
d4 = decimal_digit 4 (lit< tt)

crossed_numbers : (kind : Kind) → HasNumbers (cover_of kind)
crossed_numbers kind = (
  lit< tt,
  lit≤ tt,
  (
    (
      lit< tt,
      lit≤ tt,
      (
        (
          (lit< tt, lit< tt),
          lit≤ tt,
          (
            (
              (lit< tt, lit< tt),
              lit≤ tt,
              (
                (lit≤ tt, ((lit< tt, lit< tt), ((lit< tt, lit< tt), ((lit< tt, lit< tt), ((lit< tt, lit< tt), tt))))),
                tt,
              ),
            ),
            tt,
          ),
        ),
        (lit< tt, tt),
      ),
    ),
    ((lit< tt, lit≤ tt, (lit< tt, (lit< tt, tt))), tt),
  ),
)

crossed_fits : (kind : Kind) → IsCoverTo MAX_COVER_DEPTH (cover_of kind)
crossed_fits kind = (lit≤ tt, crossed_numbers kind)

either_numbers : HasNumbers either
either_numbers = (lit< tt, lit≤ tt, (lit< tt, (lit< tt, tt)))

observed_fits : IsCoverTo MAX_COVER_DEPTH observed_tree
observed_fits = (lit≤ tt, (lit< tt, lit≤ tt, (either_numbers, (either_numbers, (either_numbers, tt)))))

-- the sets of the examples, by their numbers
both : Ascend MAX_GAPS 0 (0 ∷ (1 ∷ []))
both = (lit≤ tt, lit< tt, (lit≤ tt, lit< tt, tt))

both_gaps : numbers_of_set (these (0 ∷ (1 ∷ []))) ≡ 0 ∷ (1 ∷ [])
both_gaps = numbers_back MAX_GAPS (0 ∷ (1 ∷ [])) (lit≤ tt) both

no_gap : numbers_of_set (these []) ≡ []
no_gap = numbers_back MAX_GAPS [] (lit≤ tt) tt

one : Ascend PLACES 0 (1 ∷ [])
one = (lit≤ tt, lit< tt, tt)

one_place : numbers_of_set (these (1 ∷ [])) ≡ 1 ∷ []
one_place = numbers_back PLACES (1 ∷ []) (lit≤ tt) one

pub told : TheExamplesAreCertificates
told = record {
  crossing = record {
    spelled = simp (both_gaps, d0, d1, d2, d3, d4);
    within = record {
      shown = tt;
      gaps = ascending_are_below MAX_GAPS (0 ∷ (1 ∷ [])) both;
      cost = lit< tt;
      seq_runs = (
        lit< tt,
        (
          (lit≤ tt, (lit< tt, (lit< tt, (lit< tt, (lit< tt, tt))))),
          (
            (lit≤ tt, (lit< tt, (lit< tt, (lit< tt, (lit< tt, tt))))),
            (
              (lit≤ tt, (lit< tt, (lit< tt, (lit< tt, (lit< tt, tt))))),
              tt,
            ),
          ),
        ),
      );
      seq_tree = crossed_fits kinds.Sequential;
      runs = (
        lit< tt,
        (
          (lit≤ tt, (lit< tt, (lit< tt, (lit< tt, (lit< tt, (lit< tt, (lit< tt, tt))))))),
          (
            (lit≤ tt, (lit< tt, (lit< tt, (lit< tt, (lit< tt, (lit< tt, (lit< tt, tt))))))),
            (
              (lit≤ tt, (lit< tt, (lit< tt, (lit< tt, (lit< tt, (lit< tt, (lit< tt, tt))))))),
              tt,
            ),
          ),
        ),
      );
      fenced_tree = crossed_fits kinds.Global;
      gap_tree = (lit≤ tt, (lit< tt, lit≤ tt, ((lit< tt, lit≤ tt, (refl, tt)), ((lit< tt, lit≤ tt, tt), tt))));
    };
  };
  nothing = record {
    spelled = simp (no_gap, d0, d1, d2, d3, d4);
    within = record {
      shown = tt;
      gaps = ascending_are_below MAX_GAPS [] tt;
      cost = lit< tt;
      seq_runs = (lit< tt, ((lit≤ tt, tt), tt));
      seq_tree = (lit≤ tt, lit< tt);
      runs = (lit< tt, tt);
      fenced_tree = (lit≤ tt, lit< tt);
      gap_tree = (lit≤ tt, refl);
    };
  };
  observed = record {
    spelled = simp (no_gap, one_place, d0, d1, d2, d3, d4);
    within = record {
      shown = ascending_are_below PLACES (1 ∷ []) one;
      gaps = ascending_are_below MAX_GAPS [] tt;
      cost = lit< tt;
      seq_runs = (
        lit< tt,
        (
          (lit≤ tt, (lit< tt, (lit< tt, (lit< tt, (lit< tt, (lit< tt, tt)))))),
          (
            (lit≤ tt, (lit< tt, (lit< tt, (lit< tt, (lit< tt, (lit< tt, tt)))))),
            tt,
          ),
        ),
      );
      seq_tree = observed_fits;
      runs = (lit< tt, tt);
      fenced_tree = observed_fits;
      gap_tree = (lit≤ tt, refl);
    };
  };
  bounded = record {
    spelled = simp (both_gaps, d0, d1, d2, d3, d4);
    within = record {
      shown = tt;
      gaps = ascending_are_below MAX_GAPS (0 ∷ (1 ∷ [])) both;
      cost = lit< tt;
      seq_runs = (
        lit< tt,
        (
          (lit≤ tt, (lit< tt, (lit< tt, (lit< tt, (lit< tt, tt))))),
          (
            (lit≤ tt, (lit< tt, (lit< tt, (lit< tt, (lit< tt, tt))))),
            (
              (lit≤ tt, (lit< tt, (lit< tt, (lit< tt, (lit< tt, tt))))),
              tt,
            ),
          ),
        ),
      );
      seq_tree = crossed_fits kinds.Sequential;
      runs = (
        lit< tt,
        (
          (lit≤ tt, (lit< tt, (lit< tt, (lit< tt, (lit< tt, (lit< tt, (lit< tt, tt))))))),
          (
            (lit≤ tt, (lit< tt, (lit< tt, (lit< tt, (lit< tt, (lit< tt, (lit< tt, tt))))))),
            (
              (lit≤ tt, (lit< tt, (lit< tt, (lit< tt, (lit< tt, (lit< tt, (lit< tt, tt))))))),
              tt,
            ),
          ),
        ),
      );
      fenced_tree = crossed_fits kinds.Global;
      gap_tree = (lit≤ tt, (lit≤ tt, (lit< tt, (lit< tt, tt))));
    };
  };
}
