-- The seats of a hunt as they are made.
use Rattle.hunt_board.proofs.Vocabulary.{map-id, map_push, arith, ◌≡◌, ℕ, ◌+◌, List, [], ◌∷◌, ◌++◌, None, refl, sym, ap, ◌∙◌, subst, range_with_len, HuntView, SeatView, IsFresh, AreFresh, word_of, Word, Known, IsSeatOf, no_ceiling}
use Rattle.std.proofs.lemmas.List.Elements.{All-push}
use Rattle.std.proofs.lemmas.List.FromFn.{map-range_with_len_more}

abbrev pub seat_of : ℕ → Known → SeatView
seat_of number known = record { number = number; node = None; best = None; known = known; posted = 0 }

-- so many numbers, and one more
numbers_more : (n : ℕ) → range_with_len 0 (n + 1) ≡ range_with_len 0 n ++ n ∷ []
numbers_more n = sym (map-id (range_with_len 0 (n + 1))) ∙ map-range_with_len_more (λ (k : ℕ). k) 0 n n (omega arith) ∙ ap (λ l. l ++ n ∷ []) (map-id (range_with_len 0 n))

module _ (h : HuntView) (n : ℕ) (seats : List SeatView) (w : Word) (first known : Known) where
  -- one more seat, which knows what the first one knows
  pub one_more_fresh : word_of h ≡ w → known ≡ first → IsSeatOf w first → first.least ≡ no_ceiling → AreFresh h n seats → AreFresh h (n + 1) (seats ++ seat_of n known ∷ [])
  one_more_fresh word same of least fresh =
      let here : IsSeatOf (word_of h) known = subst (λ (v : Word). IsSeatOf v known) (sym word) (subst (IsSeatOf w) (sym same) of) in
      let none : known.least ≡ no_ceiling = ap (λ (k : Known). k.least) same ∙ least in record {
        each = All-push (IsFresh h) seats (seat_of n known) fresh.each ((here, tt), refl, refl, none, refl);
        numbers = map_push (λ (s : SeatView). s.number) seats (seat_of n known) ∙ ap (λ l. l ++ n ∷ []) fresh.numbers ∙ sym (numbers_more n);
      }
