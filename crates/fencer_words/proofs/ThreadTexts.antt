-- The threads whose numbers texts spell.
use Rattle.fencer_words.proofs.Vocabulary.{◌≡◌, ◌∙◌, ◌≤◌, ◌<◌, ℕ, List, [], ◌∷◌, ◌++◌, length, map, get_or, ap, ap₂, arith, refl, sym, map-append, AreThreadTexts, Text}
use Rattle.std.specs.Fmt.{decimal}
use Rattle.std.proofs.lemmas.List.{get_or-map, length-map}
use Rattle.std.proofs.lemmas.List.Elements.{All-nil, All-push}

pub no_threads : AreThreadTexts [] []
no_threads = record { spelled = refl; small = All-nil (λ thread. thread ≤ 255) }

-- one more thread
pub one_thread_more : (texts : List Text) (threads : List ℕ) (text : Text) (thread : ℕ) → AreThreadTexts texts threads → text ≡ decimal thread → thread ≤ 255 → AreThreadTexts (texts ++ text ∷ []) (threads ++ thread ∷ [])
one_thread_more texts threads text thread are is small = record {
  spelled = ap₂ (λ (ts : List Text) (t : Text). ts ++ t ∷ []) are.spelled is ∙ sym (map-append decimal threads (thread ∷ []));
  small = All-push (λ thread. thread ≤ 255) threads thread are.small small;
}

-- a text at an index among the others that is no thread's
pub no_thread_at : {X : Type 0} (text : X → Text) (xs : List X) (threads : List ℕ) (i : ℕ) (d : X) → i < length xs → AreThreadTexts (map text xs) threads
    → ((n : ℕ) → n ≤ 255 → text (get_or xs i d) ≡ decimal n → ⊥) → ⊥
no_thread_at text xs threads i d within are none =
    let long : length xs ≡ length threads = sym (length-map xs text) ∙ ap (λ (ts : List Text). length ts) are.spelled ∙ length-map threads decimal in
    let there : i < length threads = omega (arith, within, long) in
    none (get_or threads i 0) (are.small i 0 there)
    (sym (get_or-map text xs i d [] within) ∙ ap (λ (ts : List Text). get_or ts i []) are.spelled ∙ get_or-map decimal threads i 0 [] there)
