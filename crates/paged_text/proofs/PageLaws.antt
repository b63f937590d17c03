-- The texts of pages one after another.
use Rattle.std.proofs.Common.{◌≡◌, ℕ, ◌+◌, ◌<◌, List, [], ◌∷◌, ◌++◌, length, get_or, take, refl, sym, ap, ◌∙◌, append_assoc}
use Rattle.std.specs.Global.{Vec}
use Rattle.std.proofs.lemmas.List.{take_more, append-nil}
use Rattle.paged_text.specs.PageTexts.{text_of}

-- the pages of two texts
pub text_of_both : (pages others : List (Vec ℕ)) → text_of (pages ++ others) ≡ text_of pages ++ text_of others
text_of_both [] others = refl
text_of_both (page ∷ pages) others = ap (λ (w : List ℕ). page.items ++ w) (text_of_both pages others) ∙ sym (append_assoc page.items (text_of pages) (text_of others))

-- one page more
pub one_page_more : (pages : List (Vec ℕ)) (page : Vec ℕ) → text_of (pages ++ page ∷ []) ≡ text_of pages ++ page.items
one_page_more pages page = text_of_both pages (page ∷ []) ∙ ap (λ (w : List ℕ). text_of pages ++ w) (append-nil page.items)

-- the pages up to a place, and the one there
pub pages_to : (pages : List (Vec ℕ)) (i : ℕ) (d : Vec ℕ) → i < length pages → (text more : List ℕ) → text ≡ text_of (take i pages) → more ≡ text ++ (get_or pages i d).items → more ≡ text_of (take (i + 1) pages)
pages_to pages i d lt text more so next =
    next ∙ ap (λ (w : List ℕ). w ++ (get_or pages i d).items) so ∙ sym (one_page_more (take i pages) (get_or pages i d))
    ∙ ap text_of (sym (take_more pages i d lt))
