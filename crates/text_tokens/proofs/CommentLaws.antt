-- Comments: where they end, and those that are open one within the other.
use Rattle.text_tokens.proofs.Vocabulary.{◌≡◌, ℕ, zero, suc, ◌+◌, ◌-◌, ◌<◌, ◌==◌, true, false, List, [], ◌∷◌, length, drop, refl, sym, ap, ◌∙◌, arith, inl, inr, ◌⊎◌, nat_tests, length-drop, slice_index, is_white_space, opens, closes, Inside, close, nested}
use Rattle.text_tokens.proofs.Vocabulary.{other, IsComment, get_or_past}
use Rattle.std.proofs.Math.Bool.{and-false}

-- the insides of so many comments, one after the other
abbrev pub Open : ℕ → List ℕ → List ℕ → Type 0
Open zero text rest = text ≡ rest
Open (suc depth) text rest = (middle : List ℕ) × Inside text middle × Open depth middle rest

-- at `*)`, `(*` and another byte
close_is : (text rest : List ℕ) → closes text ≡ true → Inside text rest → drop 2 text ≡ rest
close_is text rest h (close k e) = e
close_is text rest h (nested k i j) = absurd (grind (arith, nat_tests))
close_is text rest h (other k l i) = absurd cc

nested_is : (text rest : List ℕ) → opens text ≡ true → Inside text rest → (middle : List ℕ) × Inside (drop 2 text) middle × Inside middle rest
nested_is text rest h (close k e) = absurd (grind (arith, nat_tests))
nested_is text rest h (nested {middle = m} k i j) = (m, i, j)
nested_is text rest h (other k l i) = absurd cc

other_is : (x : ℕ) (text rest : List ℕ) → opens (x ∷ text) ≡ false → closes (x ∷ text) ≡ false → Inside (x ∷ text) rest → Inside text rest
other_is x text rest h g (close k e) = absurd cc
other_is x text rest h g (nested k i j) = absurd cc
other_is x text rest h g (other k l i) = i

-- two bytes open or close a comment
pub short_opens : (text : List ℕ) → length text < 2 → opens text ≡ false
short_opens text lt = rw (get_or_past text 1 0 (omega arith)) (and-false (slice_index text 0 == 40))

short_closes : (text : List ℕ) → length text < 2 → closes text ≡ false
short_closes text lt = rw (get_or_past text 1 0 (omega arith)) (and-false (slice_index text 0 == 42))

short_is : (text rest : List ℕ) → length text < 2 → Inside text rest → ⊥
short_is text rest lt (close k e) = let bad : closes text ≡ false = short_closes text lt in let e : true ≡ false = sym k ∙ bad in cc
short_is text rest lt (nested k i j) = let bad : opens text ≡ false = short_opens text lt in let e : true ≡ false = sym k ∙ bad in cc
short_is (x ∷ text) rest lt (other k l i) = short_is text rest (omega arith) i

-- one comment less is open
pub close_forth : (text end : List ℕ) (d : ℕ) → closes text ≡ true → 0 < d → Open (d - 1) (drop 2 text) end → Open d text end
close_forth text end zero h low o = absurd (omega arith)
close_forth text end (suc d) h low o = (drop 2 text, close h refl, let e : suc d - 1 ≡ d = omega arith in rw e at o)

pub close_back : (text end : List ℕ) (d : ℕ) → closes text ≡ true → 0 < d → Open d text end → Open (d - 1) (drop 2 text) end
close_back text end zero h low o = absurd (omega arith)
close_back text end (suc d) h low o =
    let e : suc d - 1 ≡ d = omega arith in
    let same : drop 2 text ≡ o.0 = close_is text o.0 h o.1 in
    rw (e, same) o.2

-- one comment more is open
pub open_forth : (text end : List ℕ) (d : ℕ) → opens text ≡ true → 0 < d → Open (d + 1) (drop 2 text) end → Open d text end
open_forth text end zero h low o = absurd (omega arith)
open_forth text end (suc d) h low o =
    let e : suc d + 1 ≡ suc (suc d) = omega arith in
    let p : Open (suc (suc d)) (drop 2 text) end = rw e at o in
    (p.2.0, nested h p.1 p.2.1, p.2.2)

pub open_back : (text end : List ℕ) (d : ℕ) → opens text ≡ true → 0 < d → Open d text end → Open (d + 1) (drop 2 text) end
open_back text end zero h low o = absurd (omega arith)
open_back text end (suc d) h low o =
    let e : suc d + 1 ≡ suc (suc d) = omega arith in
    let n = nested_is text o.0 h o.1 in
    let p : Open (suc (suc d)) (drop 2 text) end = (n.0, n.1, (o.0, n.2, o.2)) in
    rw e p

-- as many are open
pub other_forth : (text end : List ℕ) (d : ℕ) → 0 < length text → opens text ≡ false → closes text ≡ false → 0 < d → Open d (drop 1 text) end → Open d text end
other_forth (x ∷ text) end (suc d) some h g low o = (o.0, other h g o.1, o.2)
other_forth text end d some h g low o = absurd (omega arith)

pub other_back : (text end : List ℕ) (d : ℕ) → 0 < length text → opens text ≡ false → closes text ≡ false → 0 < d → Open d text end → Open d (drop 1 text) end
other_back (x ∷ text) end (suc d) some h g low o = (o.0, other_is x text o.0 h g o.1, o.2)
other_back text end d some h g low o = absurd (omega arith)

pub short_back : (text end : List ℕ) (d : ℕ) → length text < 2 → 0 < d → Open d text end → ⊥
short_back text end zero short low o = omega arith
short_back text end (suc d) short low o = short_is text o.0 short o.1

-- a comment ends in one place
pub Inside-one : (text a b : List ℕ) → Inside text a → Inside text b → a ≡ b
Inside-one text a b (close h e) j = sym e ∙ close_is text b h j
Inside-one text a b (nested {middle = m} h i k) j =
    let n = nested_is text b h j in
    let same : m ≡ n.0 = Inside-one (drop 2 text) m n.0 i n.1 in
    Inside-one m a b k (rw (← same) at n.2)
Inside-one (x ∷ text) a b (other h g i) j = Inside-one text a b i (other_is x text b h g j)

-- what follows the inside of a comment is shorter
pub Inside-shorter : (text rest : List ℕ) → Inside text rest → length rest < length text
Inside-shorter [] rest (close h e) = absurd cc
Inside-shorter (x ∷ text) rest (close h e) = omega (arith, length-drop 2 (x ∷ text), ap length e)
Inside-shorter text rest (nested {middle = m} h i j) = omega (arith, Inside-shorter (drop 2 text) m i, Inside-shorter m rest j, length-drop 2 text)
Inside-shorter (x ∷ text) rest (other h g i) = omega (arith, Inside-shorter text rest i)

pub comment_shorter : (text rest : List ℕ) → IsComment text rest → length rest < length text
comment_shorter text rest h = omega (arith, Inside-shorter (drop 2 text) rest h.1, length-drop 2 text)

pub space_shorter : (text rest : List ℕ) → ((b : ℕ) × (is_white_space b ≡ true) × (text ≡ b ∷ rest)) ⊎ IsComment text rest → length rest < length text
space_shorter text rest h = elim h [ inl one ↦ omega (arith, ap length one.2) | inr k ↦ comment_shorter text rest k ]
