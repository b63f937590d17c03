-- Parts of a tree's text.
use Rattle.cert_pages.proofs.Vocabulary.{◌≡◌, ℕ, zero, suc, ◌+◌, ◌-◌, ◌<◌, ◌≤◌, List, [], ◌∷◌, ◌++◌, length, take, drop, refl, sym, ap, ◌∙◌, subst, append_assoc, arith, append-nil, drop_all, take_all, IfSome, Option, Some, slice_index_or, Cover, CoverNode}
use Rattle.cert_pages.proofs.Vocabulary.{IsNext, children_of, root_of, spell_all, next_is_shorter, TreePart, trees_text, IsPartWritten, LeadTo, WriteFrom}
use Rattle.tso_program.proofs.Remainders.{one_less}
unfoldable use Rattle.cert_pages.specs.Parts.{after}

-- ---- so many nodes of trees

pub after_none : (n : ℕ) → after n [] ≡ []
unfolding after
after_none zero = refl
after_none (suc n) = refl

after_next : (m : ℕ) (ts next : List Cover) (node : CoverNode) → IsNext ts node next → after (suc m) ts ≡ after m next
unfolding after
after_next m [] next node is = absurd is
after_next m (t ∷ ts) next node (is, e) = ap (after m) (sym e)

-- one node more
pub one_more : (n i : ℕ) (ts next all : List Cover) (node : CoverNode) → i < n → IsNext ts node next → after (n - i) ts ≡ all → after (n - (i + 1)) next ≡ all
one_more n i ts next all node lt is so = sym (after_next (n - (i + 1)) ts next node is) ∙ ap (λ (m : ℕ). after m ts) (sym (one_less n i lt)) ∙ so

-- no node is left
pub none_left : (m : ℕ) (ts all : List Cover) → ts ≡ [] → after m ts ≡ all → ts ≡ all
none_left m ts all none so = none ∙ sym (after_none m) ∙ ap (after m) (sym none) ∙ so

-- all are passed
pub all_passed : (n i : ℕ) (ts all : List Cover) → n ≤ i → after (n - i) ts ≡ all → ts ≡ all
unfolding after
all_passed n i ts all le so = ap (λ (m : ℕ). after m ts) (let none : 0 ≡ n - i = omega arith in none) ∙ so

after_no_longer : (m : ℕ) (ts : List Cover) → length (spell_all (after m ts)) ≤ length (spell_all ts)
unfolding after
after_no_longer zero ts = omega arith
after_no_longer (suc m) [] = omega arith
after_no_longer (suc m) (t ∷ ts) = omega (arith, after_no_longer m (children_of t ++ ts), next_is_shorter (t ∷ ts) (children_of t ++ ts) (root_of t) (refl, refl))

-- a part has some nodes
pub after_is_shorter : (m : ℕ) (ts : List Cover) → (ts ≡ [] → ⊥) → 0 < m → length (spell_all (after m ts)) < length (spell_all ts)
unfolding after
after_is_shorter m [] some lt = absurd (some refl)
after_is_shorter zero (t ∷ ts) some lt = absurd (omega arith)
after_is_shorter (suc m) (t ∷ ts) some lt = omega (arith, after_no_longer m (children_of t ++ ts), next_is_shorter (t ∷ ts) (children_of t ++ ts) (root_of t) (refl, refl))

-- ---- parts one after another

-- one part more
pub one_part_more : (ts : List Cover) (parts : List TreePart) (part : TreePart) (mid next : List Cover) → LeadTo ts parts mid → part.start ≡ mid → next ≡ after part.nodes mid → LeadTo ts (parts ++ part ∷ []) next
one_part_more ts [] part mid next led start e = (start ∙ sym led, ap (after part.nodes) led ∙ sym e)
one_part_more ts (p ∷ parts) part mid next led start e = (led.0, one_part_more (after p.nodes ts) parts part mid next led.1 start e)

-- each of them is written
pub all_written : (ts left : List Cover) (old new : List TreePart) → LeadTo ts old left → length new ≡ length old → ((i : ℕ) (d : TreePart) → i < length old → IsPartWritten (slice_index_or old i d) (slice_index_or new i d)) → WriteFrom ts new left
all_written ts left [] [] led count each = led
all_written ts left [] (n ∷ new) led count each = absurd (omega (arith, count))
all_written ts left (o ∷ old) [] led count each = absurd (omega (arith, count))
all_written ts left (o ∷ old) (n ∷ new) led count each = (
  after o.nodes ts,
  subst (λ (us : List Cover). IfSome n.text (λ text. text ++ trees_text (after o.nodes us) ≡ trees_text us)) led.0 (each 0 o (omega arith)),
  all_written (after o.nodes ts) left old new led.1 (omega (arith, count)) (λ i d lt. each (suc i) d (omega (arith, lt))),
)

-- the last of some parts
last_part : (ts left : List Cover) (parts : List TreePart) (part : TreePart) → WriteFrom ts (parts ++ part ∷ []) left → (mid : List Cover) × WriteFrom ts parts mid × IfSome part.text (λ text. text ++ trees_text left ≡ trees_text mid)
last_part ts left [] part (next, written, e) = (ts, refl, subst (λ (us : List Cover). IfSome part.text (λ text. text ++ trees_text us ≡ trees_text ts)) e written)
last_part ts left (p ∷ parts) part (next, written, others) = let rest = last_part next left parts part others in (rest.0, (next, written, rest.1), rest.2)

-- the text is that of the parts
abbrev pub IsTextOf : List TreePart → List ℕ → Type 0
IsTextOf parts text = (ts left : List Cover) → WriteFrom ts parts left → text ++ trees_text left ≡ trees_text ts

pub no_part : IsTextOf [] []
no_part ts left is = ap trees_text (sym is)

pub one_part : (parts : List TreePart) (part : TreePart) (text words : List ℕ) → part.text ≡ Some words → IsTextOf parts text → IsTextOf (parts ++ part ∷ []) (text ++ words)
one_part parts part text words is so ts left write =
    let last = last_part ts left parts part write in
    append_assoc text words (trees_text left)
    ∙ ap (λ (w : List ℕ). text ++ w) (subst (λ (found : Option (List ℕ)). IfSome found (λ found. found ++ trees_text left ≡ trees_text last.0)) is last.2) ∙ so ts last.0 last.1

pub all_parts : (parts : List TreePart) (text : List ℕ) (ts : List Cover) → IsTextOf parts text → WriteFrom ts parts [] → text ≡ trees_text ts
all_parts parts text ts so write = sym (append-nil text) ∙ so ts [] write

-- as many are written back as there were
pub written_back : {T : Type 0} → (old new : List T) (n : ℕ) → n ≡ length old → length new ≡ length old → take n (new ++ drop (length new) old) ≡ new
written_back old new n same many = ap (λ xs. take n (new ++ xs)) (drop_all (length new) old (omega arith)) ∙ ap (take n) (append-nil new) ∙ take_all n new (omega arith)
