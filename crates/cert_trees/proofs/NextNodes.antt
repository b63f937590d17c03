-- What the next node of a walk says of its first tree.
use Rattle.cert_trees.proofs.Vocabulary.{◌≡◌, ℕ, suc, ◌≤◌, List, [], ◌∷◌, ◌++◌, length, take, drop, refl, ap, sym, arith, length-append, AccessId, Cover, Value, Source, Order, Covers, NoCover, MoreCovers, covers_of, cover_list, count_covers, spell, spell_all}
use Rattle.cert_trees.proofs.Vocabulary.{first_tree, IsNext}
use Rattle.cert_trees.specs.declared.walk.CoverNode.TheVariants as n
use Rattle.cert_trees.proofs.NodeLaws.{row_taken, row_dropped}

-- its children are the next trees, as many as the node says
pub record IsFirstOf (count : ℕ) (tree : Cover) (ts after : List Cover) : Type 0 where
  pub first : first_tree ts ≡ tree
  pub rest : drop count after ≡ drop 1 ts
  pub fits : count ≤ length after

row_fits : (cs : Covers) (us : List Cover) → count_covers cs ≤ length (cover_list cs ++ us)
row_fits NoCover us = omega arith
row_fits (MoreCovers t ts) us = omega (arith, row_fits ts us)

value_of : (thread : ℕ) (cs : Covers) (us : List Cover) → IsFirstOf (count_covers cs) (Value thread (covers_of (take (count_covers cs) (cover_list cs ++ us)))) (Value thread cs ∷ us) (cover_list cs ++ us)
value_of thread cs us = record { first = ap (Value thread) (sym (row_taken cs us)); rest = row_dropped cs us; fits = row_fits cs us }

source_of : (read : AccessId) (cs : Covers) (us : List Cover) → IsFirstOf (count_covers cs) (Source read (covers_of (take (count_covers cs) (cover_list cs ++ us)))) (Source read cs ∷ us) (cover_list cs ++ us)
source_of read cs us = record { first = ap (Source read) (sym (row_taken cs us)); rest = row_dropped cs us; fits = row_fits cs us }

pub value_next : (ts : List Cover) (thread count : ℕ) (after : List Cover) → IsNext ts (n.Value thread count) after → IsFirstOf count (Value thread (covers_of (take count after))) ts after
value_next [] thread count after next = absurd next
value_next (Value t cs ∷ us) thread count after (is, e) =
    let same : thread ≡ t = cc in
    let many : count ≡ count_covers cs = cc in rw (e, many, same) (value_of t cs us)
value_next ts thread count after h = absurd cc

pub source_next : (ts : List Cover) (read : AccessId) (count : ℕ) (after : List Cover) → IsNext ts (n.Source read count) after → IsFirstOf count (Source read (covers_of (take count after))) ts after
source_next [] read count after next = absurd next
source_next (Source r cs ∷ us) read count after (is, e) =
    let same : read ≡ r = cc in
    let many : count ≡ count_covers cs = cc in rw (e, many, same) (source_of r cs us)
source_next ts read count after h = absurd cc

pub order_next : (ts : List Cover) (first second : AccessId) (after : List Cover) → IsNext ts (n.Order first second) after
    → IsFirstOf 2 (Order first second (first_tree after) (first_tree (drop 1 after))) ts after
order_next [] first second after next = absurd next
order_next (Order a b t u ∷ us) first second after (is, e) =
    let one : first ≡ a = cc in
    let two : second ≡ b = cc in rw (e, one, two) (record { first = refl; rest = refl; fits = omega arith })
order_next ts first second after h = absurd cc

-- ---- trees that were walked over

pub rest_no_longer : (k : ℕ) (ts : List Cover) → length (spell_all (drop k ts)) ≤ length (spell_all ts)
rest_no_longer (suc k) (t ∷ ts) = omega (arith, rest_no_longer k ts, length-append (spell t) (spell_all ts))
rest_no_longer k ts = omega arith
