-- Parts of a tree's text.
use Rattle.std.specs.Prelude.{◌≡◌, ℕ, zero, suc, ◌<◌, List, [], ◌∷◌, ◌++◌, IfSome, length, slice_index_or}
use Rattle.cert_words.specs.Lines.{spaced, texts_of}
use Rattle.cert_forest.specs.Trees.{Cover}
use Rattle.cert_forest.specs.Texts.{cover_words}
use Rattle.cert_forest.specs.Walks.{children_of}
use Rattle.cert_pages.specs.declared.parts.TreePart.{TreePart}

-- the text of trees
abbrev pub trees_text : List Cover → List ℕ
trees_text ts = texts_of (λ t. texts_of spaced (cover_words t)) ts

-- the trees that are left after so many nodes of these, where the nodes below a root come next
unfoldable pub after : ℕ → List Cover → List Cover
after zero ts = ts
after (suc n) [] = []
after (suc n) (t ∷ ts) = after n (children_of t ++ ts)

-- a part has the text of its nodes, if it has one
abbrev pub IsPartWritten : TreePart → TreePart → Type 0
IsPartWritten old new = IfSome new.text (λ text. text ++ trees_text (after old.nodes old.start) ≡ trees_text old.start)

-- so each of several
pub record AreWritten (old new : List TreePart) : Type 0 where
  pub as_many : length new ≡ length old
  pub each : (i : ℕ) (d : TreePart) → i < length old → IsPartWritten (slice_index_or old i d) (slice_index_or new i d)

-- parts of these trees, one after another, after which the others are left
abbrev pub LeadTo : List Cover → List TreePart → List Cover → Type 0
LeadTo ts [] left = ts ≡ left
LeadTo ts (part ∷ parts) left = (part.start ≡ ts) × LeadTo (after part.nodes ts) parts left

-- parts with the text of these trees, one after another, if they have one, after which the others are left
abbrev pub WriteFrom : List Cover → List TreePart → List Cover → Type 0
WriteFrom ts [] left = ts ≡ left
WriteFrom ts (part ∷ parts) left = (next : List Cover) × IfSome part.text (λ text. text ++ trees_text next ≡ trees_text ts) × WriteFrom next parts left
