-- Kept program order in words of what lies between two accesses.
use Rattle.candidate_executions.proofs.Vocabulary.{◌≡◌, ◌⊎◌, ◌↔◌, ℕ, Option, Some, None, IsSome, refl, inl, inr, length, action, start_of, code_of, KeepsOrder, path_of, LiesBetween, SectionsTellFences, KeptOrderIsTold}
use Rattle.candidate_executions.proofs.Sections.SectionsTellFences.{sections_differ}

pub sections_tell_fences : SectionsTellFences
sections_tell_fences p gaps c t i j x y at plain =
    sections_differ (action p.threads t) (gaps t) (length (code_of p.threads t)) 0 (start_of p.threads t) (c.given t) i j x y at.first at.second at.in_order plain

pub kept_order_is_told : KeptOrderIsTold
kept_order_is_told p gaps c t i j x y at = go x.read refl
  where
    go : (o : Option ℕ) → x.read ≡ o → KeepsOrder x y ↔ (IsSome x.read ⊎ (IsSome y.written ⊎ LiesBetween (action p.threads t) (gaps t) (path_of p c t) i j))
    go (Some v) q = ((λ k. inl (rw q refl)), (λ k. inl (rw q refl)))
    go None q =
        let tell = sections_tell_fences p gaps c t i j x y at q in (
          (λ k. elim k [ inl r ↦ inl r | inr s ↦ elim s [ inl w ↦ inr (inl w) | inr ne ↦ inr (inr (tell.0 ne)) ] ]),
          (λ k. elim k [ inl r ↦ inl r | inr s ↦ elim s [ inl w ↦ inr (inl w) | inr between ↦ inr (inr (tell.1 between)) ] ]),
        )
