-- What many proofs of this crate speak of, imported once.
pub use Rattle.std.proofs.Common.{Bool, Err, List, None, Ok, Option, Some, [], ap, append_assoc, arith, drop, false, get_or, inl, inr, length, length-append, map, refl, rules, subst, sym, take, true}
pub use Rattle.std.proofs.Common.{ℕ, ◌++◌, ◌+◌, ◌<◌, ◌||◌, ◌↔◌, ◌∙◌, ◌∷◌, ◌≡◌, ◌≤◌, ◌⊎◌}
pub use Rattle.std.proofs.lemmas.List.{append-nil, at_drop_more, length-map, map-append, map_more, nil_from_length, reverse-append, same_from_push, take-append-drop, take-map}
pub use Rattle.tso_program.specs.Nodes.{formula_tree, nodes_of, tree_again}
pub use Rattle.tso_program.specs.Tree.{Tree, tree_map}
pub use Rattle.tso_program.specs.declared.atom.Atom.{Atom}
pub use Rattle.tso_program.specs.declared.node.FormulaNode.{FormulaNode}
pub use mathlib.Core.List.{reverse}
pub use Rattle.conditions.specs.Grammar.{Class, Operand, Sign, Spells, Sum, Term, atom, conjunction, const, disjunction, negation, operand, parens, sign_map, term}
pub use Rattle.conditions.specs.Internal.Unwind.{formula_tokens, left, opened, unwound}
pub use Rattle.conditions.specs.Laws.{SpellAtMostOne, SpellMapped, SpellUnmapped}
pub use Rattle.conditions.specs.Layout.{Goes, IsFormulaTree, Lies, LiesAs, LiesBefore, LiesWith, nodes_before, stack_of}
pub use Rattle.conditions.specs.Reads.{BeginFormula, IsFirstAstray, IsReadFormula, SpellsOnly}
pub use Rattle.conditions.specs.Stack.{Anded, Before, Has, Inside, Negated, Ored, ReaderState, SignsStopAt, Start, Wants, closed, joined, next, ored, reached, reading, state_after, summed, tree_read}
pub use Rattle.conditions.specs.Stack.{whole}
pub use Rattle.conditions.specs.Tokens.{sign_of_token}
pub use Rattle.conditions.specs.declared.fault.FormulaFault.{FormulaFault, TheVariants.OutOfMemory, TheVariants.Refused}
pub use Rattle.conditions.specs.declared.stack.Waiting.{Waiting}
pub use Rattle.conditions.specs.declared.token.Token.{Token}
