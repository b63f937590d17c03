-- What many proofs of this crate speak of, imported once.
pub use Rattle.std.proofs.Common.{Bool, List, [], ap, append_assoc, arith, false, get_or, length, refl, subst, suc, sym, take, true, ℕ, ◌%◌, ◌++◌, ◌+◌, ◌/◌, ◌<◌, ◌^◌, ◌∙◌, ◌∷◌, ◌≡◌, ◌≢◌}
pub use Rattle.std.proofs.Math.Seq.{take-length}
pub use Rattle.std.proofs.lemmas.Bool.Decides.{nat_tests}
pub use Rattle.std.proofs.lemmas.List.{append-nil, get_or-map, length-map, map-append, take_more}
pub use Rattle.std.specs.Global.{Vec}
pub use Rattle.std.specs.List.{flat_map}
pub use Rattle.std.specs.Prelude.{None, Option, Some, if◌then◌else◌, nat_lt, ◌==◌, ◌||◌, ◌≤◌}
pub use Rattle.json_text.specs.Internal.Lists.{bytes_of_each}
pub use Rattle.json_text.specs.Safe.{IsSafe}
pub use Rattle.json_text.specs.Texts.{after_comma, array_text, enclosed, hex_digit, member, needs_backslash, needs_number, object_text, quoted, unicode_escape, with_commas}
unfoldable pub use Rattle.json_text.specs.Texts.{escaped}
pub use Rattle.json_text.specs.Values.{AreJson, AreMembers, Array, Elements, Fields, IsJson, Json, MoreElements, MoreFields, NoElement, NoField, Null, Number, Object, Text, Truth, elements_written}
pub use Rattle.json_text.specs.Values.{members_written, written}
