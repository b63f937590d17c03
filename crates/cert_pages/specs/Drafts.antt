-- What is written of a text so far.
use Rattle.std.specs.Prelude.{ℕ, List, ◌++◌}
use Rattle.cert_pages.specs.declared.draft.Draft.{Draft}

-- the bytes of the full pages, and of the one that is being filled
abbrev pub draft_text : Draft → List ℕ
draft_text draft = draft.full ++ draft.page.items
