use Rattle.json_text.proofs.SafeTexts.{safe_line}
use Rattle.documents.proofs.document.document_of.Goals as goal

pub returns-clause-json : goal.returns-clause-json
returns-clause-json c = record { text = c.into_bytes-document.result.items; json = rw c.into_bytes-document.ensures.text c.into_bytes-document.ensures.json; ended = c.in_ok-push.ensures.items }

pub returns-clause-safe : goal.returns-clause-safe
returns-clause-safe c = rw (c.in_ok-push.ensures.items, c.into_bytes-document.ensures.text) (safe_line _ c.into_bytes-document.ensures.safe)
