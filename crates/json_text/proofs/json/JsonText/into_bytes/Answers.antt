use Rattle.json_text.proofs.Vocabulary.{subst, IsSafe, IsJson}
use Rattle.json_text.proofs.SafeTexts.{json_is_safe}
use Rattle.json_text.proofs.json.JsonText.into_bytes.Goals as goal

pub returns-clause-json : goal.returns-clause-json
returns-clause-json c = subst IsJson c.self.view_is c.self.invariant

pub returns-clause-safe : goal.returns-clause-safe
returns-clause-safe c = subst IsSafe c.self.view_is (json_is_safe _ c.self.invariant)
