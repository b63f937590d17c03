use Rattle.json_text.proofs.Vocabulary.{◌≡◌, ◌∙◌, ℕ, List, [], ◌∷◌, ◌++◌, length, take, get_or, ap, append_assoc, arith, flat_map, take-length, take_more, escaped}
use Rattle.std.proofs.lemmas.List.{flat_map_more}
use Rattle.json_text.proofs.escape.push_quoted.Goals as goal

pub loop-byte-preserved : goal.loop-byte-preserved
loop-byte-preserved c =
    let i = c.loop-byte.byte-index in
    c.in_ok-push_byte.ensures
    ∙ ap (λ (bs : List ℕ). bs ++ escaped (get_or c.args.text.now i 0)) c.loop-byte.invariant
    ∙ rw (take_more c.args.text.now i 0 c.loop-byte-test.true) (flat_map_more escaped c.push.new.self.items (take i c.args.text.now) (get_or c.args.text.now i 0))

pub returns : goal.returns
returns c =
    let text = c.args.text.now in
    let begun = c.args.out.now.items in
    let all : c.loop-byte.byte-index ≡ length text = omega arith in
    let said = flat_map escaped text in
    c.in_ok-push-2.ensures.items
    ∙ ap (λ (bs : List ℕ). bs ++ 34 ∷ []) (c.loop-byte.invariant
    ∙ ap (λ (bs : List ℕ). bs ++ flat_map escaped (take c.loop-byte.byte-index text)) c.in_ok-push.ensures.items
    ∙ ap (λ (bs : List ℕ). (begun ++ 34 ∷ []) ++ flat_map escaped bs) (ap (λ (n : ℕ). take n text) all ∙ take-length text))
    ∙ append_assoc (begun ++ 34 ∷ []) said (34 ∷ []) ∙ append_assoc begun (34 ∷ []) (said ++ 34 ∷ [])
