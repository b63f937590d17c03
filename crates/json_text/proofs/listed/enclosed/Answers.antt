use Rattle.json_text.proofs.Vocabulary.{◌≡◌, ◌<◌, ◌∙◌, ℕ, List, [], ◌∷◌, ◌++◌, length, take, ap, sym, arith, get_or-map, length-map, Vec, take-length, bytes_of_each, with_commas}
use Rattle.json_text.proofs.Lists.{added_at}
use Rattle.json_text.proofs.listed.enclosed.Goals as goal

pub loop-i-preserved : goal.loop-i-preserved
loop-i-preserved c =
    let items = c.args.items.now in
    let i = c.loop-i.i in
    let d = c.index-items-i.result in
    let below : i < length (bytes_of_each items) = omega (arith, length-map items (λ (v : Vec ℕ). v.items), c.loop-i-test.true) in
    let item = c.as_slice.ensures.value ∙ ap (λ (v : Vec ℕ). v.items) c.index-items-i.is ∙ sym (get_or-map (λ (v : Vec ℕ). v.items) items i d d.items c.loop-i-test.true) in
    added_at c.args.first (bytes_of_each items) i d.items c.loop-i.out.items c.push_comma.new.out.items _ below c.loop-i.invariant c.in_ok-push_comma.ensures
    (c.in_ok-extend_from_slice.ensures.items ∙ ap (λ (bs : List ℕ). c.push_comma.new.out.items ++ bs) item)

pub returns : goal.returns
returns c =
    let items = bytes_of_each c.args.items.now in
    let all : c.loop-i.i ≡ length items = omega (arith, length-map c.args.items.now (λ (v : Vec ℕ). v.items)) in
    c.in_ok-push-2.ensures.items
    ∙ ap (λ (bs : List ℕ). bs ++ c.args.last ∷ []) (c.loop-i.invariant ∙ ap (λ (ts : List (List ℕ)). c.args.first ∷ with_commas ts) (ap (λ (n : ℕ). take n items) all ∙ take-length items))
