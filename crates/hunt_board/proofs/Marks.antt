-- Receipts that are marked off against the record, one after the other.
use Rattle.hunt_board.proofs.Vocabulary.{◌≡◌, ◌≢◌, ℕ, zero, suc, ◌+◌, ◌<◌, ◌≤◌, Bool, true, false, true≢false, List, [], ◌∷◌, Some, None, refl, sym, ap, ◌∙◌, subst, inl, inr, arith, below_more, length, length-set, set, cond, get_or, replicate, take, ◌↔◌}
use Rattle.hunt_board.proofs.Vocabulary.{same_Some, none-some, slice_get_within, slice_get_read, get_or_from_slice_get, cases_lt, slice_get, ℕ_discrete, Entry, Foreign, Status, Split, Cut, Confirmed, Settled, IsEventOf, IsSettledAs, Receipt, WalkLeads}
use Rattle.hunt_board.proofs.Vocabulary.{StandsOnlyAt, get_here, get_else, get_old, HasMark, IsMarked, IsNotMarked, get_or-replicate, length-replicate, SettledEvent, IsReceiptEvent as IsEventTold, IsReceiptOf, Stands, StandApart, NameAll, IsFirstWrong}
use Rattle.search_core.specs.declared.finished.SettledEvent.TheVariants as recorded
use Rattle.hunt_board.specs.{declared.settling.ReceiptEvent.ReceiptEvent, Internal.Settled.IsSameEvent, Internal.Settled.SaysSame}
use Rattle.hunt_board.specs.declared.settling.ReceiptEvent.TheVariants as event
use Rattle.hunt_board.proofs.Found.{same_end}

-- what is at a place of a list's front
get_take : (n : ℕ) (l : List Receipt) (i : ℕ) (r : Receipt) → slice_get (take n l) i ≡ Some r → (i < n) × (slice_get l i ≡ Some r)
get_take (suc n) (q ∷ l) zero r e = (omega arith, e)
get_take (suc n) (q ∷ l) (suc i) r e = let h = get_take n l i r e in let less = h.0 in (omega arith, h.1)
get_take n l i r e = absurd (none-some r e)

-- a number that is at most another and differs
lower : (a b : ℕ) → a ≤ b → a ≢ b → a < b
lower a b most differ = elim (cases_lt a b) [ inl less ↦ less | inr not_less ↦ absurd (differ (omega arith)) ]

-- how many are marked
abbrev pub marked : List Bool → ℕ
marked [] = 0
marked (mark ∷ marks) = cond mark 1 0 + marked marks

one_more : (l : List Bool) (k : ℕ) → slice_get l k ≡ Some false → marked (set l k true) ≡ marked l + 1
one_more [] k e = absurd (none-some false e)
one_more (true ∷ marks) zero e = absurd (true≢false (same_Some true false e))
one_more (false ∷ marks) zero e = omega arith
one_more (mark ∷ marks) (suc k) e = let so = one_more marks k e in omega arith

few_marked : (l : List Bool) → marked l ≤ length l
few_marked [] = omega arith
few_marked (true ∷ marks) = let so = few_marked marks in omega arith
few_marked (false ∷ marks) = let so = few_marked marks in omega arith

-- where as many are marked as there are, each is
all_marked : (l : List Bool) (k : ℕ) → length l ≤ marked l → k < length l → slice_get l k ≡ Some true
all_marked [] k all h = absurd (omega arith)
all_marked (true ∷ marks) zero all h = refl
all_marked (true ∷ marks) (suc k) all h = all_marked marks k (omega arith) (omega arith)
all_marked (false ∷ marks) k all h = absurd (let few = few_marked marks in omega arith)

-- the receipts so far: the node of each is marked, no two are of one node, and each marked node has one of them
pub record AreMarked (entries : List Entry) (receipts : List Receipt) (marks : List Bool) (count : ℕ) : Type 0 where
  pub long : length marks ≡ length entries
  pub have_marks : (j : ℕ) → j < count → (r : Receipt) → slice_get receipts j ≡ Some r → HasMark entries r marks true
  pub apart : (i : ℕ) → i < count → (j : ℕ) (q r : Receipt) → j < i → slice_get receipts j ≡ Some q → slice_get receipts i ≡ Some r → q.node ≢ r.node
  pub named : (place : ℕ) (e : Entry) → slice_get marks place ≡ Some true → slice_get entries place ≡ Some e → (j : ℕ) × (r : Receipt) × (j < count) × (slice_get receipts j ≡ Some r) × IsReceiptOf e r
  pub as_many : marked marks ≡ count

-- a receipt's mark in a list of marks that says another word of it
with_marks : (entries : List Entry) (r : Receipt) (marks after : List Bool) (a b : Bool) (m : HasMark entries r marks a) → slice_get after m.place ≡ Some b → HasMark entries r after b
with_marks entries r marks after a b m has = record { place = m.place; leads = m.leads; entry = m.entry; there = m.there; is_receipt = m.is_receipt; has = has }

module _ (entries : List Entry) (receipts : List Receipt) (marks : List Bool) (count : ℕ) (so : AreMarked entries receipts marks count) where
  -- one more is marked
  module _ (x : Receipt) (here : slice_get receipts count ≡ Some x) (is : HasMark entries x marks false) where
    is_x : (r : Receipt) → slice_get receipts count ≡ Some r → x ≡ r
    is_x r there = same_Some x r (sym here ∙ there)

    stays : (place : ℕ) → slice_get marks place ≡ Some true → slice_get (set marks is.place true) place ≡ Some true
    stays place e = elim (ℕ_discrete place is.place) [
      | yes same ↦ ap (slice_get (set marks is.place true)) same ∙ get_here marks is.place false true is.has
      | no other ↦ get_else marks is.place place true other ∙ e
    ]

    new_node : (j : ℕ) → j < count → (q : Receipt) → slice_get receipts j ≡ Some q → q.node ≢ x.node
    new_node j less q there same =
        let m = so.have_marks j less q there in
        let end = same_end entries x.node 0 m.place is.place (subst (λ n. WalkLeads entries n 0 m.place) same m.leads) is.leads in
        true≢false (same_Some true false (sym m.has ∙ ap (slice_get marks) end ∙ is.has))

    named_on : (place : ℕ) (e : Entry) → slice_get (set marks is.place true) place ≡ Some true → slice_get entries place ≡ Some e → (j : ℕ) × (r : Receipt) × (j < count + 1) × (slice_get receipts j ≡ Some r) × IsReceiptOf e r
    named_on place e mark there = elim (get_old marks is.place place true true mark) [
      | inl new ↦ (count, x, omega arith, here, subst (λ (d : Entry). IsReceiptOf d x) (same_Some is.entry e (sym is.there ∙ ap (slice_get entries) (sym new.0) ∙ there)) is.is_receipt)
      | inr old ↦ (let was = so.named place e old.1 there in let h = was.2 in (was.0, was.1, omega arith, was.3, was.4))
    ]

    with_x : AreMarked entries receipts (set marks is.place true) (count + 1)
    with_x = record {
      long = length-set marks is.place true ∙ so.long;
      have_marks = below_more _ _ (λ j less r there. (let m = so.have_marks j less r there in with_marks entries r marks (set marks is.place true) true true m (stays m.place m.has)))
          (λ r there. subst (λ (y : Receipt). HasMark entries y (set marks is.place true) true) (is_x r there)
          (with_marks entries x marks (set marks is.place true) false true is (get_here marks is.place false true is.has)));
      apart = below_more _ _ so.apart (λ j q r before there there'. subst (λ (y : Receipt). q.node ≢ y.node) (is_x r there') (new_node j before q there));
      named = named_on;
      as_many = one_more marks is.place is.has ∙ ap (λ n. n + 1) so.as_many;
    }

  pub one_more_marked : (x : Receipt) → slice_get receipts count ≡ Some x → (after : List Bool) → IsMarked entries x marks after → AreMarked entries receipts after (count + 1)
  one_more_marked x here after is = subst (λ l. AreMarked entries receipts l (count + 1)) (sym is.marked) (with_x x here is.unmarked)

  -- the receipts so far stand in the record, and no two are of one node
  stand_so_far : (l : List Receipt) → ((i : ℕ) (r : Receipt) → slice_get l i ≡ Some r → (i < count) × (slice_get receipts i ≡ Some r)) → StandApart entries l
  stand_so_far l some = record {
    each = λ i r e. (let h = some i r e in let m = so.have_marks i h.0 r h.1 in (m.place, m.entry, m.there, m.is_receipt));
    apart = λ j i q r before there there'. (let h = some j q there in let k = some i r there' in so.apart i k.0 j q r before h.1 k.1);
  }

  -- all of them are
  all_stand : length receipts ≤ count → StandApart entries receipts
  all_stand whole = stand_so_far receipts (λ i r e. ((let h = slice_get_within receipts i r e in omega arith), e))

  -- all are marked, and as many as the nodes
  pub all_named : length receipts ≤ count → length receipts ≡ length entries → NameAll entries receipts
  all_named whole as_many = record {
    stand = all_stand whole;
    as_many = as_many;
    whole = λ place e there. (let h = so.named place e
        (all_marked marks place (omega (arith, so.long, so.as_many)) (let h = slice_get_within entries place e there in let l = so.long in omega arith)) there in (h.0, h.1, h.3, h.4));
  }

  -- all are marked, and not as many as the nodes
  pub too_few : length receipts ≤ count → length receipts ≢ length entries → StandApart entries receipts × (length receipts < length entries)
  too_few whole differ =
      let few = few_marked marks in
      let less : length receipts ≤ length entries = omega (arith, so.long, so.as_many) in
      (all_stand whole, lower (length receipts) (length entries) less differ)

  -- one is not marked
  pub first_wrong : (x : Receipt) → slice_get receipts count ≡ Some x → (after : List Bool) → IsNotMarked entries x marks after → IsFirstWrong entries receipts count
  first_wrong x here after not = record {
    receipt = x;
    there = here;
    wrong = elim not.why [
      | inl astray ↦ inl astray
      | inr has ↦ inr (let was = so.named has.place has.entry has.has has.there in (was.0, was.1, was.2, was.3, was.4.node ∙ sym has.is_receipt.node))
    ];
    before = stand_so_far (take count receipts) (get_take count receipts);
  }

-- none is marked at first
none_marked : (n : ℕ) → marked (replicate n false) ≡ 0
none_marked zero = refl
none_marked (suc n) = let so = none_marked n in omega arith

pub fresh_marks : (entries : List Entry) (receipts : List Receipt) (marks : List Bool) (n : ℕ) → n ≡ length entries → marks ≡ replicate n false → AreMarked entries receipts marks 0
fresh_marks entries receipts marks n all is = subst (λ l. AreMarked entries receipts l 0) (sym is) (record {
  long = length-replicate n false ∙ all;
  have_marks = λ j h. absurd (omega arith);
  apart = λ i h. absurd (omega arith);
  named = λ place e mark. absurd (let within = slice_get_within (replicate n false) place true mark in let long = length-replicate n false in
      true≢false (sym (get_or_from_slice_get (replicate n false) place true false mark) ∙ get_or-replicate n place false false (omega arith)));
  as_many = none_marked n;
})

-- an event is that of a receipt just where the record says so
same_event : (s : Status) (v : SettledEvent) (w : ReceiptEvent) → IsEventOf s v → IsSameEvent v w ↔ IsEventTold s w
same_event (Split f first) (recorded.Split run) (event.Split passed) h = ((λ g. ap (λ (x : Foreign). x.passed) (sym h) ∙ g), (λ g. ap (λ (x : Foreign). x.passed) h ∙ g))
same_event (Split f first) (recorded.Split run) w h = ((λ g. absurd g), (λ g. absurd g))
same_event Cut recorded.Cut w h = ((λ g. g), (λ g. g))
same_event Confirmed recorded.Confirmed w h = ((λ g. g), (λ g. g))
same_event s v w h = absurd h

-- what the record says of a node is what its receipt says
pub receipt_of : (e : Entry) (settled : Settled) (r : Receipt) → IsSettledAs e settled → SaysSame settled r ↔ IsReceiptOf e r
receipt_of e settled r told =
    let events = same_event e.status settled.event r.event told.is_event in (
      (λ says. record { node = says.node ∙ told.same_node; seat = says.seat ∙ told.same_seat; event = events.0 says.event }),
      (λ is. record { node = is.node ∙ sym told.same_node; seat = is.seat ∙ sym told.same_seat; event = events.1 is.event }),
    )

-- the mark of the receipt's node
abbrev pub mark_of : (entries : List Entry) (r : Receipt) (marks : List Bool) (place : ℕ) (settled : Settled) (mark b : Bool) → WalkLeads entries r.node 0 place →
    ((e : Entry) × (slice_get entries place ≡ Some e) × IsSettledAs e settled) → SaysSame settled r → length marks ≡ length entries → mark ≡ get_or marks place mark → mark ≡ b →
    HasMark entries r marks b
mark_of entries r marks place settled mark b leads found says long read is = record {
  place = place;
  leads = leads;
  entry = found.0;
  there = found.1;
  is_receipt = (receipt_of found.0 settled r found.2).0 says;
  has = (let within = slice_get_within entries place found.0 found.1 in slice_get_read marks (length entries) place mark (sym long) within read) ∙ ap Some is;
}

-- a receipt whose node stands at this place, or nowhere
module _ (entries : List Entry) (r : Receipt) (place : ℕ) (only : StandsOnlyAt entries r.node place) where
  stands_there : Stands entries r → (e : Entry) × (slice_get entries place ≡ Some e) × IsReceiptOf e r
  stands_there (p, e, there, receipt) = (e, ap (slice_get entries) (sym (only p e there (sym receipt.node))) ∙ there, receipt)

  -- nowhere, where no node is there
  pub stands_nowhere : slice_get entries place ≡ None → ¬ Stands entries r
  stands_nowhere none stands = let there = stands_there stands in none-some there.0 (sym none ∙ there.1)

  -- nor where the record says another thing of the node
  pub stands_not : (settled : Settled) → ((e : Entry) × (slice_get entries place ≡ Some e) × IsSettledAs e settled) → (¬ SaysSame settled r) → ¬ Stands entries r
  stands_not settled (e, at, told) other stands =
      let there = stands_there stands in
      let same : there.0 ≡ e = same_Some there.0 e (sym there.1 ∙ at) in
      other ((receipt_of e settled r told).1 (subst (λ (d : Entry). IsReceiptOf d r) same there.2))
