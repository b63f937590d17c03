-- What several reads or writes do to known bytes.
use Rattle.std.proofs.Common.{◌≡◌, ℕ, ◌+◌, ◌-◌, ◌≤◌, List, [], ◌++◌, Option, Some, None, take, drop, length, sym, ap, ◌∙◌, append_assoc, arith}
use Rattle.std.specs.Io.KnownBytes.{Appends, Consumes}
use Rattle.std.proofs.lemmas.List.{append-nil, length-append}
use Rattle.std.proofs.Math.Seq.{take-add}
use Rattle.program_streams.specs.Streams.{TakesBytes, TakesUpTo, ReadsOn}

-- two reads, one after the other
pub reads_more : (a b c : Option (List ℕ)) (xs ys : List ℕ) → Consumes a b xs → Consumes b c ys → Consumes a c (xs ++ ys)
reads_more None b c xs ys p q = tt
reads_more (Some x) None c xs ys p q = absurd p
reads_more (Some x) (Some y) None xs ys p q = absurd q
reads_more (Some x) (Some y) (Some z) xs ys p q = p ∙ ap (λ (w : List ℕ). xs ++ w) q ∙ sym (append_assoc xs ys z)

-- bytes are read on, and then a part of what there is room for
pub takes_more : (a b c : Option (List ℕ)) (before after part : List ℕ) (most room : ℕ) → ReadsOn a b before after → Consumes b c part → length after + length part ≤ most → room ≡ most - length before → TakesUpTo a c room
takes_more a b c before after part most room (bytes, taken, is) next within at =
    (bytes ++ part, reads_more a b c bytes part taken next, omega (arith, ap length is, length-append before bytes, length-append bytes part, within, at))

-- two reads, one after another, take at most as much as both may
pub takes_both : (a b c : Option (List ℕ)) (n m k : ℕ) → TakesUpTo a b n → TakesUpTo b c m → n + m ≤ k → TakesUpTo a c k
takes_both a b c n m k (bytes, taken, few) (more, next, few_too) within =
    (bytes ++ more, reads_more a b c bytes more taken next, omega (arith, few, few_too, within, length-append bytes more))

-- bytes are read on up to a limit, and then as many as make n
pub takes_past : (a b c : Option (List ℕ)) (before after : List ℕ) (m n : ℕ) → ReadsOn a b before after → TakesBytes b c m → length after + m ≡ length before + n → TakesBytes a c n
takes_past a b c before after m n (bytes, taken, is) (more, next, count) at =
    (bytes ++ more, reads_more a b c bytes more taken next, omega (arith, ap length is, length-append before bytes, length-append bytes more, count, at))

-- no write takes no byte
pub none_written : (a : Option (List ℕ)) → Appends a a []
none_written None = tt
none_written (Some xs) = sym (append-nil xs)

-- two writes, one after the other
pub writes_more : (a b c : Option (List ℕ)) (xs ys : List ℕ) → Appends a b xs → Appends b c ys → Appends a c (xs ++ ys)
writes_more None b c xs ys p q = tt
writes_more (Some x) None c xs ys p q = absurd p
writes_more (Some x) (Some y) None xs ys p q = absurd q
writes_more (Some x) (Some y) (Some z) xs ys p q = q ∙ ap (λ (w : List ℕ). w ++ ys) p ∙ append_assoc x xs ys

-- one more write of what is left
pub sends_more : (a b c : Option (List ℕ)) (bytes : List ℕ) (sent count : ℕ) → Appends a b (take sent bytes) → Appends b c (take count (drop sent bytes)) → Appends a c (take (sent + count) bytes)
sends_more a b c bytes sent count p q = rw take-add (writes_more a b c (take sent bytes) (take count (drop sent bytes)) p q)
