-- Where a certificate starts in bytes of which a front was read first.
use Rattle.fencecheck.proofs.Vocabulary.{◌≡◌, ◌⊎◌, ℕ, ◌+◌, ◌<◌, ◌≤◌, Bool, true, false, List, [], ◌++◌, Option, Some, None, IsTrue, length, take, drop, refl, sym, ap, ◌∙◌, subst, inl, inr, append_assoc, arith, codes, nat_eq, HoldsBytes, IsReadFault, ReadsOn}
use Rattle.fencecheck.proofs.Vocabulary.{TakesBytes, TakesUpTo, AppendsRest, CERTIFICATE_LIMIT, FRONT_LIMIT, BeginsLine, StartsAt, IsCertificateStart, AreJoined, ArePartsOf, IsTooLongInput, ReadsEnough}
use Rattle.std.specs.List.{starts_with}
use lib.Pointwise.{pointwise}
use Rattle.std.specs.Io.KnownBytes.{Consumes, IsAtEnd}
use Rattle.std.proofs.lemmas.List.{append-nil, take-append-le, drop-append-le, take-append-drop, length-take-le, length-drop, length-append}
use Rattle.program_streams.specs.{declared.fault.FileFault.FileFault, declared.files.TheConstants.TEXT_LIMIT}
use Rattle.program_streams.specs.declared.fault.FileFault.TheVariants as file
use Rattle.program_streams.proofs.StreamLaws.{reads_more}

-- what comes after the first bytes of a text doesn't tell whether it begins with a word that is no longer than these
same_word : (bytes rest word : List ℕ) → length word ≤ length bytes → starts_with nat_eq (bytes ++ rest) word ≡ starts_with nat_eq bytes word
same_word bytes rest word h = ap (λ (xs : List ℕ). pointwise nat_eq word xs) (take-append-le (length word) bytes rest h)

module _ (front rest : List ℕ) (place : ℕ) (seen : place + 10 ≤ length front) where
  same_before : take place (front ++ rest) ≡ take place front
  same_before = take-append-le place front rest (omega (arith, seen))

  same_mark : starts_with nat_eq (drop place (front ++ rest)) (codes "FENCECERT ") ≡ starts_with nat_eq (drop place front) (codes "FENCECERT ")
  same_mark =
      let long : 10 ≤ length (drop place front) = omega (arith, seen, length-drop place front) in
      ap (λ (xs : List ℕ). starts_with nat_eq xs (codes "FENCECERT ")) (drop-append-le place front rest (omega (arith, seen)))
      ∙ same_word (drop place front) rest (codes "FENCECERT ") long

  -- where the front shows the place, a certificate starts there in the front exactly if in the whole
  starts_in_front : StartsAt (front ++ rest) place → StartsAt front place
  starts_in_front (line, mark) = (subst BeginsLine same_before line, subst IsTrue same_mark mark)

  starts_in_whole : StartsAt front place → StartsAt (front ++ rest) place
  starts_in_whole (line, mark) = (subst BeginsLine (sym same_before) line, subst IsTrue (sym same_mark) mark)

-- so the first place in the front is the first in the whole
same_start : (front rest : List ℕ) (place : ℕ) → place + 10 ≤ length front → IsCertificateStart front place → IsCertificateStart (front ++ rest) place
same_start front rest place seen is = record {
  there = elim is.there [
    | inl at ↦ absurd (omega (arith, at, seen))
    | inr starts ↦ inr (starts_in_whole front rest place seen starts)
  ];
  first = λ earlier before starts. is.first earlier before (starts_in_front front rest earlier (omega (arith, seen, before)) starts);
}

-- bytes that are split where a certificate starts are joined of the two
joined_at : (bytes : List ℕ) (start : ℕ) → start ≤ length bytes → IsCertificateStart bytes start → AreJoined bytes (take start bytes) (drop start bytes)
joined_at bytes start within is = record {
  joined = sym (take-append-drop start bytes);
  start = subst (IsCertificateStart bytes) (sym (length-take-le start bytes within)) is;
}

parts_at : (bytes : List ℕ) (start : ℕ) → start ≤ length bytes → IsCertificateStart bytes start → start ≤ TEXT_LIMIT → length bytes ≤ start + CERTIFICATE_LIMIT →
    ArePartsOf bytes (take start bytes) (drop start bytes)
parts_at bytes start within is litmus certificate = record {
  parts = joined_at bytes start within is;
  litmus_within = omega (arith, length-take-le start bytes within, litmus);
  certificate_within = omega (arith, length-drop start bytes, certificate);
}

-- what the reader had, where it is known, is what it gave and more
had : (old new : Option (List ℕ)) (taken : List ℕ) → Consumes old new taken → (rest : List ℕ) × HoldsBytes old (taken ++ rest) × (IsAtEnd new → rest ≡ [])
had None new taken is = ([], tt, λ end. refl)
had (Some xs) None taken is = absurd is
had (Some xs) (Some ys) taken is = (ys, is, λ end. end)

-- the reader is at its end, or has given as much as was asked for
pub end_or_full : {X Y : Type 0} (ended : Bool) → (IsTrue ended → X) → (ended ≡ false → Y) → X ⊎ Y
end_or_full true end full = inl (end refl)
end_or_full false end full = inr (full refl)

-- the bytes that were read first: the front of an input
module _ (old mid : Option (List ℕ)) (before front : List ℕ) (none : before ≡ []) (first : ReadsOn old mid before front) where
  taken_first : Consumes old mid front
  taken_first = subst (Consumes old mid) (sym (first.2 ∙ ap (λ (xs : List ℕ). xs ++ first.0) none)) first.1

  -- at the end they are all
  all_read : IsAtEnd mid → HoldsBytes old front
  all_read end = (let (rest, holds, no_rest) = had old mid front taken_first in subst (HoldsBytes old) (ap (λ (xs : List ℕ). front ++ xs) (no_rest end) ∙ append-nil front) holds)

  module _ (start : ℕ) (is : IsCertificateStart front start) where
    -- no certificate starts within the limit of a litmus text
    pub long_litmus : start ≤ length front → TEXT_LIMIT < start → (ended : IsAtEnd mid ⊎ (length front ≡ FRONT_LIMIT)) → IsTooLongInput old
    long_litmus within late (inl end) = (front, all_read end, inl (record { longer = omega (arith, within, late); no_start = λ place h. is.first place (omega (arith, h, late)) }))
    long_litmus within late (inr full) =
        let (rest, holds, no_rest) = had old mid front taken_first in (
          front ++ rest,
          holds,
          inl (record {
            longer = omega (arith, within, late, length-append front rest);
            no_start = λ place h starts. is.first place (omega (arith, h, late)) (starts_in_front front rest place (omega (arith, h, full)) starts);
          }),
        )

    module _ (early : start ≤ TEXT_LIMIT) (full : length front ≡ FRONT_LIMIT) where
      in_more : (more : List ℕ) → IsCertificateStart (front ++ more) start
      in_more more = same_start front more start (omega (arith, early, full)) is

      -- the rest was read
      pub parts_read : (after : List ℕ) → AppendsRest mid front after → length after ≤ start + CERTIFICATE_LIMIT → ArePartsOf after (take start after) (drop start after)
      parts_read after (more, holds, at) within =
          parts_at after start (omega (arith, ap length at, length-append front more, early, full)) (subst (λ (xs : List ℕ). IsCertificateStart xs start) (sym at) (in_more more)) early within

      -- the rest is too long
      long_certificate : (new : Option (List ℕ)) (n : ℕ) → TakesBytes mid new n → length front + n ≡ start + CERTIFICATE_LIMIT + 1 → IsTooLongInput old
      long_certificate new n (more, next, count) past =
          let (rest, holds, no_rest) = had old new (front ++ more) (reads_more old mid new front more taken_first next) in
          let bytes = (front ++ more) ++ rest in
          let long : length bytes ≡ length front + length more + length rest = length-append (front ++ more) rest ∙ ap (λ n. n + length rest) (length-append front more) in
          let within : start ≤ length bytes = omega (arith, long, early, full) in
          let begins : IsCertificateStart bytes start = subst (λ (xs : List ℕ). IsCertificateStart xs start) (sym (append_assoc front more rest)) (in_more (more ++ rest)) in (
            bytes,
            holds,
            inr (record {
              litmus = take start bytes;
              certificate = drop start bytes;
              parts = joined_at bytes start within begins;
              litmus_within = omega (arith, length-take-le start bytes within, early);
              longer = omega (arith, length-drop start bytes, long, count, past);
            }),
          )

      pub rest_fault : (new : Option (List ℕ)) (n : ℕ) (why : FileFault) → IsReadFault (TakesBytes mid new n) why → length front + n ≡ start + CERTIFICATE_LIMIT + 1 →
          IsReadFault (IsTooLongInput old) why
      rest_fault new n file.Read is past = tt
      rest_fault new n file.Write is past = absurd is
      rest_fault new n file.TooLong is past = long_certificate new n is past

      -- no more of it was read
      pub reads_rest : (new : Option (List ℕ)) (n : ℕ) → TakesUpTo mid new n → length front + n ≡ start + CERTIFICATE_LIMIT + 1 → ReadsEnough old new
      reads_rest new n (more, next, few) past = record {
        bytes = front ++ more;
        taken = reads_more old mid new front more taken_first next;
        few = inr (start, early, in_more more, omega (arith, length-append front more, few, past));
      }

-- the parts as two slices of the bytes
pub parts_seen : (bytes seen litmus certificate : List ℕ) (start : ℕ) → seen ≡ bytes → litmus ≡ take start seen → certificate ≡ drop start seen →
    ArePartsOf bytes (take start bytes) (drop start bytes) → ArePartsOf bytes litmus certificate
parts_seen bytes seen litmus certificate start same front back parts =
    subst (λ (xs : List ℕ). ArePartsOf bytes litmus xs) (sym (back ∙ ap (drop start) same))
    (subst (λ (xs : List ℕ). ArePartsOf bytes xs (drop start bytes)) (sym (front ∙ ap (take start) same)) parts)
