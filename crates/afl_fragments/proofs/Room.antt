-- A message is no longer than all that is held, and a fragment adds no more than its bytes.
use Rattle.std.proofs.Common.{◌≡◌, ℕ, zero, suc, ◌+◌, ◌≤◌, ◌<◌, ◌==◌, Bool, false, List, [], ◌∷◌, ◌++◌, length, Option, Some, None, refl, ap, sym, ◌∙◌, arith, ◌-◌, length-append}
use Rattle.std.specs.Prelude.{find, OnSome}
use Rattle.std.specs.List.{flat_map}
use Rattle.std.proofs.lemmas.Bool.Decides.{nat_tests}
use Rattle.std.proofs.lemmas.List.{flat_map_more}
use Rattle.std.proofs.lemmas.List.Sums.{sum_by-cons}
use Rattle.lists.proofs.Choices.{some_if}
use Rattle.afl_layer.specs.declared.header.Auth.{Auth}
use Rattle.afl_fragments.specs.Fragment.{Fragment}
use Rattle.afl_fragments.specs.declared.places.HeldPart.{HeldPart}
use Rattle.afl_fragments.specs.Held.{is_fid, others, is_end, piece_at, with_more, front, Message, message_with, assembled, held_bytes}
use Rattle.afl_fragments.specs.Places.{held_with}
use Rattle.afl_fragments.proofs.Holding.{find-others}
use Rattle.afl_fragments.proofs.MessageLaws.{parts_of}

-- how many bytes a fragment adds
abbrev weight : HeldPart → ℕ
weight h = length h.part.bytes

fewer : (f : ℕ) (xs : List HeldPart) → held_bytes (others f xs) ≤ held_bytes xs
fewer f [] = omega arith
fewer f (x ∷ xs) =
    let rest = fewer f xs in grind (arith, nat_tests, sum_by-cons weight x xs, sum_by-cons weight x (others f xs))

-- a fragment adds no more than its bytes
pub held_with_room : (part : Fragment) (hs : List HeldPart) → held_bytes (held_with part hs) ≤ held_bytes hs + length part.bytes
held_with_room part hs =
    omega (arith, fewer part.afl.fid hs, sum_by-cons weight (record { ticks = 0; part = part }) (others part.afl.fid hs))

-- without a number, a fragment of it less
without : (f : ℕ) (xs : List HeldPart) (h : HeldPart) → find (is_fid f) xs ≡ Some h → weight h + held_bytes (others f xs) ≤ held_bytes xs
without f [] h e = absurd cc
without f (x ∷ xs) h e =
    let less = fewer f xs in
    let rest = without f xs h in
    grind (arith, nat_tests, sum_by-cons weight x xs, sum_by-cons weight x (others f xs))

apart : (f n : ℕ) → n < f → (f == n) ≡ false
apart f n l = grind (arith, nat_tests)

front_others : (n f : ℕ) (hs : List HeldPart) → n < f → front n (others f hs) ≡ front n hs
front_others zero f hs l = refl
front_others (suc n) f hs l =
    ap (λ o. with_more o (piece_at (suc n) (others f hs))) (front_others n f hs (omega arith))
    ∙ ap (with_more (front n hs)) (find-others (suc n) f hs (apart f (suc n) l))

-- ---- the bytes of a message

abbrev bytes_of : List Fragment → List ℕ
bytes_of parts = flat_map (λ p. p.bytes) parts

length_more : (parts : List Fragment) (last : Fragment)
    → length (bytes_of (parts ++ last ∷ [])) ≡ length (bytes_of parts) + length last.bytes
length_more parts last = ap length (sym (flat_map_more (λ p. p.bytes) [] parts last)) ∙ length-append (bytes_of parts) last.bytes

with_more_room : (o : Option (List Fragment)) (p : Option HeldPart) (room rest : ℕ) (parts : List Fragment)
    → ((ps : List Fragment) → o ≡ Some ps → length (bytes_of ps) ≤ rest) → ((h : HeldPart) → p ≡ Some h → weight h + rest ≤ room)
    → with_more o p ≡ Some parts → length (bytes_of parts) ≤ room
with_more_room None p room rest parts f g e = absurd cc
with_more_room (Some ps) None room rest parts f g e = absurd cc
with_more_room (Some ps) (Some h) room rest parts f g e =
    let last = some_if h.part.afl.more (ps ++ h.part ∷ []) parts e in
    omega (arith, sym (ap (λ qs. length (bytes_of qs)) last.1), length_more ps h.part, f ps refl, g h refl)

front_room : (n : ℕ) (hs : List HeldPart) (parts : List Fragment) → front n hs ≡ Some parts → length (bytes_of parts) ≤ held_bytes hs
front_room zero hs parts e = let none : parts ≡ [] = cc in omega (arith, ap (λ qs. length (bytes_of qs)) none)
front_room (suc n) hs parts e =
    with_more_room (front n hs) (piece_at (suc n) hs) (held_bytes hs) (held_bytes (others (suc n) hs)) parts
    (λ ps k. front_room n (others (suc n) hs) ps (front_others n (suc n) hs (omega arith) ∙ k)) (λ h k. without (suc n) hs h k) e

-- without the number of one that is found, that one less
found_less : (q : HeldPart → Bool) (xs : List HeldPart) (h : HeldPart) → find q xs ≡ Some h
    → weight h + held_bytes (others h.part.afl.fid xs) ≤ held_bytes xs
found_less q [] h e = absurd cc
found_less q (x ∷ xs) h e =
    let f : ℕ = h.part.afl.fid in
    let less = fewer f xs in
    let rest = found_less q xs h in
    grind (arith, nat_tests, sum_by-cons weight x xs, sum_by-cons weight x (others f xs))

front_less : (f : ℕ) (hs : List HeldPart) → front (f - 1) (others f hs) ≡ front (f - 1) hs
front_less zero hs = refl
front_less (suc f) hs = front_others (suc f - 1) (suc f) hs (omega arith)

-- a message is no longer than all that is held
pub assembled_room : (hs : List HeldPart) (m : Message) → assembled hs ≡ Some m → length m.bytes ≤ held_bytes hs
assembled_room hs m e =
    let of = parts_of hs m e in
    let f : ℕ = of.end.part.afl.fid in
    omega (
      arith,
      sym (ap (λ (n : Message). length n.bytes) of.whole),
      length-append (bytes_of of.parts) of.end.part.bytes,
      front_room (f - 1) (others f hs) of.parts (front_less f hs ∙ of.front_is),
      found_less is_end hs of.end of.last,
    )

pub whole_room : (o : Option Auth) (bytes : List ℕ) (hs : List HeldPart) → message_with o bytes ≡ assembled hs
    → OnSome o (length bytes ≤ held_bytes hs)
whole_room None bytes hs e = tt
whole_room (Some auth) bytes hs e = assembled_room hs _ (sym e)
