-- The fragments of a message are those with the numbers from 1 on.
use Rattle.std.proofs.Common.{◌≡◌, ℕ, zero, suc, ◌+◌, ◌-◌, ◌<◌, ◌≤◌, true, List, [], ◌∷◌, ◌++◌, length, take, Option, Some, None, refl, ap, sym, ◌∙◌, arith, subst, inl, inr, ⊎_elim, ◌⊎◌, add-one}
use Rattle.std.proofs.lemmas.List.{length_push, take_all}
use Rattle.lists.proofs.Choices.{some_if}
use Rattle.std.specs.Prelude.{slice_get, option_map}
use Rattle.afl_fragments.specs.Fragment.{Fragment}
use Rattle.afl_fragments.specs.declared.places.HeldPart.{HeldPart}
use Rattle.afl_fragments.specs.Held.{piece_at, last_end, front, with_more, Message, joined, ended_by, assembled}
use Rattle.afl_fragments.specs.Laws.{IsMessage}

-- the fragment with a number
abbrev part_at : ℕ → List HeldPart → Option Fragment
part_at fid hs = option_map (λ h. h.part) (piece_at fid hs)

-- some fragments are those with the numbers from 1 on, each with more to follow
record AreLeading (hs : List HeldPart) (parts : List Fragment) : Type 0 where
  held : (k : ℕ) (part : Fragment) → slice_get parts k ≡ Some part → part_at (k + 1) hs ≡ Some part
  leads : (k : ℕ) (part : Fragment) → slice_get parts k ≡ Some part → part.afl.more ≡ true

-- ---- a front has the fragments from 1 on

got_last : (xs : List Fragment) (x : Fragment) (k : ℕ) (y : Fragment) → slice_get (xs ++ x ∷ []) k ≡ Some y
    → (slice_get xs k ≡ Some y) ⊎ ((k ≡ length xs) × (x ≡ y))
got_last [] x zero y e = let same : x ≡ y = cc in inr (refl, same)
got_last [] x (suc k) y e = absurd cc
got_last (z ∷ xs) x zero y e = inl e
got_last (z ∷ xs) x (suc k) y e = ⊎_elim (λ h. inl h) (λ h. inr (ap suc h.0, h.1)) (got_last xs x k y e)

-- a front of fragments: as many as it counts, from 1 on
record IsFront (n : ℕ) (hs : List HeldPart) (parts : List Fragment) : Type 0 where
  counted : length parts ≡ n
  leading : AreLeading hs parts

more_leading : (n : ℕ) (hs : List HeldPart) (ps : List Fragment) (h : HeldPart) → IsFront n hs ps → piece_at (suc n) hs ≡ Some h
    → h.part.afl.more ≡ true → IsFront (suc n) hs (ps ++ h.part ∷ [])
more_leading n hs ps h f p t = record {
  counted = omega (arith, length_push ps h.part, f.counted);
  leading = record {
    held = λ k part e. ⊎_elim (λ g. f.leading.held k part g)
        (λ g. let at : suc n ≡ k + 1 = omega (arith, g.0, f.counted) in
        ap (λ fid. part_at fid hs) (sym at) ∙ ap (option_map (λ (x : HeldPart). x.part)) p ∙ ap Some g.1)
        (got_last ps h.part k part e);
    leads = λ k part e. ⊎_elim (λ g. f.leading.leads k part g) (λ g. ap (λ (x : Fragment). x.afl.more) (sym g.1)
        ∙ t) (got_last ps h.part k part e);
  };
}

front_with : (n : ℕ) (hs : List HeldPart) (o : Option (List Fragment)) (p : Option HeldPart) (parts : List Fragment)
    → ((ps : List Fragment) → o ≡ Some ps → IsFront n hs ps) → piece_at (suc n) hs ≡ p
    → with_more o p ≡ Some parts → IsFront (suc n) hs parts
front_with n hs None p parts f e k = absurd cc
front_with n hs (Some ps) None parts f e k = absurd cc
front_with n hs (Some ps) (Some h) parts f e k =
    let last = some_if h.part.afl.more (ps ++ h.part ∷ []) parts k in
    subst (IsFront (suc n) hs) last.1 (more_leading n hs ps h (f ps refl) e last.0)

front_is : (n : ℕ) (hs : List HeldPart) (parts : List Fragment) → front n hs ≡ Some parts → IsFront n hs parts
front_is zero hs parts e =
    let none : [] ≡ parts = cc in
    subst (IsFront zero hs) none (record {
      counted = refl;
      leading =
          record { held = λ k part h. absurd cc; leads = λ k part h. absurd cc };
    })
front_is (suc n) hs parts e = front_with n hs (front n hs) (piece_at (suc n) hs) parts (λ ps k. front_is n hs ps k) refl e

-- ---- the fragments from 1 on are a front

got : (xs : List Fragment) (k : ℕ) → k < length xs → (x : Fragment) × (slice_get xs k ≡ Some x) × (take (suc k) xs ≡ take k xs ++ x ∷ [])
got [] k l = absurd (omega arith)
got (x ∷ xs) zero l = (x, refl, refl)
got (x ∷ xs) (suc k) l = let g = got xs k (omega arith) in (g.0, g.1, ap (λ ys. x ∷ ys) g.2)

with_part : (parts : List Fragment) (p : Option HeldPart) (part : Fragment) → option_map (λ h. h.part) p ≡ Some part → part.afl.more ≡ true
    → with_more (Some parts) p ≡ Some (parts ++ part ∷ [])
with_part parts None part e t = absurd cc
with_part parts (Some h) part e t = let same : h.part ≡ part = cc in grind arith

is_front : (n : ℕ) (hs : List HeldPart) (parts : List Fragment) → AreLeading hs parts → n ≤ length parts → front n hs ≡ Some (take n parts)
is_front zero hs parts a l = refl
is_front (suc n) hs parts a l =
    let g = got parts n (omega arith) in
    let piece : part_at (suc n) hs ≡ Some g.0 = ap (λ fid. part_at fid hs) (sym (add-one n)) ∙ a.held n g.0 g.1 in
    ap (λ o. with_more o (piece_at (suc n) hs)) (is_front n hs parts a (omega arith))
    ∙ with_part (take n parts) (piece_at (suc n) hs) g.0 piece (a.leads n g.0 g.1) ∙ ap Some (sym g.2)

-- ---- the message

-- the end and the front of which a message is made
pub record IsOf (hs : List HeldPart) (m : Message) : Type 0 where
  pub end : HeldPart
  pub parts : List Fragment
  pub last : last_end hs ≡ Some end
  pub front_is : front (end.part.afl.fid - 1) hs ≡ Some parts
  pub whole : joined parts end.part ≡ m

pub parts_of : (hs : List HeldPart) (m : Message) → assembled hs ≡ Some m → IsOf hs m
unfolding assembled
parts_of hs m e = from_end (last_end hs) refl e
  where
    whole : (h : HeldPart) (o : Option (List Fragment)) → front (h.part.afl.fid - 1) hs ≡ o → last_end hs ≡ Some h
        → option_map (λ parts. joined parts h.part) o ≡ Some m → IsOf hs m
    whole h None f l k = absurd cc
    whole h (Some parts) f l k =
        let same : joined parts h.part ≡ m = cc in record { end = h; parts = parts; last = l; front_is = f; whole = same }

    from_end : (o : Option HeldPart) → last_end hs ≡ o → ended_by o hs ≡ Some m → IsOf hs m
    from_end None l k = absurd cc
    from_end (Some h) l k = whole h (front (h.part.afl.fid - 1) hs) refl l k

pub assembled_is : (hs : List HeldPart) (m : Message) → assembled hs ≡ Some m → IsMessage hs m
assembled_is hs m e =
    let of = parts_of hs m e in
    let is = front_is (of.end.part.afl.fid - 1) hs of.parts of.front_is in
    record {
      parts = of.parts;
      last = of.end.part;
      ends = ap (option_map (λ (x : HeldPart). x.part)) of.last;
      counted = is.counted;
      held = is.leading.held;
      leads = is.leading.leads;
      message = sym of.whole;
    }

pub is_assembled : (hs : List HeldPart) (m : Message) → IsMessage hs m → assembled hs ≡ Some m
unfolding assembled
is_assembled hs m w = from_end (last_end hs) w.ends
  where
    from_end : (o : Option HeldPart) → option_map (λ h. h.part) o ≡ Some w.last → ended_by o hs ≡ Some m
    from_end None e = absurd cc
    from_end (Some h) e =
        let same : h.part ≡ w.last = cc in
        let n : length w.parts ≡ h.part.afl.fid - 1 = w.counted ∙ ap (λ (x : Fragment). x.afl.fid - 1) (sym same) in
        let front_of : front (h.part.afl.fid - 1) hs ≡ Some w.parts =
        is_front (h.part.afl.fid - 1) hs w.parts (record { held = w.held; leads = w.leads }) (omega arith)
        ∙ ap Some (take_all (h.part.afl.fid - 1) w.parts (omega arith)) in
        ap (option_map (λ parts. joined parts h.part)) front_of ∙ ap (λ last. Some (joined w.parts last)) same ∙ ap Some (sym w.message)
