-- A part of a list, from one place to another.
use Rattle.std.proofs.Common.{◌≡◌, ℕ, ◌+◌, ◌≤◌, List, ◌++◌, length, take, drop, sym, ap, ◌∙◌, refl, arith}
use Rattle.std.specs.Prelude.{Result, Ok, Err, OnErr, slice_range}
use Rattle.std.proofs.Math.Seq.{take-add}
use Rattle.std.proofs.lemmas.List.{drop-drop, drop-append-le, drop_at, take_at, length-append, length-drop, length-take}
use Rattle.std.proofs.lemmas.Slice.{between_is}

-- some first elements of a part are given up
pub advanced : (bytes : List ℕ) (start end count : ℕ) → slice_range bytes (start + count) end ≡ drop count (slice_range bytes start end)
advanced bytes start end count =
    between_is bytes (start + count) end ∙ sym (drop-drop count start (take end bytes)) ∙ ap (drop count) (sym (between_is bytes start end))

-- a part with the elements behind it that came
pub filled : (before after : List ℕ) (start end n : ℕ) → start ≤ end → end ≤ length before → take end after ≡ take end before
    → slice_range after start (end + n) ≡ slice_range before start end ++ take n (drop end after)
filled before after start end n ordered within kept =
    let front : start ≤ length (take end before) = simp length-take (omega arith) in
    between_is after start (end + n)
    ∙ ap (drop start) (take-add end n after ∙ ap (λ x. x ++ take n (drop end after)) kept)
    ∙ drop-append-le start (take end before) (take n (drop end after)) front
    ∙ ap (λ x. x ++ take n (drop end after)) (sym (between_is before start end))

-- a part that grew: how many elements it has, and which stand behind the old ones
pub record IsMore (old new added : List ℕ) (n : ℕ) : Type 0 where
  pub count : length new ≡ length old + n
  pub kept : take (length old) new ≡ old
  pub came : drop (length old) new ≡ added

pub grows : (before after old : List ℕ) (start end n : ℕ) → start ≤ end → end ≤ length before → end + n ≤ length after
    → take end after ≡ take end before → slice_range before start end ≡ old
    → IsMore old (slice_range after start (end + n)) (take n (drop end after)) n
grows before after old start end n ordered within room kept is =
    let added = take n (drop end after) in
    let all = filled before after start end n ordered within kept ∙ ap (λ x. x ++ added) is in
    let some : length added ≡ n = simp (length-take, length-drop) (omega arith) in
    record {
      count = ap length all ∙ length-append old added ∙ ap (λ k. length old + k) some;
      kept = ap (take (length old)) all ∙ take_at old added (length old) refl;
      came = ap (drop (length old)) all ∙ drop_at old added (length old) refl;
    }

-- a part stands as it was where nothing in front of its end changed
pub stays : (before after : List ℕ) {old : List ℕ} (start end : ℕ) → take end after ≡ take end before → slice_range before start end ≡ old
    → slice_range after start end ≡ old
stays before after start end kept is = between_is after start end ∙ ap (drop start) kept ∙ sym (between_is before start end) ∙ is

pub whatever_err : {T E P : Type 0} (r : Result T E) → P → OnErr r P
whatever_err (Ok _) fact = tt
whatever_err (Err _) fact = fact
