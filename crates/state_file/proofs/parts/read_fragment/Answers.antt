-- The fragment of some bytes, by the tests of it.
use Rattle.std.proofs.Common.{◌≡◌, ℕ, ◌-◌, ◌<◌, ◌≤◌, ◌==◌, ◌&&◌, nat_le, Bool, true, false, cond, List, length, take, drop, slice_index, Some, None, Ok, ◌⊎◌, inl, inr, ap, sym, ◌∙◌, arith, length-append, length-drop}
use Rattle.std.proofs.lemmas.Bool.{and_from, and_left, and_right, cond-true, cond-false, le-leb, lt-leb}
use Rattle.std.proofs.lemmas.List.{take_all}
use Rattle.afl_layer.specs.declared.header.Afl.{Afl}
use Rattle.afl_layer.specs.Fields.{is_fragment}
use Rattle.afl_layer.specs.Header.{afl_bytes, BeginsWithAfl, afl_at}
use Rattle.afl_fragments.specs.Fragment.{Fragment}
use Rattle.state_file.specs.State.{fragment_with, fragment_of}
use Rattle.state_file.proofs.parts.read_fragment.Goals as goal

within : (bytes : List ℕ) (a : Afl) → BeginsWithAfl bytes a → a.len ≤ length bytes
within bytes a begins =
    let whole = ap length begins.parts ∙ length-append (afl_bytes begins.fcl a) begins.rest in let len = begins.len in omega arith

module _ (bytes : List ℕ) (a : Afl) (ci : slice_index bytes 0 ≡ 0x90) (at : Ok a ≡ afl_at bytes) where
  by_header : fragment_of bytes ≡ fragment_with bytes (Ok a)
  unfolding fragment_of
  by_header = ap (λ n. cond (n == 0x90) (fragment_with bytes (afl_at bytes)) None) ci ∙ ap (fragment_with bytes) (sym at)

  refused : (is_fragment a && nat_le a.fid 16 && nat_le (length (drop a.len bytes)) 242) ≡ false → fragment_of bytes ≡ None
  refused fails = by_header ∙ cond-false _ _ None fails

  -- the part of the bytes behind the header
  behind : take (length bytes - a.len) (drop a.len bytes) ≡ drop a.len bytes
  behind = take_all _ (drop a.len bytes) (let rest = length-drop a.len bytes in omega arith)

  no_fragment : (is : Bool) → is ≡ is_fragment a → (is ≡ false) ⊎ ((is ≡ true) × (16 < a.fid)) → fragment_of bytes ≡ None
  no_fragment is same (inl not) = refused (and_left _ _ (and_left _ _ (sym same ∙ not)))
  no_fragment is same (inr more) = refused (and_left _ _ (and_right _ _ (lt-leb a.fid 16 more.1)))

  too_long : 242 < length (take (length bytes - a.len) (drop a.len bytes)) → fragment_of bytes ≡ None
  too_long long = refused (and_right _ _ (lt-leb (length (drop a.len bytes)) 242 (let same = ap length behind in omega arith)))

  taken : (part : Fragment) → is_fragment a ≡ true → a.fid ≤ 16 → length (take (length bytes - a.len) (drop a.len bytes)) ≤ 242
      → part.afl ≡ a → part.bytes ≡ take (length bytes - a.len) (drop a.len bytes) → fragment_of bytes ≡ Some part
  taken part is few most header piece =
      let short : length (drop a.len bytes) ≤ 242 = (let same = ap length behind in omega arith) in
      by_header
      ∙ cond-true _ (Some (record { afl = a; bytes = drop a.len bytes })) None
      (and_from _ _ (and_from _ _ is (le-leb a.fid 16 few)) (le-leb (length (drop a.len bytes)) 242 short))
      ∙ (λ i. Some (record { afl = sym header i; bytes = sym (piece ∙ behind) i }))

pub slice_bounds-piece-count : goal.slice_bounds-piece-count
slice_bounds-piece-count c = within c.args.bytes.now c.in-Ok.afl c.in-Ok.ensures.found

pub slice_bounds-piece-start : goal.slice_bounds-piece-start
slice_bounds-piece-start c = within c.args.bytes.now c.in-Ok.afl c.in-Ok.ensures.found

pub returns-then-not-is_fragment : goal.returns-then-not-is_fragment
returns-then-not-is_fragment c =
    no_fragment c.args.bytes.now c.in-Ok.afl (assumption) c.in-Ok.ensures.exact c.is_fragment.result c.is_fragment.ensures (assumption)

pub returns-then-piece-gt-PART_MAX : goal.returns-then-piece-gt-PART_MAX
returns-then-piece-gt-PART_MAX c = too_long c.args.bytes.now c.in-Ok.afl (assumption) c.in-Ok.ensures.exact (assumption)

pub returns : goal.returns
returns c =
    taken c.args.bytes.now c.in-Ok.afl (assumption) c.in-Ok.ensures.exact c.new.result (sym c.is_fragment.ensures ∙ c.if-not-is_fragment.false) (assumption)
    (assumption) c.new.ensures.header c.new.ensures.piece
