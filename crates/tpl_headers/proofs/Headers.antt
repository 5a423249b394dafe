-- What is read is spelled so, and what is spelled so is read.
use Rattle.std.proofs.Common.{◌≡◌, ℕ, ◌+◌, ◌^◌, ◌<◌, true, false, eqb, ◌||◌, ◌⊎◌, List, [], ◌∷◌, ◌++◌, length, Option, Some, None, option_map, Result, Ok, Err, refl, sym, ap, subst, ◌∙◌, append_assoc, arith, inl, inr}
use Rattle.std.specs.Prelude.{IfOk, IfSome, ok_or}
use Rattle.std.proofs.lemmas.Bool.Decides.{nat_tests}
use Rattle.std.proofs.lemmas.List.{length-append}
use Rattle.std.proofs.lemmas.Option.{option_and_then_some}
use Rattle.lists.proofs.Choices.{chosen}
use Rattle.meter_address.specs.declared.address.Address.{Address}
use Rattle.tpl_headers.specs.declared.header.Tpl.{Tpl}
use Rattle.tpl_headers.specs.declared.header.TplFault.{TplFault}
use Rattle.tpl_headers.specs.Header.{IsShortCi, IsLongCi, cfe_bytes, tail_bytes, tpl_bytes, HasItsAddress, HasItsExtension, IsHeader, BeginsWithTpl, tail_at, address_at, with_tail, short_at, long_at, tpl_at}
use Rattle.tpl_headers.proofs.Parts.{IsBytes, IsBytes-rest, map_some, tail_takes, tail_again, address_takes, address_again}
use Rattle.meter_address.specs.Address.{header_order}
use Rattle.meter_address.proofs.HeaderOrder.{length-header_order}

-- one of two numbers
pub either_is : (x a b : ℕ) → (eqb x a || eqb x b) ≡ true → (x ≡ a) ⊎ (x ≡ b)
either_is x a b e = grind (arith, nat_tests)

ok_or_ok : (o : Option Tpl) (f : TplFault) (t : Tpl) → ok_or o f ≡ Ok t → o ≡ Some t
ok_or_ok (Some x) f t e = let same : x ≡ t = cc in ap Some same
ok_or_ok None f t e = absurd cc

short_takes : (ci : ℕ) (rest : List ℕ) (t : Tpl) → IsShortCi ci → IsBytes rest → short_at ci rest ≡ Some t → BeginsWithTpl (ci ∷ rest) t
unfolding short_at
short_takes ci rest t short fits e =
    let read = map_some (with_tail ci None 1) (tail_at rest) t e in
    let tail = tail_takes rest read.0 fits read.1 in
    let made : BeginsWithTpl (ci ∷ rest) (with_tail ci None 1 read.0) = record {
      is_header = record { address = short; extension = tail.extension; number = tt; cf = tail.cf; len = omega arith };
      rest = tail.rest;
      parts = ap (λ (x : List ℕ). ci ∷ x) tail.parts;
    } in
    subst (BeginsWithTpl (ci ∷ rest)) read.2 made

long_takes : (ci : ℕ) (rest : List ℕ) (t : Tpl) → IsLongCi ci → IsBytes rest → long_at ci rest ≡ Some t → BeginsWithTpl (ci ∷ rest) t
unfolding long_at
long_takes ci rest t long fits e =
    option_and_then_some (λ x. option_map (with_tail ci (Some x.0) 9) (tail_at x.1)) (address_at rest) t e (λ x first second.
    let read = map_some (with_tail ci (Some x.0) 9) (tail_at x.1) t second in
    let address = address_takes rest x.0 x.1 fits first in
    let tail = tail_takes x.1 read.0 address.rest_fits read.1 in
    let tail_text : List ℕ = tail_bytes read.0.acc read.0.status read.0.cf read.0.cfe in
    let made : BeginsWithTpl (ci ∷ rest) (with_tail ci (Some x.0) 9 read.0) = record {
      is_header = record {
        address = long;
        extension = tail.extension;
        number = address.number;
        cf = tail.cf;
        len = omega (arith, length-append (header_order x.0) tail_text, length-header_order x.0);
      };
      rest = tail.rest;
      parts = ap (λ (y : List ℕ). ci ∷ y) (address.parts ∙ ap (λ (y : List ℕ). address.eight ++ y) tail.parts
          ∙ sym (append_assoc address.eight tail_text tail.rest) ∙ ap (λ (y : List ℕ). (y ++ tail_text) ++ tail.rest) address.order);
    } in
    subst (BeginsWithTpl (ci ∷ rest)) read.2 made)

-- what is read is spelled so
pub takes : (bytes : List ℕ) (t : Tpl) → IsBytes bytes → tpl_at bytes ≡ Ok t → BeginsWithTpl bytes t
unfolding tpl_at
takes [] t fits e = absurd cc
takes (ci ∷ rest) t fits e =
    let rest_fits = IsBytes-rest ci rest fits in
    elim (chosen (eqb ci 0x7A || eqb ci 0x8A) _ _ _ e) [
      | inl short ↦ short_takes ci rest t (either_is ci 0x7A 0x8A short.0) rest_fits (ok_or_ok _ _ t short.1)
      | inr others ↦
          elim (chosen (eqb ci 0x72 || eqb ci 0x8B) _ _ _ others.1) [
            | inl long ↦ long_takes ci rest t (either_is ci 0x72 0x8B long.0) rest_fits (ok_or_ok _ _ t long.1)
            | inr neither ↦ absurd (cc neither.1)
          ]
    ]

-- a test of two numbers
pub either_true : (x a b : ℕ) → (x ≡ a) ⊎ (x ≡ b) → (eqb x a || eqb x b) ≡ true
either_true x a b h = grind (arith, nat_tests)

pub short_test : (ci : ℕ) → IsLongCi ci → (eqb ci 0x7A || eqb ci 0x8A) ≡ false
short_test ci (inl e) = rw e refl
short_test ci (inr e) = rw e refl

again_at : (rest : List ℕ) (address : Option Address) (ci acc status cf len : ℕ) (cfe : Option ℕ)
    → (let t : Tpl = record { ci = ci; address = address; acc = acc; status = status; cf = cf; cfe = cfe; len = len } in IsHeader t
    → tpl_at (tpl_bytes t ++ rest) ≡ Ok t)
unfolding tpl_at short_at long_at
again_at rest None ci acc status cf len cfe h =
    let same : len ≡ 1 + (4 + length (cfe_bytes cfe)) = h.len ∙ omega arith in
    rw (either_true ci 0x7A 0x8A h.address, tail_again acc status cf cfe rest h.cf h.extension, same) refl
again_at rest (Some a) ci acc status cf len cfe h =
    let tail : List ℕ = tail_bytes acc status cf cfe in
    let same : len ≡ 9 + (4 + length (cfe_bytes cfe)) =
    h.len ∙ omega (arith, length-append (header_order a) tail, length-header_order a) in
    ap (λ (x : List ℕ). tpl_at (ci ∷ x)) (append_assoc (header_order a) tail rest)
    ∙ rw (
      short_test ci h.address,
      either_true ci 0x72 0x8B h.address,
      address_again a (tail ++ rest) h.number,
      tail_again acc status cf cfe rest h.cf h.extension,
      same,
    ) refl

-- a spelt header is read, whatever follows it
pub again : (rest : List ℕ) (t : Tpl) → IsHeader t → tpl_at (tpl_bytes t ++ rest) ≡ Ok t
again rest t h = again_at rest t.address t.ci t.acc t.status t.cf t.len t.cfe h

pub is_only : (bytes : List ℕ) (r : Result Tpl TplFault) → r ≡ tpl_at bytes → (t : Tpl) → BeginsWithTpl bytes t → r ≡ Ok t
is_only bytes r h t begins = h ∙ ap tpl_at begins.parts ∙ again begins.rest t begins.is_header

pub is_found : (bytes : List ℕ) (r : Result Tpl TplFault) → IsBytes bytes → r ≡ tpl_at bytes → IfOk r (λ t. BeginsWithTpl bytes t)
is_found bytes (Ok t) fits h = takes bytes t fits (sym h)
is_found bytes (Err f) fits h = tt

-- a header that was written is read back
pub written_again : (text rest : List ℕ) (t : Tpl) (n : ℕ) → text ≡ tpl_bytes t → n ≡ length (tpl_bytes t) → HasItsAddress t.ci t.address
    → HasItsExtension t.cf t.cfe
    → IfSome t.address (λ a. a.0 < 2 ^ 64) → t.cf < 2 ^ 16
    → tpl_at (text ++ rest) ≡ Ok (record t { len = n })
written_again text rest t n written len address extension number cf =
    ap (λ (x : List ℕ). tpl_at (x ++ rest)) written
    ∙ again rest (record t { len = n }) (record { address = address; extension = extension; number = number; cf = cf; len = len })
