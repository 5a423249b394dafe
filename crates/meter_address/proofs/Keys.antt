-- Keys and their texts.
use Rattle.std.proofs.Common.{◌≡◌, ℕ, ◌==◌, Bool, true, false, cond, List, length, Option, Some, None, Result, Ok, Err, refl, ap, ◌∙◌, arith}
use Rattle.std.specs.Result.{result_ok}
use Rattle.std.proofs.lemmas.Bool.{cond-true, eq-eqb, eqb-true}
use Rattle.hex.specs.Hex.{decode_of, encode_lower, lower_digits}
use Rattle.hex.proofs.HexLemmas.{decode_of-ok, decode_of-encode_lower, length-encode_with}
use Rattle.meter_address.specs.Commission.{key_of, IsKey}

-- a test without which there is nothing, and there was something
pub where_some : {A : Type 0} (b : Bool) (o : Option A) (x : A) → cond b o None ≡ Some x → (b ≡ true) × (o ≡ Some x)
where_some true o x h = (refl, h)
where_some false o x h = absurd cc

pub ok_is : {A E : Type 0} (r : Result A E) (x : A) → result_ok r ≡ Some x → r ≡ Ok x
ok_is (Ok y) x h = cc
ok_is (Err e) x h = absurd cc

-- a key that is read has sixteen bytes
pub read_key_is : (text key : List ℕ) → key_of text ≡ Some key → IsKey key
read_key_is text key h =
    let given = where_some (length text == 32) (result_ok (decode_of text)) key h in
    let read = decode_of-ok text key (ok_is (decode_of text) key given.1) in
    record { long = omega (arith, read.2, eqb-true (length text) 32 given.0); bytes = read.3 }

-- the text of a key is read back
pub written_key : (key : List ℕ) → IsKey key → key_of (encode_lower key) ≡ Some key
written_key key is =
    let long : length (encode_lower key) ≡ 32 = omega (arith, length-encode_with lower_digits key, is.long) in
    cond-true _ _ None (eq-eqb (length (encode_lower key)) 32 long) ∙ ap result_ok (decode_of-encode_lower key is.bytes)
