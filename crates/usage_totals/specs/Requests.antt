-- What one line asks for.
use Rattle.std.specs.Prelude.{ℕ, ◌≡◌, ◌-◌, ◌^◌, nat_lt, List, [], ◌∷◌, length, codes, Option, Some, None, Result, Ok, Err, if◌then◌else◌}
use Rattle.std.specs.Result.{result_ok}
use Rattle.hex.specs.Hex.{decode_of}
use Rattle.plain_text.specs.Numbers.{number_of}
use Rattle.plain_text.specs.Parts.{fields_of, is_word}
use Rattle.meter_address.specs.declared.address.Address.{Address}
use Rattle.meter_address.specs.Address.{address_of}
use Rattle.usage_totals.specs.Edits.{Edit, addition, replacement, removal}
use Rattle.usage_totals.specs.declared.request.EditRead.{EditRead}
use Rattle.usage_totals.specs.declared.request.EditRead.TheVariants.{Add, Replace, Remove}
use Rattle.usage_totals.specs.declared.request.RequestRead.{RequestRead}
use Rattle.usage_totals.specs.declared.request.RequestRead.TheVariants as read
use Rattle.usage_totals.specs.declared.request.Unread.{Unread}
use Rattle.usage_totals.specs.declared.request.Unread.TheVariants.{Bad}

-- a line asks for an edit, for the usages of a meter, or for the totals
pub data Request : Type 0 where
  edits : Edit → Request
  usages : Address → Request
  totals : Request

-- the second step, if the first gave a value
infixl 10 ◌>>=◌
abbrev pub ◌>>=◌ : {A B : Type 0} → Option A → (A → Option B) → Option B
Some x >>= f = f x
None >>= f = None

-- a payload of at most 3,872 bytes, in hexadecimal digits of either case
abbrev pub payload_of : List ℕ → Option (List ℕ)
payload_of digits = if nat_lt 7744 (length digits) then None else result_ok (decode_of digits)

-- a place below 2^32
abbrev pub place_of : List ℕ → Option ℕ
place_of text = number_of (2 ^ 32 - 1) text

-- `+ ADDRESS HEX`
unfoldable pub addition_in : List (List ℕ) → Option Request
addition_in (text ∷ digits ∷ []) = do
  address ← address_of text
  payload ← payload_of digits
  Some (edits (addition address payload))
addition_in fields = None

-- `= ADDRESS PLACE HEX`
unfoldable pub replacement_in : List (List ℕ) → Option Request
replacement_in (text ∷ number ∷ digits ∷ []) = do
  address ← address_of text
  place ← place_of number
  payload ← payload_of digits
  Some (edits (replacement address place payload))
replacement_in fields = None

-- `- ADDRESS PLACE`
unfoldable pub removal_in : List (List ℕ) → Option Request
removal_in (text ∷ number ∷ []) = do
  address ← address_of text
  place ← place_of number
  Some (edits (removal address place))
removal_in fields = None

-- `? ADDRESS`, or `?` alone
unfoldable pub question_in : List (List ℕ) → Option Request
question_in [] = Some totals
question_in (text ∷ []) = address_of text >>= λ address. Some (usages address)
question_in fields = None

-- the first field is one of four signs
unfoldable pub by_sign : List (List ℕ) → Option Request
by_sign [] = None
by_sign (sign ∷ fields) =
    if is_word sign (codes "+") then addition_in fields
    else if is_word sign (codes "=") then replacement_in fields
    else if is_word sign (codes "-") then removal_in fields
    else if is_word sign (codes "?") then question_in fields
    else None

-- what a line asks for, if it asks for anything: the longest that does is a replacement, with 7,774 bytes
unfoldable pub request_of : List ℕ → Option Request
request_of line = if nat_lt 7774 (length line) then None else by_sign (fields_of line)

-- ---- what the code reads

-- an edit and a request as they are read, without where their bytes lie
abbrev pub edit_read : EditRead → Edit
edit_read (Add address payload) = addition address payload.items
edit_read (Replace address place payload) = replacement address place payload.items
edit_read (Remove address place) = removal address place

abbrev pub request_read : RequestRead → Request
request_read (read.Edits edit) = edits (edit_read edit)
request_read (read.Usages address) = usages address
request_read read.Totals = totals

-- What is read, seen so, is what is meant, and a bad text means nothing. Where there is no memory nothing is said.
abbrev pub Means : {X Y : Type 0} → (X → Y) → Result X Unread → Option Y → Type 0
Means view (Ok x) meant = meant ≡ Some (view x)
Means view (Err unread) meant = unread ≡ Bad → meant ≡ None
