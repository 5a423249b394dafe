-- The members of a record as they are put, piece by piece.
use Rattle.std.proofs.Common.{◌≡◌, ℕ, Bool, true, false, cond, List, [], ◌∷◌, ◌++◌, Option, Some, None, option_map, IfSome, refl, sym, ap, ◌∙◌, append_assoc, append-nil}
use Rattle.std.specs.Prelude.{codes}
use Rattle.std.specs.Fmt.{decimal}
use Rattle.json.specs.Print.{escape, escape_byte, quoted}
use Rattle.json.specs.Json.{Json, number, string, Members, no_members, member}
use Rattle.full_text.specs.declared.reals.Decimal.{Decimal}
use Rattle.record_objects.specs.declared.forms.Form.TheVariants as forms
use Rattle.record_objects.specs.declared.forms.Member.TheVariants as members
use Rattle.record_objects.specs.Trees.{members_of, cell}
use Rattle.record_objects.specs.Records.{Said, count, counted_tree, said_members}
use Rattle.record_objects.specs.Words.{before, number_words}
use Rattle.record_objects.proofs.Plain.{IsPlain, as_it_is}
use Rattle.record_objects.proofs.Texts.{comma_if, json_text, members_text}

-- ---- members one after another

-- what is still to be put of what stands before, and then these members
pub record Goes (front : List ℕ) (later : Bool) (ms : Members) (text : List ℕ) : Type 0 where
  pub is : front ++ members_text later ms ≡ text

pub no_more : {front : List ℕ} {later : Bool} → Goes front later no_members front
no_more {front} = record { is = append-nil front }

grouped : (front comma name colon rest : List ℕ)
    → front ++ (comma ++ (name ++ (colon ++ rest))) ≡ (front ++ (comma ++ (name ++ colon))) ++ rest
grouped front comma name colon rest =
    sym (append_assoc front (comma ++ (name ++ colon)) rest ∙ ap (λ t. front ++ t) (append_assoc comma (name ++ colon) rest
    ∙ ap (λ t. comma ++ t) (append_assoc name colon rest)))

-- a member: its name with its colon, and then its value
pub and_value : {j : Json} {ms : Members} {front value rest : List ℕ} {later : Bool} (name word : List ℕ)
    → front ++ (comma_if later ++ (quoted name ++ 58 ∷ [])) ≡ word → json_text j ≡ value → Goes [] true ms rest
    → Goes front later (member name j ms) (word ++ (value ++ rest))
and_value {j} {ms} {front} {value} {rest} {later} name word is same more = record {
  is = grouped front (comma_if later) (quoted name) (58 ∷ []) (json_text j ++ members_text true ms)
      ∙ ap (λ t. t ++ (json_text j ++ members_text true ms)) is ∙ ap (λ t. word ++ (t ++ members_text true ms)) same
      ∙ ap (λ t. word ++ (value ++ t)) more.is;
}

-- a member whose value is a string, of which the closing quote is left to what comes next
pub and_text : {text : List ℕ} {ms : Members} {front rest : List ℕ} {later : Bool} (name word : List ℕ)
    → front ++ (comma_if later ++ (quoted name ++ 58 ∷ 34 ∷ [])) ≡ word → IsPlain text → Goes (34 ∷ []) true ms rest
    → Goes front later (member name (string text) ms) (word ++ (text ++ rest))
and_text {text} {ms} {front} {rest} {later} name word is plain more = record {
  is = ap (λ t. front ++ (comma_if later ++ (quoted name ++ 58 ∷ 34 ∷ t))) (append_assoc (escape text) (34 ∷ []) (members_text true ms))
      ∙ grouped front (comma_if later) (quoted name) (58 ∷ 34 ∷ []) (escape text ++ 34 ∷ members_text true ms)
      ∙ ap (λ t. t ++ (escape text ++ 34 ∷ members_text true ms)) is ∙ ap (λ t. word ++ (t ++ 34 ∷ members_text true ms)) (as_it_is plain)
      ∙ ap (λ t. word ++ (text ++ t)) more.is;
}

-- such a member, or none
abbrev pub word_if : List ℕ → Option (List ℕ) → List ℕ
word_if word None = []
word_if word (Some text) = word ++ text

pub and_text_if : {rest : List ℕ} (named : List (List ℕ × Option Json)) (name word : List ℕ) (o : Option (List ℕ))
    → 34 ∷ 44 ∷ (quoted name ++ 58 ∷ 34 ∷ []) ≡ word → IfSome o IsPlain → Goes (34 ∷ []) true (members_of named) rest
    → Goes (34 ∷ []) true (members_of ((name, option_map string o) ∷ named)) (word_if word o ++ rest)
and_text_if named name word None is plain more = more
and_text_if {rest} named name word (Some text) is plain more = record {
  is = (and_text {front = 34 ∷ []} {later = true} name word is plain more).is ∙ sym (append_assoc word text rest);
}

counted_is : (o : Option Decimal) → json_text (counted_tree o) ≡ number_words forms.Json o
counted_is None = refl
counted_is (Some d) = refl

-- ---- all members of a record

pub record IsPlainSaid (s : Said) : Type 0 where
  pub function : IsPlain s.function
  pub quantity : IsPlain s.quantity
  pub unit : IsPlain s.unit
  pub value : IsPlain s.value
  pub qualifiers : IsPlain s.qualifiers
  pub type : IsPlain s.type
  pub profile : IfSome s.profile IsPlain
  pub plain : IfSome s.plain IsPlain
  pub modifiers : IsPlain s.modifiers
  pub raw : IsPlain s.raw

pub said_goes : (s : Said) → IsPlainSaid s → Goes [] false (members_of (said_members s))
    (before forms.Json members.Record ++ (decimal s.number
    ++ (before forms.Json members.Function ++ (s.function
    ++ (before forms.Json members.Storage ++ (decimal s.storage
    ++ (before forms.Json members.Tariff ++ (decimal s.tariff
    ++ (before forms.Json members.Subunit ++ (decimal s.subunit
    ++ (before forms.Json members.Quantity ++ (s.quantity
    ++ (before forms.Json members.Unit ++ (s.unit
    ++ (before forms.Json members.Value ++ (s.value
    ++ (before forms.Json members.Number ++ (number_words forms.Json s.counted
    ++ (before forms.Json members.Qualifiers ++ (s.qualifiers
    ++ (before forms.Json members.Type ++ (s.type
    ++ (word_if (before forms.Json members.ProfileQuantity) s.profile
    ++ (word_if (before forms.Json members.AsPlain) s.plain
    ++ (before forms.Json members.Modifiers ++ (s.modifiers
    ++ (before forms.Json members.Raw ++ (s.raw ++ 34 ∷ []))))))))))))))))))))))))))))
unfolding escape_byte
said_goes s h =
    and_value (codes "record") (before forms.Json members.Record) refl refl
    (and_text (codes "function") (before forms.Json members.Function) refl h.function
    (and_value (codes "storage") (before forms.Json members.Storage) refl refl
    (and_value (codes "tariff") (before forms.Json members.Tariff) refl refl
    (and_value (codes "subunit") (before forms.Json members.Subunit) refl refl
    (and_text (codes "quantity") (before forms.Json members.Quantity) refl h.quantity
    (and_text (codes "unit") (before forms.Json members.Unit) refl h.unit
    (and_text (codes "value") (before forms.Json members.Value) refl h.value
    (and_value (codes "number") (before forms.Json members.Number) refl (counted_is s.counted)
    (and_text (codes "qualifiers") (before forms.Json members.Qualifiers) refl h.qualifiers
    (and_text (codes "type") (before forms.Json members.Type) refl h.type
    (and_text_if _ (codes "profile_quantity") (before forms.Json members.ProfileQuantity) s.profile refl h.profile
    (and_text_if _ (codes "as_plain") (before forms.Json members.AsPlain) s.plain refl h.plain
    (and_text (codes "modifiers") (before forms.Json members.Modifiers) refl h.modifiers
    (and_text (codes "raw") (before forms.Json members.Raw) refl h.raw no_more))))))))))))))

-- ---- pieces as they are bracketed

-- of a record's pieces, two of which have another name as well
pub bracketed : (w1 n w2 f w3 st w4 ta w5 su w6 q w7 u w8 v w9 c w10 qs w11 t p l w14 m w15 r w16 p' l' : List ℕ) → p ≡ p' → l ≡ l'
    → w1 ++ (n ++ (w2 ++ (f ++ (w3 ++ (st ++ (w4 ++ (ta ++ (w5 ++ (su ++ (w6 ++ (q ++ (w7 ++ (u ++ (w8 ++ (v ++ (w9 ++ (c ++ (w10 ++ (qs
    ++ (w11 ++ (t ++ (p ++ (l ++ (w14 ++ (m ++ (w15 ++ (r ++ w16)))))))))))))))))))))))))))
    ≡ (w1 ++ n ++ w2 ++ f ++ (w3 ++ st) ++ (w4 ++ ta) ++ (w5 ++ su))
    ++ ((w6 ++ q ++ w7 ++ u) ++ (w8 ++ v ++ w9 ++ c) ++ (w10 ++ qs ++ w11 ++ t) ++ p' ++ l' ++ (w14 ++ m ++ w15 ++ r ++ w16))
bracketed w1 n w2 f w3 st w4 ta w5 su w6 q w7 u w8 v w9 c w10 qs w11 t p l w14 m w15 r w16 p' l' e g =
    rw (← e, ← g) (simp append_assoc)
