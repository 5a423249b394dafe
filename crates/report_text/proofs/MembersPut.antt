-- The members of an object and the items of an array that are put one after another.
use Rattle.std.proofs.Common.{◌≡◌, ℕ, Bool, true, false, List, [], ◌∷◌, ◌++◌, ap, sym, ◌∙◌, append_assoc}
use Rattle.json.specs.Print.{escape, quoted}
use Rattle.serde_json.specs.Data.{Data, string, object, Items, item, Members, no_members, member}
use Rattle.serde_json.specs.Written.{comma_if, compact_text, items_text, members_text}
use Rattle.paper.specs.Puts.{Puts}
use Rattle.paper.proofs.Calls.{then}
use Rattle.paper.proofs.Items.{is_put}
use Rattle.report_text.proofs.PlainTexts.{IsPlain, as_it_is}

-- a text that was put stands as it is in a string, since it is plain
pub inside : {P : Type 0} {takes : P → List ℕ → P → Type 0} {p q : P} {text found : List ℕ} → IsPlain text → found ≡ text
    → Puts takes p found q → Puts takes p (escape text) q
inside plain is puts = is_put _ _ (as_it_is plain ∙ sym is) puts

-- What was still to be put of what stands before, and then these members and the closing bracket.
pub record PutsMembers {P : Type 0} (takes : P → List ℕ → P → Type 0) (old : P) (front : List ℕ) (later : Bool) (ms : Members)
    (new : P) : Type 0 where
  pub puts : Puts takes old (front ++ members_text later ms) new

pub no_more : {P : Type 0} {takes : P → List ℕ → P → Type 0} {p q : P} {front : List ℕ} {later : Bool} → Puts takes p (front ++ 125 ∷ []) q
    → PutsMembers takes p front later no_members q
no_more last = record { puts = last }

grouped : (front comma name colon rest : List ℕ)
    → front ++ (comma ++ (name ++ (colon ++ rest))) ≡ (front ++ (comma ++ (name ++ colon))) ++ rest
grouped front comma name colon rest =
    sym (append_assoc front (comma ++ (name ++ colon)) rest ∙ ap (λ t. front ++ t) (append_assoc comma (name ++ colon) rest
    ∙ ap (λ t. comma ++ t) (append_assoc name colon rest)))

-- a member: its name with its colon, and then its value
pub and_member : {P : Type 0} {takes : P → List ℕ → P → Type 0} {p q r s : P} {d : Data} {ms : Members} {front : List ℕ} {later : Bool}
    (name : List ℕ) → Puts takes p (front ++ (comma_if later ++ (quoted name ++ 58 ∷ []))) q → Puts takes q (compact_text d) r
    → PutsMembers takes r [] true ms s → PutsMembers takes p front later (member name d ms) s
and_member {d} {ms} {front} {later} name word value rest = record {
  puts = is_put _ _ (grouped front (comma_if later) (quoted name) (58 ∷ []) (compact_text d ++ members_text true ms))
      (then word (then value rest.puts));
}

-- a member whose value is a string, of which the closing quote is left to what comes next
pub and_text : {P : Type 0} {takes : P → List ℕ → P → Type 0} {p q r s : P} {text : List ℕ} {ms : Members} {front : List ℕ}
    {later : Bool} (name : List ℕ) → Puts takes p (front ++ (comma_if later ++ (quoted name ++ 58 ∷ 34 ∷ []))) q
    → Puts takes q (escape text) r → PutsMembers takes r (34 ∷ []) true ms s
    → PutsMembers takes p front later (member name (string text) ms) s
and_text {text} {ms} {front} {later} name word value rest = record {
  puts = is_put _ _
      (ap (λ t. front ++ (comma_if later ++ (quoted name ++ 58 ∷ 34 ∷ t))) (append_assoc (escape text) (34 ∷ []) (members_text true ms))
      ∙ grouped front (comma_if later) (quoted name) (58 ∷ 34 ∷ []) (escape text ++ 34 ∷ members_text true ms))
      (then word (then value rest.puts));
}

-- a member whose text is known, which is put with what comes next
pub and_known : {P : Type 0} {takes : P → List ℕ → P → Type 0} {p q : P} {ms : Members} {front : List ℕ} {later : Bool}
    (name : List ℕ) (d : Data)
    → PutsMembers takes p (front ++ (comma_if later ++ (quoted name ++ 58 ∷ compact_text d))) true ms q
    → PutsMembers takes p front later (member name d ms) q
and_known {ms} {front} {later} name d rest = record {
  puts = is_put _ _ (grouped front (comma_if later) (quoted name) (58 ∷ compact_text d) (members_text true ms)) rest.puts;
}

-- all members, with the opening bracket before the first
pub object_put : {P : Type 0} {takes : P → List ℕ → P → Type 0} {p q : P} (ms : Members) → PutsMembers takes p (123 ∷ []) false ms q
    → Puts takes p (compact_text (object ms)) q
object_put ms all = all.puts

-- an item, and then those behind it
pub item_put : {P : Type 0} {takes : P → List ℕ → P → Type 0} {p q r s : P} (later : Bool) (d : Data) (ds : Items)
    → Puts takes p (comma_if later) q → Puts takes q (compact_text d) r → Puts takes r (items_text true ds) s
    → Puts takes p (items_text later (item d ds)) s
item_put later d ds comma value rest = then comma (then value rest)
