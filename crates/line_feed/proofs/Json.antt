-- Lines that are texts, and lines that are none.
use Rattle.std.proofs.Common.{◌≡◌, ℕ, Bool, true, false, cond, List, Result, Err, refl, sym, ap, ◌∙◌, subst}
use Rattle.std.specs.Str.{IsUtf8, is_utf8}
use Rattle.std.proofs.lemmas.Bool.{cond-false, cond-true, false_from_ne_true}
use Rattle.std.proofs.lemmas.Str.{IsUtf8-from_is_utf8, is_utf8-from_IsUtf8}
use Rattle.serde_json.specs.Read.{read}
use Rattle.line_feed.specs.declared.heard.Reception.{Reception}
use Rattle.line_feed.specs.declared.heard.Unheard.{Unheard}
use Rattle.line_feed.specs.declared.reasons.NotTaken.TheVariants as reasons
use Rattle.line_feed.specs.Heard.{Means}
use Rattle.line_feed.specs.Rtl433.{read_heard, rtl_433_heard}

pub of_text : (line text : List ℕ) (result : Result Reception Unheard) → text ≡ line → IsUtf8 line
    → Means result (read_heard (read text)) → Means result (rtl_433_heard line)
of_text line text result same is means =
    let passed = cond-true (is_utf8 line) (read_heard (read line)) (Err reasons.Json) (is_utf8-from_IsUtf8 line is) in
    subst (Means result) (ap (λ t. read_heard (read t)) same ∙ sym passed) means

pub of_no_text : (line : List ℕ) → ¬ IsUtf8 line → rtl_433_heard line ≡ Err reasons.Json
of_no_text line none = cond-false (is_utf8 line) _ _ (false_from_ne_true (is_utf8 line) (λ is. none (IsUtf8-from_is_utf8 line is)))
