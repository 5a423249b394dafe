-- What the calls answer, in the words of messages and causes.
use Rattle.std.proofs.Common.{◌≡◌, ℕ, ◌≤◌, ◌↔◌, List, [], length, take, drop, Option, Result, Ok, Err, sym, ap, subst, ◌∙◌}
use Rattle.std.specs.Prelude.{IfOk, IfErr, OnOk, OnErr}
use Rattle.std.specs.List.{refill}
use Rattle.std.proofs.lemmas.List.{take_at}
use Rattle.frame_formats.specs.Crc.{IsBytes}
use Rattle.meter_address.specs.Commission.{Commissioned}
use Rattle.afl_layer.specs.declared.header.Auth.{Auth}
use Rattle.message_check.specs.declared.opening.Opened.{Opened}
use Rattle.message_check.specs.declared.refusal.Reason.{Reason}
use Rattle.message_check.specs.Opening.{Found, Passed, Checked5, Genuine7, access_number_passed, counter_passed, opened5, compared5, opened5_after, opened7, compared7, opened7_after}
use Rattle.message_check.specs.Opened.{found_in, Says, Opens}
use Rattle.message_check.specs.Refusals.{Refusal5, Refusal7}
use Rattle.lists.specs.Steps.{◌>>=◌}
use Rattle.lists.proofs.StepLaws.{bind_ok}
use Rattle.message_check.proofs.OpeningLaws.{found, checked_are_opened, genuine_are_opened}
use Rattle.message_check.proofs.RefusalLaws.{refused_exactly5}
use Rattle.message_check.proofs.RefusalLaws7.{refused_exactly7}

-- what is found after another was found without it
after : (opened : Result Found Reason) (passes : Found → Passed) (f : Found) → (opened >>= (λ x. passes x >>= (λ _. found x))) ≡ Ok f
    → opened ≡ Ok f
after opened passes f e =
    let x = bind_ok opened _ f e in
    let passed = bind_ok (passes x.0) _ f x.2 in x.1 ∙ passed.2

-- the bytes of a message, or a buffer that held them, became these, and the answer is what is said of it
pub record Done (said : List ℕ → Result Found Reason) (old new : List ℕ) (answer : Result Opened Reason) : Type 0 where
  pub says : Says new answer (said old)
  pub within : IfOk answer (λ o. o.from ≤ length new)
  pub front : IfOk answer (λ o. take o.from new ≡ take o.from old)
  pub same_len : OnOk answer (length new ≡ length old)
  pub emptied : OnErr answer (new ≡ [])

-- what was done to the bytes m of a message, of which these were left, was done in the buffer in which they stood
pub done : (said : List ℕ → Result Found Reason) (m old left end : List ℕ) (answer same : Result Opened Reason) → m ≡ old
    → length left ≡ length m → same ≡ answer → OnOk same (end ≡ refill (length old) old left) → OnErr same (end ≡ [])
    → IfOk answer (λ o. said m ≡ Ok (found_in left o)) → IfErr answer (λ r. said m ≡ Err r) → IfOk answer (λ o. o.from ≤ length left)
    → IfOk answer (λ o. take o.from left ≡ take o.from m) → Done said old end same
done said m old left end (Ok o) (Ok p) stands len is kept emptied opened refused within front =
    let one : o ≡ p = cc is in
    let full : left ≡ end = sym (take_at left (drop (length left) old) (length old) (len ∙ ap length stands)) ∙ sym kept in
    let first : Done said m left (Ok o) = record {
      says = record { opened = opened; refused = tt };
      within = within;
      front = front;
      same_len = len;
      emptied = tt;
    } in
    subst (λ (q : Opened). Done said old end (Ok q)) one
    (subst (λ (y : List ℕ). Done said old y (Ok o)) full (subst (λ (x : List ℕ). Done said x left (Ok o)) stands first))
done said m old left end (Err r) (Err q) stands len is kept emptied opened refused within front =
    let one : r ≡ q = cc is in
    record {
      says = record { opened = tt; refused = ap said (sym stands) ∙ refused ∙ ap (λ (x : Reason). let f : Result Found Reason = Err x in f) one };
      within = tt;
      front = tt;
      same_len = tt;
      emptied = emptied;
    }
done said m old left end _ _ stands len is kept emptied opened refused within front = absurd (cc is)

opens : (said : List ℕ → Result Found Reason) (old end : List ℕ) (answer : Result Opened Reason) (Means : Found → Type 0)
    (Causes : Reason → Type 0) → Done said old end answer → ((f : Found) → said old ≡ Ok f → Means f)
    → ((r : Reason) → (said old ≡ Err r) ↔ Causes r) → Opens old end answer Means Causes
opens said old end (Ok o) Means Causes d meant caused = record {
  means = meant (found_in end o) d.says.opened;
  within = d.within;
  front = d.front;
  same_len = d.same_len;
  cause = λ r. (λ e. absurd cc, λ cause. absurd (cc (d.says.opened, (caused r).1 cause)));
  emptied = tt;
}
opens said old end (Err x) Means Causes d meant caused = record {
  means = tt;
  within = tt;
  front = tt;
  same_len = tt;
  cause = λ r. (
    λ e. let same : x ≡ r = cc in
        (caused r).0 (d.says.refused ∙ ap (λ (y : Reason). let f : Result Found Reason = Err y in f) same),
    λ cause. let same : x ≡ r = cc (d.says.refused, (caused r).1 cause) in
        ap (λ (y : Reason). let f : Result Opened Reason = Err y in f) same,
  );
  emptied = d.emptied;
}

pub opens5 : (last : Option ℕ) (c : Commissioned) (old end : List ℕ) (answer : Result Opened Reason) → IsBytes old
    → Done (opened5_after last c) old end answer → Opens old end answer (Checked5 c old) (Refusal5 last c old)
unfolding opened5_after compared5
opens5 last c old end answer fits d =
    opens (opened5_after last c) old end answer (Checked5 c old) (Refusal5 last c old) d
    (λ f e. (checked_are_opened c old f fits).0 (after (opened5 c old) (λ x. access_number_passed last x.counter) f e))
    (λ r. refused_exactly5 last c old r fits)

pub opens7 : (last : Option ℕ) (c : Commissioned) (auth : Auth) (old end : List ℕ) (answer : Result Opened Reason) → IsBytes old
    → Done (opened7_after last c auth) old end answer → Opens old end answer (Genuine7 c auth old) (Refusal7 last c auth old)
unfolding opened7_after compared7
opens7 last c auth old end answer fits d =
    opens (opened7_after last c auth) old end answer (Genuine7 c auth old) (Refusal7 last c auth old) d
    (λ f e. (genuine_are_opened c auth old f fits).0 (after (opened7 c auth old) (λ x. counter_passed last x.counter) f e))
    (λ r. refused_exactly7 last c auth old r fits)
