-- What is found in a telegram with a whole message is what that message says by itself.
use Rattle.std.proofs.Common.{◌≡◌, ℕ, List, [], Option, Some, None, refl, ap, ◌∙◌, Result, Ok, Err}
use Rattle.lists.specs.Steps.{◌>>=◌}
use Rattle.meter_address.specs.Commission.{Commissioned}
use Rattle.meter_address.specs.declared.commission.Mode.{Mode}
use Rattle.meter_address.specs.declared.commission.Mode.TheVariants.{Five, Seven}
use Rattle.afl_layer.specs.declared.header.Auth.{Auth}
use Rattle.afl_fragments.specs.Held.{Message}
use Rattle.message_check.specs.Opening.{Found, opened5, opened7, decrypted5, compared5, compared7}
use Rattle.message_check.specs.declared.headers.Layers.{Layers}
use Rattle.message_check.specs.declared.refusal.Reason.{Reason}
use Rattle.meter_slots.specs.Hearing.{Content, message_in, brought}
use Rattle.meter_slots.specs.Journal.{Standing, fresh_start, commission_of, standing, rekeyed, judged, judged_in, opened_in, stored_or_refused, last_counter, last_among}
use Rattle.frame_inspect.specs.Below.{unnumbered, found_alone}
use Rattle.frame_inspect.specs.Laws.{WholeMessagesSpeak}

-- where no number is known, none is a repeat
passed5 : (r : Result Found Reason) → (r >>= λ f. compared5 None f) ≡ r
unfolding compared5
passed5 (Ok f) = refl
passed5 (Err reason) = refl

passed7 : (r : Result Found Reason) → (r >>= λ f. compared7 None f) ≡ r
unfolding compared7
passed7 (Ok f) = refl
passed7 (Err reason) = refl

-- a message is opened by its meter's keys, whatever its last number
same5 : (c : Commissioned) (m : List ℕ) → opened5 (unnumbered c) m ≡ opened5 c m
unfolding opened5 decrypted5
same5 c m = refl

same7 : (c : Commissioned) (auth : Auth) (m : List ℕ) → opened7 (unnumbered c) auth m ≡ opened7 c auth m
unfolding opened7
same7 c auth m = refl

by_mode : (mode : Mode) (c : Commissioned) (m : Message) → judged_in mode (unnumbered c) None m ≡ opened_in mode c m
by_mode Five c m = passed5 (opened5 (unnumbered c) m.bytes) ∙ same5 c m.bytes
by_mode Seven c m = passed7 (opened7 (unnumbered c) m.auth m.bytes) ∙ same7 c m.auth m.bytes

none_last : (mode : Mode) → last_among mode [] ≡ None
none_last Five = refl
none_last Seven = refl

pub whole_messages : WholeMessagesSpeak
unfolding found_alone last_counter
whole_messages c t l m received_is content_is =
    let s : Standing = standing (fresh_start (unnumbered c)) [] in
    let now : Commissioned = rekeyed (commission_of (fresh_start (unnumbered c))) s.other in
    ap (λ (r : Result Layers Reason). judged now s.last (brought s.told t r)) received_is
    ∙ ap (λ (x : Content). judged now s.last (Ok (message_in s.told x))) content_is
    ∙ ap (λ (n : Option ℕ). judged now n (Ok (Some m))) (none_last c.mode)
    ∙ ap stored_or_refused (by_mode c.mode c m)
