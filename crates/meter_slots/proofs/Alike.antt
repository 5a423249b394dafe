-- Commissions that differ in their numbers and in the second key alone, and standings that hold the same: no event tells them apart.
use Rattle.std.proofs.Common.{◌≡◌, ℕ, Bool, List, [], ◌∷◌, Option, Some, None, Result, Ok, Err, refl, ap, ◌∙◌}
use Rattle.std.specs.Prelude.{option_map, slice_index}
use Rattle.std.specs.Result.{result_ok}
use Rattle.meter_address.specs.declared.address.Address.{Address}
use Rattle.meter_address.specs.declared.commission.Mode.{Mode}
use Rattle.meter_address.specs.declared.commission.Mode.TheVariants.{Five, Seven}
use Rattle.meter_address.specs.Commission.{Commissioned}
use Rattle.ell_layer.specs.declared.access.Access.{Access}
use Rattle.command_queue.specs.declared.command.Command.{Command}
use Rattle.command_queue.specs.Orders.{Orders, confirmed, sent_at, after_stored}
use Rattle.afl_fragments.specs.Held.{Told, Piece, Message, held, assembled}
use Rattle.afl_fragments.proofs.Shortening.{held_goes_on}
use Rattle.message_check.specs.Steps.{◌>>=◌}
use Rattle.message_check.specs.Opening.{Found, opened5, opened7, decrypted5}
use Rattle.message_check.specs.declared.headers.Layers.{Layers}
use Rattle.message_check.specs.declared.refusal.Reason.{Reason}
use Rattle.downlink_maker.specs.Downlink.{encrypted_content, message_bytes, mac_of, telegram_to}
use Rattle.meter_slots.specs.declared.entry.Event.{Event}
use Rattle.meter_slots.specs.declared.entry.Event.TheVariants.{Hear}
use Rattle.meter_slots.specs.declared.entry.Outcome.{Outcome}
use Rattle.meter_slots.specs.declared.entry.Outcome.TheVariants.{Stored}
use Rattle.meter_slots.specs.Hearing.{Content, Whole, Part, content_behind, is_response, message_in, received, brought}
use Rattle.meter_slots.specs.Journal.{told_by, rekeyed, opened_in, compared, genuine_in, Standing, stored_or_refused, judged, verdict, access_of}
use Rattle.meter_slots.specs.Journal.{access_at, downlink_with, heard, answer, stored_in, stored}
use Rattle.meter_slots.specs.Resuming.{IsSameStanding}

message_same : (xs ys : List Told) (content : Content) → held xs ≡ held ys → message_in xs content ≡ message_in ys content
message_same xs ys (Whole message) e = refl
message_same xs ys (Part part) e = ap assembled (held_goes_on (Piece part ∷ []) xs ys e)

pub brought_same : (xs ys : List Told) (t : List ℕ) (r : Result Layers Reason) → held xs ≡ held ys → brought xs t r ≡ brought ys t r
brought_same xs ys t (Err reason) e = refl
brought_same xs ys t (Ok l) e = ap Ok (message_same xs ys (content_behind t l) e)

module _ (a : Commissioned) (last : Option ℕ) (down ids : ℕ) where
  abbrev numbered : Commissioned
  numbered = record a { last = last; down = down; ids = ids }

  opened_alike : (mode : Mode) (m : Message) → opened_in mode numbered m ≡ opened_in mode a m
  unfolding opened5 opened7 decrypted5
  opened_alike Five m = refl
  opened_alike Seven m = refl

  judged_alike : (floor : Option ℕ) (b : Result (Option Message) Reason) → judged numbered floor b ≡ judged a floor b
  judged_alike floor (Ok (Some m)) =
      ap (λ (g : Result Found Reason). stored_or_refused (g >>= compared a.mode floor)) (opened_alike a.mode m)
  judged_alike floor _ = refl

  pub genuine_alike : (b : Result (Option Message) Reason) → genuine_in numbered b ≡ genuine_in a b
  genuine_alike (Ok (Some m)) = ap result_ok (opened_alike a.mode m)
  genuine_alike _ = refl

module _ (a : Commissioned) (other : Option (List ℕ)) (last : Option ℕ) (down ids : ℕ) where
  abbrev alike : Commissioned
  alike = record a { other = other; last = last; down = down; ids = ids }

  pub told_alike : (event : Event) (o : Outcome) → told_by alike event o ≡ told_by a event o
  told_alike (Hear format at t) o = refl
  told_alike _ o = refl

  sent_alike : (own : Address) (n : ℕ) (command : Option Command)
      → option_map (downlink_with own alike n) command ≡ option_map (downlink_with own a n) command
  unfolding telegram_to message_bytes encrypted_content mac_of
  sent_alike own n None = refl
  sent_alike own n (Some command) = refl

  heard_alike : (own : Address) (k : Orders) (access : Access) (response : Bool) (v : Result (Option Found) Reason)
      → heard own alike k access response v ≡ heard own a k access response v
  heard_alike own k access response (Ok (Some f)) =
      ap (λ sent. Stored f.counter (confirmed k response) sent)
      (sent_alike own (after_stored k access response).down (sent_at k access response))
  heard_alike own k access response _ = refl

  module _ (s s' : Standing) (h : IsSameStanding s s') where
    verdict_alike : (t : List ℕ) → verdict alike s t ≡ verdict a s' t
    verdict_alike t =
        judged_alike (rekeyed a s.other) last down ids s.last (brought s.told t (received a.mode t))
        ∙ ap (λ (o : Option (List ℕ)). judged (rekeyed a o) s.last (brought s.told t (received a.mode t))) h.other
        ∙ ap (λ (l : Option ℕ). judged (rekeyed a s'.other) l (brought s.told t (received a.mode t))) h.last
        ∙ ap (judged (rekeyed a s'.other) s'.last) (brought_same s.told s'.told t (received a.mode t) h.held)

    pub access_alike : (event : Event) → access_at alike s event ≡ access_at a s' event
    access_alike (Hear format at t) = ap (access_of (received a.mode t)) (verdict_alike t)
    access_alike _ = refl

    pub stored_alike : (event : Event) → stored alike s event ≡ stored a s' event
    stored_alike (Hear format at t) = ap stored_in (verdict_alike t)
    stored_alike _ = refl

    pub answer_alike : (own : Address) (event : Event) → answer alike own s event ≡ answer a own s' event
    answer_alike own (Hear format at t) =
        let v = verdict_alike t in
        heard_alike own s.orders (access_at alike s (Hear format at t)) (is_response (slice_index t 1)) (verdict alike s t) ∙ cc
    answer_alike own _ = cc
