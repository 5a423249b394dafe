-- A telegram that is heard again.
use Rattle.std.proofs.Common.{◌≡◌, ℕ, ◌≤◌, Bool, false, cond, nat_lt, List, drop, Option, Some, None, Result, Ok, Err, refl, ap, sym, ◌∙◌, arith}
use Rattle.std.specs.Result.{result_ok}
use Rattle.std.proofs.lemmas.Bool.Decides.{nat_tests}
use Rattle.meter_address.specs.declared.commission.Mode.{Mode}
use Rattle.meter_address.specs.declared.commission.Mode.TheVariants.{Seven}
use Rattle.meter_address.specs.Commission.{Commissioned}
use Rattle.afl_layer.specs.declared.header.Afl.{Afl}
use Rattle.afl_fragments.specs.Held.{Message}
use Rattle.message_check.specs.Steps.{◌>>=◌}
use Rattle.message_check.specs.Layers.{has_piece}
use Rattle.message_check.specs.Opening.{Found, compared7}
use Rattle.message_check.specs.Opened.{found_in}
use Rattle.message_check.specs.declared.headers.Layers.{Layers}
use Rattle.message_check.specs.declared.opening.Opened.{Opened}
use Rattle.message_check.specs.declared.refusal.Reason.{Reason}
use Rattle.message_check.specs.declared.refusal.Reason.TheVariants.{Stale}
use Rattle.meter_slots.specs.Hearing.{Content, Whole, Part, auth_in, content_of, message_in, received, brought}
use Rattle.meter_slots.specs.Journal.{compared, opened_in, judged_in, judged, stored_or_refused, told_with, told_by_received}
use Rattle.meter_slots.specs.Keeping.{Bar, Known, Brings, IsRefusedAlone, IsOfWhole, verdict_as}
use Rattle.meter_slots.proofs.Journals.{found_where}
use Rattle.meter_slots.proofs.ReadingLaws.{opened_found}

-- ---- it is refused

not_above_last : (f : Found) (n last : ℕ) → f.counter ≡ n → n ≤ last → compared7 (Some last) f ≡ Err (Stale n last)
unfolding compared7
not_above_last f n last same below =
    let test : nat_lt last f.counter ≡ false = grind (arith, nat_tests) in
    let refused : compared7 (Some last) f ≡ Err (Stale f.counter last) =
    ap (λ (b : Bool). found_where (cond b (Ok tt) (Err (Stale f.counter last))) f) test in
    refused ∙ ap (λ (m : ℕ). Err (Stale m last)) same

known_refused : (mode : Mode) (c : Commissioned) (m : Message) (f : Found) (n last : ℕ) → mode ≡ Seven → opened_in mode c m ≡ Ok f
    → f.counter ≡ n → n ≤ last → judged_in mode c (Some last) m ≡ Err (Stale n last)
known_refused mode c m f n last seven genuine same below =
    ap (λ (g : Result Found Reason). g >>= compared mode (Some last)) genuine
    ∙ ap (λ (w : Mode). compared w (Some last) f) seven
    ∙ not_above_last f n last same below

-- a telegram that is kept in mind is refused, once its message's counter isn't above the last one
pub refused_alone : (c : Commissioned) (k : Known) (last : ℕ) → Brings c k → k.counter ≤ last
    → IsRefusedAlone c (Some last) k.bytes (Stale k.counter last)
refused_alone c k last h below = record {
  refused = λ told. ap (λ (r : Result Layers Reason). judged c (Some last) (brought told k.bytes r)) h.received_is
      ∙ ap (λ (content : Content). judged c (Some last) (Ok (message_in told content))) h.whole
      ∙ ap stored_or_refused (known_refused c.mode c h.message h.found k.counter last h.mode h.genuine h.counter below);
  tells = λ later. ap (λ (r : Result Layers Reason). told_by_received k.bytes r later) h.received_is
      ∙ ap (λ (content : Content). told_with content later) h.whole;
}

-- ---- it is kept in mind

-- behind layers that are no fragment's there is a whole message
abbrev HasWhole : Option Afl → List ℕ → Type 0
HasWhole afl bytes = (m : Message) × (content_of afl bytes ≡ Whole m)

has_whole : (afl : Option Afl) (bytes : List ℕ) → has_piece afl ≡ false → HasWhole afl bytes
has_whole None bytes none = (_, refl)
has_whole (Some a) bytes none = (
  record { auth = auth_in (Some a); bytes = bytes },
  ap (λ (b : Bool). cond b (Part (record { afl = a; bytes = bytes })) (Whole (record { auth = auth_in (Some a); bytes = bytes }))) none,
)

opened_as : (g : Result Found Reason) (f : Found) → result_ok g ≡ Some f → g ≡ Ok f
opened_as (Ok x) f h = cc
opened_as (Err reason) f h = cc

pub learned : (b : Bar) (t bytes : List ℕ) (l : Layers) (o : Opened) → b.commission.mode ≡ Seven → Ok l ≡ received Seven t
    → has_piece l.afl ≡ false → IsOfWhole b t (Ok l) (verdict_as bytes (Ok (Some o)))
    → Brings b.commission (record { bytes = t; counter = o.counter })
learned b t bytes l o seven layers none verdict =
    let c = b.commission in
    let w = has_whole l.afl (drop l.body t) none in
    record {
      mode = seven;
      layers = l;
      received_is = ap (λ (w : Mode). received w t) seven ∙ sym layers;
      message = w.0;
      whole = w.1;
      found = found_in bytes o;
      genuine = opened_as (opened_in c.mode c w.0) (found_in bytes o)
          (opened_found c.mode b.last (opened_in c.mode c w.0) (found_in bytes o) (sym (verdict l w.0 refl w.1)));
      counter = refl;
    }
