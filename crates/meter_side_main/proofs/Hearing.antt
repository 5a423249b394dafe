-- What is heard after some deliveries.
use Rattle.std.proofs.Common.{◌≡◌, ℕ, ◌<◌, ◌↔◌, Bool, true, false, ltb, List, Result, Ok, Err, refl, sym, ap, ◌∙◌, subst}
use Rattle.std.proofs.lemmas.Bool.{ltb-true, lt-ltb}
use Rattle.aes_block.specs.Block.{IsBlock}
use Rattle.frame_formats.specs.Crc.{IsBytes}
use Rattle.meter_address.specs.declared.address.Address.{Address}
use Rattle.meter_address.specs.Commission.{Commissioned}
use Rattle.meter_side_main.specs.declared.delivery.Executed.{Executed}
use Rattle.meter_side_main.specs.declared.reason.SideReason.{SideReason}
use Rattle.meter_side_main.specs.declared.reason.SideReason.TheVariants.{Stale}
use Rattle.meter_side_main.specs.declared.reason.Did.TheVariants as did
use Rattle.meter_side_main.specs.Reading.{told, did_with, did_after}
use Rattle.meter_side_main.specs.Genuine.{IsGenuine}
use Rattle.meter_side_main.proofs.Genuineness.{told_is_genuine, genuine_is_told}

executed_with : (last : ℕ) (x e : Executed) (b : Bool) → ltb last x.down ≡ b → did_with last (Ok x) ≡ did.Executed e
    → (last < x.down) × (x ≡ e)
executed_with last x e true h g = (ltb-true last x.down h, let is : did_with last (Ok x) ≡ did.Executed x = rw h refl in cc)
executed_with last x e false h g = absurd (let is : did_with last (Ok x) ≡ did.Refused (Stale x.down last) = rw h refl in cc)

pub executed_found : (own : Address) (c : Commissioned) (last : ℕ) (bytes : List ℕ) (e : Executed) → IsBlock c.key → IsBytes bytes
    → did_after own c last bytes ≡ did.Executed e → IsGenuine own c bytes e × (last < e.down)
executed_found own c last bytes e hk hb h = by_told (told own c bytes) refl where
  by_told : (x : Result Executed SideReason) → told own c bytes ≡ x → IsGenuine own c bytes e × (last < e.down)
  by_told (Err reason) t = absurd (let same : did.Refused reason ≡ did.Executed e = sym (ap (did_with last) t) ∙ h in cc)
  by_told (Ok x) t =
      let q = executed_with last x e (ltb last x.down) refl (sym (ap (did_with last) t) ∙ h) in
      (told_is_genuine own c bytes e hk hb (t ∙ ap Ok q.1), subst (λ (y : Executed). last < y.down) q.1 q.0)

executed_only : (own : Address) (c : Commissioned) (last : ℕ) (bytes : List ℕ) (e : Executed) → IsBlock c.key
    → IsGenuine own c bytes e × (last < e.down) → did_after own c last bytes ≡ did.Executed e
executed_only own c last bytes e hk h =
    let more : did_with last (Ok e) ≡ did.Executed e = rw (lt-ltb last e.down h.1) refl in
    ap (did_with last) (genuine_is_told own c bytes e hk h.0) ∙ more

-- a delivery is executed exactly where it is genuine with a counter above the last one
pub executed_exactly_so : (own : Address) (c : Commissioned) (last : ℕ) (bytes : List ℕ) (e : Executed) → IsBlock c.key → IsBytes bytes
    → (did_after own c last bytes ≡ did.Executed e) ↔ (IsGenuine own c bytes e × (last < e.down))
executed_exactly_so own c last bytes e hk hb = (executed_found own c last bytes e hk hb, executed_only own c last bytes e hk)
