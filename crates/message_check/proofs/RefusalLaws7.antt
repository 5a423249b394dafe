-- In mode 7 each refusal has its cause, and each cause gives its refusal.
use Rattle.std.proofs.Common.{◌≡◌, ◌≢◌, ℕ, ◌%◌, ◌≤◌, true, false, eqb, ltb, List, Option, Some, None, option_map, is_some, Result, Ok, Err, refl, sym, ap, subst, ◌∙◌, arith, eq-eqb}
use Rattle.std.specs.Prelude.{unwrap_or}
use Rattle.std.specs.Str.{bytes_eq}
use Rattle.std.proofs.lemmas.Bool.{false_from_ne_true, eqb-true, eqb-false, ltb-false, le-ltb, ne_eqb}
use Rattle.std.proofs.lemmas.Slice.Eq.{bytes_eq-Decides}
use Rattle.frame_formats.specs.Crc.{IsBytes}
use Rattle.meter_address.specs.Commission.{Commissioned}
use Rattle.afl_layer.specs.declared.header.Auth.{Auth}
use Rattle.tpl_headers.specs.declared.header.Tpl.{Tpl}
use Rattle.tpl_headers.specs.Configuration.{derivation_of}
use Rattle.message_check.specs.declared.signature.Signature.{Signature}
use Rattle.message_check.specs.declared.refusal.Reason.{Reason}
use Rattle.message_check.specs.declared.refusal.Reason.TheVariants.{BadMessage, OtherAddress, Mode, NoAuth, Kdf, ShortBlocks, BadMac, Stale}
use Rattle.message_check.specs.Opening.{Found, encrypted_of, rest_of, mac_key, mac_of, IsFor, header_for, blocks_passed, part_there, control_passed, signature_of, derivation_in, derivation_passed, mac_passed, counter_passed, opened7, compared7, opened7_after}
use Rattle.message_check.specs.Refusals.{HeaderRefusal, HasAuth, Refusal7, RefusedExactly7}
use Rattle.lists.proofs.Choices.{guard_ok_if}
use Rattle.message_check.proofs.Causes.{of_steps, of_last, of_test}
use Rattle.message_check.proofs.OpeningLaws.{passed, derivation_is, genuine_are_opened, for_is, is_for, secured, read_again, Signed, signed, signature_again}
use Rattle.message_check.proofs.RefusalLaws.{failed, header_refused, header_refuses, blocks_refused, blocks_refuse}

-- ---- the authentication

abbrev there_by : (auth : Auth) (s : Signature) → Signed auth s → HasAuth auth
there_by auth s is =
    record { mcl = s.mcl; counter = s.counter; mac = s.mac; control = is.mcl; by_cmac = is.by_cmac; counted = is.counter; signed = is.mac }

abbrev unsigned : Reason → Result Signature Reason
unsigned r = Err r

signature_there : (auth : Auth) (a : HasAuth auth)
    → signature_of auth ≡ Ok (record { mcl = a.mcl; counter = a.counter; ml = auth.ml; mac = a.mac })
signature_there auth a = signature_again auth a.mcl a.counter a.mac a.control a.counted a.signed a.by_cmac

part_missing : {A : Type 0} (o : Option A) (r : Reason) → part_there o ≡ Err r → NoAuth ≡ r
part_missing (Some x) r e = absurd cc
part_missing None r e = cc

-- it is refused for one cause
no_auth : (auth : Auth) (r : Reason) → signature_of auth ≡ Err r → NoAuth ≡ r
unfolding signature_of
no_auth auth r e =
    let P : Reason → Type 0 = λ d. NoAuth ≡ d in
    of_steps P (part_there auth.mcl) _ r e (part_missing auth.mcl)
    (λ mcl _ e1. of_steps P (part_there auth.mcr) _ r e1 (part_missing auth.mcr)
    (λ _ _ e2. of_steps P (part_there auth.mac) _ r e2 (part_missing auth.mac)
    (λ _ _ e3. of_last P (control_passed mcl) _ r e3 (λ d other. of_test P (eqb (mcl % 16) 5) NoAuth d tt other (λ _. refl)))))

signature_refuse : (auth : Auth) → (¬ HasAuth auth) → signature_of auth ≡ Err NoAuth
signature_refuse auth lacks = by_answer (signature_of auth) refl
  where
    by_answer : (r : Result Signature Reason) → signature_of auth ≡ r → signature_of auth ≡ Err NoAuth
    by_answer (Ok s) is = absurd (lacks (there_by auth s (signed auth s is)))
    by_answer (Err e) is = is ∙ ap unsigned (sym (no_auth auth e is))

-- ---- the derivation

default_is : {A : Type 0} (f : A → ℕ) (o : Option A) → is_some o ≡ true → option_map f o ≡ Some (unwrap_or (option_map f o) 0)
default_is f (Some x) h = refl
default_is f None h = absurd cc

-- a header of mode 7 names a derivation
names_derivation : (c : Commissioned) (m : List ℕ) (h : Tpl) → IsFor c.address 7 m h
    → option_map derivation_of h.cfe ≡ Some (derivation_in h)
names_derivation c m h f =
    default_is derivation_of h.cfe (f.begins.is_header.extension ∙ eq-eqb _ _ f.in_mode)

derivation_pass : (h : Tpl) → option_map derivation_of h.cfe ≡ Some 1 → derivation_passed h ≡ passed
derivation_pass h e = rw (eq-eqb (derivation_in h) 1 (ap (λ (x : Option ℕ). unwrap_or x 0) e)) refl

derivation_refuse : (h : Tpl) (d : ℕ) → option_map derivation_of h.cfe ≡ Some d → d ≢ 1 → derivation_passed h ≡ Err (Kdf d)
derivation_refuse h d e other =
    let is : derivation_in h ≡ d = ap (λ (x : Option ℕ). unwrap_or x 0) e in
    let test : eqb (derivation_in h) 1 ≡ false = ne_eqb _ _ (λ same. other (sym is ∙ same)) in
    rw test (ap (λ (x : ℕ). failed (Kdf x)) is)

-- ---- the counter

counter_refused : (P : Reason → Type 0) (last : Option ℕ) (got : ℕ) (r : Reason) → counter_passed last got ≡ Err r
    → ((before : ℕ) → last ≡ Some before → got ≤ before → P (Stale got before)) → P r
counter_refused P None got r e why = absurd cc
counter_refused P (Some before) got r e why =
    of_test P (ltb before got) (Stale got before) r tt e (λ test. why before refl (ltb-false _ _ test))

-- ---- what is refused has its cause

from_header7 : (last : Option ℕ) (c : Commissioned) (auth : Auth) (m : List ℕ) (r : Reason) → HeaderRefusal c.address 7 m r
    → Refusal7 last c auth m r
from_header7 last c auth m (BadMessage f) h = h
from_header7 last c auth m (OtherAddress n) h = h
from_header7 last c auth m (Mode n wanted) h = h
from_header7 last c auth m r h = absurd h

not_opened7 : (last : Option ℕ) (c : Commissioned) (auth : Auth) (m : List ℕ) → IsBytes m → (r : Reason) → opened7 c auth m ≡ Err r
    → Refusal7 last c auth m r
unfolding opened7
not_opened7 last c auth m fits r e =
    let P : Reason → Type 0 = Refusal7 last c auth m in
    of_steps P (header_for c.address 7 m) _ r e
    (λ d none. from_header7 last c auth m d (header_refused c.address 7 m fits d none))
    (λ h read e1.
    let header = for_is c.address 7 m h fits read in
    of_steps P (signature_of auth) _ r e1
    (λ d none. subst P (no_auth auth d none) (h, header, λ a. absurd (cc (signature_there auth a, none))))
    (λ s sign e2.
    let is = signed auth s sign in
    let there : HasAuth auth = there_by auth s is in
    of_steps P (derivation_passed h) _ r e2
    (λ d other. of_test P (eqb (derivation_in h) 1) (Kdf (derivation_in h)) d tt other
    (λ test. (h, header, there, names_derivation c m h header, eqb-false _ _ test)))
    (λ _ derivation e3.
    let by_cmac = derivation_is (option_map derivation_of h.cfe) (eqb-true _ _ (guard_ok_if _ _ _ _ derivation).0) in
    of_steps P (blocks_passed h m) _ r e3
    (λ d few. blocks_refused P m h d header.begins few (λ want have short. (h, header, there, by_cmac, short)))
    (λ _ enough e4. of_last P (mac_passed (mac_key c h s.counter) s m) _ r e4
    (λ d other.
    let key : List ℕ = mac_key c h s.counter in
    let mac : List ℕ = mac_of key s.mcl s.counter s.ml m in
    of_test P (bytes_eq mac s.mac) BadMac d tt other (λ test. record {
      header = h;
      encrypted = encrypted_of h m;
      rest = rest_of h m;
      message = secured c.address 7 m h fits read enough;
      derivation = by_cmac;
      there = there;
      other = λ same. absurd
          (cc ((bytes_eq-Decides mac s.mac).1 (ap (λ (x : Option ℕ). mac_of key s.mcl s.counter x m) (sym is.ml) ∙ same), test));
    }))))))

refused7 : (last : Option ℕ) (c : Commissioned) (auth : Auth) (m : List ℕ) (r : Reason) → IsBytes m → opened7_after last c auth m ≡ Err r
    → Refusal7 last c auth m r
unfolding opened7_after compared7
refused7 last c auth m r fits e =
    let P : Reason → Type 0 = Refusal7 last c auth m in
    of_steps P (opened7 c auth m) (compared7 last) r e (not_opened7 last c auth m fits)
    (λ f opened behind. of_last P (counter_passed last f.counter) (λ _. f) r behind
    (λ d stale. counter_refused P last f.counter d stale
    (λ before is low. (f, (genuine_are_opened c auth m f fits).0 opened, refl, is, low))))

-- ---- each cause gives its refusal

refuses7 : (last : Option ℕ) (c : Commissioned) (auth : Auth) (m : List ℕ) (r : Reason) → IsBytes m → Refusal7 last c auth m r
    → opened7_after last c auth m ≡ Err r
unfolding opened7_after opened7 compared7
refuses7 last c auth m NoAuth fits k = rw (is_for c.address 7 m k.0 k.1, signature_refuse auth k.2) refl
refuses7 last c auth m (Kdf d) fits k = rw (is_for c.address 7 m k.0 k.1, signature_there auth k.2, derivation_refuse k.0 d k.3 k.4) refl
refuses7 last c auth m (ShortBlocks want have) fits k =
    rw (is_for c.address 7 m k.0 k.1, signature_there auth k.2, derivation_pass k.0 k.3, blocks_refuse m k.0 want have k.4) refl
refuses7 last c auth m BadMac fits k =
    let h : Tpl = k.header in
    let r = read_again c.address 7 m h k.encrypted k.rest k.message in
    let mac : List ℕ = mac_of (mac_key c h k.there.counter) k.there.mcl k.there.counter auth.ml m in
    let test : bytes_eq mac k.there.mac ≡ false = false_from_ne_true _ (λ same. k.other ((bytes_eq-Decides mac k.there.mac).0 same)) in
    rw (r.header, signature_there auth k.there, derivation_pass h k.derivation, r.blocks, test) refl
refuses7 last c auth m (Stale got before) fits k =
    let f : Found = k.0 in
    let test : ltb before f.counter ≡ false = le-ltb _ _ (omega (arith, k.4, k.2)) in
    rw ((genuine_are_opened c auth m f fits).1 k.1, k.3, test) (ap (λ (x : ℕ). let r : Result Found Reason = Err (Stale x before) in r) k.2)
refuses7 last c auth m r fits k = rw (header_refuses c.address 7 m r k) refl

pub refused_exactly7 : RefusedExactly7
refused_exactly7 last c auth m r fits = (refused7 last c auth m r fits, refuses7 last c auth m r fits)
