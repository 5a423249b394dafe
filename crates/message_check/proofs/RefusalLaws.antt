-- Each refusal has its cause, and each cause gives its refusal.
use Rattle.std.proofs.Common.{◌≡◌, ◌≢◌, ℕ, ◌-◌, ◌*◌, ◌≤◌, true, false, eqb, ltb, List, [], ◌∷◌, ◌++◌, length, Option, Some, None, Result, Ok, Err, refl, sym, ap, ap₂, subst, ◌∙◌, arith, eq-eqb}
use Rattle.std.specs.Prelude.{slice_index}
use Rattle.std.specs.Str.{bytes_eq}
use Rattle.std.proofs.lemmas.Bool.{false_from_ne_true, eqb-true, eqb-false, ltb-true, lt-ltb, le-ltb, ne_eqb}
use Rattle.std.proofs.lemmas.List.{length-append}
use Rattle.std.proofs.lemmas.Slice.Eq.{bytes_eq-Decides}
use Rattle.frame_formats.specs.Crc.{IsBytes}
use Rattle.frame_formats.proofs.Checked.{byte_at}
use Rattle.meter_address.specs.declared.address.Address.{Address}
use Rattle.meter_address.specs.Commission.{Commissioned}
use Rattle.tpl_headers.specs.declared.header.Tpl.{Tpl}
use Rattle.tpl_headers.specs.Configuration.{mode_of, blocks_of}
use Rattle.tpl_headers.specs.Header.{BeginsWithTpl, tpl_at, tpl_bytes}
use Rattle.tpl_headers.proofs.Headers.{is_found, is_only}
use Rattle.tpl_headers.proofs.Faults.{faults}
use Rattle.message_check.specs.declared.refusal.Reason.{Reason}
use Rattle.message_check.specs.declared.refusal.Reason.TheVariants.{BadMessage, OtherAddress, Mode, ShortBlocks, Unchecked, CheckBytes, SameAccess}
use Rattle.lists.specs.Steps.{◌>>=◌}
use Rattle.message_check.specs.Opening.{Found, encrypted_of, rest_of, access_in_configuration, decrypted5, Passed, header_in, address_passed, mode_passed, header_for, blocks_passed, some_passed, check_bytes_passed, access_number_passed, opened5, compared5, opened5_after}
use Rattle.message_check.specs.Refusals.{HeaderRefusal, IsShort, Refusal5, RefusedExactly5}
use Rattle.lists.proofs.Choices.{guard_ok}
use Rattle.lists.proofs.StepLaws.{map_both_ok}
use Rattle.message_check.proofs.Causes.{of_steps, of_last, of_test, of_fault, of_map}
use Rattle.message_check.proofs.OpeningLaws.{passed, found, address_is, is_address, not_zero, checked_are_opened, is_for, for_is, secured, read_again}

abbrev refused : Reason → Result Tpl Reason
refused r = Err r

abbrev pub failed : Reason → Passed
failed r = Err r

-- ---- the header

address_refused : (P : Reason → Type 0) (a : Address) (named : Option Address) (r : Reason) → address_passed a named ≡ Err r
    → ((n : Address) → named ≡ Some n → n ≢ a → P (OtherAddress n)) → P r
address_refused P a None r h why = absurd cc
address_refused P a (Some n) r h why =
    of_test P (eqb n.0 a.0) (OtherAddress n) r tt h (λ test. why n refl (λ same. eqb-false _ _ test (ap (λ (x : Address). x.0) same)))

pub header_refused : (a : Address) (mode : ℕ) (m : List ℕ) → IsBytes m → (r : Reason) → header_for a mode m ≡ Err r
    → HeaderRefusal a mode m r
unfolding header_for
header_refused a mode m fits r e =
    let P : Reason → Type 0 = HeaderRefusal a mode m in
    of_steps P (header_in m) _ r e
    (λ d none. of_map P (λ (x : Tpl). x) BadMessage (tpl_at m) d none (λ f. (faults m f).0))
    (λ h is read.
    let made = map_both_ok (λ (x : Tpl). x) BadMessage (tpl_at m) h is in
    let begins : BeginsWithTpl m h = is_found m (Ok h) (λ i. byte_at m i fits) (sym (made.1 ∙ ap Ok made.2)) in
    of_steps P (address_passed a h.address) _ r read
    (λ d other. address_refused P a h.address d other (λ n there differs. (h, begins, there, differs)))
    (λ _ address behind. of_last P (mode_passed mode h.cf) (λ _. h) r behind
    (λ d other. of_test P _ (Mode (mode_of h.cf) mode) d tt other
    (λ test. (h, begins, address_is a h.address address, refl, refl, eqb-false _ _ test)))))

addresses_differ : (a b : Address) → a ≢ b → eqb a.0 b.0 ≡ false
addresses_differ a b h = ne_eqb a.0 b.0 (λ same. h (ap (λ (x : ℕ). let c : Address = record { 0 = x } in c) same))

pub header_refuses : (a : Address) (mode : ℕ) (m : List ℕ) (r : Reason) → HeaderRefusal a mode m r → header_for a mode m ≡ Err r
unfolding header_for
header_refuses a mode m (BadMessage f) h = rw ((faults m f).1 h) refl
header_refuses a mode m (OtherAddress n) h =
    rw (is_only m (tpl_at m) refl h.0 h.1, h.2, addresses_differ n a h.3) refl
header_refuses a mode m (Mode n wanted) h =
    let test : eqb (mode_of h.0.cf) mode ≡ false = ne_eqb _ _ (λ same. h.5 (h.3 ∙ same ∙ sym h.4)) in
    rw (is_only m (tpl_at m) refl h.0 h.1, is_address a h.0.address h.2, test) (ap₂ (λ (x y : ℕ). refused (Mode x y)) (sym h.3) (sym h.4))
header_refuses a mode m r h = absurd h

-- ---- the blocks

pub blocks_refused : (P : Reason → Type 0) (m : List ℕ) (h : Tpl) (r : Reason) → BeginsWithTpl m h → blocks_passed h m ≡ Err r
    → ((want have : ℕ) → IsShort m h want have → P (ShortBlocks want have)) → P r
blocks_refused P m h r b e why =
    let within : h.len ≤ length m = omega (arith, ap length b.parts, length-append (tpl_bytes h) b.rest, b.is_header.len) in
    of_fault P _ (ShortBlocks (16 * blocks_of h.cf) (length m - h.len)) r tt e
    (λ few. why _ _ (record { wanted = refl; there = omega arith; fewer = ltb-true _ _ few }))

pub blocks_refuse : (m : List ℕ) (h : Tpl) (want have : ℕ) → IsShort m h want have → blocks_passed h m ≡ Err (ShortBlocks want have)
blocks_refuse m h want have s =
    let left : length m - h.len ≡ have = omega (arith, s.there) in
    let test : ltb (length m - h.len) (16 * blocks_of h.cf) ≡ true = lt-ltb _ _ (omega (arith, s.fewer, s.wanted)) in
    rw test (ap₂ (λ (x y : ℕ). failed (ShortBlocks x y)) (sym s.wanted) left)

-- ---- mode 5

access_number_refused : (P : Reason → Type 0) (last : Option ℕ) (acc : ℕ) (r : Reason) → access_number_passed last acc ≡ Err r
    → (last ≡ Some acc → P (SameAccess acc)) → P r
access_number_refused P None acc r e why = absurd cc
access_number_refused P (Some l) acc r e why = of_fault P (eqb l acc) (SameAccess acc) r tt e (λ same. why (ap Some (eqb-true l acc same)))

check_bytes_refuse : (plain two : List ℕ) → two ≡ slice_index plain 0 ∷ slice_index plain 1 ∷ [] → two ≢ 0x2F ∷ 0x2F ∷ []
    → check_bytes_passed plain ≡ Err (CheckBytes two)
check_bytes_refuse plain two is other =
    let P : List ℕ → Type 0 = λ x. bytes_eq x (0x2F ∷ 0x2F ∷ []) ≡ false in
    let test : P (slice_index plain 0 ∷ slice_index plain 1 ∷ []) =
    subst P is (false_from_ne_true _ (λ same. other ((bytes_eq-Decides two (0x2F ∷ 0x2F ∷ [])).0 same))) in
    rw test (ap (λ (x : List ℕ). failed (CheckBytes x)) (sym is))

from_header5 : (last : Option ℕ) (c : Commissioned) (m : List ℕ) (r : Reason) → HeaderRefusal c.address 5 m r → Refusal5 last c m r
from_header5 last c m (BadMessage f) h = h
from_header5 last c m (OtherAddress n) h = h
from_header5 last c m (Mode n wanted) h = h
from_header5 last c m r h = absurd h

not_opened5 : (last : Option ℕ) (c : Commissioned) (m : List ℕ) → IsBytes m → (r : Reason) → opened5 c m ≡ Err r → Refusal5 last c m r
unfolding opened5 decrypted5
not_opened5 last c m fits r e =
    let P : Reason → Type 0 = Refusal5 last c m in
    of_steps P (header_for c.address 5 m) _ r e
    (λ d none. from_header5 last c m d (header_refused c.address 5 m fits d none))
    (λ h read e1.
    let header = for_is c.address 5 m h fits read in
    of_steps P (blocks_passed h m) _ r e1
    (λ d few. blocks_refused P m h d header.begins few (λ want have short. (h, header, short)))
    (λ _ enough e2. of_steps P (some_passed h.cf) _ r e2
    (λ d none. of_fault P (eqb (blocks_of h.cf) 0) Unchecked d tt none (λ zero. (h, header, eqb-true _ _ zero)))
    (λ _ some e3. of_last P (check_bytes_passed (decrypted5 c h m)) _ r e3
    (λ d other. of_test P _ _ d tt other (λ test.
    let zero = eqb-false (blocks_of h.cf) 0 (guard_ok (eqb (blocks_of h.cf) 0) _ _ _ some).0 in
    record {
      header = h;
      encrypted = encrypted_of h m;
      rest = rest_of h m;
      message = secured c.address 5 m h fits read enough;
      some = omega arith;
      begin = refl;
      other = λ same. absurd (cc ((bytes_eq-Decides _ (0x2F ∷ 0x2F ∷ [])).1 same, test));
    })))))

refused5 : (last : Option ℕ) (c : Commissioned) (m : List ℕ) (r : Reason) → IsBytes m → opened5_after last c m ≡ Err r → Refusal5 last c m r
unfolding opened5_after compared5
refused5 last c m r fits e =
    let P : Reason → Type 0 = Refusal5 last c m in
    of_steps P (opened5 c m) (compared5 last) r e (not_opened5 last c m fits)
    (λ f opened behind. of_last P (access_number_passed last f.counter) (λ _. f) r behind
    (λ d same. access_number_refused P last f.counter d same (λ is. (f, (checked_are_opened c m f fits).0 opened, refl, is))))

refuses5 : (last : Option ℕ) (c : Commissioned) (m : List ℕ) (r : Reason) → IsBytes m → Refusal5 last c m r → opened5_after last c m ≡ Err r
unfolding opened5_after opened5 compared5 decrypted5
refuses5 last c m (ShortBlocks want have) fits k = rw (is_for c.address 5 m k.0 k.1, blocks_refuse m k.0 want have k.2) refl
refuses5 last c m Unchecked fits k =
    let enough : blocks_passed k.0 m ≡ passed = rw (le-ltb (length m - k.0.len) (16 * blocks_of k.0.cf) (omega (arith, k.2))) refl in
    rw (is_for c.address 5 m k.0 k.1, enough, eq-eqb _ _ k.2) refl
refuses5 last c m (CheckBytes two) fits k =
    let h : Tpl = k.header in
    let r = read_again c.address 5 m h k.encrypted k.rest k.message in
    let refusal : check_bytes_passed (decrypted5 c h m) ≡ Err (CheckBytes two) =
    check_bytes_refuse (decrypted5 c h m) two (rw r.encrypted_is k.begin) k.other in
    let made : Found = record { counter = h.acc; access = access_in_configuration h.cf; payload = decrypted5 c h m ++ rest_of h m } in
    rw (r.header, r.blocks, not_zero (blocks_of h.cf) k.some) (ap (λ (x : Passed). x >>= (λ _. found made) >>= compared5 last) refusal)
refuses5 last c m (SameAccess acc) fits k =
    rw ((checked_are_opened c m k.0 fits).1 k.1, k.3, k.2, eq-eqb acc acc refl) refl
refuses5 last c m r fits k = rw (header_refuses c.address 5 m r k) refl

pub refused_exactly5 : RefusedExactly5
refused_exactly5 last c m r fits = (refused5 last c m r fits, refuses5 last c m r fits)
