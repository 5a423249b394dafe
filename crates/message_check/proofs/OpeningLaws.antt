-- What is opened is a checked message or a genuine one, and such a message is opened.
use Rattle.std.proofs.Common.{◌≡◌, ℕ, ◌-◌, ◌*◌, ◌%◌, ◌<◌, ◌≤◌, true, false, eqb, List, [], ◌∷◌, ◌++◌, length, take, drop, Option, Some, None, option_map, Result, Ok, refl, sym, ap, ap₂, subst, ◌∙◌, arith, eq-eqb}
use Rattle.std.specs.Prelude.{IfSome, unwrap_or}
use Rattle.std.specs.Str.{bytes_eq}
use Rattle.std.proofs.lemmas.Bool.{eqb-true, eqb-false, ltb-false, le-ltb}
use Rattle.std.proofs.lemmas.Bool.Decides.{nat_tests}
use Rattle.std.proofs.lemmas.List.{length-append, length-drop, length-take-le, take-append-drop, take_at, drop_at}
use Rattle.std.proofs.lemmas.Slice.Eq.{bytes_eq-Decides}
use Rattle.frame_formats.specs.Crc.{IsBytes}
use Rattle.frame_formats.proofs.Checked.{byte_at}
use Rattle.meter_address.specs.declared.address.Address.{Address}
use Rattle.meter_address.specs.Commission.{Commissioned}
use Rattle.ell_layer.specs.declared.access.Access.{Access}
use Rattle.ell_layer.specs.declared.access.Access.TheVariants as access
use Rattle.afl_layer.specs.declared.header.Auth.{Auth}
use Rattle.tpl_headers.specs.declared.header.Tpl.{Tpl}
use Rattle.tpl_headers.specs.Configuration.{blocks_of, derivation_of}
use Rattle.tpl_headers.specs.Header.{BeginsWithTpl, tpl_at, tpl_bytes}
use Rattle.tpl_headers.proofs.Headers.{is_found, is_only}
use Rattle.message_check.specs.declared.signature.Signature.{Signature}
use Rattle.message_check.specs.declared.refusal.Reason.{Reason}
use Rattle.message_check.specs.declared.refusal.Reason.TheVariants.{OtherAddress, BadMac, CheckBytes, BadMessage}
use Rattle.message_check.specs.Keys.{OneKeyAlone}
use Rattle.message_check.specs.Opening.{Found, encrypted_of, rest_of, access_in_configuration, decrypted5, decrypted7, mac_key, cipher_key, mac_of, IsFor, IsSecured, Checked5, Genuine7, Passed, header_in, address_passed, mode_passed, header_for, blocks_passed, some_passed, check_bytes_passed, opened5, part_there, control_passed, signature_of, derivation_in, derivation_passed, mac_passed, opened7, CheckedAreOpened, GenuineAreOpened}
use Rattle.lists.specs.Steps.{◌>>=◌}
use Rattle.lists.proofs.Choices.{guard_ok, guard_ok_if}
use Rattle.lists.proofs.StepLaws.{bind_ok, map_both_ok}

abbrev pub passed : Passed
passed = Ok tt

abbrev pub found : Found → Result Found Reason
found f = Ok f

-- ---- single checks

pub address_is : (a : Address) (named : Option Address) → address_passed a named ≡ passed → IfSome named (λ n. n ≡ a)
address_is a None h = tt
address_is a (Some n) h =
    let same : n.0 ≡ a.0 = eqb-true _ _ (guard_ok_if (eqb n.0 a.0) (OtherAddress n) passed tt h).0 in
    ap (λ (x : ℕ). let b : Address = record { 0 = x } in b) same

pub is_address : (a : Address) (named : Option Address) → IfSome named (λ n. n ≡ a) → address_passed a named ≡ passed
is_address a None h = refl
is_address a (Some n) h = rw (eq-eqb n.0 a.0 (ap (λ (x : Address). x.0) h)) refl

check_bytes_are : (plain : List ℕ) → check_bytes_passed plain ≡ passed → (content : List ℕ) × (plain ≡ 0x2F ∷ 0x2F ∷ content)
check_bytes_are [] h = absurd cc
check_bytes_are (a ∷ []) h =
    let two : List ℕ = a ∷ 0 ∷ [] in
    let same = (bytes_eq-Decides two (0x2F ∷ 0x2F ∷ [])).0 (guard_ok_if (bytes_eq two (0x2F ∷ 0x2F ∷ [])) (CheckBytes two) passed tt h).0 in
    absurd cc
check_bytes_are (a ∷ b ∷ content) h =
    let two : List ℕ = a ∷ b ∷ [] in
    let same : two ≡ 0x2F ∷ 0x2F ∷ [] =
    (bytes_eq-Decides two (0x2F ∷ 0x2F ∷ [])).0 (guard_ok_if (bytes_eq two (0x2F ∷ 0x2F ∷ [])) (CheckBytes two) passed tt h).0 in
    (content, ap (λ (x : List ℕ). x ++ content) same)

pub part_is : {A : Type 0} (o : Option A) (x : A) → part_there o ≡ Ok x → o ≡ Some x
part_is (Some y) x h = let same : y ≡ x = cc in ap Some same
part_is None x h = absurd cc

pub derivation_is : (o : Option ℕ) → unwrap_or o 0 ≡ 1 → o ≡ Some 1
derivation_is (Some d) h = ap Some h
derivation_is None h = absurd cc

-- ---- the header, the blocks and the rest

pub record Read (a : Address) (mode : ℕ) (m : List ℕ) (h : Tpl) (encrypted rest : List ℕ) : Type 0 where
  pub header : header_for a mode m ≡ Ok h
  pub blocks : blocks_passed h m ≡ passed
  pub encrypted_is : encrypted_of h m ≡ encrypted
  pub rest_is : rest_of h m ≡ rest

pub rest_at : (m : List ℕ) (h : Tpl) (b : BeginsWithTpl m h) → drop h.len m ≡ b.rest
rest_at m h b = ap (drop h.len) b.parts ∙ drop_at (tpl_bytes h) b.rest h.len (sym b.is_header.len)

parts_at : (m : List ℕ) (h : Tpl) (b : BeginsWithTpl m h) (n : ℕ) → b.rest ≡ take n (drop h.len m) ++ drop n (drop h.len m)
parts_at m h b n = sym (rest_at m h b) ∙ sym (take-append-drop n (drop h.len m))

pub for_is : (a : Address) (mode : ℕ) (m : List ℕ) (h : Tpl) → IsBytes m → header_for a mode m ≡ Ok h → IsFor a mode m h
unfolding header_for
for_is a mode m h fits e =
    let read = bind_ok (header_in m) _ h e in
    let address = bind_ok (address_passed a read.0.address) _ h read.2 in
    let in_mode = bind_ok (mode_passed mode read.0.cf) _ h address.2 in
    let same : read.0 ≡ h = cc in_mode.2 in
    let made = map_both_ok (λ (x : Tpl). x) BadMessage (tpl_at m) read.0 read.1 in
    let is : tpl_at m ≡ Ok h = made.1 ∙ ap Ok (made.2 ∙ same) in record {
      begins = is_found m (Ok h) (λ i. byte_at m i fits) (sym is);
      meter = address_is a h.address (ap (λ (x : Tpl). address_passed a x.address) (sym same) ∙ address.1);
      in_mode = eqb-true _ _ (guard_ok_if _ _ _ _ (ap (λ (x : Tpl). mode_passed mode x.cf) (sym same) ∙ in_mode.1)).0;
    }

pub is_for : (a : Address) (mode : ℕ) (m : List ℕ) (h : Tpl) → IsFor a mode m h → header_for a mode m ≡ Ok h
unfolding header_for
is_for a mode m h s = rw (is_only m (tpl_at m) refl h s.begins, is_address a h.address s.meter, eq-eqb _ _ s.in_mode) refl

pub secured : (a : Address) (mode : ℕ) (m : List ℕ) (h : Tpl) → IsBytes m → header_for a mode m ≡ Ok h → blocks_passed h m ≡ passed
    → IsSecured a mode m h (encrypted_of h m) (rest_of h m)
secured a mode m h fits e enough =
    let header : IsFor a mode m h = for_is a mode m h fits e in
    let n : ℕ = 16 * blocks_of h.cf in
    let long : n ≤ length m - h.len = ltb-false _ _ (guard_ok _ _ _ _ enough).0 in
    record {
      header = header;
      parts = parts_at m h header.begins n;
      blocks = length-take-le n (drop h.len m) (omega (arith, length-drop h.len m));
    }

pub read_again : (a : Address) (mode : ℕ) (m : List ℕ) (h : Tpl) (encrypted rest : List ℕ) → IsSecured a mode m h encrypted rest
    → Read a mode m h encrypted rest
read_again a mode m h encrypted rest s =
    let n : ℕ = 16 * blocks_of h.cf in
    let behind : drop h.len m ≡ encrypted ++ rest = rest_at m h s.header.begins ∙ s.parts in
    let long : n ≤ length m - h.len = omega (arith, length-drop h.len m, ap length behind, length-append encrypted rest, s.blocks) in
    record {
      header = is_for a mode m h s.header;
      blocks = rw (le-ltb (length m - h.len) n long) refl;
      encrypted_is = ap (take n) behind ∙ take_at encrypted rest n s.blocks;
      rest_is = ap (drop n) behind ∙ drop_at encrypted rest n s.blocks;
    }

pub not_zero : (n : ℕ) → 0 < n → eqb n 0 ≡ false
not_zero n h = grind (arith, nat_tests)

-- ---- mode 5

checked5 : (c : Commissioned) (m : List ℕ) (f : Found) → IsBytes m → opened5 c m ≡ Ok f → Checked5 c m f
unfolding opened5 decrypted5
checked5 c m f fits e =
    let read = bind_ok (header_for c.address 5 m) _ f e in
    let h : Tpl = read.0 in
    let enough = bind_ok (blocks_passed h m) _ f read.2 in
    let some = bind_ok (some_passed h.cf) _ f enough.2 in
    let two = bind_ok (check_bytes_passed (decrypted5 c h m)) _ f some.2 in
    let plain = check_bytes_are (decrypted5 c h m) two.1 in
    let made : Found = record { counter = h.acc; access = access_in_configuration h.cf; payload = decrypted5 c h m ++ rest_of h m } in
    let same : made ≡ f = cc two.2 in
    let message = secured c.address 5 m h fits read.1 enough.1 in
    let zero = eqb-false (blocks_of h.cf) 0 (guard_ok (eqb (blocks_of h.cf) 0) _ _ _ some.1).0 in
    subst (Checked5 c m) same (record {
      header = h;
      encrypted = encrypted_of h m;
      content = plain.0;
      rest = rest_of h m;
      message = message;
      some = omega arith;
      decrypted = plain.1;
      counter = refl;
      access = refl;
      payload = ap (λ (x : List ℕ). x ++ rest_of h m) plain.1;
    })

found_is : (counter : ℕ) (a : Access) (payload : List ℕ) (f : Found) → f.counter ≡ counter → f.access ≡ a → f.payload ≡ payload
    → found (record { counter = counter; access = a; payload = payload }) ≡ found f
found_is counter a payload f x y z = rw (← x, ← y, ← z) refl

-- the last check is passed
then_found : (r : Passed) (f : Found) → r ≡ passed → (r >>= (λ _. found f)) ≡ found f
then_found r f h = ap (λ (x : Passed). x >>= (λ _. found f)) h

opened5_again : (c : Commissioned) (m : List ℕ) (f : Found) → Checked5 c m f → opened5 c m ≡ Ok f
unfolding opened5 decrypted5
opened5_again c m f k =
    let h : Tpl = k.header in
    let r = read_again c.address 5 m h k.encrypted k.rest k.message in
    let some : eqb (blocks_of h.cf) 0 ≡ false = not_zero (blocks_of h.cf) k.some in
    let plain : decrypted5 c h m ≡ 0x2F ∷ 0x2F ∷ k.content = rw r.encrypted_is k.decrypted in
    let payload : f.payload ≡ decrypted5 c h m ++ rest_of h m = k.payload ∙ sym (ap₂ (λ (x y : List ℕ). x ++ y) plain r.rest_is) in
    let checked : check_bytes_passed (decrypted5 c h m) ≡ passed = ap check_bytes_passed plain in
    let made : Found = record { counter = h.acc; access = access_in_configuration h.cf; payload = decrypted5 c h m ++ rest_of h m } in
    rw (r.header, r.blocks, some) (then_found _ made checked
    ∙ found_is h.acc (access_in_configuration h.cf) (decrypted5 c h m ++ rest_of h m) f k.counter k.access payload)

pub checked_are_opened : CheckedAreOpened
checked_are_opened c m f fits = (checked5 c m f fits, opened5_again c m f)

-- ---- mode 7

pub record Signed (auth : Auth) (s : Signature) : Type 0 where
  pub mcl : auth.mcl ≡ Some s.mcl
  pub counter : auth.mcr ≡ Some s.counter
  pub mac : auth.mac ≡ Some s.mac
  pub ml : auth.ml ≡ s.ml
  pub by_cmac : s.mcl % 16 ≡ 5

pub signed : (auth : Auth) (s : Signature) → signature_of auth ≡ Ok s → Signed auth s
unfolding signature_of
signed auth s e =
    let mcl = bind_ok (part_there auth.mcl) _ s e in
    let counter = bind_ok (part_there auth.mcr) _ s mcl.2 in
    let mac = bind_ok (part_there auth.mac) _ s counter.2 in
    let control = bind_ok (control_passed mcl.0) _ s mac.2 in
    let made : Signature = record { mcl = mcl.0; counter = counter.0; ml = auth.ml; mac = mac.0 } in
    let same : made ≡ s = cc control.2 in
    subst (Signed auth) same (record {
      mcl = part_is auth.mcl mcl.0 mcl.1;
      counter = part_is auth.mcr counter.0 counter.1;
      mac = part_is auth.mac mac.0 mac.1;
      ml = refl;
      by_cmac = eqb-true _ _ (guard_ok_if _ _ _ _ control.1).0;
    })

pub one_key_alone : OneKeyAlone
one_key_alone c h none = rw none (grind arith)

genuine7 : (c : Commissioned) (auth : Auth) (m : List ℕ) (f : Found) → IsBytes m → opened7 c auth m ≡ Ok f → Genuine7 c auth m f
unfolding opened7 decrypted7
genuine7 c auth m f fits e =
    let read = bind_ok (header_for c.address 7 m) _ f e in
    let h : Tpl = read.0 in
    let signature = bind_ok (signature_of auth) _ f read.2 in
    let s : Signature = signature.0 in
    let derivation = bind_ok (derivation_passed h) _ f signature.2 in
    let enough = bind_ok (blocks_passed h m) _ f derivation.2 in
    let key : List ℕ = mac_key c h s.counter in
    let mac = bind_ok (mac_passed key s m) _ f enough.2 in
    let made : Found =
    record { counter = s.counter; access = access.None; payload = decrypted7 (cipher_key c h s.counter) h m ++ rest_of h m } in
    let same : made ≡ f = cc mac.2 in
    let is = signed auth s signature.1 in
    let mac_is : mac_of key s.mcl s.counter s.ml m ≡ s.mac =
    (bytes_eq-Decides _ _).0 (guard_ok_if (bytes_eq (mac_of key s.mcl s.counter s.ml m) s.mac) BadMac passed tt mac.1).0 in
    subst (Genuine7 c auth m) same (record {
      header = h;
      encrypted = encrypted_of h m;
      rest = rest_of h m;
      message = secured c.address 7 m h fits read.1 enough.1;
      derivation = derivation_is (option_map derivation_of h.cfe) (eqb-true _ _ (guard_ok_if _ _ _ _ derivation.1).0);
      mcl = s.mcl;
      control = is.mcl;
      by_cmac = is.by_cmac;
      counter = is.counter;
      mac = is.mac ∙ ap Some (sym mac_is ∙ ap (λ (x : Option ℕ). mac_of key s.mcl s.counter x m) (sym is.ml));
      access = refl;
      payload = refl;
    })

pub signature_again : (auth : Auth) (mcl counter : ℕ) (mac : List ℕ) → auth.mcl ≡ Some mcl → auth.mcr ≡ Some counter → auth.mac ≡ Some mac
    → mcl % 16 ≡ 5
    → signature_of auth ≡ Ok (record { mcl = mcl; counter = counter; ml = auth.ml; mac = mac })
unfolding signature_of
signature_again auth mcl counter mac e1 e2 e3 control = rw (e1, e2, e3, eq-eqb _ _ control) refl

opened7_again : (c : Commissioned) (auth : Auth) (m : List ℕ) (f : Found) → Genuine7 c auth m f → opened7 c auth m ≡ Ok f
unfolding opened7 decrypted7
opened7_again c auth m f g =
    let h : Tpl = g.header in
    let r = read_again c.address 7 m h g.encrypted g.rest g.message in
    let key : List ℕ = cipher_key c h f.counter in
    let mac : List ℕ = mac_of (mac_key c h f.counter) g.mcl f.counter auth.ml m in
    let signature = signature_again auth g.mcl f.counter mac g.control g.counter g.mac g.by_cmac in
    let derivation : eqb (derivation_in h) 1 ≡ true = eq-eqb _ _ (ap (λ (x : Option ℕ). unwrap_or x 0) g.derivation) in
    let same : bytes_eq mac mac ≡ true = (bytes_eq-Decides mac mac).1 refl in
    let payload : f.payload ≡ decrypted7 key h m ++ rest_of h m = rw (r.encrypted_is, r.rest_is) g.payload in
    rw (r.header, signature, derivation, r.blocks, same)
    (found_is f.counter access.None (decrypted7 key h m ++ rest_of h m) f refl g.access payload)

pub genuine_are_opened : GenuineAreOpened
genuine_are_opened c auth m f fits = (genuine7 c auth m f fits, opened7_again c auth m f)
