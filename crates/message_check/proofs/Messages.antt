-- What opening a message comes to, step by step: the first refusal, or what is found.
use Rattle.std.proofs.Common.{◌≡◌, ℕ, ◌≤◌, List, [], ◌∷◌, ◌++◌, length, Option, Result, Ok, Err, refl, ap, ◌∙◌, arith}
use Rattle.meter_address.specs.Commission.{Commissioned}
use Rattle.tpl_headers.specs.declared.header.Tpl.{Tpl}
use Rattle.message_check.specs.declared.refusal.Reason.{Reason}
use Rattle.message_check.specs.Opening.{Found, access_in_configuration, decrypted5, rest_of, header_for, blocks_passed, some_passed, check_bytes_passed, access_number_passed, opened5, compared5, opened5_after}

-- the first two bytes alone are looked at
front_alone : (a b : List ℕ) → 2 ≤ length a → check_bytes_passed (a ++ b) ≡ check_bytes_passed a
front_alone [] b two = absurd (omega arith)
front_alone (x ∷ []) b two = absurd (omega arith)
front_alone (x ∷ y ∷ more) b two = refl

-- what the code reads of its meter is what its clauses say of it
pub header_seen : (seen c : Commissioned) (mode : ℕ) (m : List ℕ) (r : Result Tpl Reason) → seen ≡ c → r ≡ header_for seen.address mode m
    → r ≡ header_for c.address mode m
header_seen seen c mode m r same read = read ∙ ap (λ (x : Commissioned). header_for x.address mode m) same

-- ---- mode 5

pub refused_header : (last : Option ℕ) (c : Commissioned) (m : List ℕ) (r : Reason) → Err r ≡ header_for c.address 5 m
    → opened5_after last c m ≡ Err r
unfolding opened5_after opened5
refused_header last c m r header = rw (← header) refl

pub refused_blocks : (last : Option ℕ) (c : Commissioned) (m : List ℕ) (h : Tpl) (r : Reason) → Ok h ≡ header_for c.address 5 m
    → Err r ≡ blocks_passed h m → opened5_after last c m ≡ Err r
unfolding opened5_after opened5
refused_blocks last c m h r header blocks = rw (← header, ← blocks) refl

-- a header, and the blocks that it says
pub record HasBlocks (c : Commissioned) (m : List ℕ) (h : Tpl) : Type 0 where
  pub header : Ok h ≡ header_for c.address 5 m
  pub blocks : Ok tt ≡ blocks_passed h m

pub refused_none : (last : Option ℕ) (c : Commissioned) (m : List ℕ) (h : Tpl) (r : Reason) → HasBlocks c m h
    → Err r ≡ some_passed h.cf → opened5_after last c m ≡ Err r
unfolding opened5_after opened5
refused_none last c m h r has some = rw (← has.header, ← has.blocks, ← some) refl

-- what stands behind the header once it is decrypted
pub record Decrypted (c : Commissioned) (m : List ℕ) (h : Tpl) (payload : List ℕ) : Type 0 where
  pub has : HasBlocks c m h
  pub some : Ok tt ≡ some_passed h.cf
  pub is : payload ≡ decrypted5 c h m ++ rest_of h m
  pub long : 2 ≤ length (decrypted5 c h m)

pub refused_bytes : (last : Option ℕ) (c : Commissioned) (m : List ℕ) (h : Tpl) (payload : List ℕ) (r : Reason) → Decrypted c m h payload
    → Err r ≡ check_bytes_passed payload → opened5_after last c m ≡ Err r
unfolding opened5_after opened5
refused_bytes last c m h payload r d two =
    let alone : Err r ≡ check_bytes_passed (decrypted5 c h m) =
    two ∙ ap check_bytes_passed d.is ∙ front_alone (decrypted5 c h m) (rest_of h m) d.long
    in rw (← d.has.header, ← d.has.blocks, ← d.some, ← alone) refl

-- all that is checked in a message by itself is passed
is_opened : (c : Commissioned) (m : List ℕ) (h : Tpl) (payload : List ℕ) → Decrypted c m h payload → Ok tt ≡ check_bytes_passed payload
    → opened5 c m ≡ Ok (record { counter = h.acc; access = access_in_configuration h.cf; payload = payload })
unfolding opened5
is_opened c m h payload d two =
    let alone : Ok tt ≡ check_bytes_passed (decrypted5 c h m) =
    two ∙ ap check_bytes_passed d.is ∙ front_alone (decrypted5 c h m) (rest_of h m) d.long
    in rw (← d.has.header, ← d.has.blocks, ← d.some, ← alone, d.is) refl

pub refused_number : (last : Option ℕ) (c : Commissioned) (m : List ℕ) (h : Tpl) (payload : List ℕ) (r : Reason) → Decrypted c m h payload
    → Ok tt ≡ check_bytes_passed payload → Err r ≡ access_number_passed last h.acc → opened5_after last c m ≡ Err r
unfolding opened5_after compared5
refused_number last c m h payload r d two number = rw (is_opened c m h payload d two, ← number) refl

pub all_passed : (last : Option ℕ) (c : Commissioned) (m : List ℕ) (h : Tpl) (payload : List ℕ) (f : Found) → Decrypted c m h payload
    → Ok tt ≡ check_bytes_passed payload → Ok tt ≡ access_number_passed last h.acc
    → f.counter ≡ h.acc → f.access ≡ access_in_configuration h.cf → f.payload ≡ payload
    → opened5_after last c m ≡ Ok f
unfolding opened5_after compared5
all_passed last c m h payload f d two number e1 e2 e3 = rw (is_opened c m h payload d two, ← number, ← e1, ← e2, ← e3) refl
