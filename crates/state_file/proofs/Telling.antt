-- What is known of a meter can be told.
use Rattle.std.proofs.Common.{◌≡◌, ℕ, ◌+◌, ◌<◌, ◌^◌, map, ◌≤◌, List, [], ◌∷◌, length, take, slice_get, get_or, filter, not, Bool, true, false, cond, refl, sym, subst, ◌∙◌, arith, length-append}
use Rattle.std.specs.Prelude.{IfSome}
use Rattle.std.specs.List.{All}
use Rattle.std.proofs.lemmas.List.{take_all}
use Rattle.std.proofs.lemmas.Option.{slice_get-get_or}
use Rattle.std.proofs.lemmas.List.Elements.{All-head, All-tail}
use Rattle.lists.specs.Each.{Each}
use Rattle.lists.proofs.Members.{each_append}
use Rattle.hex.specs.Hex.{IsBytes}
use Rattle.afl_layer.specs.Header.{Fits}
use Rattle.afl_fragments.specs.Fragment.{Fragment, IsFragment}
use Rattle.state_file.specs.Text.{spelt}
use Rattle.afl_fragments.specs.Held.{held}
use Rattle.afl_fragments.specs.Short.{pieces, ticked, told_of, cut_down}
use Rattle.afl_fragments.specs.Places.{is_fresh}
use Rattle.afl_fragments.specs.declared.places.HeldPart.{HeldPart}
use Rattle.command_queue.specs.declared.command.Command.{Command}
use Rattle.command_queue.specs.Pending.{IsSound, AreUntried, OnlyOldestTried}
use Rattle.command_queue.specs.Orders.{Agrees}
use Rattle.meter_address.specs.Commission.{IsCommission}
use Rattle.meter_slots.specs.Journal.{Start, commission_of}
use Rattle.state_file.specs.Text.{IsSpeltReading, IsSpeltPart, IsSpeltMark, IsSpeltCommand}
use Rattle.state_file.specs.Rooms.{HasRoom}
use Rattle.state_file.specs.Whole.{Known}
use Rattle.state_file.specs.Written.{IsStart, IsState}
use Rattle.state_file.specs.Telling.{HasSpelt, IsSayable}

pub each_of : {A : Type 0} (P : A → Type 0) (xs : List A) → All P xs → Each P xs
each_of P [] all = tt
each_of P (x ∷ xs) all = (All-head P x xs all, each_of P xs (All-tail P x xs all))

-- what holds of as many as there are
pub all_taken : {X : Type 0} (P : X → Type 0) (xs : List X) (n : ℕ) → length xs ≤ n → All P (take n xs) → All P xs
all_taken P xs n all h = subst (All P) (take_all n xs all) h

-- what holds of the one at a place
pub at_place : {X : Type 0} (P : X → Type 0) (xs : List X) (i : ℕ) (x : X) → i < length xs → x ≡ get_or xs i x → P x → IfSome (slice_get xs i) P
at_place P xs i x within is holds = rw (slice_get-get_or xs i x within) (subst P is holds)

-- what is made of each
pub each_made : {A B : Type 0} (P : A → Type 0) (Q : B → Type 0) (f : A → B) → ((x : A) → P x → Q (f x)) → (xs : List A) → Each P xs
    → Each Q (map f xs)
each_made P Q f one [] each = tt
each_made P Q f one (x ∷ xs) each = (one x each.0, each_made P Q f one xs each.1)

-- ---- fragments

pub part_can_be_told : (part whole : Fragment) (bytes : List ℕ) → whole ≡ part → IsFragment whole.afl → Fits whole.afl → length whole.bytes ≤ 242
    → part.afl.fid ≤ 16 → bytes ≡ spelt whole → IsBytes bytes → IsSpeltPart part
part_can_be_told part whole bytes same fragment fits most few all each =
    subst IsSpeltPart same (record {
      fragment = fragment;
      few = subst (λ p. p.afl.fid ≤ 16) (sym same) few;
      fits = fits;
      most = most;
      bytes = subst IsBytes all each;
    })

piece_where : (b : Bool) (h : HeldPart) (hs : List HeldPart) → HasSpelt h → Each IsSpeltMark (pieces hs) → Each IsSpeltMark (pieces (cond b (h ∷ hs) hs))
piece_where true h hs is each = (is, each)
piece_where false h hs is each = each

pieces_told : (f : HeldPart → Bool) (hs : List HeldPart) → Each HasSpelt hs → Each IsSpeltMark (pieces (filter f hs))
pieces_told f [] each = tt
pieces_told f (h ∷ hs) each = piece_where (f h) h (filter f hs) each.0 (pieces_told f hs each.1)

ticked_told : (hs : List HeldPart) → Each IsSpeltMark (pieces hs) → Each IsSpeltMark (ticked hs)
ticked_told [] each = tt
ticked_told (h ∷ hs) each = (tt, each)

pub marks_told : (hs : List HeldPart) → Each HasSpelt hs → Each IsSpeltMark (told_of hs)
marks_told hs each =
    each_append IsSpeltMark (pieces (filter is_fresh hs)) (ticked (filter (λ h. not (is_fresh h)) hs)) (pieces_told is_fresh hs each)
    (ticked_told (filter (λ h. not (is_fresh h)) hs) (pieces_told (λ h. not (is_fresh h)) hs each))

pieces_len : (hs : List HeldPart) → length (pieces hs) ≡ length hs
pieces_len [] = refl
pieces_len (h ∷ hs) = let rest = pieces_len hs in omega arith

ticked_len : (hs : List HeldPart) → length (ticked hs) ≤ length hs + 1
ticked_len [] = omega arith
ticked_len (h ∷ hs) = let same = pieces_len (h ∷ hs) in omega arith

parted_where : (b : Bool) (h : HeldPart) (xs ys : List HeldPart) (n : ℕ) → length xs + length ys ≡ n
    → length (cond b (h ∷ xs) xs) + length (cond (not b) (h ∷ ys) ys) ≡ n + 1
parted_where true h xs ys n rest = omega arith
parted_where false h xs ys n rest = omega arith

parted_len : (f : HeldPart → Bool) (hs : List HeldPart) → length (filter f hs) + length (filter (λ h. not (f h)) hs) ≡ length hs
parted_len f [] = refl
parted_len f (h ∷ hs) =
    let one = parted_where (f h) h (filter f hs) (filter (λ h. not (f h)) hs) (length hs) (parted_len f hs) in
    one ∙ (omega arith)

pub told_len : (hs : List HeldPart) → length hs ≤ 16 → length (told_of hs) ≤ 17
told_len hs few =
    let olds = filter (λ h. not (is_fresh h)) hs in
    let all = length-append (pieces (filter is_fresh hs)) (ticked olds) in
    let one = pieces_len (filter is_fresh hs) in
    let two = ticked_len olds in
    let both = parted_len is_fresh hs in
    omega arith

-- ---- commands

untried_told : (cs : List Command) → AreUntried cs → Each IsSayable cs → Each IsSpeltCommand cs
untried_told [] none each = tt
untried_told (c ∷ cs) none each =
    let is = each.0 in
    let zero_tries = none.0 in
    (record { id = is.id; tries = omega arith; least = is.least; most = is.most; bytes = is.bytes }, untried_told cs none.1 each.1)

commands_told : (cs : List Command) → OnlyOldestTried cs → Each IsSayable cs → Each IsSpeltCommand cs
commands_told [] tries each = tt
commands_told (c ∷ cs) tries each =
    let is = each.0 in
    (record { id = is.id; tries = tries.0; least = is.least; most = is.most; bytes = is.bytes }, untried_told cs tries.1 each.1)

-- ---- all

pub can_be_told : (c : Start) → cut_down c.told ≡ c.told → Agrees c.orders.window c.orders.queue → IsSound c.orders.queue
    → IsCommission (commission_of c) → IfSome c.reading IsSpeltReading → length (held c.told) ≤ 16 → All HasSpelt (held c.told)
    → All IsSayable c.orders.queue.commands → IsStart c
can_be_told c short agrees sound commission reading few parts commands = record {
  commission = commission;
  told = record {
    reading = reading;
    marks = subst (Each IsSpeltMark) short (marks_told (held c.told) (each_of HasSpelt (held c.told) parts));
    short = short;
    commands = commands_told c.orders.queue.commands sound.tries (each_of IsSayable c.orders.queue.commands commands);
    sound = sound;
    agrees = agrees;
  };
  few = subst (λ ts. length ts ≤ 17) short (told_len (held c.told) few);
}

pub state_can_be_written : (s : Known) → s.own.0 < 2 ^ 64 → HasRoom s.starts → All IsStart s.starts → IsState s
state_can_be_written s own room all = record { own = own; few = room.few; apart = room.apart; each = each_of IsStart s.starts all }
