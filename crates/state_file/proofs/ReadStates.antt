-- What holds of each state that is read.
use Rattle.std.proofs.Common.{◌≡◌, ℕ, ◌<◌, ◌^◌, List, [], ◌∷◌, ◌++◌, map, codes, Option, Some, None, Result, Ok, Err, refl, ap, sym, subst, ◌∙◌, arith, length-append}
use Rattle.std.proofs.lemmas.List.{length-map, map-append}
use Rattle.std.proofs.lemmas.Simd.{map-map}
use Rattle.std.specs.Str.Lines.{lines}
use Rattle.lists.specs.Each.{Each}
use Rattle.lists.specs.Steps.{◌>>=◌}
use Rattle.lists.proofs.Members.{each_push}
use Rattle.plain_text.specs.Parts.{fields_of, is_word}
use Rattle.afl_fragments.specs.Short.{told_of}
use Rattle.afl_fragments.proofs.Holding.{held-nothing}
use Rattle.meter_address.specs.declared.address.Address.{Address}
use Rattle.meter_address.specs.Address.{AreApart}
use Rattle.meter_address.specs.Commission.{Commissioned, IsCommission}
use Rattle.meter_slots.specs.Journal.{Start, fresh_start}
use Rattle.roster_file.specs.declared.fields.Version.TheVariants.{Two}
use Rattle.roster_file.specs.declared.roster.LineCause.{LineCause}
use Rattle.roster_file.specs.declared.roster.LineCause.TheVariants as roster
use Rattle.roster_file.specs.declared.roster.RosterFault.{RosterFault}
use Rattle.roster_file.specs.Enrolled.{IsEnrolled}
use Rattle.roster_file.specs.Roster.{Enrolled, entries_from, meter_of, own_of, roster_of}
use Rattle.roster_file.proofs.Enrolling.{meter_fits, own_fits, read_is_enrolled}
use Rattle.state_file.specs.declared.cause.StateCause.{StateCause}
use Rattle.state_file.specs.declared.fault.FileCause.{FileCause}
use Rattle.state_file.specs.declared.fault.StateFault.{StateFault}
use Rattle.state_file.specs.Rooms.{HasRoom}
use Rattle.state_file.specs.State.{with_line}
use Rattle.state_file.specs.Whole.{Known, Progress, all_of, at_line, by_roster, by_meter, ended, enlisted, headed, no_meters, of_roster, one_of, opens_meter, owned, read_more, starts_of, state_of, with_last, with_own}
use Rattle.state_file.specs.Written.{IsStart, IsState}
use Rattle.roster_file.proofs.Gives.{Gives, gives_ok, gives_err, gives_where, gives_then}
use Rattle.roster_file.proofs.Apart.{CanStand, none_stand, enlisted_stand}
use Rattle.state_file.proofs.Telling.{each_made}
use Rattle.state_file.proofs.ReadLines.{Stays, line_leaves}

-- ---- what an answer gives, where its cause is told in another way

roster_gives : {A : Type 0} (P : A → Type 0) (r : Result A LineCause) → Gives P r → Gives P (by_roster r)
roster_gives P (Ok x) gives = gives_ok P x (gives x refl)
roster_gives P (Err cause) gives = gives_err P _

meter_gives : {A : Type 0} (P : A → Type 0) (r : Result A StateCause) → Gives P r → Gives P (by_meter r)
meter_gives P (Ok x) gives = gives_ok P x (gives x refl)
meter_gives P (Err cause) gives = gives_err P _

line_gives : {A : Type 0} (P : A → Type 0) (n : ℕ) (r : Result A FileCause) → Gives P r → Gives P (at_line n r)
line_gives P n (Ok x) gives = gives_ok P x (gives x refl)
line_gives P n (Err cause) gives = gives_err P _

-- ---- the meters

pub fresh_is : (c : Commissioned) → IsCommission c → IsStart (fresh_start c)
fresh_is c is = record {
  commission = is;
  told = record {
    reading = tt;
    marks = tt;
    short = ap told_of held-nothing;
    commands = tt;
    sound = record { few = omega arith; rising = omega arith; tries = tt };
    agrees = tt;
  };
  few = omega arith;
}

abbrev Stand : List Start → Type 0
Stand starts = CanStand (λ c. c.address) IsStart starts

abbrev Goes : Progress → Type 0
Goes p = Stand (all_of p)

each_parts : {A : Type 0} (P : A → Type 0) (xs ys : List A) → Each P (xs ++ ys) → Each P xs × Each P ys
each_parts P [] ys each = (tt, each)
each_parts P (x ∷ xs) ys each = let parts = each_parts P xs ys each.1 in ((each.0, parts.0), parts.1)

-- one that stays with its address, in the place of the last
last_changed : (before : List Start) (c d : Start) → Stays c d → Stand (before ++ c ∷ []) → Stand (before ++ d ∷ [])
last_changed before c d stays stand =
    let address = λ (m : Start). m.address in record {
      few = (let few = stand.few in omega (arith, length-append before (c ∷ []), length-append before (d ∷ [])));
      apart = subst AreApart (map-append address before (c ∷ []) ∙ ap (λ a. map address before ++ a ∷ []) (sym stays.same)
          ∙ sym (map-append address before (d ∷ []))) stand.apart;
      each = each_push IsStart before d (each_parts IsStart before (c ∷ []) stand.each).0 stays.start;
    }

enlisted_goes : (starts : List Start) (c : Commissioned) → Stand starts → IsCommission c → Gives Goes (enlisted starts c)
enlisted_goes starts c stand is =
    enlisted_stand (λ m. m.address) IsStart Goes starts (fresh_start c) (record { before = starts; last = Some (fresh_start c) })
    roster.Same roster.TooMany stand (fresh_is c is) (λ all. all)

last_goes : (before : List Start) (o : Option Start) (line : List ℕ) → Stand (before ++ one_of o) → Gives Goes (with_last before o line)
last_goes before None line stand = gives_err Goes _
last_goes before (Some c) line stand =
    let is = (each_parts IsStart before (c ∷ []) stand.each).1.0 in
    gives_then Goes (by_meter (with_line c line)) _ (λ d h. gives_ok Goes (record { before = before; last = Some d })
    (last_changed before c d (meter_gives (Stays c) (with_line c line) (line_leaves c line is) d h) stand))

more_goes : (p : Progress) (line : List ℕ) → Goes p → Gives Goes (read_more p line)
unfolding read_more
more_goes p line stand =
    gives_where Goes (opens_meter (fields_of line)) _ _
    (roster_gives Goes (meter_of Two line >>= enlisted (all_of p))
    (gives_then Goes (meter_of Two line) _ (λ c h. enlisted_goes (all_of p) c stand (meter_fits Two line c h))))
    (last_goes p.before p.last line stand)

ended_goes : (starts : List Start) (entries : List (ℕ × List ℕ)) → Stand starts → Gives Stand (ended starts entries)
ended_goes starts [] stand = gives_ok Stand starts stand
ended_goes starts (e ∷ entries) stand = gives_err Stand _

starts_go : (p : Progress) (entries : List (ℕ × List ℕ)) (end : ℕ) → Goes p → Gives Stand (starts_of p entries end)
unfolding starts_of
starts_go p [] end stand = gives_err Stand _
starts_go p (e ∷ entries) end stand =
    gives_where Stand (is_word e.1 (codes "end")) _ _ (ended_goes (all_of p) entries stand)
    (gives_then Stand (at_line e.0 (read_more p e.1)) _ (λ q h.
    starts_go q entries end (line_gives Goes e.0 (read_more p e.1) (more_goes p e.1 stand) q h)))

starts_stand : (entries : List (ℕ × List ℕ)) (end : ℕ) → Gives Stand (starts_of no_meters entries end)
starts_stand entries end = starts_go no_meters entries end (none_stand (λ c. c.address) IsStart)

pub starts_have_room : (entries : List (ℕ × List ℕ)) (end : ℕ) (ss : List Start) → starts_of no_meters entries end ≡ Ok ss → HasRoom ss
starts_have_room entries end ss h = let all = starts_stand entries end ss h in record { few = all.few; apart = all.apart }

-- ---- the whole

state_with : (own : Address) (starts : List Start) → own.0 < 2 ^ 64 → Stand starts → IsState (record { own = own; starts = starts })
state_with own starts small stand = record { own = small; few = stand.few; apart = stand.apart; each = stand.each }

own_gives : (own : Address) (r : Result (List Start) StateFault) → own.0 < 2 ^ 64 → Gives Stand r → Gives IsState (with_own own r)
own_gives own (Ok starts) small stand = gives_ok IsState _ (state_with own starts small (stand starts refl))
own_gives own (Err fault) small stand = gives_err IsState fault

owned_gives : (entries : List (ℕ × List ℕ)) (end : ℕ) → Gives IsState (owned entries end)
unfolding owned
owned_gives [] end = gives_err IsState _
owned_gives (e ∷ entries) end =
    gives_then IsState (at_line e.0 (by_roster (own_of e.1))) _ (λ own h.
    own_gives own (starts_of no_meters entries end)
    (line_gives _ e.0 (by_roster (own_of e.1)) (roster_gives _ (own_of e.1) (own_fits e.1)) own h) (starts_stand entries end))

fresh_stand : (r : Enrolled) → IsEnrolled r → Stand (map fresh_start r.meters)
fresh_stand r is = record {
  few = (let few = is.few in omega (arith, length-map r.meters fresh_start));
  apart = subst AreApart (sym (map-map (λ (m : Start). m.address) fresh_start r.meters)) is.apart;
  each = each_made IsCommission IsStart fresh_start fresh_is r.meters is.each;
}

pub enrolled_have_room : (r : Enrolled) (ms : List Commissioned) (ss : List Start) → IsEnrolled r → ms ≡ r.meters → ss ≡ map fresh_start ms
    → HasRoom ss
enrolled_have_room r ms ss enrolled same is =
    let all = fresh_stand r enrolled in
    subst HasRoom (sym (is ∙ ap (map fresh_start) same)) (record { few = all.few; apart = all.apart })

roster_state : (r : Result Enrolled RosterFault) → Gives IsEnrolled r → Gives IsState (of_roster r)
roster_state (Ok r) enrolled =
    let is = enrolled r refl in gives_ok IsState _ (state_with r.own (map fresh_start r.meters) is.own (fresh_stand r is))
roster_state (Err fault) enrolled = gives_err IsState _

headed_gives : (entries : List (ℕ × List ℕ)) (end : ℕ) (otherwise : Result Known StateFault) → Gives IsState otherwise
    → Gives IsState (headed entries end otherwise)
unfolding headed
headed_gives [] end otherwise gives = gives
headed_gives (e ∷ entries) end otherwise gives =
    gives_where IsState (is_word e.1 (codes "wmbus-state 1")) _ _ (owned_gives entries end) gives

pub read_is_state : (bytes : List ℕ) → Gives IsState (state_of bytes)
unfolding state_of
read_is_state bytes =
    gives_where IsState _ _ _ (gives_err IsState _)
    (headed_gives (entries_from 1 (lines bytes)) _ _ (roster_state (roster_of bytes) (read_is_enrolled bytes)))
