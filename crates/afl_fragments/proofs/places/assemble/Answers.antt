use Rattle.std.proofs.Common.{◌≡◌, ◌<◌, ◌+◌, ◌++◌, List, ℕ, get_or, ap, sym, ◌∙◌, arith, cond, Some, None, take, length}
use Rattle.std.specs.Prelude.{option_map}
use Rattle.std.specs.List.{flat_map}
use Rattle.std.proofs.lemmas.List.{get_or_read}
use Rattle.afl_layer.specs.declared.header.Auth.{Auth}
use Rattle.afl_fragments.specs.declared.places.HeldPart.{HeldPart}
use Rattle.afl_fragments.specs.Held.{last_end, front, joined, auth_of}
use Rattle.afl_fragments.specs.Places.{no_held, at_place, held_in, parts_in}
use Rattle.afl_fragments.proofs.PlaceLaws.{last_end_place}
use Rattle.afl_fragments.proofs.FrontLaws.{assembled_none, assembled_at, joined_places}
use Rattle.afl_fragments.proofs.places.assemble.Goals as goal

pub returns-in_err-end-clause-message : goal.returns-in_err-end-clause-message
returns-in_err-end-clause-message c =
    let places = c.args.places.now in
    let order = c.args.order.now in
    rw c.from_residual.ensures
    (sym (assembled_none (held_in places order)
    (sym (ap (option_map (at_place places)) c.in_err-end.ensures.first ∙ last_end_place places order))))

pub returns-then-not-is_front_held-clause-message : goal.returns-then-not-is_front_held-clause-message
returns-then-not-is_front_held-clause-message c =
    let places = c.args.places.now in
    let order = c.args.order.now in
    let end = c.in_ok-end.end in
    let ends : last_end (held_in places order) ≡ Some (at_place places end) =
    sym (ap (option_map (at_place places)) c.in_ok-end.ensures.first ∙ last_end_place places order) in
    let missing : front end (held_in places order) ≡ None =
    c.is_front_held.ensures ∙ ap (λ b. cond b (Some (parts_in (take end places))) None) c.if-not-is_front_held.true in
    sym (assembled_at places order end ends c.in_ok-end.ensures.held
    ∙ ap (option_map (λ parts. joined parts (at_place places end).part)) missing)

pub returns-clause-message : goal.returns-clause-message
returns-clause-message c =
    let places = c.args.places.now in
    let order = c.args.order.now in
    let end = c.in_ok-end.end in
    let ends : last_end (held_in places order) ≡ Some (at_place places end) =
    sym (ap (option_map (at_place places)) c.in_ok-end.ensures.first ∙ last_end_place places order) in
    let front_is : front end (held_in places order) ≡ Some (parts_in (take end places)) =
    c.is_front_held.ensures ∙ ap (λ b. cond b (Some (parts_in (take end places))) None) c.if-not-is_front_held.false in
    let within : end < length places = omega (arith, c.type_inv.places, c.in_ok-end.ensures.held.0) in
    let first : get_or places 0 c.index-places-0.result ≡ at_place places 0 =
    sym c.index-places-0.is ∙ get_or_read places 0 _ (omega (arith, within)) c.index-places-0.is no_held in
    let last : get_or places end c.index-places-end.result ≡ at_place places end =
    sym c.index-places-end.is ∙ get_or_read places end _ within c.index-places-end.is no_held in
    let auth : c.auth_between.result ≡ auth_of (at_place places 0).part (at_place places end).part =
    c.auth_between.ensures ∙ ap (λ (h : HeldPart). auth_of h.part (get_or places end c.index-places-end.result).part) first
    ∙ ap (λ (h : HeldPart). auth_of (at_place places 0).part h.part) last in
    let bytes : c.join.new.out ≡ flat_map (λ p. p.bytes) (parts_in (take (end + 1) places)) =
    c.join.ensures ∙ ap (λ (before : List ℕ). before ++ flat_map (λ p. p.bytes) (parts_in (take (end + 1) places))) c.clear.ensures in
    ap (λ (a : Auth). Some (record { auth = a; bytes = c.join.new.out })) auth
    ∙ ap (λ (bs : List ℕ). Some (record { auth = auth_of (at_place places 0).part (at_place places end).part; bytes = bs })) bytes
    ∙ sym (assembled_at places order end ends c.in_ok-end.ensures.held
    ∙ ap (option_map (λ parts. joined parts (at_place places end).part)) front_is ∙ ap Some (joined_places places end within))
