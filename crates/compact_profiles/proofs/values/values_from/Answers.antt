use Rattle.std.proofs.Common.{◌≡◌, ◌+◌, ◌-◌, length, take, refl, ap, ◌∙◌, arith, length-set}
use Rattle.compact_profiles.specs.SentValues.{sent_value}
use Rattle.compact_profiles.specs.Values.{value_behind}
use Rattle.compact_profiles.specs.declared.values.ProfileValue.{ProfileValue}
use Rattle.compact_profiles.proofs.Onward.{values_more, found_more, found_all, bytes_left, value_is}
use Rattle.compact_profiles.proofs.values.values_from.Goals as goal

pub values-preserved : goal.values-preserved
values-preserved c =
    let less : c.values.left ≡ c.values.left - 1 + 1 = omega arith in
    let bytes = bytes_left c.values.left (c.values.left - 1) c.args.profile.width (length c.values.rest.now) less c.values.invariant.bytes in
    let value : c.value_behind-last.result
    ≡ value_behind c.args.profile.kind c.args.profile.mode c.values.last
    (sent_value c.args.profile.mode c.args.profile.field (take c.args.profile.width c.values.rest.now)) =
    c.value_behind-last.ensures
    ∙ ap (value_behind c.args.profile.kind c.args.profile.mode c.values.last)
    (c.sent_value.ensures ∙ ap (sent_value c.args.profile.mode c.args.profile.field) c.split_at.ensures.front) in
    let more =
    values_more c.args.profile c.values.number c.values.last c.value_behind-last.result c.values.left (c.values.left - 1) c.values.rest.now less value in
    record {
      room = omega (arith, length-set {A = ProfileValue});
      places = omega arith;
      bytes = omega (arith, bytes.1, c.split_at.ensures.back_len);
      numbers = omega arith;
      same = rw (c.split_at.ensures.back, c.number_behind.ensures) (found_more c.values.found c.values.place
          (value_is c.args.profile (c.values.number + 1) c.value_behind-last.result)
          (value_is c.args.profile (c.values.number + 1) c.value_behind-last.result) _ _ _ (omega arith) refl more c.values.invariant.same);
    }

pub returns : goal.returns
returns c =
    found_all c.args.profile c.values.found c.values.place c.values.left c.args.profile.count c.values.number c.values.last c.values.rest.now _
    (omega arith) (omega arith) c.values.invariant.same
