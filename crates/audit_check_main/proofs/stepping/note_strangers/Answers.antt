-- Each stranger is that of the list which has the printed order, and a stray line is none of theirs.
use Rattle.std.proofs.Common.{◌≡◌, ◌==◌, ◌∙◌, ℕ, map, length, refl, sym, ap, arith}
use Rattle.std.proofs.lemmas.List.{length-map}
use Rattle.std.specs.List.{position_or_len}
use Rattle.meter_address.specs.declared.address.Address.{Address}
use Rattle.meter_slots.specs.Journal.{Start}
use Rattle.receivers.specs.declared.told.Told.TheVariants as told
use Rattle.receivers.proofs.OrderLaws.{strangers_exist}
use Rattle.audit_check_main.specs.declared.hearing.Sort.TheVariants as sorts
use Rattle.audit_check_main.specs.Hearing.{tells, told_at, sort_of}
use Rattle.lists.proofs.Members.{each_more, each_whole}
use Rattle.audit_check_main.proofs.Claimed.{strange_listed, strange_place}
use Rattle.audit_check_main.proofs.Notes.{noted_told, note_more, all_noted}
use Rattle.audit_check_main.proofs.stepping.note_strangers.Goals as goal

pub returns-in_default-clause-stray : goal.returns-in_default-clause-stray
returns-in_default-clause-stray c = λ _ right.
    let target = strangers_exist c.args.meters.now (map tells c.args.heard.now) c.args.order.now right in
    let t = noted_told c.args.heard.now c.args.meters.now c.args.order.now target.0 target.1 c.loop-pair.pair-index _ c.loop-pair-test.true
    refl in
    c.in_default.not-Event t.item.address t.told_is.0 (c.told_at.ensures ∙ t.told_is.1.0)

pub returns-then-list_of-meters-clause-stray : goal.returns-then-list_of-meters-clause-stray
returns-then-list_of-meters-clause-stray c = λ _ right.
    let target = strangers_exist c.args.meters.now (map tells c.args.heard.now) c.args.order.now right in
    let t = noted_told c.args.heard.now c.args.meters.now c.args.order.now target.0 target.1 c.loop-pair.pair-index _ c.loop-pair-test.true
    refl in
    let both : told.Event c.in-Event.address c.in-Event.field-1 ≡ told.Event t.item.address t.told_is.0 =
    sym (sym c.told_at.ensures ∙ c.in-Event.is) ∙ t.told_is.1.0 in
    let same : c.in-Event.address ≡ t.item.address = cc in
    let is : c.list_of.result ≡ length c.args.meters.now =
    c.list_of.ensures ∙ ((λ i. position_or_len (λ (x : Address). x.0 == (same i).0) (c.requires i))
    ∙ strange_place t.item.address.0 c.args.meters.now t.told_is.1.1) in
    let inside = c.if-list_of-meters.true in omega arith

pub loop-pair-preserved : goal.loop-pair-preserved
loop-pair-preserved c =
    let so = c.loop-pair.invariant in record {
      so = λ target h.
          c.in_ok-note.ensures.ok
          ∙ note_more c.args.heard.now c.args.meters.now c.args.order.now target h c.loop-pair.pair-index _ c.in-Event.address
          c.in-Event.field-1 c.loop-pair.strangers c.loop-pair-test.true refl (so.so target h) (sym c.told_at.ensures ∙ c.in-Event.is);
      own_lines =
          each_more
          (λ (p : ℕ × ℕ). sort_of c.args.directory.now (told_at c.args.heard.now p.0 p.1) ≡ sorts.Listed (length c.args.meters.now))
          c.args.order.now c.loop-pair.pair-index _ (0, 0) so.own_lines c.loop-pair-test.true refl
          (strange_listed c.args.directory.now (length c.args.meters.now) c.list_of.result _ c.in-Event.address c.in-Event.field-1
          (sym c.told_at.ensures ∙ c.in-Event.is) c.list_of.ensures
          (sym (ap length c.requires ∙ length-map c.args.meters.now (λ (m : Start). m.address)))
          (let past = c.if-list_of-meters.false in omega arith));
    }

pub returns-clause-strangers : goal.returns-clause-strangers
returns-clause-strangers c = λ right.
    let target = strangers_exist c.args.meters.now (map tells c.args.heard.now) c.args.order.now right in
    let past = c.loop-pair-test.false in let inside = c.loop-pair.auto.pair-index-end in
    all_noted c.args.heard.now c.args.meters.now c.args.order.now target.0 target.1 c.loop-pair.strangers c.loop-pair.pair-index
    (omega arith) (c.loop-pair.invariant.so target.0 target.1)

pub returns-clause-own_lines : goal.returns-clause-own_lines
returns-clause-own_lines c =
    let past = c.loop-pair-test.false in let inside = c.loop-pair.auto.pair-index-end in
    each_whole (λ (p : ℕ × ℕ). sort_of c.args.directory.now (told_at c.args.heard.now p.0 p.1) ≡ sorts.Listed (length c.args.meters.now))
    c.args.order.now c.loop-pair.pair-index (omega arith) c.loop-pair.invariant.own_lines
