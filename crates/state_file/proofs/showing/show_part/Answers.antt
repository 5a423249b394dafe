use Rattle.state_file.proofs.SpeltParts.{room}
use Rattle.state_file.proofs.Telling.{part_can_be_told}
use Rattle.state_file.proofs.showing.show_part.Goals as goal

pub slice_bounds-out-end : goal.slice_bounds-out-end
slice_bounds-out-end c =
    let spelt = c.spell-len.ensures in
    (room c.part.result.now c.spell-len.new.out c.spell-len.result spelt.fragment spelt.fits spelt.most spelt.text c.spell-len.array_long).0

pub slice_bounds-show_bytes-end : goal.slice_bounds-show_bytes-end
slice_bounds-show_bytes-end c =
    let spelt = c.spell-len.ensures in
    (room c.part.result.now c.spell-len.new.out c.spell-len.result spelt.fragment spelt.fits spelt.most spelt.text c.spell-len.array_long).1

pub returns : goal.returns
returns c =
    part_can_be_told c.args.part.now.part c.part.result.now _ c.part.ensures c.spell-len.ensures.fragment c.spell-len.ensures.fits
    c.spell-len.ensures.most c.requires c.spell-len.ensures.text c.show_bytes.ensures
