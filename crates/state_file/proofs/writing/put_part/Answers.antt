use Rattle.std.proofs.Common.{ap, sym}
use Rattle.hex.specs.Hex.{encode_lower}
use Rattle.paper.proofs.Items.{is_put}
use Rattle.state_file.proofs.SpeltParts.{room}
use Rattle.state_file.proofs.StatePieces.{part_pieces}
use Rattle.state_file.proofs.writing.put_part.Goals as goal

pub slice_bounds-out-end : goal.slice_bounds-out-end
slice_bounds-out-end g c =
    let spelt = c.spell-len.ensures in
    (room c.args.part.now c.spell-len.new.out c.spell-len.result spelt.fragment spelt.fits spelt.most spelt.text c.spell-len.array_long).0

pub slice_bounds-put_hex-end : goal.slice_bounds-put_hex-end
slice_bounds-put_hex-end g c =
    let spelt = c.spell-len.ensures in
    (room c.args.part.now c.spell-len.new.out c.spell-len.result spelt.fragment spelt.fits spelt.most spelt.text c.spell-len.array_long).1

pub returns : goal.returns
returns g c =
    part_pieces c.args.part.now c.put_text.ensures
    (is_put _ _ (ap encode_lower (sym c.spell-len.ensures.text)) c.put_hex.ensures) c.put_text-2.ensures
