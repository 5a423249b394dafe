use Rattle.std.proofs.Common.{arith}
use Rattle.frame_formats.proofs.Division.{each_byte}
use Rattle.frame_formats.proofs.EitherFormat.{decodes}
use Rattle.frame_formats.proofs.format.decode.Goals as goal

pub returns-clause-decodes : goal.returns-clause-decodes
returns-clause-decodes c =
    decodes c.args.format c.args.bytes.now _ _ c.read.result (each_byte c.args.bytes.now (λ k. omega (arith, c.type_inv.bytes k)))
    c.read.ensures.exact c.read.ensures.err
