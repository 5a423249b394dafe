-- A frame of a telegram is shown by the telegram's layers.
use Rattle.std.proofs.Common.{refl}
use Rattle.frame_formats.proofs.EitherFormat.{frames_are_decoded}
use Rattle.message_check.proofs.LayerLaws.{layers_again}
use Rattle.frame_inspect_main.specs.Layered.{telegram_text, said_line}
use Rattle.frame_inspect_main.specs.Laws.{FramesAreShown}

pub frames_are_shown : FramesAreShown
unfolding said_line telegram_text
frames_are_shown number next format at bytes t l says are frame layers =
    rw (says, (frames_are_decoded format bytes t are).1 frame, layers_again t l layers) refl
