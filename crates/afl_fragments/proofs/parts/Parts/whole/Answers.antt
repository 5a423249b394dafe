use Rattle.std.proofs.Common.{ap, ◌∙◌, List, ℕ}
use Rattle.afl_fragments.specs.Held.{assembled}
use Rattle.afl_fragments.specs.Places.{held_in}
use Rattle.afl_fragments.proofs.HistoryLaws.{message_of}
use Rattle.afl_fragments.proofs.Room.{whole_room}
use Rattle.afl_fragments.proofs.parts.Parts.whole.Goals as goal

pub returns-clause-room : goal.returns-clause-room
returns-clause-room c =
    whole_room _ _ _
    (c.assemble.ensures.message ∙ ap (λ (is : List ℕ). assembled (held_in c.self.inside.places is)) c.as_slice.ensures.value
    ∙ ap assembled c.self.view_is)

pub returns-clause-told : goal.returns-clause-told
returns-clause-told c =
    λ told m stands. message_of _ told m _ stands
    (c.assemble.ensures.message ∙ ap (λ (is : List ℕ). assembled (held_in c.self.inside.places is)) c.as_slice.ensures.value
    ∙ ap assembled c.self.view_is)
