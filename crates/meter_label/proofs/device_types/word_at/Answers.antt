use Rattle.std.proofs.Common.{ℕ, List, ◌∙◌, Bor}
use Rattle.meter_label.proofs.Words.{text_at}
use Rattle.meter_label.proofs.device_types.word_at.Goals as goal

pub returns : goal.returns
returns c = c.get_word.ensures ∙ text_at (λ (word : Bor (List ℕ)). word.now) c.args.words.now c.args.place
