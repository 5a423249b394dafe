use Rattle.written_words.proofs.Words.{fields_joined, joined_printed}
use Rattle.written_words.proofs.words_are_fields.Goals as goal

pub returns : goal.returns
returns _ = λ word words is each. record { fields = fields_joined word words is each; printed = joined_printed word words is each }
