use Rattle.std.proofs.Common.{◌∙◌, ap, drop}
use Rattle.line_reader.proofs.HeldLemmas.{advanced}
use Rattle.line_reader.proofs.held.HeldBytes.advance.Goals as goal

pub returns : goal.returns
returns c = advanced c.self.inside.bytes c.self.inside.start c.self.inside.end c.args.count ∙ ap (drop c.args.count) c.self.view_is
