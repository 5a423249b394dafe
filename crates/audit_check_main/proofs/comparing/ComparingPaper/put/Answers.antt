use Rattle.audit_check_main.proofs.Compared.{put_piece}
use Rattle.audit_check_main.proofs.comparing.ComparingPaper.put.Goals as goal

pub returns : goal.returns
returns c =
    put_piece c.self.inside.text.now c.self.inside.place c.self.inside.differs c.args.bytes.now c.split_at.result.1.now
    c.common-count.result c.args.self.now c.self.view_is c.if-self.false c.split_at.ensures.back c.self.invariant c.common-count.ensures
