use Rattle.std.proofs.Common.{◌≡◌}
use Rattle.json.specs.Print.{escape}
use Rattle.paper.specs.Puts.{Puts}
use Rattle.state_file.specs.Written.{block_text}
use Rattle.step_text.proofs.Escaped.{put_inside}
use Rattle.step_text.proofs.block.put_inside.Goals as goal

done : (g : _) (c : goal.After-put_block g) → (c.put_block.new.paper.paper.ghost_name ≡ c.args.inside.now.paper.ghost_name)
    × Puts g.P.Paper.takes c.args.inside.now.paper.now (escape (block_text c.args.known.now)) c.put_block.new.paper.paper.now
done g c =
    put_inside (λ p. p.paper.ghost_name) (λ p. p.paper.now) g.P.Paper.takes _ (λ i bytes j took. took)
    c.args.inside.now c.put_block.new.paper _ c.put_block.ensures

pub returns-clause-same : goal.returns-clause-same
returns-clause-same g c = (done g c).0

pub returns-clause-puts : goal.returns-clause-puts
returns-clause-puts g c = (done g c).1
