use Rattle.wm_plain.proofs.Operands.{operand_of}
use Rattle.wm_plain.proofs.plain.operand.Goals as goal

pub returns : goal.returns
returns g c = record { operand = operand_of (g.D.Domain.holds c.args.at.now) c.args.f.now c.new-all.result c.cut.result c.new-all.ensures.low c.new-all.ensures.high c.cut.ensures.exact }
