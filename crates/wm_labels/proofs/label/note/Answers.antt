use Rattle.wm_labels.proofs.Noting.{noted_one}
use Rattle.wm_labels.proofs.label.note.Goals as goal

pub returns-clause-noted : goal.returns-clause-noted
returns-clause-noted g c =
    noted_one g.M.Images.allowed g.D.Domain.holds g.D.Domain.shape_of c.args.graph.now c.args.kept.now.1 c.args.live.now c.set_mark.new.marks c.args.number c.args.image.now c.has_point-mark.result c.set_mark.ensures c.has_point-mark.ensures.none c.requires.shape c.requires.sound
