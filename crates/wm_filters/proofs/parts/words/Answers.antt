use Rattle.wm_filters.proofs.Staying.{words_of}
use Rattle.wm_filters.proofs.parts.words.Goals as goal

pub returns : goal.returns
returns c = record { words = words_of c.args.r c.new-all.result c.meet.result c.new-all.ensures.low c.new-all.ensures.high c.meet.ensures.common c.meet.ensures.each }
