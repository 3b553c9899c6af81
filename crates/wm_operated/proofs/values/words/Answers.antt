use Rattle.wm_operated.proofs.Deciding.{word_part, small_words}
use Rattle.wm_operated.proofs.values.words.Goals as goal

pub returns : goal.returns
returns c = record {
  exact = λ z h. word_part c.args.r c.new.result c.meet.result z c.new.ensures.low c.new.ensures.high c.meet.ensures.common c.meet.ensures.each h;
  small = small_words c.args.r c.new.result c.meet.result c.new.ensures.low c.new.ensures.high c.meet.ensures.each;
}
