use Rattle.wm_spans.proofs.Writing.{write_found_kept, write_found_near}
use Rattle.wm_spans.proofs.spans.Spans.write.Goals as goal

pub returns-in-Some-clause-kept : goal.returns-in-Some-clause-kept
returns-in-Some-clause-kept c = write_found_kept c.args.self.now c.put_cells.new.self c.args.a c.requires.inside c.full_array.ensures.kept c.full_array.result c.full_array.ensures.value c.args.r c.in-Some.common c.args.count
    c.array.result c.write-written.result c.array.ensures.value c.in-Some.ensures.each c.write-written.ensures.ends c.put_cells.ensures.value

pub returns-in-Some-clause-near : goal.returns-in-Some-clause-near
returns-in-Some-clause-near c = write_found_near c.args.self.now c.put_cells.new.self c.args.a c.requires.inside c.full_array.ensures.kept c.full_array.result c.full_array.ensures.value c.args.r c.in-Some.common c.args.count
    c.array.result c.write-written.result c.array.ensures.value c.in-Some.ensures.each c.write-written.ensures.ends c.put_cells.ensures.value
