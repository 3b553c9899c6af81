use Rattle.std.proofs.Common.{◌≡◌, ◌∙◌, sym, length, arith}
use Rattle.std.proofs.Math.ListN.{length-set}
use Rattle.wm_interp.specs.Standing.{stand_of}
use Rattle.wm_observe.specs.Lines.{looked_at}
use Rattle.wm_observe.specs.Standing.{objects_in}
use Rattle.wm_observe.proofs.Looks.{all_left, none_left, one_more}
use Rattle.wm_observe.proofs.lines.look.Goals as goal

pub loop-k-preserved : goal.loop-k-preserved
loop-k-preserved c = record {
  same = length-set c.loop-k.lines.items c.loop-k.k c.looked_at.result ∙ c.loop-k.invariant.same;
  rest =
      one_more (looked_at (objects_in (stand_of c.args.machine.now))) c.loop-k.k c.loop-k.lines.items c.line_at-line.result c.looked_at.result
      (omega arith) (c.line_at-line.ensures c.line_at-line.result) c.looked_at.ensures ∙ c.loop-k.invariant.rest;
}

pub returns : goal.returns
returns c =
    sym (none_left (looked_at (objects_in (stand_of c.args.machine.now))) c.loop-k.k c.loop-k.lines.items (omega arith))
    ∙ c.loop-k.invariant.rest ∙ all_left (looked_at (objects_in (stand_of c.args.machine.now))) c.args.lines.now.items
