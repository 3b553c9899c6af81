use Rattle.std.proofs.Common.{refl, []}
use Rattle.wm_tied.proofs.Drawing.{cut_fewer, cut_group, cut_singles, cut_picked_of, alike_of_two}
use Rattle.wm_projected.proofs.drawn.fitted.Goals as goal

pub returns : goal.returns
returns c = record {
  fitted = record {
    alike = alike_of_two c.args.tied.now c.in_ok-copy.copy c.cut_picked.new.self c.cut_picked-2.new.self c.in_ok-copy.ensures.same c.cut_picked.ensures.alike c.cut_picked-2.ensures.alike;
    fewer = cut_fewer c.args.tied.now c.in_ok-copy.copy c.cut_picked.new.self c.cut_picked-2.new.self c.args.group.now c.args.singles.now c.args.picks.now [] _ refl c.requires.long c.in_ok-copy.ensures.same c.cut_picked.ensures.alike c.cut_picked-2.ensures.alike c.cut_picked.ensures.points c.cut_picked-2.ensures.points;
    group_lies = cut_group c.args.tied.now c.in_ok-copy.copy c.cut_picked.new.self c.cut_picked-2.new.self c.args.group.now c.args.singles.now c.args.picks.now [] _ refl c.requires.long c.in_ok-copy.ensures.same c.cut_picked.ensures.alike c.cut_picked-2.ensures.alike c.cut_picked.ensures.points c.cut_picked-2.ensures.points;
    singles_lie = cut_singles c.args.tied.now c.in_ok-copy.copy c.cut_picked.new.self c.cut_picked-2.new.self c.args.group.now c.args.singles.now c.args.picks.now [] _ refl c.requires.long c.in_ok-copy.ensures.same c.cut_picked.ensures.alike c.cut_picked-2.ensures.alike c.cut_picked.ensures.points c.cut_picked-2.ensures.points;
    picked = λ t arrays e f p i d. cut_picked_of c.args.tied.now c.in_ok-copy.copy c.cut_picked.new.self c.cut_picked-2.new.self c.args.group.now c.args.singles.now c.args.picks.now arrays _ refl c.requires.long c.in_ok-copy.ensures.same c.cut_picked.ensures.alike c.cut_picked-2.ensures.alike c.cut_picked.ensures.points c.cut_picked-2.ensures.points t e f p i d;
  };
}
