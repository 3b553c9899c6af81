use Rattle.std.proofs.Common.{◌≡◌, map, take}
use Rattle.wm_tested.specs.Likes.{turned}
use Rattle.wm_tested.proofs.forms.with_constant.Given as goal

abbrev pub invariant-loop-term : goal.invariant-loop-term
invariant-loop-term l = l.terms ≡ map (turned l.negative) (take l.term-index l.f.terms)
