use Rattle.std.proofs.Common.{◌≤◌, length, subst, sym}
use Rattle.wm_worst_text.proofs.words.push_choice.Goals as goal

pub push_loop_lines-requires : goal.push_loop_lines-requires
push_loop_lines-requires c = subst (λ heads. length heads ≤ 4294967296) (sym c.items-2.ensures.items) c.requires
