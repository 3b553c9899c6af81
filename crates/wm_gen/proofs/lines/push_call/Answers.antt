use Rattle.std.proofs.Common.{append_assoc}
use Rattle.wm_gen.specs.Example.{call_line}
use Rattle.wm_gen.proofs.lines.push_call.Goals as goal

pub returns : goal.returns
unfolding call_line
returns c = rw (c.in_ok-push_bytes-2.ensures, c.in_ok-push_number.ensures, c.in_ok-push_bytes.ensures) (simp append_assoc)
