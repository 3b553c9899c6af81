use Rattle.std.proofs.Common.{append_assoc}
use Rattle.wm_gen.specs.Example.{function_line}
use Rattle.wm_gen.proofs.lines.push_function.Goals as goal

pub returns : goal.returns
unfolding function_line
returns c = rw (c.in_ok-push_bytes-5.ensures, c.in_ok-push_number-4.ensures, c.in_ok-push_bytes-4.ensures, c.in_ok-push_number-3.ensures, c.in_ok-push_bytes-3.ensures, c.in_ok-push_number-2.ensures, c.in_ok-push_bytes-2.ensures, c.in_ok-push_number.ensures, c.in_ok-push_bytes.ensures) (simp append_assoc)
