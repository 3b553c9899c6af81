-- The scope around is the last of those outside.
use Rattle.std.proofs.Common.{◌≡◌}
use Rattle.wm_members.proofs.Scopes.{left-behind}
use Rattle.wm_members.proofs.state.State.leave.Goals as goal

pub returns-in-Some : goal.returns-in-Some
returns-in-Some c =
    let e : c.replace-closed.new.dest ≡ c.in-Some.outside = c.replace-closed.ensures.after in
    rw e (record { left = left-behind c.args.self.now c.pop.new.self c.in-Some.outside c.in-Some.ensures })
