use Rattle.std.proofs.Common.{◌-◌, arith}
use Rattle.wm_lex.specs.Lines.{progress_of}
use Rattle.wm_lex.proofs.Expansion.{plain_full, plain_token}
use Rattle.wm_lex.proofs.state.State.read_token.Goals as goal

pub returns-then-self-eq0 : goal.returns-then-self-eq0
returns-then-self-eq0 c = plain_full (progress_of c.args.self.now) c.args.place c.args.lexeme c.requires c.if-self-eq0.true

pub returns : goal.returns
returns c = rw (c.in_ok-push.ensures.items, c.token_from.ensures) (plain_token (progress_of c.args.self.now) c.args.place c.args.lexeme (c.args.self.now.room - 1) c.requires (omega arith))
