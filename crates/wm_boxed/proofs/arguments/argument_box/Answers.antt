use Rattle.std.proofs.Common.{◌≡◌, ◌<◌, ℕ, nat_lt, true, sym, subst, arith}
use Rattle.wm_boxed.proofs.Cut.{cut_box, taken_here}
use Rattle.wm_boxed.proofs.arguments.argument_box.Goals as goal

pub returns-then-k-arity : goal.returns-then-k-arity
returns-then-k-arity g c = record {
  exact = cut_box (g.D.Domain.holds c.args.at.now) c.args.op c.args.k c.args.f.now c.arg_width.result c.numbers_of-all.result c.cut.result
      (taken_here c.args.op c.args.k (subst (λ (n : ℕ). c.args.k < n) c.arity.ensures.arity c.if-k-arity.true)) c.arg_width.ensures.width c.numbers_of-all.ensures.numbers c.cut.ensures.exact;
}
