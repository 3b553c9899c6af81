use Rattle.std.proofs.Common.{sym}
use Rattle.wm_lex.specs.Pieces.{pieces}
use Rattle.wm_lex.proofs.PieceSteps.{piece_pushed}
use Rattle.wm_lex.proofs.piece.pieces.Goals as goal

pub loop-first-preserved : goal.loop-first-preserved
loop-first-preserved c =
    piece_pushed c.args.file c.loop-first.spaced c.loop-first.found.items c.push.new.self.items c.in-Some.first.now c.loop-first.left.now c.in-Some.rest.now c.in_ok-front.front c.place_of.result (pieces c.args.file c.args.line.now)
    c.in_ok-push.ensures.items c.in_ok-front.ensures.front c.place_of.ensures c.in-Some.ensures.cases.0 (sym c.if-is_space.ensures) c.loop-first.invariant
