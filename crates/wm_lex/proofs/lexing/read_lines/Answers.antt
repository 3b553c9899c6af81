use Rattle.std.proofs.Common.{get_or, [], arith}
use Rattle.wm_lex.specs.Lines.{progress_of, after_lines}
use Rattle.wm_lex.proofs.LineSteps.{line_more, get_or-same}
use Rattle.wm_lex.specs.declared.character.Character.{Character}
use Rattle.wm_lex.proofs.lexing.read_lines.Goals as goal

pub loop-index-preserved-then-character-ne10 : goal.loop-index-preserved-then-character-ne10
loop-index-preserved-then-character-ne10 c =
    let nothing : Character = record { byte = 0; line = 0; column = 0 } in
    let here = get_or-same c.args.characters.now c.loop-index.index nothing c.loop-index-test.true in
    record {
      left = line_more c.args.file (progress_of c.loop-index.state) c.args.characters.now c.loop-index.start c.loop-index.index (get_or c.args.characters.now c.loop-index.index nothing)
          (after_lines c.args.file (progress_of c.args.state.now) [] c.args.characters.now) c.loop-index.invariant.within c.loop-index-test.true here c.if-character-ne10.true c.loop-index.invariant.left;
      within = omega arith;
    }
