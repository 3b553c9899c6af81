use Rattle.wm_program.specs.Code.{code_of}
use Rattle.wm_layouts.specs.Ranges.{ranges_of}
use Rattle.wm_layouts.proofs.Paths.{path_on_ok}
use Rattle.wm_layouts.proofs.locals.+push_path.Goals as goal

pub returns-in_ok-push_path-in-Some : goal.returns-in_ok-push_path-in-Some
returns-in_ok-push_path-in-Some t c =
    path_on_ok c.push_arrays-in-Some.result (code_of c.args.program.now) c.args.levels c.args.instance c.in-Some.caller
    (ranges_of c.args.list.now) (ranges_of c.push_path.new.list) (ranges_of c.push_arrays-in-Some.new.list) c.locals_of-in-Some.result.now
    c.if-levels-eq0.false c.in-Some.ensures c.in_ok-push_path-in-Some.ensures c.locals_of-in-Some.ensures c.push_arrays-in-Some.ensures
