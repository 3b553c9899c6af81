-- What is around a statement, as contracts see it.
use Rattle.wm_flow.specs.Statements as statements
use Rattle.wm_control.specs.declared.around.Around.{Around}

unfoldable pub around_of : Around → statements.Around
around_of around =
    record {
      stop = around.stop;
      again = around.again;
      exit = around.exit;
      near = around.near.now;
      far = around.far.now;
    }
