use Rattle.std.proofs.Common.{ap, length, arith}
use Rattle.wm_scope.proofs.Declared.{length-names_of}
use Rattle.wm_scope.proofs.names.Names.len.Goals as goal

pub returns : goal.returns
returns c = record { length = omega (arith, c.len.ensures, c.self.inside.entries.ok.0, length-names_of c.self.inside.entries.items, ap length c.self.view_is) }
