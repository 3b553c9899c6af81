use Rattle.wm_tied.specs.Pointed.{In}
use Rattle.wm_tied.specs.Leaving.{IsAlike, IsExactly}
use Rattle.wm_tied.specs.Projecting.{ArePicked}
use Rattle.wm_tied.proofs.tied.Tied.cut_picked.Given as goal

abbrev pub invariant-loop-k : goal.invariant-loop-k
invariant-loop-k l = record {
  alike : IsAlike l.fn.self l.self;
  points : IsExactly l.self (ArePicked (In l.fn.self) l.full l.picks l.first l.k);
}
