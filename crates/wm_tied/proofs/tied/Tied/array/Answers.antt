use Rattle.std.proofs.Common.{◌<◌, length, sym, subst}
use Rattle.wm_tied.specs.Pointed.{TiedView, In, HasPoint}
use Rattle.wm_arrays.specs.Meaning.{IsLeastFor}
use Rattle.wm_domain.specs.Changes.{IsCellOf}
use Rattle.wm_tied.proofs.Cutting.{summary_least}
use Rattle.wm_tied.proofs.tied.Tied.array.Goals as goal

pub returns : goal.returns
returns c = record {
  least = subst (λ (u : TiedView). HasPoint u → IsLeastFor (IsCellOf (In u) c.args.a) c.array.result) c.self.view_is
      (λ h. summary_least (record { group = c.self.inside.group.items; ties = c.self.inside.ties; spans = c.self.inside.spans }) h c.args.a (subst (λ (u : TiedView). c.args.a < length u.spans.array_full) (sym c.self.view_is) c.requires.inside) c.array.result c.array.ensures.value);
}
