use Rattle.std.proofs.Common.{w64, rules}
use Rattle.std.specs.Prelude.{FitsSigned}
use Rattle.std.proofs.lemmas.Int.{to_z-of_z}
use Rattle.wm_domain.specs.States.{count_of}
use Rattle.wm_assign.specs.Giving.{rest_form}
use Rattle.wm_middle.specs.Parting.{part_at, part_value}
use Rattle.wm_entered.proofs.Giving.{variable_is_form, difference_same}
use Rattle.wm_entered.proofs.values.put_beside.Goals as goal

pub returns-in-None-clause-kept : goal.returns-in-None-clause-kept
returns-in-None-clause-kept g c = record { kept = λ was p i h k. c.put_any.ensures.kept.kept _ i h k.0 }

pub put_difference-requires-clause-rest : goal.put_difference-requires-clause-rest
put_difference-requires-clause-rest g c =
    let fits : FitsSigned w64 c.args.f.now.constant = search rules in
    let form = simp to_z-of_z at c.in_ok-rest.ensures in
    variable_is_form (count_of (g.D.Domain.shape_of c.args.at.now)) c.args.other.variable c.args.other.negative c.args.f.now c.in_ok-rest.rest (count_of (g.D.Domain.shape_of c.args.at.now)) c.requires.form form c.requires.other

pub returns-clause-kept : goal.returns-clause-kept
returns-clause-kept g c =
    let fits : FitsSigned w64 c.args.f.now.constant = search rules in
    let form = simp to_z-of_z at c.in_ok-rest.ensures in
    record {
      kept = λ was p i h k.
          c.put_difference.ensures.kept.kept _ i h
          (k.0, difference_same (g.D.Domain.holds c.args.at.now) (rest_form c.args.other c.args.f.now.constant) c.in_ok-rest.rest c.args.between.now.parts.now was p (part_value was p (part_at c.args.between.now.parts.now c.args.v)) c.args.from c.in-Some.w c.in-Some.ensures.1 form k.1);
    }
