use Rattle.std.proofs.Common.{◌<◌, ℕ, sym, subst, w64, rules}
use Rattle.std.specs.Prelude.{FitsSigned}
use Rattle.std.proofs.lemmas.Int.{to_z-of_z}
use Rattle.wm_domain.specs.States.{count_of}
use Rattle.wm_middle.specs.Parting.{part_at, part_value}
use Rattle.wm_entered.proofs.Giving.{given_range, one_given, one_same, variable_is_form}
use Rattle.wm_entered.proofs.values.put_one.Goals as goal

pub returns-in-None-clause-kept : goal.returns-in-None-clause-kept
returns-in-None-clause-kept g c = record {
  kept = λ was p i h k. c.put_any.ensures.kept.kept _ i h (given_range (g.D.Domain.holds c.args.at.now) c.args.f.now was (part_value was p (part_at c.args.between.now.parts.now c.args.v)) k.0 k.1);
}

pub put_form-requires-clause-form : goal.put_form-requires-clause-form
put_form-requires-clause-form g c =
    let fits : FitsSigned w64 c.args.f.now.constant = search rules in
    let form = simp to_z-of_z at c.in_ok-form-in-Some.ensures in
    variable_is_form (count_of (g.D.Domain.shape_of c.args.state.now)) c.in-Some.w c.args.t.negative c.args.f.now c.in_ok-form-in-Some.form (count_of (g.D.Domain.shape_of c.args.at.now)) c.requires.form form
    (subst (λ (n : ℕ). c.in-Some.w < n) (sym c.requires.long) c.in-Some.ensures.0)

pub returns-in_ok-form-in-Some-clause-kept : goal.returns-in_ok-form-in-Some-clause-kept
returns-in_ok-form-in-Some-clause-kept g c =
    let fits : FitsSigned w64 c.args.f.now.constant = search rules in
    let form = simp to_z-of_z at c.in_ok-form-in-Some.ensures in
    record {
      kept = λ was p i h k.
          c.put_form.ensures.kept _ i h
          (one_same c.args.between.now.parts.now c.args.f.now c.in_ok-form-in-Some.form c.args.t was p (part_value was p (part_at c.args.between.now.parts.now c.args.v)) c.in-Some.w c.requires.terms c.in-Some.ensures.1 form
          (one_given (g.D.Domain.holds c.args.at.now) c.args.f.now c.args.t was (part_value was p (part_at c.args.between.now.parts.now c.args.v)) c.requires.terms k.1));
    }
