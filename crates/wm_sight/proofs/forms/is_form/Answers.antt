use Rattle.std.proofs.Common.{◌∙◌, sym, ap, ◌<ℤ◌, pos, negsuc, arith}
use Rattle.std.proofs.lemmas.Int.{ints}
use Rattle.wm_sight.specs.Operands.{are_terms}
use Rattle.wm_sight.proofs.Shown.{form_shown}
use Rattle.wm_sight.proofs.forms.is_form.Goals as goal

pub returns : goal.returns
returns c = record {
  form = λ e.
      let l : negsuc 1125899906842623 <ℤ c.args.form.now.constant = omega (arith, ints) in
      let u : c.args.form.now.constant <ℤ pos 1125899906842624 = omega (arith, ints) in
      form_shown c.args.count c.args.form.now l u (sym (c.are_terms.ensures ∙ ap (are_terms c.args.count) c.items.ensures.items) ∙ e);
}
