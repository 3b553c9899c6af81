use Rattle.std.proofs.Common.{◌∙◌, ap, subst}
use Rattle.wm_headroom_text.specs.Open.{AreShifts}
use Rattle.wm_headroom_text.specs.Text.{text_with}
use Rattle.wm_headroom_text.proofs.text.headroom_text.Goals as goal

pub returns : goal.returns
returns c = record {
  text = record {
    shifts = c.in_ok-shifts.shifts.items;
    least =
        subst (λ verdicts. AreShifts c.args.program.now.sites verdicts c.in_ok-shifts.shifts.items) c.items-2.ensures.items
        (subst (λ sites. AreShifts sites c.items-2.result.now c.in_ok-shifts.shifts.items) c.items.ensures.items c.in_ok-shifts.ensures);
    told = c.in_ok-text.ensures ∙ ap (λ shifts. text_with shifts c.args.program.now c.args.spec.now c.args.findings.now) c.as_slice.ensures.value;
  };
}
