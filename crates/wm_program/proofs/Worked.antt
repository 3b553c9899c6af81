-- What the small programs do, computed.
use Rattle.std.proofs.Common.{◌≡◌, true, false, refl}
use Rattle.wm_numbers.specs.Clamp.{clamp}
use Rattle.wm_ops.specs.Clamping.{leaves16, leaves32}
use Rattle.wm_ops.specs.Division.{is_quotient, quotient}
use Rattle.wm_ops.specs.Outcomes.{formula_of, in_domain, is_quiet, outcome_of}
use Rattle.wm_program.specs.Execution.{operate, turns, rounds}
use Rattle.wm_program.specs.Failure.{fails_on}
use Rattle.wm_program.specs.Runs.{call_at, count_of, grouped, results_from, run_of}
use Rattle.wm_program.specs.Examples.{QuotientStops, SizeSaturates, ShiftingRunsOut, UnsetStops, RatesCount, RatesBegin, HalvingStops, NarrowStops, EndlessCounts, FilledSaturates, QuotientFails, HalvingFails}

pub quotient_stops : QuotientStops
unfolding clamp leaves16 leaves32 is_quotient quotient formula_of in_domain is_quiet outcome_of operate turns rounds call_at count_of grouped results_from run_of
quotient_stops = refl

pub size_saturates : SizeSaturates
unfolding clamp leaves16 leaves32 is_quotient quotient formula_of in_domain is_quiet outcome_of operate turns rounds call_at count_of grouped results_from run_of
size_saturates = refl

pub shifting_runs_out : ShiftingRunsOut
unfolding clamp leaves16 leaves32 is_quotient quotient formula_of in_domain is_quiet outcome_of operate turns rounds call_at count_of grouped results_from run_of
shifting_runs_out = refl

pub unset_stops : UnsetStops
unfolding clamp leaves16 leaves32 is_quotient quotient formula_of in_domain is_quiet outcome_of operate turns rounds call_at count_of grouped results_from run_of
unset_stops = refl

pub rates_count : RatesCount
unfolding clamp leaves16 leaves32 is_quotient quotient formula_of in_domain is_quiet outcome_of operate turns rounds call_at count_of grouped results_from run_of
rates_count = refl

pub rates_begin : RatesBegin
unfolding clamp leaves16 leaves32 is_quotient quotient formula_of in_domain is_quiet outcome_of operate turns rounds call_at count_of grouped results_from run_of
rates_begin = refl

pub halving_stops : HalvingStops
unfolding clamp leaves16 leaves32 is_quotient quotient formula_of in_domain is_quiet outcome_of operate turns rounds call_at count_of grouped results_from run_of
halving_stops = refl

pub narrow_stops : NarrowStops
unfolding clamp leaves16 leaves32 is_quotient quotient formula_of in_domain is_quiet outcome_of operate turns rounds call_at count_of grouped results_from run_of
narrow_stops = refl

pub endless_counts : EndlessCounts
unfolding clamp leaves16 leaves32 is_quotient quotient formula_of in_domain is_quiet outcome_of operate turns rounds call_at count_of grouped results_from run_of
endless_counts = refl

pub filled_saturates : FilledSaturates
unfolding clamp leaves16 leaves32 is_quotient quotient formula_of in_domain is_quiet outcome_of operate turns rounds call_at count_of grouped results_from run_of
filled_saturates = refl

differ : false ≡ true → ⊥
differ h = cc

pub quotient_fails : QuotientFails
unfolding fails_on clamp leaves16 leaves32 is_quotient quotient formula_of in_domain
quotient_fails = (refl, differ)

pub halving_fails : HalvingFails
unfolding fails_on
halving_fails = (refl, differ)
