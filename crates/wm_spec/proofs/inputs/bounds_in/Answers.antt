use Rattle.std.proofs.Common.{◌≡◌, sym, ap, length, arith}
use Rattle.toml.proofs.Views.{view-Array}
use Rattle.wm_spec.proofs.Tables.{bounds_in-other}
use Rattle.wm_spec.proofs.inputs.bounds_in.Goals as goal

pub returns-in_default-as_slice : goal.returns-in_default-as_slice
returns-in_default-as_slice c =
    let other : length c.in-Array.items.items ≡ 2 → ⊥ = λ two. omega (arith, two, c.in_default-as_slice.len_below, ap length c.as_slice.ensures.value) in
    rw (c.in-Array.is, view-Array c.in-Array.items) (sym (bounds_in-other c.in-Array.items.items other))

pub returns-in_default-as_slice-2 : goal.returns-in_default-as_slice-2
returns-in_default-as_slice-2 c =
    let other : length c.in-Array.items.items ≡ 2 → ⊥ = λ two. omega (arith, two, c.in_default-as_slice.len_at_least, ap length c.as_slice.ensures.value) in
    rw (c.in-Array.is, view-Array c.in-Array.items) (sym (bounds_in-other c.in-Array.items.items other))
