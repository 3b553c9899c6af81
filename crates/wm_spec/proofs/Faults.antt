-- A fault that a helper made is the fault of the reading.
use Rattle.std.proofs.Common.{◌≡◌, sym, ap, ◌∙◌, ℕ, List, Result, Err}
use Rattle.wm_spec.specs.Seen.{Fails, IsBad, IsMissing}
use Rattle.wm_spec.specs.declared.fault.SpecFault.{SpecFault}
use Rattle.wm_spec.specs.declared.fault.SpecFault.TheVariants.{NotToml, MissingKey, UnknownKey, BadValue, NoMemory}

pub bad_fails : {A : Type 0} (fault : SpecFault) (key : List ℕ) (read : Result A SpecFault) → IsBad fault key → read ≡ Err (BadValue key) → Fails fault read
bad_fails NotToml key read bad is = absurd bad
bad_fails (MissingKey named) key read bad is = absurd bad
bad_fails (UnknownKey named) key read bad is = absurd bad
bad_fails (BadValue named) key read bad is = is ∙ ap (λ k. Err (BadValue k)) (sym bad)
bad_fails NoMemory key read bad is = tt

pub missing_fails : {A : Type 0} (fault : SpecFault) (key : List ℕ) (read : Result A SpecFault) → IsMissing fault key → read ≡ Err (MissingKey key) → Fails fault read
missing_fails NotToml key read gone is = absurd gone
missing_fails (MissingKey named) key read gone is = is ∙ ap (λ k. Err (MissingKey k)) (sym gone)
missing_fails (UnknownKey named) key read gone is = absurd gone
missing_fails (BadValue named) key read gone is = absurd gone
missing_fails NoMemory key read gone is = tt
