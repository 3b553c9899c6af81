-- The test of each kind of text.
use Rattle.std.specs.Prelude.{ℕ, Bool, List}
use Rattle.wm_spec.specs.declared.values.Kind.{Kind}
use Rattle.wm_spec.specs.declared.values.Kind.TheVariants.{File, Name}
use Rattle.wm_spec.specs.Values.{is_file_name, is_name}

abbrev pub test_of : Kind → List ℕ → Bool
test_of File = is_file_name
test_of Name = is_name
