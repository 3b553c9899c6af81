-- What a node shows, read back.
use Rattle.std.proofs.Common.{◌≡◌, ℕ, ℤ, List, Option, Some, None, subst, refl}
use Rattle.wm_program.specs.State.{State, number_at, place_of, cells_of}
use Rattle.wm_flow.specs.declared.scene.Source.{Source}
use Rattle.wm_flow.specs.declared.scene.Source.TheVariants.{Variable, Cells}
use Rattle.wm_flow.specs.Places.{here_of, bases_of, scalar_source, root_source}
use Rattle.wm_flow.specs.Shows.{Shows, ShowsSource, ShowsCells, ShowsNumber}
use Rattle.wm_flow.specs.Laws.{ReadsScalar, ReadsCells}

pub reads_scalar : ReadsScalar
reads_scalar plan scene counters temporaries s store scalar v z shows means is_set =
    let P : Source → Type 0 = λ source. ShowsSource store (number_at (place_of (here_of plan scene) scalar) s) source in
    let h : ShowsNumber store.point v (number_at (place_of (here_of plan scene) scalar) s) = subst P means (shows.scalars scalar) in
    let Q : Option ℤ → Type 0 = λ number. ShowsNumber store.point v number in
    subst Q is_set h

pub reads_cells : ReadsCells
reads_cells plan scene counters temporaries s store it array shows there means =
    let P : Source → Type 0 = λ source. ShowsCells store (cells_of it s) source in
    subst P means (shows.arrays it there)
