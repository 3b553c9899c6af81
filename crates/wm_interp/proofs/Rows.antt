-- A variable that is replaced among others.
use Rattle.std.proofs.Common.{◌≡◌, ℕ, zero, suc, ◌-◌, ◌<◌, ℤ, pos, List, [], ◌∷◌, ◌++◌, map, replicate, length, Option, Some, Vec, Global, refl, sym, ap, ◌∙◌, arith}
use Rattle.std.specs.Prelude.{slice_set, slice_index_or}
use Rattle.std.proofs.lemmas.List.{map-set}
use Rattle.wm_program.specs.Execution.{listed}
use Rattle.wm_interp.specs.Rows.{rows_of}

pub rows_set : (rows : List (Vec (Option ℤ) Global)) (k : ℕ) (row : Vec (Option ℤ) Global) → rows_of (slice_set rows k row) ≡ slice_set (rows_of rows) k row.items
rows_set rows k row = map-set (λ (row : Vec (Option ℤ) Global). row.items) rows k row

pub row_read : (rows : List (Vec (Option ℤ) Global)) (k : ℕ) (d : Vec (Option ℤ) Global) → k < length rows → slice_index_or (rows_of rows) k [] ≡ (slice_index_or rows k d).items
row_read [] k d h = absurd (omega arith)
row_read (row ∷ rows) zero d h = refl
row_read (row ∷ rows) (suc k) d h = row_read rows k d (omega arith)

pub cell_set : (rows : List (Vec (Option ℤ) Global)) (k index : ℕ) (number : ℤ) (old new : Vec (Option ℤ) Global) → k < length rows → old ≡ slice_index_or rows k old → new.items ≡ slice_set old.items index (Some number) → rows_of (slice_set rows k new) ≡ slice_set (rows_of rows) k (slice_set (slice_index_or (rows_of rows) k []) index (Some number))
cell_set rows k index number old new h e f = rows_set rows k new ∙ ap (slice_set (rows_of rows) k) (f ∙ ap (λ xs. slice_set xs index (Some number)) (sym (row_read rows k old h ∙ ap (λ (row : Vec (Option ℤ) Global). row.items) (sym e))))

append_nothing : (cells : List (Option ℤ)) → cells ++ [] ≡ cells
append_nothing [] = refl
append_nothing (cell ∷ cells) = ap (λ xs. cell ∷ xs) (append_nothing cells)

-- as many numbers as cells
pub listed_whole : (numbers : List ℤ) → listed (length numbers) numbers ≡ map Some numbers
listed_whole numbers =
    let e : length numbers - length numbers ≡ 0 = omega arith in
    ap (λ n. map Some numbers ++ replicate n (Some (pos 0))) e ∙ append_nothing (map Some numbers)
