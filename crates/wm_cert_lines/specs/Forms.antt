-- The forms of the lines.
use Rattle.std.specs.Prelude.{ℕ, ◌+◌, Bool, true, false, ◌&&◌, if◌then◌else◌, ℤ, pos, negsuc, List, Option, Some, None, codes, bytes_eq, nat_le, int_le}
use Rattle.wm_cert_text.specs.declared.told.Cells.{Cells}
use Rattle.wm_cert_text.specs.declared.told.Cells.TheVariants as cells
use Rattle.wm_cert_text.specs.declared.told.Ends.{Ends}
use Rattle.wm_cert_text.specs.declared.told.HeadName.{HeadName}
use Rattle.wm_cert_text.specs.declared.told.HeadName.TheVariants as name
use Rattle.wm_cert_text.specs.declared.told.Kind.{Kind}
use Rattle.wm_cert_text.specs.declared.told.Kind.TheVariants.{Minus, Plus}
use Rattle.wm_cert_lines.specs.declared.items.Item.{Item}
use Rattle.wm_cert_lines.specs.declared.items.Item.TheVariants as item
use Rattle.wm_cert_lines.specs.Numbers.{natural, whole, ordinal}
use Rattle.wm_cert_lines.specs.Words.{word, rest}

-- ---- ranges

abbrev pub ordered : Option ℤ → Option ℤ → Option Ends
ordered None high = None
ordered (Some low) None = None
ordered (Some low) (Some high) = if int_le low high then Some (record { low = low; high = high }) else None

-- two numbers in order
unfoldable pub ends_of : List ℕ → Option Ends
ends_of line = ordered (whole (word line)) (whole (rest line))

-- two numbers of 32 bits in order
abbrev pub narrow : Option Ends → Option Ends
narrow None = None
narrow (Some ends) = if int_le (negsuc 2147483647) ends.low && int_le ends.high (pos 2147483647) then Some ends else None

-- ---- lines, behind their first words

abbrev pub bound_with : Option ℕ → Option Ends → Option Item
bound_with None ends = None
bound_with (Some variable) None = None
bound_with (Some variable) (Some ends) = Some (item.Bound variable ends)

unfoldable pub bound_of : List ℕ → Option Item
bound_of line = bound_with (ordinal (word line)) (narrow (ends_of (rest line)))

abbrev pub pair_with : Kind → Option ℕ → Option ℕ → Option Ends → Option Item
pair_with kind None second ends = None
pair_with kind (Some first) None ends = None
pair_with kind (Some first) (Some second) None = None
pair_with kind (Some first) (Some second) (Some ends) =
    Some (item.Pair (record { kind = kind; first = first; second = second; ends = ends }))

unfoldable pub pair_of : Kind → List ℕ → Option Item
pair_of kind line = pair_with kind (ordinal (word line)) (ordinal (word (rest line))) (ends_of (rest (rest line)))

abbrev pub array_with : Option ℕ → Option Cells → Option Item
array_with None held = None
array_with (Some array) None = None
array_with (Some array) (Some held) = Some (item.Array array held)

abbrev pub range_of : Option Ends → Option Cells
range_of None = None
range_of (Some ends) = Some (cells.Range ends)

unfoldable pub cells_of : List ℕ → Option Cells
cells_of line = if bytes_eq line (codes "empty") then Some cells.Empty else range_of (narrow (ends_of line))

unfoldable pub array_of : List ℕ → Option Item
array_of line = array_with (ordinal (word line)) (cells_of (rest line))

-- a sum counter of one of the first 20 variables, with a step from 1 to 2147483647
abbrev pub sum_with : Option ℕ → Option ℕ → Option Item
sum_with None step = None
sum_with (Some variable) None = None
sum_with (Some variable) (Some step) =
    if nat_le variable 19 && nat_le step 2147483646 then Some (item.Sum (record { variable = variable; step = step + 1 })) else None

unfoldable pub sum_of : List ℕ → Option Item
sum_of line = sum_with (ordinal (word line)) (ordinal (rest line))

abbrev pub heads_with : Option ℕ → Option Item
heads_with None = None
heads_with (Some last) = Some (item.Heads last)

-- the name of a loop's head: `L instance I`
abbrev pub loop_with : Option ℕ → Bool → Option ℕ → Option HeadName
loop_with None fits instance = None
loop_with (Some loop_id) false instance = None
loop_with (Some loop_id) true None = None
loop_with (Some loop_id) true (Some instance) = Some (name.Loop loop_id instance)

unfoldable pub loop_of : List ℕ → Option HeadName
loop_of line =
    loop_with (ordinal (word line)) (bytes_eq (word (rest line)) (codes "instance")) (ordinal (rest (rest line)))

unfoldable pub name_of : List ℕ → Option HeadName
name_of line =
    if bytes_eq line (codes "frame") then Some name.Frame
    else if bytes_eq (word line) (codes "loop") then loop_of (rest line)
    else None

abbrev pub head_with : Option ℕ → Option HeadName → Option Item
head_with None name = None
head_with (Some head) None = None
head_with (Some head) (Some name) = Some (item.Head head name)

unfoldable pub head_of : List ℕ → Option Item
head_of line = head_with (ordinal (word line)) (name_of (rest line))

-- ---- whole lines

unfoldable pub bounding : (first line : List ℕ) → Option Item
bounding first line =
    if bytes_eq first (codes "bound") then bound_of line
    else if bytes_eq first (codes "minus") then pair_of Minus line
    else if bytes_eq first (codes "plus") then pair_of Plus line
    else if bytes_eq first (codes "array") then array_of line
    else None

unfoldable pub naming : (first line : List ℕ) → Option Item
naming first line =
    if bytes_eq first (codes "head") then head_of line
    else if bytes_eq first (codes "sum") then sum_of line
    else if bytes_eq first (codes "heads") then heads_with (ordinal line)
    else bounding first line

unfoldable pub item_of : List ℕ → Option Item
item_of line =
    if bytes_eq line (codes "empty") then Some item.Empty
    else if bytes_eq line (codes "end") then Some item.End
    else if bytes_eq line (codes "wmops certificate 1") then Some (item.Version false)
    else if bytes_eq line (codes "wmops certificate 2") then Some (item.Version true)
    else naming (word line) (rest line)
