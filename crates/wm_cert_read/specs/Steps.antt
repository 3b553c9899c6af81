-- What has been read after one more line of a head.
use Rattle.std.specs.Prelude.{ℕ, suc, Bool, true, false, not, if◌then◌else◌, ◌==◌, nat_lt, List, [], ◌∷◌, ◌++◌, length, Option, Some, None}
use Rattle.wm_cert_text.specs.declared.told.Cells.{Cells}
use Rattle.wm_cert_text.specs.declared.told.Ends.{Ends}
use Rattle.wm_cert_text.specs.declared.told.Head.{Head}
use Rattle.wm_cert_text.specs.declared.told.HeadName.{HeadName}
use Rattle.wm_cert_text.specs.declared.told.Pair.{Pair}
use Rattle.wm_cert_text.specs.declared.told.State.{State}
use Rattle.wm_cert_text.specs.declared.told.SumStep.{SumStep}
use Rattle.wm_cert_lines.specs.declared.items.Item.{Item}
use Rattle.wm_cert_lines.specs.declared.items.Item.TheVariants as item
use Rattle.wm_cert_read.specs.declared.reading.Reading.{Reading}
use Rattle.wm_cert_read.specs.Fits.{is_loop, owes_sum, may_sum, may_empty, may_bound, may_pair, may_array}

abbrev pub with_sum : Reading → SumStep → Option Reading
with_sum r sum = if may_sum r sum then Some (record r { has_sums = true; sums = r.sums ++ sum ∷ [] }) else None

abbrev pub with_empty : Reading → Option Reading
with_empty r = if may_empty r then Some (record r { empty = true }) else None

abbrev pub with_bound : Reading → (variable : ℕ) → Ends → Option Reading
with_bound r variable ends = if may_bound r variable then Some (record r { bounds = r.bounds ++ ends ∷ [] }) else None

abbrev pub with_pair : Reading → Pair → Option Reading
with_pair r pair = if may_pair r pair then Some (record r { pairs = r.pairs ++ pair ∷ [] }) else None

abbrev pub with_array : Reading → (array : ℕ) → Cells → Option Reading
with_array r array held = if may_array r array then Some (record r { arrays = r.arrays ++ held ∷ [] }) else None

abbrev pub state_with : (empty : Bool) → List Ends → List Pair → List Cells → Option State
state_with true bounds pairs arrays = None
state_with false bounds pairs arrays = Some (record { bounds = bounds; pairs = pairs; arrays = arrays })

-- the heads with the one that has been read
unfoldable pub heads_of : Reading → List Head
heads_of r = r.heads ++ record { name = r.name; sums = r.sums; state = state_with r.empty r.bounds r.pairs r.arrays } ∷ []

-- a head that begins
unfoldable pub begun : (pairs_allowed second : Bool) → (last : ℕ) → (has_sums : Bool) → List Head → HeadName → Reading
begun pairs_allowed second last has_sums heads name =
    record {
      pairs_allowed = pairs_allowed;
      second = second;
      last = last;
      has_sums = has_sums;
      heads = heads;
      name = name;
      sums = [];
      empty = false;
      bounds = [];
      pairs = [];
      arrays = [];
    }

-- the frame's head cannot be the last one of a text of the second version that has no sum counter so far
unfoldable pub lacks_sums : (second : Bool) → (last : ℕ) → (has_sums : Bool) → (head : ℕ) → HeadName → Bool
lacks_sums second last has_sums head name =
    if second then (if has_sums then false else if is_loop name then false else head == last) else false

-- the next head, up to the last one
unfoldable pub may_begin : Reading → (head : ℕ) → HeadName → Bool
may_begin r head name =
    if owes_sum r then false
    else if head == suc (length r.heads) then (if nat_lt r.last head then false else not (lacks_sums r.second r.last r.has_sums head name))
    else false

abbrev pub with_head : Reading → (head : ℕ) → HeadName → Option Reading
with_head r head name =
    if may_begin r head name then Some (begun r.pairs_allowed r.second r.last r.has_sums (heads_of r) name) else None

abbrev pub after : Reading → Item → Option Reading
after r (item.Version second) = None
after r (item.Heads last) = None
after r (item.Head head name) = with_head r head name
after r (item.Sum sum) = with_sum r sum
after r item.Empty = with_empty r
after r (item.Bound variable ends) = with_bound r variable ends
after r (item.Pair pair) = with_pair r pair
after r (item.Array array held) = with_array r array held
after r item.End = None

-- whether the text may end
unfoldable pub may_end : Reading → Bool
may_end r = if owes_sum r then false else length r.heads == r.last
