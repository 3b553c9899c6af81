-- What a sorted map of names and bytes holds under a name, and after an insertion.
use Rattle.std.proofs.Common.{◌≡◌, refl, sym, ap, ◌∙◌, ℕ, Bool, true, false, cond, List, [], ◌∷◌, map, Vec, Option, Some, option_map, Ordering}
use Rattle.std.specs.declared.cmp.Ordering.TheVariants.{Less, Equal, Greater}
use Rattle.std.specs.Ordering.{nat_cmp, eq_by_cmp, match_ordering}
use Rattle.std.specs.Cmp.Lexicographic.{slice_cmp, nat_list_cmp_total}
use Rattle.std.specs.FinMap.Entries.{find-put, by_order}
use Rattle.std.specs.FinMap.{find, put, get, insert, get-from_entries, get-insert, same_map, slice_cmp-IsAntisymmetric, nat_cmp-IsAntisymmetric}
use Rattle.std.specs.Map.{lookup}
use Rattle.std.specs.BTreeMap.{BTreeMap, is_at, insert_entry}
use Rattle.std.specs.declared.alloc.Global.{Global}
use Rattle.wm_files.specs.Pairs.{pair_of, held_of}

-- bytes as the map keeps them
abbrev Bytes : Type 0
Bytes = Vec ℕ Global

-- the order of names, by their bytes
abbrev by_bytes : List ℕ → List ℕ → Ordering
by_bytes = slice_cmp nat_cmp

option_map-cond : (b : Bool) (v : Bytes) (o : Option Bytes) → cond b (Some v.items) (option_map (λ v. v.items) o) ≡ option_map (λ v. v.items) (cond b (Some v) o)
option_map-cond true v o = refl
option_map-cond false v o = refl

find-pairs : (es : List (Bytes × Bytes)) (q : List ℕ) → find by_bytes q (map pair_of es) ≡ option_map (λ v. v.items) (lookup (is_at (λ (k : Bytes). by_bytes q k.items)) es)
find-pairs [] q = refl
find-pairs (e ∷ es) q = ap (cond (eq_by_cmp by_bytes q e.0.items) (Some e.1.items)) (find-pairs es q) ∙ option_map-cond _ e.1 _

-- what is held under a name is what the map has at it
pub get-held_of : (pairs : BTreeMap Bytes Bytes) (q : List ℕ) → get (held_of pairs) q ≡ option_map (λ v. v.items) (lookup (is_at (λ (k : Bytes). by_bytes q k.items)) pairs.entries)
get-held_of pairs q = get-from_entries nat_list_cmp_total (map pair_of pairs.entries) q ∙ find-pairs pairs.entries q

-- an insertion into the map puts the pair in its place
put-pairs : (es : List (Bytes × Bytes)) (k v : Bytes) → map pair_of (insert_entry (λ (a b : Bytes). by_bytes a.items b.items) es k v) ≡ put by_bytes k.items v.items (map pair_of es)
put-pairs [] k v = refl
put-pairs (e ∷ es) k v =
    elim (by_bytes k.items e.0.items) as (λ o. map pair_of (match_ordering o ((k, v) ∷ e ∷ es) ((e.0, v) ∷ es) (e ∷ insert_entry (λ (a b : Bytes). by_bytes a.items b.items) es k v)) ≡ by_order o ((k.items, v.items) ∷ map pair_of (e ∷ es)) ((e.0.items, v.items) ∷ map pair_of es) (pair_of e ∷ put by_bytes k.items v.items (map pair_of es))) [
      | Less ↦ refl
      | Equal ↦ refl
      | Greater ↦ ap (λ es. pair_of e ∷ es) (put-pairs es k v)
    ]

-- what is held once a pair was inserted into the map
pub held_of-insert : (old new : BTreeMap Bytes Bytes) (k v : Bytes) → new.entries ≡ insert_entry (λ (a b : Bytes). by_bytes a.items b.items) old.entries k v → held_of new ≡ insert (held_of old) k.items v.items
held_of-insert old new k v inserted =
    same_map nat_list_cmp_total (slice_cmp-IsAntisymmetric nat_cmp-IsAntisymmetric) (held_of new) (insert (held_of old) k.items v.items) (λ q.
    get-from_entries nat_list_cmp_total (map pair_of new.entries) q
    ∙ ap (find by_bytes q) (ap (map pair_of) inserted ∙ put-pairs old.entries k v)
    ∙ find-put by_bytes nat_list_cmp_total q k.items v.items (map pair_of old.entries)
    ∙ ap (cond (eq_by_cmp by_bytes q k.items) (Some v.items)) (sym (get-from_entries nat_list_cmp_total (map pair_of old.entries) q))
    ∙ sym (get-insert nat_list_cmp_total (held_of old) k.items v.items q))
