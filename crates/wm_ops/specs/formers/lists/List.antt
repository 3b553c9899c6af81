-- Where a `List` keeps its items, so that a type may hold itself through a `List`: the items are all that it holds,
-- in their order, and two rows of one layout give lists of one layout.
use mathlib.Core.Path.{◌≡◌, refl, sym}
use mathlib.Core.List as core
use mathlib.Core.Former.{Former, this, list, via, children}
use base.Stored.{code_map}
use denote.RattleType.{RattleType}
use denote.HoleLaws.{Alike}
use denote.HolePlaces.{Recodes, struct_places, laid}
use denote.Hole.Carrier.{listed, list-listed}
use denote.Hole.Fix.{over}
use denote.Param.Weighed.{Weighed, w_list}
use denote.Model.Placed.{view_places}
use Rattle.std.specs.formers.vec.Vec as vec
use Rattle.std.specs.declared.alloc.Global.{Global}
use Rattle.std.specs.contracts.alloc.Global as heap
use Rattle.std.specs.contracts.impls.GlobalAllocator.TheImpl.{ghosts}
use Rattle.wm_ops.specs.declared.lists.List.TheInside.{Inside}
use Rattle.wm_ops.specs.declared.lists.List.TheView.{view, invariant}
use Rattle.wm_ops.specs.contracts.lists.List as whole
use Rattle.wm_ops.specs.contracts.lists.List.TheInside as inside

abbrev pub the_former : Former {0} → Former {0}
the_former held = list held

abbrev pub the_weighed : {held : Former {0}} → Weighed held → Weighed (the_former held)
the_weighed weights = w_list weights

pub the_empty : core.List ⊥
the_empty = core.[]

abbrev pub the_items : (T : Type 0) → core.List T → core.List T
the_items T items = items

pub the_items_listed : (T : Type 0) (items : core.List T) → listed _ (children (the_former this) T items) ≡ the_items T items
the_items_listed T items = list-listed T items

-- how the one field, a `Vec`, holds the items
abbrev fields : Former {0}
fields =
    via (vec.the_former this Global) Inside
    (λ T kept. kept.items) (λ T items. record { items = items }) (λ T kept. refl) (λ T items. refl)

module _ (From To : RattleType) (change : From.Denot → To.Denot) where
  pub the_places :
      Alike From To change →
      Alike (whole.the_row From) (whole.the_row To) ((the_former this).map From.Denot To.Denot change)
  the_places alike =
      view_places fields (list this) view (λ X Y k u. refl) (λ X u. refl) From.Denot To.Denot change
      (whole.the_row From).coded (whole.the_row To).coded
      (invariant From.Denot) (invariant To.Denot) (λ u p q. refl) (λ u p q. refl) (λ u e. tt) (λ u e. tt)
      (over (inside.the_row From)) (over (inside.the_row To))
      (struct_places (inside.the_type From) (inside.the_type To) (vec.mapped change, tt) _ (λ d. refl) refl
      (laid _ _ _ (vec.the_places heap.the_row ghosts From To change alike), tt))

  pub the_codes_placed :
      Recodes From To change →
      Recodes (whole.the_row From) (whole.the_row To) ((the_former this).map From.Denot To.Denot change)
  the_codes_placed same items = sym (code_map From.coded.code To.coded.code change (λ x. sym (same x)) items)
