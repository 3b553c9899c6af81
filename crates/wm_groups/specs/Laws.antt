-- The laws of groups.
use Rattle.std.specs.Prelude.{true}
use Rattle.wm_domain.specs.Points.{Point, Alike}
use Rattle.wm_domain.specs.States.{InShape, IsTold, count_of, array_count}
use Rattle.wm_tied.specs.Pointed.{TiedView, In, shape_of}
use Rattle.wm_tied.proofs.Cutting.{in_full}
use Rattle.wm_tied.proofs.Laws.{tied_told, tied_alike}

pub groups_inside : (t : TiedView) (p : Point) → In t p → InShape (shape_of t) p
groups_inside t p i = in_full t p i

pub groups_alike : (t : TiedView) (p q : Point) → Alike (count_of (shape_of t)) (array_count (shape_of t)) p q → In t p → In t q
groups_alike t p q a i = tied_alike t p q a i

pub groups_told : (t : TiedView) (p : Point) → IsTold true (shape_of t) (In t) p → In t p
groups_told t p h = tied_told t p h
