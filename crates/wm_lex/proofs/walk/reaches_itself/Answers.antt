use Rattle.std.proofs.Common.{◌≡◌, ℕ, ◌+◌, ◌-◌, ◌<◌, ◌≤◌, List, length, get_or, sym, ap, subst, ◌∙◌, vec_len, Some, arith}
use Rattle.std.specs.Prelude.{slice_get}
use Rattle.std.proofs.lemmas.List.{get_or_read, length-take-le}
use Rattle.wm_lex.specs.Walks.{list_at}
use Rattle.wm_lex.proofs.WalkSteps.{IsTurn, front_within, some_front, none_front, turn_within, turn_pop, turn_plain, turn_done, turn_push, turn_loops, walk_ends, smaller_pop, smaller_on, smaller_push}
use Rattle.wm_lex.proofs.walk.reaches_itself.Goals.{After-saturating_sub-done}
use Rattle.wm_lex.proofs.walk.reaches_itself.Goals as goal

-- what a turn reads
turn_of : (c : After-saturating_sub-done) → IsTurn c.args.definitions.now c.args.start c.in-Some.at c.path.seen.items c.path.path.items c.list_at-list.result.now c.saturating_sub-done.result
turn_of c =
    let here : Some c.in-Some.at ≡ slice_get c.path.path.items (length c.path.path.items - 1) =
    c.in-Some.ensures ∙ c.last.ensures.value ∙ ap (λ (t : List ℕ). slice_get t (length t - 1)) c.deref.ensures.value in
    let within = front_within c.args.definitions.now c.args.start c.in-Some.at c.path.seen.items c.path.path.items c.path.invariant here in
    record {
      walk = c.path.invariant;
      here = here;
      list_is = c.list_at-list.ensures;
      done_is = c.saturating_sub-done.ensures ∙ ap (λ (n : ℕ). n - 1) (get_or_read c.path.seen.items c.in-Some.at c.index.result.now (omega (arith, within, c.path.invariant.sized)) c.index.ensures 0);
    }

pub path-preserved-then-done-list : goal.path-preserved-then-done-list
path-preserved-then-done-list c =
    let size : vec_len c.path.path ≡ length c.path.path.items = omega (arith, c.path.path.ok.0) in
    rw (c.pop.ensures.rest, size) (turn_pop c.args.definitions.now c.args.start c.in-Some.at c.path.seen.items c.path.path.items c.list_at-list.result.now c.saturating_sub-done.result (turn_of (goal.at.path-preserved-then-done-list c).After-saturating_sub-done) (omega arith))

pub path-smaller-then-done-list : goal.path-smaller-then-done-list
path-smaller-then-done-list c =
    let turn = (turn_of (goal.at.path-smaller-then-done-list c).After-saturating_sub-done) in
    let size : vec_len c.path.path ≡ length c.path.path.items = omega (arith, c.path.path.ok.0) in
    let some = some_front c.path.path.items c.in-Some.at turn.here in
    let short : length c.pop.new.self.items ≡ vec_len c.path.path - 1 = ap length c.pop.ensures.rest ∙ length-take-le (vec_len c.path.path - 1) c.path.path.items (omega arith) in
    smaller_pop c.args.definitions.now c.args.start c.in-Some.at (length c.list_at-list.result.now + 2) c.path.seen.items c.path.path.items c.pop.new.self.items c.path.invariant
    (turn_within c.args.definitions.now c.args.start c.in-Some.at c.path.seen.items c.path.path.items c.list_at-list.result.now c.saturating_sub-done.result turn) (omega (arith, turn.walk.bounded c.in-Some.at, ap length turn.list_is)) (omega arith)

pub index_mut-requires-in_default-place_of : goal.index_mut-requires-in_default-place_of
index_mut-requires-in_default-place_of c = omega (arith, turn_within c.args.definitions.now c.args.start c.in-Some.at c.path.seen.items c.path.path.items c.list_at-list.result.now c.saturating_sub-done.result (turn_of (goal.at.index_mut-requires-in_default-place_of c).After-saturating_sub-done), c.path.invariant.sized, c.path.seen.ok.0)

pub path-preserved-in_default-place_of : goal.path-preserved-in_default-place_of
path-preserved-in_default-place_of c =
    turn_plain c.args.definitions.now c.args.start c.in-Some.at c.path.seen.items c.path.path.items c.list_at-list.result.now c.saturating_sub-done.result c.index-list-done.result (turn_of (goal.at.path-preserved-in_default-place_of c).After-saturating_sub-done) (omega arith) c.index-list-done.is c.in_default-place_of.ensures.place

pub path-smaller-in_default-place_of : goal.path-smaller-in_default-place_of
path-smaller-in_default-place_of c =
    let turn = (turn_of (goal.at.path-smaller-in_default-place_of c).After-saturating_sub-done) in
    smaller_on c.args.definitions.now c.args.start c.in-Some.at (c.saturating_sub-done.result + 2) c.path.seen.items c.path.path.items c.path.invariant (turn_within c.args.definitions.now c.args.start c.in-Some.at c.path.seen.items c.path.path.items c.list_at-list.result.now c.saturating_sub-done.result turn) (omega (arith, turn.done_is))
    (turn_plain c.args.definitions.now c.args.start c.in-Some.at c.path.seen.items c.path.path.items c.list_at-list.result.now c.saturating_sub-done.result c.index-list-done.result turn (omega arith) c.index-list-done.is c.in_default-place_of.ensures.place)

pub path-preserved-in-Fresh : goal.path-preserved-in-Fresh
path-preserved-in-Fresh c =
    rw c.in_ok-push-in-Fresh.ensures.items
    (turn_push c.args.definitions.now c.args.start c.in-Some.at c.in-Some-place_of.inner c.path.seen.items c.path.path.items c.list_at-list.result.now c.saturating_sub-done.result c.index-list-done.result (turn_of (goal.at.path-preserved-in-Fresh c).After-saturating_sub-done) (omega arith) c.index-list-done.is c.in-Some-place_of.ensures.place c.in-Some-place_of.ensures.within
    (ap (λ (s : List ℕ). get_or s c.in-Some-place_of.inner 0) (sym c.as_slice.ensures.value) ∙ c.in-Fresh.ensures))

pub path-smaller-in-Fresh : goal.path-smaller-in-Fresh
path-smaller-in-Fresh c =
    let fresh : get_or c.path.seen.items c.in-Some-place_of.inner 0 ≡ 0 = ap (λ (s : List ℕ). get_or s c.in-Some-place_of.inner 0) (sym c.as_slice.ensures.value) ∙ c.in-Fresh.ensures in
    rw c.in_ok-push-in-Fresh.ensures.items
    (smaller_push c.args.definitions.now c.args.start c.in-Some-place_of.inner c.path.seen.items c.path.path.items c.path.invariant c.in-Some-place_of.ensures.within fresh
    (turn_push c.args.definitions.now c.args.start c.in-Some.at c.in-Some-place_of.inner c.path.seen.items c.path.path.items c.list_at-list.result.now c.saturating_sub-done.result c.index-list-done.result (turn_of (goal.at.path-smaller-in-Fresh c).After-saturating_sub-done) (omega arith) c.index-list-done.is c.in-Some-place_of.ensures.place c.in-Some-place_of.ensures.within fresh))

pub returns-in-OnPath : goal.returns-in-OnPath
returns-in-OnPath c =
    λ words. turn_loops c.args.definitions.now c.args.start c.in-Some.at c.in-Some-place_of.inner c.path.seen.items c.path.path.items c.list_at-list.result.now c.saturating_sub-done.result c.index-list-done.result (turn_of (goal.at.returns-in-OnPath c).After-saturating_sub-done) (omega arith) c.index-list-done.is c.in-Some-place_of.ensures.place
    (subst (λ (s : List ℕ). 0 < get_or s c.in-Some-place_of.inner 0) c.as_slice.ensures.value c.in-OnPath.ensures.0)
    (subst (λ (s : List ℕ). get_or s c.in-Some-place_of.inner 0 < length (list_at c.args.definitions.now c.in-Some-place_of.inner) + 2) c.as_slice.ensures.value c.in-OnPath.ensures.1)
    words

pub index_mut-requires-in-Done : goal.index_mut-requires-in-Done
index_mut-requires-in-Done c = omega (arith, turn_within c.args.definitions.now c.args.start c.in-Some.at c.path.seen.items c.path.path.items c.list_at-list.result.now c.saturating_sub-done.result (turn_of (goal.at.index_mut-requires-in-Done c).After-saturating_sub-done), c.path.invariant.sized, c.path.seen.ok.0)

pub path-preserved : goal.path-preserved
path-preserved c =
    turn_done c.args.definitions.now c.args.start c.in-Some.at c.in-Some-place_of.inner c.path.seen.items c.path.path.items c.list_at-list.result.now c.saturating_sub-done.result c.index-list-done.result (turn_of (goal.at.path-preserved c).After-saturating_sub-done) (omega arith) c.index-list-done.is c.in-Some-place_of.ensures.place
    (subst (λ (s : List ℕ). length (list_at c.args.definitions.now c.in-Some-place_of.inner) + 2 ≤ get_or s c.in-Some-place_of.inner 0) c.as_slice.ensures.value c.in-Done.ensures)

pub path-smaller : goal.path-smaller
path-smaller c =
    let turn = (turn_of (goal.at.path-smaller c).After-saturating_sub-done) in
    smaller_on c.args.definitions.now c.args.start c.in-Some.at (c.saturating_sub-done.result + 2) c.path.seen.items c.path.path.items c.path.invariant (turn_within c.args.definitions.now c.args.start c.in-Some.at c.path.seen.items c.path.path.items c.list_at-list.result.now c.saturating_sub-done.result turn) (omega (arith, turn.done_is))
    (turn_done c.args.definitions.now c.args.start c.in-Some.at c.in-Some-place_of.inner c.path.seen.items c.path.path.items c.list_at-list.result.now c.saturating_sub-done.result c.index-list-done.result turn (omega arith) c.index-list-done.is c.in-Some-place_of.ensures.place
    (subst (λ (s : List ℕ). length (list_at c.args.definitions.now c.in-Some-place_of.inner) + 2 ≤ get_or s c.in-Some-place_of.inner 0) c.as_slice.ensures.value c.in-Done.ensures))

pub returns : goal.returns
returns c =
    walk_ends c.args.definitions.now c.args.start c.path.seen.items c.path.path.items c.path.invariant
    (none_front c.path.path.items (c.in_default.ensures ∙ c.last.ensures.value ∙ ap (λ (t : List ℕ). slice_get t (length t - 1)) c.deref.ensures.value))
