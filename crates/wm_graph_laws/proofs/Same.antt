-- The value and the size of a piece rest on the sizes of the instances that it calls alone.
use Rattle.std.proofs.Common.{◌≡◌, ℕ, ◌+◌, List, [], ◌∷◌, refl, ap, ◌∙◌}
use Rattle.std.specs.Prelude.{slice_index_or}
use Rattle.wm_program.specs.Code.{Code}
use Rattle.wm_program.specs.Tree.{Expression, Arguments, Constant, Named, Element, Operator, Invoke, Plain, Negate, Plus, Cast, Done, Value, Whole, From}
use Rattle.wm_flow.specs.declared.graph.Sum.{Sum}
use Rattle.wm_flow.specs.declared.seats.Tables.{Tables}
use Rattle.wm_flow.specs.declared.scene.Scene.{Scene}
use Rattle.wm_flow.specs.declared.scene.Held.{Held}
use Rattle.wm_flow.specs.Places.{Plan, bases_of, root_source, scalar_source, array_source, offset_of}
use Rattle.wm_flow.specs.Yields.{coming, yield_size, after, with_value}
use Rattle.wm_flow.specs.Expressions.{place_form, place_size, plain_value, narrow_size, operate_size, value, values_after, size, sizes, waiting, left_waiting, only_value, no_values}
use Rattle.wm_flow.specs.Parts.{plan_with}
use Rattle.wm_graph_laws.specs.Invoked.{Invokes, InvokesAmong}

module _ (code : Code) (tables : Tables) (sums : List (List Sum)) (xs ys : List ℕ) (scene : Scene) where
  abbrev one : Plan
  one = plan_with code tables sums xs

  abbrev other : Plan
  other = plan_with code tables sums ys

  mutual
    unfolding value values_after bases_of root_source scalar_source array_source offset_of

    pub value_same : (x : Expression) (temporaries : ℕ) → value one scene x temporaries ≡ value other scene x temporaries
    value_same (Constant z) t = refl
    value_same (Named scalar) t = refl
    value_same (Element array index site) t = refl
    value_same (Operator op args site) t = refl
    value_same (Invoke function offset args) t = refl
    value_same (Plain mark x y site) t =
        let here = bases_of other scene in
        ap (λ a. plain_value here mark (only_value one scene (left_waiting one scene a y t)) (value one scene y (left_waiting one scene a y t).temporaries) t) (value_same x t)
        ∙ ap (λ b. plain_value here mark (only_value one scene (left_waiting one scene (value other scene x t) y t)) b t) (value_same y (left_waiting one scene (value other scene x t) y t).temporaries)
    value_same (Negate x site) t = ap (λ a. Rattle.wm_flow.specs.Kept.negative_of a) (value_same x t)
    value_same (Plus x) t = value_same x t
    value_same (Cast width x) t = refl

    pub values_same : (args : Arguments) (held : Held) → values_after one scene args held ≡ values_after other scene args held
    values_same Done held = refl
    values_same (Value x narrowing rest) held =
        let here = bases_of other scene in
        let wait = waiting other scene x held in
        ap (λ k. values_after one scene rest (with_value here wait k)) (value_same x wait.temporaries)
        ∙ values_same rest (with_value here wait (value other scene x wait.temporaries))
    values_same (Whole array rest) held = values_same rest (with_value (bases_of other scene) held (offset_of other scene array))
    values_same (From array index site rest) held =
        let here = bases_of other scene in
        let wait = waiting other scene index held in
        let offset = offset_of other scene array in
        ap (λ at. values_after one scene rest (with_value here wait (place_form here offset at (after here at wait.temporaries)))) (value_same index wait.temporaries)
        ∙ values_same rest (with_value here wait (place_form here offset (value other scene index wait.temporaries) (after here (value other scene index wait.temporaries) wait.temporaries)))

  -- ---- sizes

  module _ (May : ℕ → Type 0) (agree : (instance : ℕ) → May instance → slice_index_or xs instance 0 ≡ slice_index_or ys instance 0) where
    abbrev Calls : ℕ → Type 0
    Calls offset = May (scene.instance + offset)

    mutual
      unfolding size sizes bases_of root_source scalar_source array_source offset_of

      pub size_same : (x : Expression) (temporaries : ℕ) → Invokes Calls x → size one scene x temporaries ≡ size other scene x temporaries
      size_same (Constant z) t i = refl
      size_same (Named scalar) t i = refl
      size_same (Element array index site) t i =
          ap (λ at. size one scene index t + place_size (offset_of other scene array) at + 1) (value_same index t)
          ∙ ap (λ n. n + place_size (offset_of other scene array) (value other scene index t) + 1) (size_same index t i)
      size_same (Operator op args site) t i =
          ap (λ held. sizes one scene args (no_values other scene t) + operate_size (bases_of other scene) held) (values_same args (no_values other scene t))
          ∙ ap (λ n. n + operate_size (bases_of other scene) (values_after other scene args (no_values other scene t))) (sizes_same args (no_values other scene t) i)
      size_same (Invoke function offset args) t i =
          ap (λ n. sizes one scene args (no_values other scene t) + (n + 2)) (agree (scene.instance + offset) i.0)
          ∙ ap (λ n. n + (slice_index_or ys (scene.instance + offset) 0 + 2)) (sizes_same args (no_values other scene t) i.1)
      size_same (Plain mark x y site) t i =
          let here = bases_of other scene in
          let a = value other scene x t in
          let left = left_waiting other scene a y t in
          ap (λ a. size one scene x t + yield_size here (coming y) (a ∷ []) + size one scene y (left_waiting other scene a y t).temporaries + 1) (value_same x t)
          ∙ (ap (λ n. n + yield_size here (coming y) (a ∷ []) + size one scene y left.temporaries + 1) (size_same x t i.0)
          ∙ ap (λ n. size other scene x t + yield_size here (coming y) (a ∷ []) + n + 1) (size_same y left.temporaries i.1))
      size_same (Negate x site) t i = ap (λ n. n + 1) (size_same x t i)
      size_same (Plus x) t i = size_same x t i
      size_same (Cast width x) t i = ap (λ n. n + 1) (size_same x t i)

      pub sizes_same : (args : Arguments) (held : Held) → InvokesAmong Calls args → sizes one scene args held ≡ sizes other scene args held
      sizes_same Done held i = refl
      sizes_same (Value x narrowing rest) held i =
          let here = bases_of other scene in
          let wait = waiting other scene x held in
          let kept = value other scene x wait.temporaries in
          ap (λ k. yield_size here (coming x) held.values + size one scene x wait.temporaries + narrow_size narrowing + sizes one scene rest (with_value here wait k)) (value_same x wait.temporaries)
          ∙ (ap (λ n. yield_size here (coming x) held.values + n + narrow_size narrowing + sizes one scene rest (with_value here wait kept)) (size_same x wait.temporaries i.0)
          ∙ ap (λ n. yield_size here (coming x) held.values + size other scene x wait.temporaries + narrow_size narrowing + n) (sizes_same rest (with_value here wait kept) i.1))
      sizes_same (Whole array rest) held i = sizes_same rest (with_value (bases_of other scene) held (offset_of other scene array)) i
      sizes_same (From array index site rest) held i =
          let here = bases_of other scene in
          let wait = waiting other scene index held in
          let offset = offset_of other scene array in
          let at = value other scene index wait.temporaries in
          let kept = place_form here offset at (after here at wait.temporaries) in
          ap (λ at. yield_size here (coming index) held.values + size one scene index wait.temporaries + place_size offset at + sizes one scene rest (with_value here wait (place_form here offset at (after here at wait.temporaries)))) (value_same index wait.temporaries)
          ∙ (ap (λ n. yield_size here (coming index) held.values + n + place_size offset at + sizes one scene rest (with_value here wait kept)) (size_same index wait.temporaries i.0)
          ∙ ap (λ n. yield_size here (coming index) held.values + size other scene index wait.temporaries + place_size offset at + n) (sizes_same rest (with_value here wait kept) i.1))
