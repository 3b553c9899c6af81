-- A graph whose points fit their contexts has the shapes of its points: a shape that is known for a context and so many
-- temporaries is that of each point there.
use Rattle.std.proofs.Common.{◌≡◌, ℕ, zero, suc, List, [], ◌∷◌, ◌++◌, map, length, Option, Some, None, Bool, true, false, refl, ◌∙◌, ap, sym, arith, ◌⊎◌, inl, inr, ◌+◌}
use Rattle.std.specs.Prelude.{if◌then◌else◌, ◌==◌, replicate, slice_get, slice_set, slice_index_or}
use Rattle.std.proofs.lemmas.Bool.Decides.{nat_tests}
use Rattle.wm_program.specs.Code.{Code}
use Rattle.wm_flow.specs.Plain.{Layout}
use Rattle.wm_flow.specs.Layouts.{layout_at}
use Rattle.wm_flow.specs.Places.{Plan}
use Rattle.wm_flow.specs.Strokes.{Stroke, Point, Line, Part, Begins, Turns}
use Rattle.wm_flow.specs.Parts.{part_strokes, instance_count}
use Rattle.wm_flow.specs.Graphs.{Known, Sketch, number_in, known_in, with_node, with_layout, node_drawn, drawn, all_drawn, drawn_part, nothing_drawn, whole_strokes, whole_drawn}
use Rattle.wm_graph_laws.specs.Each.{Each}
use Rattle.wm_shaped.specs.Spots.{Spot, spots_in, spots_part, all_spots, layout_of}
use Rattle.wm_shaped.specs.Fitting.{AreFitting}

equal : (a b : ℕ) → (a == b) ≡ true → a ≡ b
equal a b e = grind (arith, nat_tests)

-- ---- lists that grow

grown : {A : Type 0} (xs more : List A) (k : ℕ) (x : A) → slice_get xs k ≡ Some x → slice_get (xs ++ more) k ≡ Some x
grown [] more k x e = cc
grown (y ∷ xs) more zero x e = e
grown (y ∷ xs) more (suc k) x e = grown xs more k x e

last_of : {A : Type 0} (xs : List A) (x : A) → slice_get (xs ++ x ∷ []) (length xs) ≡ Some x
last_of [] x = refl
last_of (y ∷ xs) x = last_of xs x

map_join : {A B : Type 0} (f : A → B) (xs ys : List A) → map f (xs ++ ys) ≡ map f xs ++ map f ys
map_join f [] ys = refl
map_join f (x ∷ xs) ys = ap (λ zs. f x ∷ zs) (map_join f xs ys)

each_map : {A : Type 0} (P Q : A → Type 0) (xs : List A) → ((x : A) → P x → Q x) → Each P xs → Each Q xs
each_map P Q [] on h = tt
each_map P Q (x ∷ xs) on h = (on x h.0, each_map P Q xs on h.1)

each_join : {A : Type 0} (P : A → Type 0) (xs ys : List A) → Each P xs → Each P ys → Each P (xs ++ ys)
each_join P [] ys h i = i
each_join P (x ∷ xs) ys h i = (h.0, each_join P xs ys h.1 i)

append_nil : {A : Type 0} (xs : List A) → xs ++ [] ≡ xs
append_nil [] = refl
append_nil (x ∷ xs) = ap (λ ys. x ∷ ys) (append_nil xs)

append_one : {A : Type 0} (xs : List A) (x : A) (ys : List A) → xs ++ x ∷ ys ≡ (xs ++ x ∷ []) ++ ys
append_one [] x ys = refl
append_one (y ∷ xs) x ys = ap (λ zs. y ∷ zs) (append_one xs x ys)

append_both : {A : Type 0} (xs ys zs : List A) → xs ++ (ys ++ zs) ≡ (xs ++ ys) ++ zs
append_both [] ys zs = refl
append_both (x ∷ xs) ys zs = ap (λ us. x ∷ us) (append_both xs ys zs)

next_set : {P Q : Type 0} (j k : ℕ) → ((j ≡ k) × P) ⊎ Q → ((suc j ≡ suc k) × P) ⊎ Q
next_set j k (inl h) = inl (ap suc h.0, h.1)
next_set j k (inr h) = inr h

set_at : {A : Type 0} (xs : List A) (k j : ℕ) (v d : A) → ((j ≡ k) × (slice_index_or (slice_set xs k v) j d ≡ v)) ⊎ (slice_index_or (slice_set xs k v) j d ≡ slice_index_or xs j d)
set_at [] k j v d = inr refl
set_at (x ∷ xs) zero zero v d = inl (refl, refl)
set_at (x ∷ xs) zero (suc j) v d = inr refl
set_at (x ∷ xs) (suc k) zero v d = inr refl
set_at (x ∷ xs) (suc k) (suc j) v d = next_set j k (set_at xs k j v d)

abbrev no_known : List Known
no_known = []

nothing_at : (count k : ℕ) → slice_index_or (replicate count no_known) k no_known ≡ no_known
nothing_at zero k = refl
nothing_at (suc count) zero = refl
nothing_at (suc count) (suc k) = nothing_at count k

some_shapes : (code : Code) (layouts more : List Layout) (shapes : List ℕ) (spots : List Spot) → map (slice_get layouts) shapes ≡ map (λ (spot : Spot). Some (layout_of code spot)) spots → map (slice_get (layouts ++ more)) shapes ≡ map (λ (spot : Spot). Some (layout_of code spot)) spots
some_shapes code layouts more [] spots e = e
some_shapes code layouts more (shape ∷ shapes) [] e = cc
some_shapes code layouts more (shape ∷ shapes) (spot ∷ spots) e =
    pair (grown layouts more shape (layout_of code spot) (first e)) (some_shapes code layouts more shapes spots (rest e))
  where
    first : slice_get layouts shape ∷ map (slice_get layouts) shapes ≡ Some (layout_of code spot) ∷ map (λ (spot : Spot). Some (layout_of code spot)) spots → slice_get layouts shape ≡ Some (layout_of code spot)
    first e = cc

    rest : slice_get layouts shape ∷ map (slice_get layouts) shapes ≡ Some (layout_of code spot) ∷ map (λ (spot : Spot). Some (layout_of code spot)) spots → map (slice_get layouts) shapes ≡ map (λ (spot : Spot). Some (layout_of code spot)) spots
    rest e = cc

    pair : {A : Type 0} → {x y : A} {xs ys : List A} → x ≡ y → xs ≡ ys → x ∷ xs ≡ y ∷ ys
    pair e f = cc

module _ (code : Code) (owner : ℕ → Option ℕ) (counted : ℕ → ℕ) where
  abbrev IsKnown : List Layout → (context : ℕ) → Known → Type 0
  IsKnown layouts context it = slice_get layouts it.number ≡ Some (layout_at code (owner context) (counted context) it.temporaries)

  pub record Shaped (spots : List Spot) (sketch : Sketch) : Type 0 where
    pub instances : sketch.node_instance ≡ map (λ (spot : Spot). spot.instance) spots
    pub shapes : map (slice_get sketch.layouts) sketch.node_shape ≡ map (λ (spot : Spot). Some (layout_of code spot)) spots
    pub known : (context : ℕ) → Each (IsKnown sketch.layouts context) (known_in sketch context)

  found : (layouts : List Layout) (context temporaries number : ℕ) (known : List Known) → Each (IsKnown layouts context) known → number_in temporaries known ≡ Some number → slice_get layouts number ≡ Some (layout_at code (owner context) (counted context) temporaries)
  found layouts context temporaries number [] h e = cc
  found layouts context temporaries number (it ∷ rest) h e =
      by (it.temporaries == temporaries) (equal it.temporaries temporaries) (found layouts context temporaries number rest h.1) e
    where
      by : (b : Bool) → (b ≡ true → it.temporaries ≡ temporaries) → (number_in temporaries rest ≡ Some number → slice_get layouts number ≡ Some (layout_at code (owner context) (counted context) temporaries)) → (if b then Some it.number else number_in temporaries rest) ≡ Some number → slice_get layouts number ≡ Some (layout_at code (owner context) (counted context) temporaries)
      by true same go e = first it.number number it.temporaries h.0 e (same refl)
        where
          first : (a b t : ℕ) → slice_get layouts a ≡ Some (layout_at code (owner context) (counted context) t) → Some a ≡ Some b → t ≡ temporaries → slice_get layouts b ≡ Some (layout_at code (owner context) (counted context) temporaries)
          first a b t h e s = rw (inner a b e, s) at h
            where
              inner : (a b : ℕ) → Some a ≡ Some b → a ≡ b
              inner a b e = cc
      by false same go e = go e

  -- one more node
  with_spot : (spots : List Spot) (sketch : Sketch) (spot : Spot) (number : ℕ) → Shaped spots sketch → slice_get sketch.layouts number ≡ Some (layout_of code spot) → Shaped (spots ++ spot ∷ []) (with_node number spot.instance sketch)
  with_spot spots sketch spot number h e =
      record {
        instances = rw h.instances (sym (map_join (λ (spot : Spot). spot.instance) spots (spot ∷ [])));
        shapes = map_join (slice_get sketch.layouts) sketch.node_shape (number ∷ []) ∙ (rw (h.shapes, e) (sym (map_join (λ (spot : Spot). Some (layout_of code spot)) spots (spot ∷ []))));
        known = h.known;
      }

  -- one more layout
  abbrev next_known : Sketch → (context temporaries : ℕ) → Known
  next_known sketch context temporaries = record { temporaries = temporaries; number = length sketch.layouts }

  abbrev known_now : Sketch → (context temporaries : ℕ) → ℕ → List Known
  known_now sketch context temporaries at =
      slice_index_or (slice_set sketch.known context (known_in sketch context ++ next_known sketch context temporaries ∷ [])) at []

  known_by : (sketch : Sketch) (layout : Layout) (context temporaries : ℕ) → layout ≡ layout_at code (owner context) (counted context) temporaries → ((at : ℕ) → Each (IsKnown sketch.layouts at) (known_in sketch at)) → (at : ℕ) → ((at ≡ context) × (known_now sketch context temporaries at ≡ known_in sketch context ++ next_known sketch context temporaries ∷ [])) ⊎ (known_now sketch context temporaries at ≡ known_in sketch at) → Each (IsKnown (sketch.layouts ++ layout ∷ []) at) (known_now sketch context temporaries at)
  known_by sketch layout context temporaries same known at (inl e) =
      rw (e.1, e.0) (each_join (IsKnown (sketch.layouts ++ layout ∷ []) context) (known_in sketch context) (next_known sketch context temporaries ∷ [])
      (each_map (IsKnown sketch.layouts context) (IsKnown (sketch.layouts ++ layout ∷ []) context) (known_in sketch context) (λ it e. grown sketch.layouts (layout ∷ []) it.number (layout_at code (owner context) (counted context) it.temporaries) e) (known context))
      (last_of sketch.layouts layout ∙ ap (λ it. Some it) same, tt))
  known_by sketch layout context temporaries same known at (inr e) =
      rw e (each_map (IsKnown sketch.layouts at) (IsKnown (sketch.layouts ++ layout ∷ []) at) (known_in sketch at) (λ it e. grown sketch.layouts (layout ∷ []) it.number (layout_at code (owner at) (counted at) it.temporaries) e) (known at))

  with_known : (spots : List Spot) (sketch : Sketch) (layout : Layout) (context temporaries : ℕ) → layout ≡ layout_at code (owner context) (counted context) temporaries → Shaped spots sketch → Shaped spots (with_layout layout context temporaries sketch)
  with_known spots sketch layout context temporaries same h =
      record {
        instances = h.instances;
        shapes = some_shapes code sketch.layouts (layout ∷ []) sketch.node_shape spots h.shapes;
        known = λ at. known_by sketch layout context temporaries same h.known at (set_at sketch.known context at (known_in sketch context ++ next_known sketch context temporaries ∷ []) []);
      }

  layout_for : (a b : Option ℕ) (m n t : ℕ) → a ≡ b → m ≡ n → layout_at code a m t ≡ layout_at code b n t
  layout_for a b m n t e f = rw (e, f) refl

  node_shaped : (spots : List Spot) (sketch : Sketch) (context temporaries : ℕ) (instance : Option ℕ) (counters : ℕ) (known : Option ℕ) → instance ≡ owner context → counters ≡ counted context → number_in temporaries (known_in sketch context) ≡ known → Shaped spots sketch → Shaped (spots ++ record { instance = instance; counters = counters; temporaries = temporaries } ∷ []) (node_drawn (layout_at code instance counters temporaries) context temporaries instance known sketch)
  unfolding node_drawn
  node_shaped spots sketch context temporaries instance counters (Some number) o c e h =
      with_spot spots sketch _ number h (found sketch.layouts context temporaries number (known_in sketch context) (h.known context) e ∙ ap (λ it. Some it) (sym (layout_for instance (owner context) counters (counted context) temporaries o c)))
  node_shaped spots sketch context temporaries instance counters None o c e h =
      let layout = layout_at code instance counters temporaries in
      with_spot spots (with_layout layout context temporaries sketch) _ (length sketch.layouts)
      (with_known spots sketch layout context temporaries (layout_for instance (owner context) counters (counted context) temporaries o c) h)
      (last_of sketch.layouts layout)

  module _ (May : ℕ → Type 0) (draw : ℕ → ℕ → Sketch → Sketch) (parts : ℕ → ℕ → List Spot) (part : (instance start : ℕ) (spots : List Spot) (sketch : Sketch) → May instance → Shaped spots sketch → Shaped (spots ++ parts instance start) (draw instance start sketch)) where
    strokes_shaped : (strokes : List Stroke) (spots : List Spot) (sketch : Sketch) → AreFitting owner counted May strokes → Shaped spots sketch → Shaped (spots ++ spots_in parts strokes) (all_drawn code draw strokes sketch)
    unfolding AreFitting drawn
    strokes_shaped [] spots sketch f h = rw (append_nil spots) h
    strokes_shaped (Point context instance counters temporaries ∷ rest) spots sketch f h =
        let spot : Spot = record { instance = instance; counters = counters; temporaries = temporaries } in
        rw (append_one spots spot (spots_in parts rest)) (strokes_shaped rest (spots ++ spot ∷ []) _ f.2
        (node_shaped spots sketch context temporaries instance counters (number_in temporaries (known_in sketch context)) f.0 f.1 refl h))
    strokes_shaped (Line source target doing site ∷ rest) spots sketch f h =
        strokes_shaped rest spots _ f (record { instances = h.instances; shapes = h.shapes; known = h.known })
    strokes_shaped (Part instance start ∷ rest) spots sketch f h =
        rw (append_both spots (parts instance start) (spots_in parts rest)) (strokes_shaped rest (spots ++ parts instance start) _ f.1 (part instance start spots sketch f.0 h))
    strokes_shaped (Begins head instance loop node ∷ rest) spots sketch f h =
        strokes_shaped rest spots _ f (record { instances = h.instances; shapes = h.shapes; known = h.known })
    strokes_shaped (Turns head ∷ rest) spots sketch f h =
        strokes_shaped rest spots _ f (record { instances = h.instances; shapes = h.shapes; known = h.known })

module _ (plan : Plan) (owner : ℕ → Option ℕ) (counted : ℕ → ℕ) (There : ℕ → Type 0) (Calls : ℕ → ℕ → Type 0) (on : (caller instance : ℕ) → Calls caller instance → There instance) (fits : (instance start : ℕ) → There instance → AreFitting owner counted (Calls instance) (part_strokes plan instance start)) where
  part_shaped : (levels instance start : ℕ) (spots : List Spot) (sketch : Sketch) → There instance → Shaped plan.code owner counted spots sketch → Shaped plan.code owner counted (spots ++ spots_part plan levels instance start) (drawn_part plan levels instance start sketch)
  unfolding spots_part drawn_part
  part_shaped zero instance start spots sketch may h = rw (append_nil spots) h
  part_shaped (suc levels) instance start spots sketch may h =
      strokes_shaped plan.code owner counted (Calls instance) (drawn_part plan levels) (spots_part plan levels)
      (λ it from before drawing calls shaped. part_shaped levels it from before drawing (on instance it calls) shaped)
      (part_strokes plan instance start) spots sketch (fits instance start may) h

  pub whole_shaped : AreFitting owner counted There (whole_strokes plan) → Shaped plan.code owner counted (all_spots plan) (whole_drawn plan)
  unfolding all_spots
  whole_shaped f =
      strokes_shaped plan.code owner counted There (drawn_part plan (instance_count plan.code)) (spots_part plan (instance_count plan.code)) (part_shaped (instance_count plan.code)) (whole_strokes plan) [] (nothing_drawn plan) f
      (record { instances = refl; shapes = refl; known = λ context. rw (nothing_at (plan.tables.heads + instance_count plan.code) context) tt })
