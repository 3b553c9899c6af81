-- Instances: each loop in them has its entry and its back edge.
use Rattle.std.proofs.Common.{◌≡◌, ℕ, zero, suc, ◌+◌, ◌<◌, ◌≤◌, ◌⊎◌, inl, inr, List, [], ◌∷◌, ◌++◌, refl, ap, sym, arith}
use Rattle.wm_flow.specs.Plain.{Arc}
use Rattle.wm_flow.specs.Places.{Plan}
use Rattle.wm_flow.specs.Expressions.{size_at}
use Rattle.wm_flow.specs.Parts.{part_strokes, instance_count}
use Rattle.wm_flow.specs.Graphs.{Sketch, drawn_part}
use Rattle.wm_graph_laws.specs.Each.{Each}
use Rattle.wm_graph_laws.specs.Following.{Open, Away, Behind}
use Rattle.wm_graph_laws.specs.Standing.{Stands}
use Rattle.wm_graph_laws.specs.Begun.{begun_in, begun_part, IsAmong}
use Rattle.wm_graph_laws.specs.Loops.{AreFresh, Lands, HeadsHold}
use Rattle.wm_graph_laws.proofs.Parts.{part_follows}
use Rattle.wm_graph_laws.proofs.Lifted.{each_map, IsSized, IsLater}
use Rattle.wm_graph_laws.proofs.Headed.{Kept, PartKept, strokes_hold}

each_self : (far all : List ℕ) → ((t : ℕ) → IsAmong t far → IsAmong t all) → Each (λ t. IsAmong t all) far
each_self [] all on = tt
each_self (t ∷ far) all on = (on t (inl refl), each_self far all (λ n h. on n (inr h)))

pub among_each : (P : ℕ → Type 0) (far : List ℕ) (t : ℕ) → IsAmong t far → Each P far → P t
among_each P [] t h e = absurd h
among_each P (x ∷ far) t (inl h) e = rw h e.0
among_each P (x ∷ far) t (inr h) e = among_each P far t h e.1

-- other far targets, where the ones that were are drawn
pub hold_far : (nodes least : ℕ) (far less : List ℕ) (loops closed : List Open) (count : ℕ) (sketch : Sketch) → Each (λ t. (t < nodes) ⊎ IsAmong t less) far → HeadsHold nodes least far loops closed count sketch → HeadsHold nodes least less loops closed count sketch
hold_far nodes least far less loops closed count sketch there h =
    record {
      lands = each_map (Lands nodes far) (Lands nodes less) sketch.arcs on h.lands;
      last = h.last;
      past = h.past;
      apart = h.apart;
      opens = h.opens;
      closes = h.closes;
      table = h.table;
      backs = h.backs;
    }
  where
    on : (arc : Arc) → Lands nodes far arc → Lands nodes less arc
    on arc (inl it) = inl it
    on arc (inr (inl it)) = inr (inl it)
    on arc (inr (inr it)) = inr (among_each (λ t. (t < nodes) ⊎ IsAmong t less) far arc.target it there)

abbrev AtEnd : (end : ℕ) (far : List ℕ) (heads : List Open) → Behind
AtEnd end far heads n l f o = (n ≡ suc end) × (l ≡ 0) × Each (λ t. (t < suc end) ⊎ IsAmong t far) f × (o ≡ heads)

part_kept : (end count : ℕ) (far : List ℕ) (heads before : List Open) (begun rest : List ℕ) (sketch : Sketch) → Kept (AtEnd end far heads) count before begun rest sketch → PartKept (suc end) count far heads before begun rest sketch
part_kept end count far heads before begun rest sketch h =
    let holds : HeadsHold (suc end) 0 h.far heads h.closed count sketch = rw (h.k.0, h.k.1, h.k.3) at h.holds in
    record {
      closed = h.closed;
      stands = rw (h.k.0, h.k.1) at h.stands;
      holds = hold_far (suc end) 0 h.far far heads h.closed count sketch h.k.2 holds;
      fresh = rw h.k.3 at h.fresh;
      named = rw h.k.3 at h.named;
      still = rw h.k.3 at h.still;
    }

module _ (plan : Plan) (sized : IsSized plan) (count : ℕ) where
  pub part_holds : (levels instance start nodes least : ℕ) (far : List ℕ) (heads closed : List Open) (rest : List ℕ) (sketch : Sketch) → instance < instance_count plan.code → instance_count plan.code ≤ instance + levels → start ≡ nodes → Away start (start + size_at plan instance) far → Stands nodes least sketch → HeadsHold nodes least far heads closed count sketch → AreFresh count (begun_part plan levels instance start ++ rest) (heads ++ closed) → PartKept (suc (start + size_at plan instance)) count far heads (heads ++ closed) (begun_part plan levels instance start) rest (drawn_part plan levels instance start sketch)
  unfolding begun_part drawn_part
  part_holds zero instance start nodes least far heads closed rest sketch there enough at away s h fresh = absurd (omega (arith, there, enough))
  part_holds (suc levels) instance start nodes least far heads closed rest sketch there enough at away s h fresh =
      let end = start + size_at plan instance in
      let P : ℕ → Type 0 = λ t. (t < suc end) ⊎ IsAmong t far in
      part_kept end count far heads (heads ++ closed) (begun_in (begun_part plan levels) (part_strokes plan instance start)) rest _
      (strokes_hold plan (IsLater plan instance) (drawn_part plan levels) (begun_part plan levels) count
      (λ it first n l f o c r new may same a st ho fr. part_holds levels it first n l f o c r new may.1 (omega (arith, may.0, enough)) same a st ho fr)
      (part_strokes plan instance start) (AtEnd end far heads) start least far heads closed rest sketch
      (part_follows plan (IsLater plan instance) P instance start least end far heads (AtEnd end far heads) (sized.calls instance there) (ap (λ n. start + n) (sym (sized.sizes instance there))) away
      (each_map (λ t. IsAmong t far) P far (λ t it. inr it) (each_self far far (λ t it. it))) (λ t a b. inl (omega arith)) (λ far1 all. (refl, refl, all, refl)))
      (rw (sym at) at s) (rw (sym at) at h) fresh)
