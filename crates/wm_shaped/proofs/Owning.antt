-- The table of owners has each loop of each instance at its head.
use Rattle.std.proofs.Common.{◌≡◌, ℕ, zero, suc, ◌+◌, List, [], ◌∷◌, ◌++◌, length, Some, refl, ◌∙◌, ap, arith}
use Rattle.std.specs.Prelude.{slice_get, slice_index_or}
use Rattle.wm_program.specs.declared.program.InstanceInfo.{InstanceInfo}
use Rattle.wm_program.specs.Code.{Code, routine_at}
use Rattle.wm_program.specs.Tree.{Tree, Skip, Seq, Block, Empty, Declare, Act, If, IfElse, For, While, Do, Break, Continue, Return, Leave}
use Rattle.wm_flow.specs.Seats.{heads_from}
use Rattle.wm_heads.specs.Bodies.{loops_of}
use Rattle.wm_heads.proofs.Spans.{span}
use Rattle.wm_shaped.specs.Nested.{Nested, depths_of}
use Rattle.wm_shaped.specs.Owners.{owned_by, owned_from}

-- ---- lists

length_join : {A : Type 0} (xs ys : List A) → length (xs ++ ys) ≡ length xs + length ys
length_join [] ys = omega arith
length_join (x ∷ xs) ys = omega (arith, length_join xs ys)

left_at : {A : Type 0} (xs ys : List A) (k : ℕ) (x : A) → slice_get xs k ≡ Some x → slice_get (xs ++ ys) k ≡ Some x
left_at [] ys k x e = cc
left_at (y ∷ xs) ys zero x e = e
left_at (y ∷ xs) ys (suc k) x e = left_at xs ys k x e

right_at : {A : Type 0} (xs ys : List A) (k at : ℕ) (x : A) → at ≡ length xs + k → slice_get ys k ≡ Some x → slice_get (xs ++ ys) at ≡ Some x
right_at [] ys k at x s e = rw (plain k at s) e
  where
    plain : (k at : ℕ) → at ≡ 0 + k → at ≡ k
    plain k at s = omega arith
right_at (y ∷ xs) ys k zero x s e = absurd (never (length xs) k s)
  where
    never : (a k : ℕ) → 0 ≡ suc a + k → ⊥
    never a k s = omega arith
right_at (y ∷ xs) ys k (suc at) x s e = right_at xs ys k at x (omega (arith, s)) e

-- ---- loops with their numbers of open loops

pub depths_length : (tree : Tree) (depth : ℕ) → length (depths_of depth tree) ≡ length (loops_of tree)
depths_length Skip depth = refl
depths_length (Seq first rest) depth =
    omega (arith, length_join (depths_of depth first) (depths_of depth rest), length_join (loops_of first) (loops_of rest), depths_length first depth, depths_length rest depth)
depths_length (Block tree) depth = depths_length tree depth
depths_length Empty depth = refl
depths_length (Declare fresh) depth = refl
depths_length (Act effect) depth = refl
depths_length (If is_counted test first) depth = depths_length first depth
depths_length (IfElse is_counted test first is_else_counted otherwise) depth =
    omega (arith, length_join (depths_of depth first) (depths_of depth otherwise), length_join (loops_of first) (loops_of otherwise), depths_length first depth, depths_length otherwise depth)
depths_length (For is_counted loop begin test after body) depth = omega (arith, depths_length body (suc depth))
depths_length (While is_counted loop test body) depth = omega (arith, depths_length body (suc depth))
depths_length (Do is_counted is_tail_counted loop body test) depth = omega (arith, depths_length body (suc depth))
depths_length (Break is_counted) depth = refl
depths_length (Continue is_counted) depth = refl
depths_length (Return x narrowing) depth = refl
depths_length Leave depth = refl

abbrev pub AllAt : (P : ℕ → ℕ → Type 0) → List ℕ → List ℕ → Type 0
AllAt P depths loops = (k d l : ℕ) → slice_get depths k ≡ Some d → slice_get loops k ≡ Some l → P d l

pub nested_of : (P : ℕ → ℕ → Type 0) (tree : Tree) (depth : ℕ) → AllAt P (depths_of depth tree) (loops_of tree) → Nested P depth tree
nested_of P Skip depth on = tt
nested_of P (Seq first rest) depth on = (
  nested_of P first depth (λ k d l e f. on k d l (left_at (depths_of depth first) (depths_of depth rest) k d e) (left_at (loops_of first) (loops_of rest) k l f)),
  nested_of P rest depth (λ k d l e f. on (length (loops_of first) + k) d l (right_at (depths_of depth first) (depths_of depth rest) k _ d (omega (arith, depths_length first depth)) e) (right_at (loops_of first) (loops_of rest) k _ l refl f)),
)
nested_of P (Block tree) depth on = nested_of P tree depth on
nested_of P Empty depth on = tt
nested_of P (Declare fresh) depth on = tt
nested_of P (Act effect) depth on = tt
nested_of P (If is_counted test first) depth on = nested_of P first depth on
nested_of P (IfElse is_counted test first is_else_counted otherwise) depth on = (
  nested_of P first depth (λ k d l e f. on k d l (left_at (depths_of depth first) (depths_of depth otherwise) k d e) (left_at (loops_of first) (loops_of otherwise) k l f)),
  nested_of P otherwise depth (λ k d l e f. on (length (loops_of first) + k) d l (right_at (depths_of depth first) (depths_of depth otherwise) k _ d (omega (arith, depths_length first depth)) e) (right_at (loops_of first) (loops_of otherwise) k _ l refl f)),
)
nested_of P (For is_counted loop begin test after body) depth on = (on 0 (suc depth) loop refl refl, nested_of P body (suc depth) (λ k d l e f. on (suc k) d l e f))
nested_of P (While is_counted loop test body) depth on = (on 0 (suc depth) loop refl refl, nested_of P body (suc depth) (λ k d l e f. on (suc k) d l e f))
nested_of P (Do is_counted is_tail_counted loop body test) depth on = (on 0 (suc depth) loop refl refl, nested_of P body (suc depth) (λ k d l e f. on (suc k) d l e f))
nested_of P (Break is_counted) depth on = tt
nested_of P (Continue is_counted) depth on = tt
nested_of P (Return x narrowing) depth on = tt
nested_of P Leave depth on = tt

-- ---- the table

-- how many heads stand before those of an instance
abbrev pub span_to : List ℕ → List InstanceInfo → ℕ → ℕ
span_to counts [] i = 0
span_to counts (info ∷ rest) zero = 0
span_to counts (info ∷ rest) (suc i) = slice_index_or counts info.function 0 + span_to counts rest i

pub head_from : (counts : List ℕ) (next : ℕ) (infos : List InstanceInfo) (i : ℕ) (info : InstanceInfo) → slice_get infos i ≡ Some info → slice_index_or (heads_from counts next infos) i 0 ≡ next + span_to counts infos i
head_from counts next [] i info e = cc
head_from counts next (it ∷ rest) zero info e = omega arith
head_from counts next (it ∷ rest) (suc i) info e = head_from counts (next + slice_index_or counts it.function 0) rest i info e ∙ omega arith

by_length : (instance : ℕ) (depths : List ℕ) → length (owned_by instance depths) ≡ length depths
by_length instance [] = refl
by_length instance (depth ∷ rest) = ap suc (by_length instance rest)

by_at : (instance : ℕ) (depths : List ℕ) (k d : ℕ) → slice_get depths k ≡ Some d → slice_get (owned_by instance depths) k ≡ Some (record { instance = Some instance; depth = d })
by_at instance [] k d e = cc
by_at instance (depth ∷ rest) zero d e = cc
by_at instance (depth ∷ rest) (suc k) d e = by_at instance rest k d e

abbrev pub AreCounted : Code → List ℕ → List InstanceInfo → Type 0
AreCounted code counts infos =
    (i : ℕ) (info : InstanceInfo) → slice_get infos i ≡ Some info → slice_index_or counts info.function 0 ≡ length (depths_of 0 (routine_at code info.function).body)

pub owned_length : (code : Code) (counts : List ℕ) (from : ℕ) (infos : List InstanceInfo) → AreCounted code counts infos → length (owned_from code from infos) ≡ span counts infos
owned_length code counts from [] on = refl
owned_length code counts from (info ∷ rest) on =
    let depths = depths_of 0 (routine_at code info.function).body in
    omega (arith, length_join (owned_by from depths) (owned_from code (suc from) rest), by_length from depths, on 0 info refl, owned_length code counts (suc from) rest (λ i it e. on (suc i) it e))

pub owned_at : (code : Code) (counts : List ℕ) (from : ℕ) (infos : List InstanceInfo) → AreCounted code counts infos → (i instance : ℕ) (info : InstanceInfo) → slice_get infos i ≡ Some info → instance ≡ from + i → (k d at : ℕ) → at ≡ span_to counts infos i + k → slice_get (depths_of 0 (routine_at code info.function).body) k ≡ Some d → slice_get (owned_from code from infos) at ≡ Some (record { instance = Some instance; depth = d })
owned_at code counts from [] on i instance info e s k d at p f = cc
owned_at code counts from (it ∷ rest) on zero instance info e s k d at p f =
    rw (first instance from s, plain k at p) (left_at (owned_by from (depths_of 0 (routine_at code it.function).body)) (owned_from code (suc from) rest) k _ (by_at from (depths_of 0 (routine_at code it.function).body) k d (rw (same it info e) f)))
  where
    first : (a b : ℕ) → a ≡ b + 0 → a ≡ b
    first a b s = omega arith

    plain : (k at : ℕ) → at ≡ 0 + k → at ≡ k
    plain k at s = omega arith

    same : (a b : InstanceInfo) → slice_get (a ∷ []) 0 ≡ Some b → a ≡ b
    same a b e = cc
owned_at code counts from (it ∷ rest) on (suc i) instance info e s k d at p f =
    let depths = depths_of 0 (routine_at code it.function).body in
    right_at (owned_by from depths) (owned_from code (suc from) rest) (span_to counts rest i + k) at _ (omega (arith, p, by_length from depths, on 0 it refl))
    (owned_at code counts (suc from) rest (λ i it e. on (suc i) it e) i instance info e (omega (arith, s)) k d (span_to counts rest i + k) refl f)
