-- The loops of a function stand one after another among those of the program.
use Rattle.std.proofs.Common.{◌≡◌, ℕ, zero, suc, ◌+◌, ◌-◌, ◌<◌, ◌≤◌, List, [], ◌∷◌, ◌++◌, Some, Bool, true, refl, ◌∙◌, arith, ⊎_elim}
use Rattle.std.specs.Prelude.{slice_get}
use Rattle.std.proofs.lemmas.Bool.{cases_lt}
use Rattle.wm_program.specs.declared.program.LoopInfo.{LoopInfo}
use Rattle.wm_program.specs.Tree.{Tree, Skip, Seq, Block, Empty, Declare, Act, If, IfElse, For, While, Do, Break, Continue, Return, Leave}
use Rattle.wm_program.specs.Code.{Code, Routine}
use Rattle.wm_program.specs.WellFormed.{Has, FitsTree}
use Rattle.wm_graph_laws.specs.Each.{Each}
use Rattle.wm_heads.specs.Bodies.{loops_of, loops_through, numbers_from}

pub has_map : {A : Type 0} (P Q : A → Type 0) (xs : List A) (k : ℕ) → ((x : A) → P x → Q x) → Has xs k P → Has xs k Q
has_map P Q [] k on h = absurd h
has_map P Q (x ∷ xs) zero on h = on x h
has_map P Q (x ∷ xs) (suc k) on h = has_map P Q xs k on h

pub each_on : {A : Type 0} (P Q : A → Type 0) (xs : List A) → ((x : A) → P x → Q x) → Each P xs → Each Q xs
each_on P Q [] on h = tt
each_on P Q (x ∷ xs) on h = (on x h.0, each_on P Q xs on h.1)

each_join : {A : Type 0} (P : A → Type 0) (xs ys : List A) → Each P xs → Each P ys → Each P (xs ++ ys)
each_join P [] ys h i = i
each_join P (x ∷ xs) ys h i = (h.0, each_join P xs ys h.1 i)

each_number : (P : ℕ → Type 0) (first count k : ℕ) → Each P (numbers_from first count) → first ≤ k → k < first + count → P k
each_number P first zero k h a b = absurd (none first k a b)
  where
    none : (f k : ℕ) → f ≤ k → k < f + 0 → ⊥
    none f k a b = omega arith
each_number P first (suc count) k h a b =
    ⊎_elim (λ less. each_number P (suc first) count k h.1 less (omega arith))
    (λ at. rw (same first k a at) at h.0) (cases_lt first k)
  where
    same : (f k : ℕ) → f ≤ k → k ≤ f → f ≡ k
    same f k a b = omega arith

-- ---- the loops of a body are those of its function

module _ (code : Code) (routine : Routine) (function : ℕ) where
  abbrev Fits : ℕ → Type 0
  Fits loop = Has code.loops loop (λ it. it.function ≡ function)

  pub loops_fit : (tree : Tree) (inside : Bool) → FitsTree code routine function tree inside → Each Fits (loops_of tree)
  loops_fit Skip inside h = tt
  loops_fit (Seq first rest) inside h = each_join Fits (loops_of first) (loops_of rest) (loops_fit first inside h.0) (loops_fit rest inside h.1)
  loops_fit (Block tree) inside h = loops_fit tree inside h
  loops_fit Empty inside h = tt
  loops_fit (Declare fresh) inside h = tt
  loops_fit (Act effect) inside h = tt
  loops_fit (If is_counted test first) inside h = loops_fit first inside h.1
  loops_fit (IfElse is_counted test first is_else_counted otherwise) inside h =
      each_join Fits (loops_of first) (loops_of otherwise) (loops_fit first inside h.1) (loops_fit otherwise inside h.2)
  loops_fit (For is_counted loop begin test step body) inside h = (h.0, loops_fit body true h.4)
  loops_fit (While is_counted loop test body) inside h = (h.0, loops_fit body true h.2)
  loops_fit (Do is_counted is_tail_counted loop body test) inside h = (h.0, loops_fit body true h.1)
  loops_fit (Break is_counted) inside h = tt
  loops_fit (Continue is_counted) inside h = tt
  loops_fit (Return x narrowing) inside h = tt
  loops_fit Leave inside h = tt

-- ---- a list of numbers in two pieces

pub record Halves (xs ys : List ℕ) (first count : ℕ) : Type 0 where
  pub size : ℕ
  pub small : size ≤ count
  pub left : xs ≡ numbers_from first size
  pub right : ys ≡ numbers_from (first + size) (count - size)

tail_of : (x y : ℕ) (xs ys : List ℕ) → x ∷ xs ≡ y ∷ ys → xs ≡ ys
tail_of x y xs ys e = cc

head_of : (x y : ℕ) (xs ys : List ℕ) → x ∷ xs ≡ y ∷ ys → x ≡ y
head_of x y xs ys e = cc

numbers_same : (a b m n : ℕ) → a ≡ b → m ≡ n → numbers_from a m ≡ numbers_from b n
numbers_same a b m n e f = rw (e, f) refl

halves : (xs ys : List ℕ) (first count : ℕ) → xs ++ ys ≡ numbers_from first count → Halves xs ys first count
halves [] ys first count e = record { size = 0; small = omega arith; left = refl; right = e ∙ numbers_same _ _ _ _ (omega arith) (omega arith) }
halves (x ∷ xs) ys first zero e = cc
halves (x ∷ xs) ys first (suc count) e =
    let rest = halves xs ys (suc first) count (tail_of x first (xs ++ ys) (numbers_from (suc first) count) e) in
    record {
      size = suc rest.size;
      small = omega (arith, rest.small);
      left = pair x first xs (numbers_from (suc first) rest.size) (head_of x first (xs ++ ys) (numbers_from (suc first) count) e) rest.left;
      right = rest.right ∙ numbers_same _ _ _ _ (omega arith) (omega arith);
    }
  where
    pair : (x y : ℕ) (xs ys : List ℕ) → x ≡ y → xs ≡ ys → x ∷ xs ≡ y ∷ ys
    pair x y xs ys e f = cc

-- ---- each function has a run of loops

module _ (loops : List LoopInfo) where
  abbrev pub OfFunction : (function loop : ℕ) → Type 0
  OfFunction function loop = Has loops loop (λ it. it.function ≡ function)

  abbrev pub OfOther : (function loop : ℕ) → Type 0
  OfOther function loop = Has loops loop (λ it. it.function ≡ function → ⊥)

  pub record Run (function : ℕ) (body : List ℕ) (start count : ℕ) : Type 0 where
    pub first : ℕ
    pub size : ℕ
    pub is : body ≡ numbers_from first size
    pub low : start ≤ first
    pub high : first + size ≤ start + count
    pub before : (loop : ℕ) → start ≤ loop → loop < first → OfOther function loop
    pub inside : (loop : ℕ) → first ≤ loop → loop < first + size → OfFunction function loop
    pub after : (loop : ℕ) → first + size ≤ loop → loop < start + count → OfOther function loop

  abbrev BodiesFit : List Routine → (from : ℕ) → Type 0
  BodiesFit routines from = (k : ℕ) (routine : Routine) → slice_get routines k ≡ Some routine → Each (OfFunction (from + k)) (loops_of routine.body)

  moved : (routine : Routine) (rest : List Routine) (from : ℕ) → BodiesFit (routine ∷ rest) from → BodiesFit rest (suc from)
  moved routine rest from fits k it e =
      each_on (OfFunction (from + suc k)) (OfFunction (suc from + k)) (loops_of it.body)
      (λ l h. has_map (λ it. it.function ≡ from + suc k) (λ it. it.function ≡ suc from + k) loops l (λ it e. omega (arith, e)) h) (fits (suc k) it e)

  -- those of later functions
  through_later : (routines : List Routine) (from : ℕ) → BodiesFit routines from → Each (λ l. Has loops l (λ it. from ≤ it.function)) (loops_through routines)
  through_later [] from fits = tt
  through_later (routine ∷ rest) from fits =
      let P : ℕ → Type 0 = λ l. Has loops l (λ it. from ≤ it.function) in
      each_join P (loops_of routine.body) (loops_through rest)
      (each_on (OfFunction (from + 0)) P (loops_of routine.body) (λ l h. has_map (λ it. it.function ≡ from + 0) (λ it. from ≤ it.function) loops l (λ it e. omega (arith, e)) h) (fits 0 routine refl))
      (each_on (λ l. Has loops l (λ it. suc from ≤ it.function)) P (loops_through rest) (λ l h. has_map (λ it. suc from ≤ it.function) (λ it. from ≤ it.function) loops l (λ it e. omega (arith, e)) h) (through_later rest (suc from) (moved routine rest from fits)))

  pub runs : (routines : List Routine) (from start count : ℕ) → BodiesFit routines from → loops_through routines ≡ numbers_from start count → (k function : ℕ) (routine : Routine) → slice_get routines k ≡ Some routine → function ≡ from + k → Run function (loops_of routine.body) start count
  runs [] from start count fits all k function routine e f = cc
  runs (it ∷ rest) from start count fits all zero function routine e f =
      let parts = halves (loops_of it.body) (loops_through rest) start count all in
      let same : loops_of routine.body ≡ loops_of it.body = some_same it routine e in
      let own : Each (OfFunction (from + 0)) (numbers_from start parts.size) = rw parts.left at (fits 0 it refl) in
      let later : Each (λ l. Has loops l (λ it. suc from ≤ it.function)) (numbers_from (start + parts.size) (count - parts.size)) = rw parts.right at (through_later rest (suc from) (moved it rest from fits)) in
      record {
        first = start;
        size = parts.size;
        is = same ∙ parts.left;
        low = omega arith;
        high = omega (arith, parts.small);
        before = λ l a b. absurd (none start l a b);
        inside = λ l a b. has_map (λ it. it.function ≡ from + 0) (λ it. it.function ≡ function) loops l (λ it e. omega (arith, e, f)) (each_number (OfFunction (from + 0)) start parts.size l own a b);
        after = λ l a b. has_map (λ it. suc from ≤ it.function) (λ it. it.function ≡ function → ⊥) loops l (λ it e g. omega (arith, e, f, g)) (each_number (λ l. Has loops l (λ it. suc from ≤ it.function)) (start + parts.size) (count - parts.size) l later a (omega (arith, parts.small)));
      }
    where
      none : (f k : ℕ) → f ≤ k → k < f → ⊥
      none f k a b = omega arith

      some_same : (a b : Routine) → slice_get (a ∷ []) 0 ≡ Some b → loops_of b.body ≡ loops_of a.body
      some_same a b e = cc
  runs (it ∷ rest) from start count fits all (suc k) function routine e f =
      let parts = halves (loops_of it.body) (loops_through rest) start count all in
      let own : Each (OfFunction (from + 0)) (numbers_from start parts.size) = rw parts.left at (fits 0 it refl) in
      let run = runs rest (suc from) (start + parts.size) (count - parts.size) (moved it rest from fits) parts.right k function routine e (omega arith) in
      record {
        first = run.first;
        size = run.size;
        is = run.is;
        low = omega (arith, run.low);
        high = omega (arith, run.high, parts.small);
        before = λ l a b. ⊎_elim
            (λ less. has_map (λ it. it.function ≡ from + 0) (λ it. it.function ≡ function → ⊥) loops l (λ it e g. omega (arith, e, f, g)) (each_number (OfFunction (from + 0)) start parts.size l own a less))
            (λ at. run.before l at b) (cases_lt l (start + parts.size));
        inside = run.inside;
        after = λ l a b. run.after l a (omega (arith, parts.small));
      }
