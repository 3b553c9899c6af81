-- Each head of a well-formed program is begun once: how often is counted through all instances.
use Rattle.std.proofs.Common.{◌≡◌, ℕ, zero, suc, ◌+◌, ◌<◌, ◌≤◌, List, [], ◌∷◌, ◌++◌, length, Option, Some, None, Bool, true, false, refl, ◌∙◌, arith, ⊎_elim, inl, inr}
use Rattle.std.specs.Prelude.{◌==◌, slice_get}
use Rattle.std.proofs.lemmas.Bool.{cases_lt}
use Rattle.std.proofs.lemmas.Option.{slice_get-get_or}
use Rattle.wm_program.specs.declared.program.InstanceInfo.{InstanceInfo}
use Rattle.wm_program.specs.Code.{routine_at, function_of}
use Rattle.wm_program.specs.WellFormed.{Calling, calls_of, InitFits, WellFormedCode, root_count, roots_among}
use Rattle.wm_flow.specs.Places.{Plan}
use Rattle.wm_flow.specs.Strokes.{Stroke, Point, Line, Part, Begins, Turns, point}
use Rattle.wm_flow.specs.Parts.{part_strokes, instance_count}
use Rattle.wm_flow.specs.Graphs.{before_frames, frame_strokes}
use Rattle.wm_graph_laws.specs.Each.{Each}
use Rattle.wm_graph_laws.specs.Begun.{begun_in, begun_part, all_begun, AreDistinct, IsAmong}
use Rattle.wm_heads.specs.Bodies.{loops_of}
use Rattle.wm_heads.specs.Tally.{same, times, begins, called, own}
use Rattle.wm_heads.proofs.Parts.{part_count}
use Rattle.wm_heads.proofs.Sums.{weigh, CallerBelow, AreBelow, pick, if_called, calls_weigh, weigh_same, total, roots_total, root_part, one_root, two_roots}
use Rattle.wm_heads.proofs.Callers.{equal, frame_root, first_root, callers_below}
use Rattle.wm_heads.proofs.Spans.{same_one, same_none}

-- ---- numbers that stand once

times_join : (n : ℕ) (xs ys : List ℕ) → times n (xs ++ ys) ≡ times n xs + times n ys
times_join n [] ys = omega arith
times_join n (x ∷ xs) ys = omega (arith, times_join n xs ys)

pub each_of : (P : ℕ → Type 0) (xs : List ℕ) → ((n : ℕ) → 0 < times n xs → P n) → Each P xs
each_of P [] on = tt
each_of P (x ∷ xs) on =
    (on x (omega (arith, same_one x x refl)), each_of P xs (λ n h. on n (omega (arith, h))))

pub distinct_of : (xs : List ℕ) → ((n : ℕ) → times n xs ≤ 1) → AreDistinct xs
distinct_of [] once = tt
distinct_of (x ∷ xs) once =
    (each_of (λ m. x ≡ m → ⊥) xs (λ m h e. omega (arith, once m, same_one x m e, h)), distinct_of xs (λ n. omega (arith, once n)))

pub among_of : (n : ℕ) (xs : List ℕ) → 0 < times n xs → IsAmong n xs
among_of n [] h = absurd (never h)
  where
    never : 0 < 0 → ⊥
    never h = omega arith
among_of n (x ∷ xs) h =
    ⊎_elim
    (λ less. inr (among_of n xs (omega (arith, h, same_none x n (λ e. omega (arith, e, less))))))
    (λ more. ⊎_elim
    (λ less. inr (among_of n xs (omega (arith, h, same_none x n (λ e. omega (arith, e, less))))))
    (λ at. inl (omega (arith, more, at)))
    (cases_lt n x))
    (cases_lt x n)

-- ---- what strokes begin, with the parts in their places

module _ (n : ℕ) where
  times_begun : (part : ℕ → ℕ) (parts : ℕ → ℕ → List ℕ) → ((instance start : ℕ) → times n (parts instance start) ≡ part instance) → (strokes : List Stroke) → times n (begun_in parts strokes) ≡ begins n part strokes
  unfolding begins
  times_begun part parts on [] = refl
  times_begun part parts on (Point context instance counters temporaries ∷ rest) = times_begun part parts on rest
  times_begun part parts on (Line source target doing site ∷ rest) = times_begun part parts on rest
  times_begun part parts on (Part instance start ∷ rest) =
      omega (arith, times_join n (parts instance start) (begun_in parts rest), on instance start, times_begun part parts on rest)
  times_begun part parts on (Begins head instance loop node ∷ rest) = omega (arith, times_begun part parts on rest)
  times_begun part parts on (Turns head ∷ rest) = times_begun part parts on rest

  module _ (plan : Plan) where
    -- the loops of an instance
    abbrev loops_at : ℕ → List ℕ
    loops_at instance = loops_of (routine_at plan.code (function_of plan.code instance)).body

    abbrev calls_at : ℕ → List Calling
    calls_at instance = calls_of (routine_at plan.code (function_of plan.code instance)).body

    abbrev pub weight : ℕ → ℕ
    weight instance = own n plan.tables instance (loops_at instance)

    -- an instance with all that it calls, through so many levels
    abbrev whole : (levels : ℕ) → ℕ → ℕ
    whole zero instance = 0
    whole (suc levels) instance = weight instance + called (whole levels) instance (calls_at instance)

    part_begun : (levels instance start : ℕ) → times n (begun_part plan levels instance start) ≡ whole levels instance
    unfolding begun_part
    part_begun zero instance start = refl
    part_begun (suc levels) instance start =
        times_begun (whole levels) (begun_part plan levels) (part_begun levels) (part_strokes plan instance start)
        ∙ part_count n (whole levels) plan instance start

    abbrev all : ℕ → ℕ
    all = whole (instance_count plan.code)

    abbrev before : Option ℕ → ℕ
    before None = 0
    before (Some init) = all init

    before_count : (init : Option ℕ) → begins n all (before_frames plan init) ≡ before init
    unfolding begins
    before_count None = refl
    before_count (Some init) = omega arith

    frame_count : begins n all (frame_strokes plan) ≡ same 0 n + all plan.code.frame
    unfolding begins frame_strokes point
    frame_count = omega arith

    all_count : times n (all_begun plan) ≡ before plan.code.init + (same 0 n + all plan.code.frame)
    unfolding all_begun
    all_count =
        let parts = begun_part plan (instance_count plan.code) in
        let on = part_begun (instance_count plan.code) in
        omega (arith, times_join n (begun_in parts (before_frames plan plan.code.init)) (begun_in parts (frame_strokes plan)), times_begun all parts on (before_frames plan plan.code.init), times_begun all parts on (frame_strokes plan), before_count plan.code.init, frame_count)

    -- ---- in a well-formed program

    module _ (formed : WellFormedCode plan.code) where
      abbrev infos : List InstanceInfo
      infos = plan.code.instances

      no_info : InstanceInfo
      no_info = record { function = 0; caller = None; call = None; roots = [] }

      calls_sum : (f : ℕ → ℕ) (instance : ℕ) → instance < length infos → called f instance (calls_at instance) ≡ weigh (if_called f instance) 0 infos
      calls_sum f instance there = at _ (slice_get-get_or infos instance no_info there)
        where
          at : (info : InstanceInfo) → slice_get infos instance ≡ Some info → called f instance (calls_at instance) ≡ weigh (if_called f instance) 0 infos
          at info e =
              let named : function_of plan.code instance ≡ info.function = rw e refl in
              rw named (calls_weigh f instance (calls_of (routine_at plan.code info.function).body) infos (formed.instances instance info e).called)

      -- more levels count no more
      called_same : (f g : ℕ → ℕ) (instance j : ℕ) (caller : Option ℕ) → CallerBelow j caller → (instance < j → f j ≡ g j) → if_called f instance j caller ≡ if_called g instance j caller
      called_same f g instance j None below on = refl
      called_same f g instance j (Some c) below on = by (c == instance) (λ e. on (omega (arith, below, equal c instance e)))
        where
          by : (b : Bool) → (b ≡ true → f j ≡ g j) → pick b (f j) ≡ pick b (g j)
          by true on = on refl
          by false on = refl

      steady : (levels instance : ℕ) → length infos ≤ instance + levels → instance < length infos → whole levels instance ≡ whole (suc levels) instance
      steady zero instance enough there = absurd (never instance (length infos) enough there)
        where
          never : (a b : ℕ) → b ≤ a + 0 → a < b → ⊥
          never a b p q = omega arith
      steady (suc levels) instance enough there =
          let f = whole levels in
          let g = whole (suc levels) in
          omega (arith, calls_sum f instance there, calls_sum g instance there, weigh_same (if_called f instance) (if_called g instance) 0 infos (callers_below plan.code formed) (λ j caller below less. called_same f g instance j caller below (λ up. steady levels j (omega (arith, enough, up)) (omega (arith, less)))))

      each_whole : (k : ℕ) → k < length infos → all k ≡ weight k + weigh (if_called all k) 0 infos
      each_whole k there = omega (arith, steady (length infos) k (omega arith) there, calls_sum all k there)

      all_total : weigh (root_part all) 0 infos ≡ total weight 0 (length infos)
      all_total =
          weigh_same (root_part all) _ 0 infos (callers_below plan.code formed) (λ j caller b less. root_same j caller)
          ∙ roots_total all weight infos (callers_below plan.code formed) each_whole
        where
          root_same : (j : ℕ) (caller : Option ℕ) → root_part all j caller ≡ Rattle.wm_heads.proofs.Sums.if_root all weight infos (callers_below plan.code formed) each_whole j caller
          root_same j None = refl
          root_same j (Some c) = refl

      roots_count : (init : Option ℕ) → InitFits plan.code init → roots_among infos ≡ root_count init → weigh (root_part all) 0 infos ≡ before init + all plan.code.frame
      roots_count None fits count = omega (arith, one_root all 0 infos plan.code.frame plan.code.frame (omega arith) count (frame_root plan.code formed))
      roots_count (Some init) fits count =
          omega (arith, two_roots all infos plan.code.frame fits.1 count (first_root plan.code formed) (frame_root plan.code formed), first_all init fits.0)
        where
          first_all : (init : ℕ) → init ≡ 0 → all init ≡ all 0
          first_all init e = rw e refl

      pub all_begun_count : times n (all_begun plan) ≡ same 0 n + total weight 0 (length infos)
      all_begun_count = omega (arith, all_count, all_total, roots_count plan.code.init formed.init formed.roots)
