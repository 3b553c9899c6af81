-- The heads of the instances of a well-formed program are all numbers below the number of heads, each once.
use Rattle.std.proofs.Common.{◌≡◌, ℕ, ◌+◌, ◌<◌, ◌≤◌, List, length, Some, false, refl, ◌∙◌, arith, ⊎_elim}
use Rattle.std.specs.Prelude.{slice_get, slice_index_or}
use Rattle.std.proofs.lemmas.Bool.{cases_lt}
use Rattle.std.proofs.lemmas.Option.{slice_get-get_or}
use Rattle.wm_program.specs.declared.program.InstanceInfo.{InstanceInfo}
use Rattle.wm_program.specs.Code.{Code, Routine, routine_at, function_of, no_routine}
use Rattle.wm_program.specs.WellFormed.{WellFormedCode}
use Rattle.wm_flow.specs.declared.graph.Sum.{Sum}
use Rattle.wm_flow.specs.Seats.{loop_counts, heads_from, tables_of}
use Rattle.wm_flow.specs.Places.{head_of}
use Rattle.wm_flow.specs.Parts.{plan_for, plan_of}
use Rattle.wm_graph_laws.specs.Each.{Each}
use Rattle.wm_graph_laws.specs.Begun.{all_begun, HeadsStand}
use Rattle.wm_heads.specs.Bodies.{loops_of, numbers_from, LoopsStand}
use Rattle.wm_heads.specs.Tally.{times, own}
use Rattle.wm_heads.specs.Laws.{FormedHeadsStand}
use Rattle.wm_heads.proofs.Runs.{loops_fit, OfFunction, Run, runs}
use Rattle.wm_heads.proofs.Ranks.{ranks_run, counts_run}
use Rattle.wm_heads.proofs.Sums.{total}
use Rattle.wm_heads.proofs.Spans.{inside, inside_one, inside_past, inside_two, inside_same, own_run, span, heads_span, spans_total, count_at}
use Rattle.wm_heads.proofs.Whole.{all_begun_count, each_of, distinct_of, among_of}

module _ (code : Code) (formed : WellFormedCode code) (stand : LoopsStand code) where
  abbrev pub counts : List ℕ
  counts = loop_counts code.routines code.loops 0

  zero_left : (k : ℕ) → 0 + k ≡ k
  zero_left k = omega arith

  bodies_fit : (k : ℕ) (routine : Routine) → slice_get code.routines k ≡ Some routine → Each (OfFunction code.loops (0 + k)) (loops_of routine.body)
  bodies_fit k routine e = rw (zero_left k) (loops_fit code routine k routine.body false (formed.routines k routine e).body)

  pub run_at : (function : ℕ) (routine : Routine) → slice_get code.routines function ≡ Some routine → Run code.loops function (loops_of routine.body) 0 (length code.loops)
  run_at function routine e =
      runs code.loops code.routines 0 0 (length code.loops) bodies_fit stand function function routine e (omega arith)

  -- so many loops of a function are counted
  pub counted : (function : ℕ) (routine : Routine) → slice_get code.routines function ≡ Some routine → (run : Run code.loops function (loops_of routine.body) 0 (length code.loops)) → slice_index_or counts function 0 ≡ run.size
  counted function routine e run =
      count_at code.routines code.loops 0 function routine e
      ∙ (rw (zero_left function) (counts_run code.loops function run.first run.size (omega (arith, run.high))
      (λ j less. run.before j (omega arith) less) (λ j less. run.inside (run.first + j) (omega arith) (omega arith)) (λ j a b. run.after j a (omega arith))))

  pub head_is : (instance function : ℕ) (body : List ℕ) (run : Run code.loops function body 0 (length code.loops)) (k : ℕ) → k < run.size → head_of (tables_of code) instance (run.first + k) ≡ slice_index_or (heads_from counts 1 code.instances) instance 0 + k
  unfolding tables_of
  head_is instance function body run k less =
      omega (arith, ranks_run code.loops function 0 0 run.first run.size k (λ e. refl) (λ j less. run.before j (omega arith) less) (λ j less. run.inside (run.first + j) (omega arith) (omega arith)) less)

  module _ (n : ℕ) where
    own_for : (instance : ℕ) (xs ys : List ℕ) → xs ≡ ys → own n (tables_of code) instance xs ≡ own n (tables_of code) instance ys
    own_for instance xs ys e = rw e refl

    inside_size : (a b c : ℕ) → b ≡ c → inside a b n ≡ inside a c n
    inside_size a b c e = rw e refl

    routine_own : (instance function : ℕ) (routine : Routine) → slice_get code.routines function ≡ Some routine → own n (tables_of code) instance (loops_of routine.body) ≡ inside (slice_index_or (heads_from counts 1 code.instances) instance 0) (slice_index_or counts function 0) n
    routine_own instance function routine e =
        let run = run_at function routine e in
        let first = slice_index_or (heads_from counts 1 code.instances) instance 0 in
        own_for instance (loops_of routine.body) (numbers_from run.first run.size) run.is
        ∙ (own_run n (tables_of code) instance run.first run.size first (head_is instance function (loops_of routine.body) run)
        ∙ inside_size first run.size (slice_index_or counts function 0) (omega (arith, counted function routine e run)))

    instance_own : (instance : ℕ) (info : InstanceInfo) → slice_get code.instances instance ≡ Some info → own n (tables_of code) instance (loops_of (routine_at code (function_of code instance)).body) ≡ inside (slice_index_or (heads_from counts 1 code.instances) instance 0) (slice_index_or counts info.function 0) n
    instance_own instance info e =
        let fits = formed.instances instance info e in
        let named : function_of code instance ≡ info.function = rw e refl in
        rw named (routine_own instance info.function (routine_at code info.function) (slice_get-get_or code.routines info.function no_routine fits.function))

    abbrev own_weight : ℕ → ℕ
    own_weight instance = own n (tables_of code) instance (loops_of (routine_at code (function_of code instance)).body)

    weights_total : total own_weight 0 (length code.instances) ≡ inside 1 (span counts code.instances) n
    weights_total =
        spans_total n own_weight counts 1 0 code.instances (λ k info e. rw (zero_left k) (instance_own k info e))

  pub heads_count : (tables_of code).heads ≡ 1 + span counts code.instances
  unfolding tables_of
  heads_count = heads_span counts 1 code.instances

  begun_times : (sums : List Sum) (n : ℕ) → times n (all_begun (plan_of code sums)) ≡ inside 0 (1 + span counts code.instances) n
  unfolding plan_of plan_for
  begun_times sums n =
      omega (arith, all_begun_count n (plan_of code sums) formed, weights_total n, inside_same 0 n, inside_two 0 1 (span counts code.instances) n)

  plan_heads : (sums : List Sum) → (plan_of code sums).tables.heads ≡ 1 + span counts code.instances
  unfolding plan_of plan_for
  plan_heads sums = heads_count

  one_more : (m n : ℕ) → 0 < inside 0 m n → n < m
  one_more m n h =
      ⊎_elim (λ less. less) (λ past. absurd (never (inside 0 m n) h (inside_past 0 m n (omega (arith, past))))) (cases_lt n m)
    where
      never : (a : ℕ) → 0 < a → a ≡ 0 → ⊥
      never a h e = omega arith

  at_most : (m n : ℕ) → inside 0 m n ≤ 1
  at_most m n =
      ⊎_elim (λ less. omega (arith, inside_one 0 m n (omega arith) (omega (arith, less)))) (λ past. omega (arith, inside_past 0 m n (omega (arith, past)))) (cases_lt n m)

  heads_stand : (sums : List Sum) → HeadsStand (plan_of code sums)
  heads_stand sums =
      let begun = all_begun (plan_of code sums) in
      let heads = 1 + span counts code.instances in
      record {
        within = each_of (λ n. n < (plan_of code sums).tables.heads) begun (λ n h. omega (arith, plan_heads sums, one_more heads n (omega (arith, h, begun_times sums n))));
        distinct = distinct_of begun (λ n. omega (arith, begun_times sums n, at_most heads n));
        covered = λ n less. among_of n begun (omega (arith, begun_times sums n, inside_one 0 heads n (omega arith) (omega (arith, less, plan_heads sums))));
      }

pub formed_heads_stand : FormedHeadsStand
formed_heads_stand code sums formed stand = heads_stand code formed stand sums
