-- The calls of an object in memory: the numbers of those that fail, how many were made, and how many failed.
use Rattle.std.specs.Prelude.{ℕ, ◌+◌, ◌-◌, ◌^◌, min, Bool, if◌then◌else◌, ◌==◌, List, refl}
use Rattle.std.specs.List.{list_any}
use Rattle.std.specs.Coded.{Coded, code_by, coded×, coded_ℕ, coded_list}

pub record Plan : Type 0 where
  pub failing : List ℕ
  pub made : ℕ
  pub failed : ℕ

-- a plan is stored as the triple of its fields
abbrev pub plan_code : Coded Plan
plan_code =
    code_by (List ℕ × (ℕ × ℕ)) (coded× (coded_list coded_ℕ) (coded× coded_ℕ coded_ℕ)) (λ p. (p.failing, (p.made, p.failed))) (λ t. record { failing = t.0; made = t.1.0; failed = t.1.1 }) (λ _. refl)

-- no call was made yet
abbrev pub fresh : List ℕ → Plan
fresh failing = record { failing = failing; made = 0; failed = 0 }

-- one more, up to the greatest number of 64 bits
abbrev pub one_more : ℕ → ℕ
one_more n = min (n + 1) (2 ^ 64 - 1)

-- whether the next call fails: its number, from 1, is listed
abbrev pub next_fails : Plan → Bool
next_fails plan = list_any (λ k. k == one_more plan.made) plan.failing

-- the plan once the next call was made
abbrev pub after_call : Plan → Plan
after_call plan =
    record { failing = plan.failing; made = one_more plan.made; failed = if next_fails plan then one_more plan.failed else plan.failed }
