-- Weights of paths. Those above 10^15 are all alike.
use Rattle.std.specs.Prelude.{ℕ, ◌+◌, if◌then◌else◌, nat_lt, max, Option, Some, None}

abbrev pub cut : ℕ → ℕ
cut n = if nat_lt n 1000000000000001 then n else 1000000000000001

-- the weight of a path that begins with an edge of this weight, where what is added at its target and the rest weigh so much
abbrev pub along : (weight added : ℕ) → Option ℕ → Option ℕ
along weight added None = None
along weight added (Some rest) = Some (cut (weight + added + rest))

-- the greater weight of two, where there are paths
abbrev pub greater : Option ℕ → Option ℕ → Option ℕ
greater None b = b
greater (Some a) None = Some a
greater (Some a) (Some b) = Some (max a b)

-- where there is no path, nothing
abbrev pub or_nought : Option ℕ → ℕ
or_nought None = 0
or_nought (Some weight) = weight
