-- Rewriting: a value, and what is known afterwards.
use Rattle.std.specs.Prelude.{◌≡◌, List, [], ◌∷◌, ◌++◌, Option, Some, None, Result, Ok, Err}
use Rattle.wm_ops.specs.declared.memory.NoMemory.{NoMemory}
use Rattle.wm_members.specs.declared.state.State.{State}

abbrev pub Making : Type 0 → Type 0
Making A = State → A × State

infixl 10 ◌>>=◌
abbrev pub ◌>>=◌ : {A B : Type 0} → Making A → (A → Making B) → Making B
p >>= f = λ s. f (p s).0 (p s).1

abbrev pub pure : {A : Type 0} → A → Making A
pure a = λ s. (a, s)

-- a change, and then the rest
abbrev pub after : {A : Type 0} → (State → State) → Making A → Making A
after change p = λ s. p (change s)

-- what is made of each item in turn, behind what is made already
abbrev pub more : {A B : Type 0} → (A → Making B) → List B → List A → Making (List B)
more make done [] = pure done
more make done (x ∷ xs) = make x >>= λ made. more make (done ++ made ∷ []) xs

-- the same where an item may make none or several
abbrev pub behind : {A B : Type 0} → (A → List B → Making (List B)) → List B → List A → Making (List B)
behind make done [] = pure done
behind make done (x ∷ xs) = make x done >>= λ done. behind make done xs

abbrev pub maybe : {A B : Type 0} → (A → Making B) → Option A → Making (Option B)
maybe make None = pure None
maybe make (Some x) = make x >>= λ made. pure (Some made)

-- the same without a change of what is known
abbrev pub all_behind : {A B : Type 0} → (A → B) → List B → List A → List B
all_behind f done [] = done
all_behind f done (x ∷ xs) = all_behind f (done ++ f x ∷ []) xs

-- the value was made, unless memory was refused
abbrev pub Makes : {A : Type 0} → A × State → Result A NoMemory → State → Type 0
Makes made (Ok a) new = made ≡ (a, new)
Makes made (Err e) new = Unit {0}

-- the items behind those so far were made, unless memory was refused
abbrev pub Adds : {A : Type 0} → List A × State → Result (Unit {0}) NoMemory → List A → State → Type 0
Adds made (Ok a) done new = made ≡ (done, new)
Adds made (Err e) done new = Unit {0}
