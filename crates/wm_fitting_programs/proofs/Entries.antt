-- The functions with which a program begins are there and have no parameters.
use Rattle.std.proofs.Common.{◌≡◌, ℕ, suc, ◌+◌, Bool, true, false, cond, List, [], ◌∷◌, Option, Some, None, refl, sym, ap, subst, ◌∙◌, arith}
use Rattle.std.proofs.lemmas.Bool.Decides.{nat_tests}
use Rattle.std.proofs.lemmas.List.Elements.{All-nil, All-push}
use Rattle.std.proofs.lemmas.Option.{get_or_from_slice_get}
use Rattle.std.specs.List.{All}
use Rattle.std.specs.Prelude.{IsSomeAnd, ◌==◌, slice_get}
use Rattle.wm_program.specs.declared.program.FunctionInfo.{FunctionInfo}
use Rattle.wm_program.specs.Code.{Code, Routine, no_routine, routine_at, routine_of}
use Rattle.wm_inputs.specs.Entries.{is_named, entry_from, entry_of, with_number, entries_from, entries_of}
use Rattle.wm_fitting_units.proofs.Meanings.{within_list}
use Rattle.wm_fitting_programs.specs.Laws.{IsFrame}

-- a function without parameters stands so far behind the first
pub record IsEntry (k : ℕ) (functions : List FunctionInfo) (n : ℕ) : Type 0 where
  pub j : ℕ
  pub place : n ≡ k + j
  pub there : IsSomeAnd (slice_get functions j) (λ it. it.parameters ≡ 0)

the_same : (a b : ℕ) → Some a ≡ Some b → a ≡ b
the_same a b e = cc

is_zero : (n : ℕ) → (n == 0) ≡ true → n ≡ 0
is_zero n e = grind (arith, nat_tests, e)

named_entry : (k : ℕ) (x : FunctionInfo) (rest : List FunctionInfo) (n : ℕ) (b : Bool) → (x.parameters == 0) ≡ b → cond b (Some k) None ≡ Some n → IsEntry k (x ∷ rest) n
named_entry k x rest n true z e = record { j = 0; place = sym (the_same k n e) ∙ none_more k; there = is_zero x.parameters z }
  where
    none_more : (k : ℕ) → k ≡ k + 0
    none_more k = omega arith
named_entry k x rest n false z e = cc

entry_by : (k : ℕ) (word : List ℕ) (x : FunctionInfo) (rest : List FunctionInfo) (n : ℕ) → (entry_from (suc k) word rest ≡ Some n → IsEntry (suc k) rest n) → (b : Bool)
    → cond b (cond (x.parameters == 0) (Some k) None) (entry_from (suc k) word rest) ≡ Some n → IsEntry k (x ∷ rest) n
entry_by k word x rest n h true e = named_entry k x rest n (x.parameters == 0) refl e
entry_by k word x rest n h false e = let s = h e in record { j = suc s.j; place = one_less k s.j n s.place; there = s.there }
  where
    one_less : (k j n : ℕ) → n ≡ suc k + j → n ≡ k + suc j
    one_less k j n e = omega (arith, e)

entry_found : (k : ℕ) (word : List ℕ) (functions : List FunctionInfo) (n : ℕ) → entry_from k word functions ≡ Some n → IsEntry k functions n
entry_found k word [] n e = cc
entry_found k word (x ∷ rest) n e = entry_by k word x rest n (λ h. entry_found (suc k) word rest n h) (is_named x.name word) e

-- ---- the numbers of the frame functions

abbrev Follows : Code → List FunctionInfo → Type 0
Follows code functions = (k : ℕ) (info : FunctionInfo) → slice_get functions k ≡ Some info → slice_get code.routines k ≡ Some (routine_of info)

frame_by : (code : Code) (functions : List FunctionInfo) → Follows code functions → (k : ℕ) (o : Option FunctionInfo) → slice_get functions k ≡ o → IsSomeAnd o (λ it. it.parameters ≡ 0) → IsFrame code k
frame_by code functions h k None e p = absurd p
frame_by code functions h k (Some x) e p =
    let there = h k x e in
    let is_it : routine_at code k ≡ routine_of x = get_or_from_slice_get code.routines k (routine_of x) no_routine there in
    record {
      there = within_list code.routines k (routine_of x) there;
      parameters = ap (λ (it : Routine). it.parameters) is_it ∙ p;
    }

entry_fits : (code : Code) (functions : List FunctionInfo) → Follows code functions → (name : List ℕ) (n : ℕ) → entry_of functions name ≡ Some n → IsFrame code n
unfolding entry_of
entry_fits code functions h name n e =
    let s = entry_found 0 name functions n e in
    subst (IsFrame code) (sym (s.place ∙ none_before s.j)) (frame_by code functions h s.j (slice_get functions s.j) refl s.there)
  where
    none_before : (j : ℕ) → 0 + j ≡ j
    none_before j = omega arith

with_fits : (code : Code) (numbers : List ℕ) (o : Option ℕ) → ((n : ℕ) → o ≡ Some n → IsFrame code n) → All (IsFrame code) numbers → All (IsFrame code) (with_number o numbers)
with_fits code numbers None h a = a
with_fits code numbers (Some n) h a = All-push (IsFrame code) numbers n a (h n refl)

all_entries : (code : Code) (functions : List FunctionInfo) → Follows code functions → (names : List (List ℕ)) (numbers : List ℕ) → All (IsFrame code) numbers → All (IsFrame code) (entries_from functions names numbers)
all_entries code functions h [] numbers a = a
all_entries code functions h (name ∷ rest) numbers a =
    all_entries code functions h rest (with_number (entry_of functions name) numbers)
    (with_fits code numbers (entry_of functions name) (λ n e. entry_fits code functions h name n e) a)

pub frames_fit : (code : Code) (functions : List FunctionInfo) → Follows code functions → (names : List (List ℕ)) → All (IsFrame code) (entries_of functions names)
unfolding entries_of
frames_fit code functions h names = all_entries code functions h names [] (All-nil (IsFrame code))
