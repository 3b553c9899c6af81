-- The macro at the place of its name, and what a change there does.
use Rattle.std.proofs.Common.{◌≡◌, ℕ, zero, suc, ◌+◌, ◌<◌, ◌≤◌, Bool, true, false, cond, not, ◌&&◌, List, [], ◌∷◌, ◌++◌, length, get_or, set, Option, Some, None, refl, sym, ap, subst, ◌∙◌, arith, inl, inr, bytes_eq}
use Rattle.std.specs.Prelude.{is_some, option_map, IfSome}
use Rattle.std.proofs.lemmas.Bool.{cases_Bool}
use Rattle.std.proofs.lemmas.Option.{same_Some}
use Rattle.std.proofs.lemmas.Slice.Eq.{bytes_eq-Decides}
use Rattle.wm_lex.specs.declared.definitions.Macro.{Macro}
use Rattle.wm_lex.specs.declared.lexeme.Lexeme.{Lexeme}
use Rattle.wm_lex.specs.Macros.{list_of, is_named, with_macro, ended, without_macro, place_in}
use Rattle.wm_lex.specs.Walks.{place_in_force}

-- what the macros are at the place that a name has
pub record AtPlace (word : List ℕ) (macros : List Macro) (place : ℕ) (d : Macro) : Type 0 where
  pub within : place < length macros
  pub name : (get_or macros place d).name ≡ word
  pub list : list_of word macros ≡ (get_or macros place d).lexemes
  pub named : is_named word macros ≡ (is_some (get_or macros place d).lexemes && not (get_or macros place d).is_first)
  pub in_force : place_in_force word macros ≡ cond {A = Option ℕ} (is_some (get_or macros place d).lexemes) (Some place) None
  pub ended_is : without_macro word macros ≡ set macros place (ended (get_or macros place d))
  pub put_is : (new : Macro) → new.name ≡ word → with_macro new macros ≡ set macros place new

suc_place : (o : Option ℕ) (place : ℕ) → option_map suc o ≡ Some place → (p : ℕ) × (o ≡ Some p) × (place ≡ suc p)
suc_place None place h = absurd cc
suc_place (Some p) place h = (p, refl, sym (same_Some (suc p) place h))

suc_none : (o : Option ℕ) → option_map suc o ≡ None → o ≡ None
suc_none None h = refl
suc_none (Some p) h = absurd cc

force_suc : (b : Bool) (p : ℕ) → option_map suc (cond {A = Option ℕ} b (Some p) None) ≡ cond {A = Option ℕ} b (Some (suc p)) None
force_suc true p = refl
force_suc false p = refl

at_first : (word : List ℕ) (m : Macro) (macros : List Macro) (d : Macro) → bytes_eq m.name word ≡ true → AtPlace word (m ∷ macros) 0 d
at_first word m macros d here = record {
  within = omega arith;
  name = (bytes_eq-Decides m.name word).0 here;
  list = rw here refl;
  named = rw here refl;
  in_force = rw here refl;
  ended_is = rw here refl;
  put_is = λ new same. let test : bytes_eq m.name new.name ≡ true = ap (bytes_eq m.name) same ∙ here in rw test refl;
}

at_later : (word : List ℕ) (m : Macro) (macros : List Macro) (place : ℕ) (d : Macro) → bytes_eq m.name word ≡ false → AtPlace word macros place d → AtPlace word (m ∷ macros) (suc place) d
at_later word m macros place d not_here found = record {
  within = omega (arith, found.within);
  name = found.name;
  list = rw not_here found.list;
  named = rw not_here found.named;
  in_force = rw not_here (ap (option_map suc) found.in_force ∙ force_suc (is_some (get_or macros place d).lexemes) place);
  ended_is = rw not_here (ap (λ (t : List Macro). m ∷ t) found.ended_is);
  put_is = λ new same. let test : bytes_eq m.name new.name ≡ false = ap (bytes_eq m.name) same ∙ not_here in rw test (ap (λ (t : List Macro). m ∷ t) (found.put_is new same));
}

pub at_place : (word : List ℕ) (macros : List Macro) (place : ℕ) (d : Macro) → place_in word macros ≡ Some place → AtPlace word macros place d
at_place word [] place d h = absurd cc
at_place word (m ∷ macros) place d h =
    elim (cases_Bool (bytes_eq m.name word)) [
      | inl here ↦ (
          let one : Some 0 ≡ Some place = rw here at h in
          subst (λ (n : ℕ). AtPlace word (m ∷ macros) n d) (same_Some 0 place one) (at_first word m macros d here))
      | inr not_here ↦ (
          let one : option_map suc (place_in word macros) ≡ Some place = rw not_here at h in
          let p = suc_place (place_in word macros) place one in
          subst (λ (n : ℕ). AtPlace word (m ∷ macros) n d) (sym p.2) (at_later word m macros p.0 d not_here (at_place word macros p.0 d p.1)))
    ]

-- what the macros are where no macro has the name
pub record IsAbsent (word : List ℕ) (macros : List Macro) : Type 0 where
  pub list : list_of word macros ≡ None
  pub named : is_named word macros ≡ false
  pub in_force : place_in_force word macros ≡ None
  pub ended_is : without_macro word macros ≡ macros
  pub put_is : (new : Macro) → new.name ≡ word → with_macro new macros ≡ macros ++ new ∷ []

pub absent : (word : List ℕ) (macros : List Macro) → place_in word macros ≡ None → IsAbsent word macros
absent word [] h = record { list = refl; named = refl; in_force = refl; ended_is = refl; put_is = λ new same. refl }
absent word (m ∷ macros) h =
    elim (cases_Bool (bytes_eq m.name word)) [
      | inl here ↦ (
          let one : ◌≡◌ {A = Option ℕ} (Some 0) None = rw here at h in
          absurd cc)
      | inr not_here ↦ (
          let one : option_map suc (place_in word macros) ≡ None = rw not_here at h in
          let found = absent word macros (suc_none (place_in word macros) one) in
          record {
            list = rw not_here found.list;
            named = rw not_here found.named;
            in_force = rw not_here (ap (option_map suc) found.in_force);
            ended_is = rw not_here (ap (λ (t : List Macro). m ∷ t) found.ended_is);
            put_is = λ new same. let test : bytes_eq m.name new.name ≡ false = ap (bytes_eq m.name) same ∙ not_here in rw test (ap (λ (t : List Macro). m ∷ t) (found.put_is new same));
          })
    ]

-- a macro of the same name changes no place
pub place_in-set : (word : List ℕ) (macros : List Macro) (place : ℕ) (new d : Macro) → new.name ≡ (get_or macros place d).name → place_in word (set macros place new) ≡ place_in word macros
place_in-set word [] place new d same = refl
place_in-set word (m ∷ macros) zero new d same = ap (λ (t : List ℕ). cond (bytes_eq t word) (Some 0) (option_map suc (place_in word macros))) same
place_in-set word (m ∷ macros) (suc place) new d same = ap (λ (o : Option ℕ). cond (bytes_eq m.name word) (Some 0) (option_map suc o)) (place_in-set word macros place new d same)

-- the place of a name where a macro of a new name is put at the end
pub place_in-push : (word : List ℕ) (macros : List Macro) (new : Macro) → place_in new.name macros ≡ None
    → place_in word (macros ++ new ∷ []) ≡ cond (bytes_eq new.name word) (Some (length macros)) (place_in word macros)
place_in-push word [] new h = refl
place_in-push word (m ∷ macros) new h =
    elim (cases_Bool (bytes_eq m.name new.name)) [
      | inl here ↦ (
          let one : ◌≡◌ {A = Option ℕ} (Some 0) None = rw here at h in
          absurd cc)
      | inr not_here ↦ (
          let one : option_map suc (place_in new.name macros) ≡ None = rw not_here at h in
          let next = place_in-push word macros new (suc_none (place_in new.name macros) one) in
          elim (cases_Bool (bytes_eq new.name word)) [
            | inl at_end ↦ (
                let same : new.name ≡ word = (bytes_eq-Decides new.name word).0 at_end in
                let test : bytes_eq m.name word ≡ false = ap (bytes_eq m.name) (sym same) ∙ not_here in
                let next_is : place_in word (macros ++ new ∷ []) ≡ Some (length macros) = rw at_end at next in
                rw (test, at_end) (ap (option_map suc) next_is))
            | inr before ↦ (
                let next_is : place_in word (macros ++ new ∷ []) ≡ place_in word macros = rw before at next in
                rw before (ap (λ (o : Option ℕ). cond (bytes_eq m.name word) (Some 0) (option_map suc o)) next_is))
          ])
    ]

-- ---- the same, for a macro that was read at the place

at_any : (word : List ℕ) (all : List Macro) (place : ℕ) → place_in word all ≡ Some place → place < length all
at_any word [] place e = absurd cc
at_any word (m ∷ all) place e = (at_place word (m ∷ all) place m e).within

pub place_within : (word : List ℕ) (macros : List Macro) (o : Option ℕ) → o ≡ place_in word macros → IfSome o (λ place. place < length macros)
place_within word macros None h = tt
place_within word macros (Some place) h = at_any word macros place (sym h)

pub read_list : (word : List ℕ) (macros : List Macro) (place : ℕ) (m : Macro) → Some place ≡ place_in word macros → m ≡ get_or macros place m → m.lexemes ≡ list_of word macros
read_list word macros place m h e = ap (λ (x : Macro). x.lexemes) e ∙ sym (at_place word macros place m (sym h)).list

pub read_named : (word : List ℕ) (macros : List Macro) (place : ℕ) (m : Macro) → Some place ≡ place_in word macros → m ≡ get_or macros place m → (is_some m.lexemes && not m.is_first) ≡ is_named word macros
read_named word macros place m h e = ap (λ (x : Macro). is_some x.lexemes && not x.is_first) e ∙ sym (at_place word macros place m (sym h)).named

pub read_force : (word : List ℕ) (macros : List Macro) (place : ℕ) (m : Macro) → Some place ≡ place_in word macros → m ≡ get_or macros place m → cond {A = Option ℕ} (is_some m.lexemes) (Some place) None ≡ place_in_force word macros
read_force word macros place m h e = ap (λ (x : Macro). cond {A = Option ℕ} (is_some x.lexemes) (Some place) None) e ∙ sym (at_place word macros place m (sym h)).in_force

pub force_true : (word : List ℕ) (macros : List Macro) (place : ℕ) (m : Macro) → Some place ≡ place_in word macros → m ≡ get_or macros place m → is_some m.lexemes ≡ true → Some place ≡ place_in_force word macros
force_true word macros place m h e t = sym (ap (λ (b : Bool). cond {A = Option ℕ} b (Some place) None) t) ∙ read_force word macros place m h e

pub force_false : (word : List ℕ) (macros : List Macro) (place : ℕ) (m : Macro) → Some place ≡ place_in word macros → m ≡ get_or macros place m → is_some m.lexemes ≡ false → None ≡ place_in_force word macros
force_false word macros place m h e t = sym (ap (λ (b : Bool). cond {A = Option ℕ} b (Some place) None) t) ∙ read_force word macros place m h e

pub put_place : (new : Macro) (macros : List Macro) (place : ℕ) (bytes : List ℕ) → bytes ≡ new.name → Some place ≡ place_in bytes macros → AtPlace new.name macros place new
put_place new macros place bytes e h = at_place new.name macros place new (sym (h ∙ ap (λ (b : List ℕ). place_in b macros) e))

pub put_new : (new : Macro) (macros : List Macro) (bytes : List ℕ) → bytes ≡ new.name → None ≡ place_in bytes macros → macros ++ new ∷ [] ≡ with_macro new macros
put_new new macros bytes e h = sym ((absent new.name macros (sym (h ∙ ap (λ (b : List ℕ). place_in b macros) e))).put_is new refl)
