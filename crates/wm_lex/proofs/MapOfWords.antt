-- A map whose keys are lists of bytes, looked up by bytes: what it has after a change at one key.
use Rattle.std.proofs.Common.{◌≡◌, ℕ, Bool, true, false, cond, List, Option, sym, ap, subst, ◌∙◌, ◌++◌, ◌∷◌, [], length, Some, None, inl, inr, bytes_eq}
use Rattle.std.specs.Cmp.Lexicographic.{nat_list_eq_equiv}
use Rattle.std.specs.Global.{Vec}
use Rattle.std.specs.HashMap.{HashMap, UpdatesBy, get_by}
use Rattle.std.specs.Map.{lookup, IsKeyTest, AreApart, KeepsOthers}
use Rattle.wm_lex.specs.declared.definitions.Macro.{Macro}
use Rattle.wm_lex.specs.Macros.{place_in}
use Rattle.wm_lex.proofs.MacroPlaces.{place_in-push}
use Rattle.std.proofs.lemmas.Bool.{cases_Bool, cond-true, cond-false}
use Rattle.std.proofs.lemmas.Slice.Eq.{bytes_eq-Decides}

apart : (bs cs ks : List ℕ) → bytes_eq bs cs ≡ false → bytes_eq bs ks ≡ true → bytes_eq cs ks ≡ false
apart bs cs ks differ here = nat_list_eq_equiv.symm cs ks ∙ sym (nat_list_eq_equiv.congr bs ks cs here) ∙ differ

others : {X S : Type 0} (bs : List ℕ) (m n : HashMap (Vec ℕ) X S) → KeepsOthers (λ (x y : Vec ℕ). bytes_eq x.items y.items) (λ (k : Vec ℕ). bytes_eq bs k.items) m.entries n.entries
    → (cs : List ℕ) → bytes_eq bs cs ≡ false → get_by (λ k. bytes_eq cs k.items) n ≡ get_by (λ k. bytes_eq cs k.items) m
unfolding KeepsOthers
others bs m n keeps cs differ = keeps (λ k. bytes_eq cs k.items) (λ x y. nat_list_eq_equiv.congr cs x.items y.items) (λ k. apart bs cs k.items differ)

pub word_updates : {X S : Type 0} (bs : List ℕ) (m n : HashMap (Vec ℕ) X S) (w : Option X) → UpdatesBy (λ (x y : Vec ℕ). bytes_eq x.items y.items) (λ (k : Vec ℕ). bytes_eq bs k.items) m n w
    → (cs : List ℕ) → get_by (λ k. bytes_eq cs k.items) n ≡ cond (bytes_eq bs cs) w (get_by (λ k. bytes_eq cs k.items) m)
word_updates {X} {S} bs m n w h cs =
    elim (cases_Bool (bytes_eq bs cs)) [
      | inl here ↦ (
          let at_bs : get_by (λ k. bytes_eq bs k.items) n ≡ w = h.1 in
          subst (λ (l : List ℕ). get_by (λ k. bytes_eq l k.items) n ≡ w) ((bytes_eq-Decides bs cs).0 here) at_bs ∙ sym (cond-true (bytes_eq bs cs) w (get_by (λ k. bytes_eq cs k.items) m) here))
      | inr differ ↦ others bs m n h.3 cs differ ∙ sym (cond-false (bytes_eq bs cs) w (get_by (λ k. bytes_eq cs k.items) m) differ)
    ]

-- the map finds each name at its place where a macro of a new name is put at the end
pub added : {S : Type 0} (macros items : List Macro) (new : Macro) (word : Vec ℕ) (place : ℕ) (m n : HashMap (Vec ℕ) ℕ S)
    → word.items ≡ new.name → place ≡ length macros → items ≡ macros ++ new ∷ [] → place_in new.name macros ≡ None
    → ((q : List ℕ) → get_by (λ k. bytes_eq q k.items) m ≡ place_in q macros)
    → UpdatesBy (λ (x y : Vec ℕ). bytes_eq x.items y.items) (λ (k : Vec ℕ). bytes_eq word.items k.items) m n (Some place)
    → (q : List ℕ) → get_by (λ k. bytes_eq q k.items) n ≡ place_in q items
added macros items new word place m n word-is place-is items-is fresh old updates q =
    word_updates word.items m n (Some place) updates q
    ∙ ap (λ (o : Option ℕ). cond (bytes_eq word.items q) (Some place) o) (old q)
    ∙ ap (λ (b : List ℕ). cond (bytes_eq b q) (Some place) (place_in q macros)) word-is
    ∙ ap (λ (p : ℕ). cond (bytes_eq new.name q) (Some p) (place_in q macros)) place-is
    ∙ sym (place_in-push q macros new fresh)
    ∙ ap (place_in q) (sym items-is)
