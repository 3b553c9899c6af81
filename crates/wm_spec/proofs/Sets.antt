-- A set of texts, by the texts that it has, as names come into it one by one.
use Rattle.std.proofs.Common.{◌≡◌, refl, sym, ap, ◌∙◌, ℕ, ◌+◌, ◌<◌, Bool, true, false, not, ◌||◌, ◌&&◌, List, [], ◌∷◌, ◌++◌, length, take, drop, slice_index_or, Ordering, Less, Equal, Greater, nat_cmp, is_eq}
use Rattle.std.specs.Borrow.{Bor}
use Rattle.std.specs.BTreeMap.{is_at}
use Rattle.std.specs.BTreeSet.{BTreeSet, contains_by, insert_key}
use Rattle.std.specs.Cmp.{alike_right}
use Rattle.std.specs.Cmp.Lexicographic.{slice_cmp, nat_list_cmp_total}
use Rattle.std.specs.List.{list_any}
use Rattle.std.specs.Ordering.{match_ordering}
use Rattle.std.proofs.lemmas.List.{take_more, drop_more}
use Rattle.std.proofs.lemmas.List.Folds.{list_any-append}
use Rattle.toml.specs.Data.{same_key}
use Rattle.wm_spec.specs.Lists.{all_new}
use Rattle.wm_spec.specs.Seen.{HasTexts}

-- a text as the set keeps it
abbrev Text : Type 0
Text = Bor (List ℕ)

abbrev by_bytes : Text → Text → Ordering
by_bytes a b = slice_cmp nat_cmp a.now b.now

or_swap : (a b : Bool) → (a || b) ≡ (b || a)
or_swap true true = refl
or_swap true false = refl
or_swap false true = refl
or_swap false false = refl

or_again : (a b : Bool) → (a || b) ≡ ((a || b) || a)
or_again true b = refl
or_again false true = refl
or_again false false = refl

or_group : (a b c : Bool) → (a || (b || c)) ≡ ((a || b) || c)
or_group true b c = refl
or_group false b c = refl

-- whether a text is among the keys of a set
abbrev is_in : List ℕ → List Text → Bool
is_in text keys = list_any (is_at (λ (other : Text). slice_cmp nat_cmp text other.now)) keys

-- once a key was inserted, the set has it beside those before
is_in-insert : (text : List ℕ) (keys : List Text) (key : Text) → is_in text (insert_key by_bytes keys key) ≡ (is_in text keys || same_key text key.now)
is_in-insert text [] key = or_swap (same_key text key.now) false
is_in-insert text (x ∷ xs) key =
    elim (by_bytes key x) as (λ o. by_bytes key x ≡ o → is_in text (match_ordering o (key ∷ x ∷ xs) (x ∷ xs) (x ∷ insert_key by_bytes xs key)) ≡ (is_in text (x ∷ xs) || same_key text key.now)) [
      | Less ↦ λ o. or_swap (same_key text key.now) (same_key text x.now || is_in text xs)
      | Equal ↦ λ o. or_again (same_key text x.now) (is_in text xs) ∙ ap (λ same. (same_key text x.now || is_in text xs) || same) (sym (ap is_eq (alike_right nat_list_cmp_total key.now x.now text o)))
      | Greater ↦ λ o. ap (λ rest. same_key text x.now || rest) (is_in-insert text xs key) ∙ or_group (same_key text x.now) (is_in text xs) (same_key text key.now)
    ] refl

pub has_texts-insert : (set new : BTreeSet Text) (names : List (List ℕ)) (i : ℕ) (d : List ℕ) (key : Text) → i < length names → key.now ≡ slice_index_or names i d → HasTexts set (take i names) → new.keys ≡ insert_key by_bytes set.keys key → HasTexts new (take (i + 1) names)
has_texts-insert set new names i d key within named has inserted text =
    ap (is_in text) inserted
    ∙ is_in-insert text set.keys key
    ∙ ap (λ found. found || same_key text key.now) (has text)
    ∙ ap (λ found. list_any (same_key text) (take i names) || found) (or_swap false (same_key text key.now))
    ∙ ap (λ name. list_any (same_key text) (take i names) || (same_key text name || false)) named
    ∙ sym (list_any-append (same_key text) (take i names) (slice_index_or names i d ∷ []))
    ∙ ap (list_any (same_key text)) (sym (take_more names i d within))

-- whether the names from one on are new is whether it is new, and then those behind it
all_new-at : (names : List (List ℕ)) (i : ℕ) (d : List ℕ) → i < length names → all_new (take i names) (drop i names) ≡ (not (list_any (same_key (slice_index_or names i d)) (take i names)) && all_new (take (i + 1) names) (drop (i + 1) names))
all_new-at names i d within =
    ap (all_new (take i names)) (drop_more names i d within)
    ∙ ap (λ seen. not (list_any (same_key (slice_index_or names i d)) (take i names)) && all_new seen (drop (i + 1) names)) (sym (take_more names i d within))

pub all_new-next : (set : BTreeSet Text) (names : List (List ℕ)) (i : ℕ) (d name : List ℕ) → i < length names → name ≡ slice_index_or names i d → HasTexts set (take i names) → not (contains_by (λ (other : Text). slice_cmp nat_cmp name other.now) set) ≡ true → all_new (take i names) (drop i names) ≡ all_new (take (i + 1) names) (drop (i + 1) names)
all_new-next set names i d name within named has fresh =
    all_new-at names i d within
    ∙ ap (λ new. new && all_new (take (i + 1) names) (drop (i + 1) names)) (ap (λ n. not (list_any (same_key n) (take i names))) (sym named) ∙ ap not (sym (has name)) ∙ fresh)

pub all_new-again : (set : BTreeSet Text) (names : List (List ℕ)) (i : ℕ) (d name : List ℕ) → i < length names → name ≡ slice_index_or names i d → HasTexts set (take i names) → not (contains_by (λ (other : Text). slice_cmp nat_cmp name other.now) set) ≡ false → all_new (take i names) (drop i names) ≡ false
all_new-again set names i d name within named has stale =
    all_new-at names i d within
    ∙ ap (λ new. new && all_new (take (i + 1) names) (drop (i + 1) names)) (ap (λ n. not (list_any (same_key n) (take i names))) (sym named) ∙ ap not (sym (has name)) ∙ stale)
