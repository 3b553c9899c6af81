-- What is the last of declared names, and how it changes with them.
use Rattle.std.proofs.Common.{◌≡◌, ℕ, suc, zero, ◌+◌, ◌-◌, ◌<◌, ◌≤◌, Bool, true, false, ◌||◌, cond, List, [], ◌∷◌, ◌++◌, length, take, drop, Option, Some, None, refl, ap, sym, ◌∙◌, subst, bytes_eq, append_assoc, append-nil, length-append, min, arith}
use Rattle.std.proofs.Math.Seq.{take-append_seam}
use Rattle.std.proofs.lemmas.List.{take_min}
use Rattle.std.proofs.lemmas.Slice.Eq.{bytes_eq-Decides}
use Rattle.wm_scope.specs.declared.meaning.Meaning.{Meaning}
use Rattle.wm_scope.specs.declared.meaning.Named.{Named}
use Rattle.wm_scope.specs.declared.places.Last.{Last}
use Rattle.wm_scope.specs.declared.names.Entry.{Entry}
use Rattle.wm_scope.specs.Names.{latest, is_among}
use Rattle.wm_scope.specs.Places.{last_in, put, put_back}
use Rattle.wm_scope.specs.Indexed.{names_of, last_from, last_of, AreLinked, AreFound, AreIndexed, meaning_or, is_behind}
use Rattle.wm_scope.proofs.Tables.{last_in-put, last_in-put_back}

-- ---- one more name

pub last_from-behind : (place : ℕ) (word : List ℕ) (names : List Named) (named : Named) (found : Option Last)
    → last_from place word (names ++ named ∷ []) found ≡ cond (bytes_eq word named.name) (Some (record { place = place + length names; meaning = named.meaning })) (last_from place word names found)
last_from-behind place word [] named found = ap (λ p. cond (bytes_eq word named.name) (Some (record { place = p; meaning = named.meaning })) found) (omega arith)
last_from-behind place word (x ∷ names) named found =
    last_from-behind (suc place) word names named _
    ∙ ap (λ p. cond (bytes_eq word named.name) (Some (record { place = p; meaning = named.meaning })) (last_from place word (x ∷ names) found)) (omega arith)

pub names_of-behind : (es : List Entry) (e : Entry) → names_of (es ++ e ∷ []) ≡ names_of es ++ e.named ∷ []
names_of-behind [] e = refl
names_of-behind (x ∷ es) e = ap (λ r. x.named ∷ r) (names_of-behind es e)

pub length-names_of : (es : List Entry) → length (names_of es) ≡ length es
length-names_of [] = refl
length-names_of (x ∷ es) = ap suc (length-names_of es)

pub AreLinked-behind : (ns : List Named) (es : List Entry) (e : Entry) → AreLinked ns es → e.before ≡ last_of e.named.name (ns ++ names_of es) → AreLinked ns (es ++ e ∷ [])
AreLinked-behind ns [] e h p = (p ∙ ap (last_of e.named.name) (append-nil ns), tt)
AreLinked-behind ns (x ∷ es) e h p =
    (h.0, AreLinked-behind (ns ++ x.named ∷ []) es e h.1 (p ∙ ap (last_of e.named.name) (sym (append_assoc ns (x.named ∷ []) (names_of es)))))

-- ---- what is looked up

meaning-cond : (b : Bool) (found : Option Last) (place : ℕ) (meaning before : Meaning)
    → cond b meaning (meaning_or found before) ≡ meaning_or (cond b (Some (record { place = place; meaning = meaning })) found) before
meaning-cond true found place meaning before = refl
meaning-cond false found place meaning before = refl

pub latest-last_from : (place : ℕ) (word : List ℕ) (names : List Named) (found : Option Last) (before : Meaning)
    → meaning_or (last_from place word names found) before ≡ latest word names (meaning_or found before)
latest-last_from place word [] found before = refl
latest-last_from place word (x ∷ names) found before =
    latest-last_from (suc place) word names _ before
    ∙ ap (latest word names) (sym (meaning-cond (bytes_eq word x.name) found place x.meaning before))

-- behind a place that is not behind the first of the names
among-here : (outer place : ℕ) (word : List ℕ) (names : List Named) (found : Option Last) → outer ≤ place
    → is_behind outer (last_from place word names found) ≡ (is_among word names || is_behind outer found)
among-here outer place word [] found h = refl
among-here outer place word (x ∷ names) found h =
    among-here outer (suc place) word names _ (omega (arith, h)) ∙ by (bytes_eq word x.name) (is_among word names)
  where
    by : (b c : Bool) → (c || is_behind outer (cond b (Some (record { place = place; meaning = x.meaning })) found)) ≡ (cond b true c || is_behind outer found)
    by true true = refl
    by true false = grind (arith, h)
    by false c = refl

or-false : (b : Bool) → (b || false) ≡ b
or-false true = refl
or-false false = refl

among-later : (more place outer : ℕ) (word : List ℕ) (names : List Named) (found : Option Last) → outer ≡ place + more → is_behind outer found ≡ false
    → is_behind outer (last_from place word names found) ≡ is_among word (drop more names)
among-later zero place outer word names found e h =
    among-here outer place word names found (omega (arith, e)) ∙ ap (λ b. is_among word names || b) h ∙ or-false (is_among word names)
among-later (suc more) place outer word [] found e h = h
among-later (suc more) place outer word (x ∷ names) found e h =
    among-later more (suc place) outer word names _ (omega (arith, e)) (by (bytes_eq word x.name))
  where
    by : (b : Bool) → is_behind outer (cond b (Some (record { place = place; meaning = x.meaning })) found) ≡ false
    by true = grind (arith, e)
    by false = h

pub among-last_of : (outer : ℕ) (word : List ℕ) (names : List Named) → is_behind outer (last_of word names) ≡ is_among word (drop outer names)
among-last_of outer word names = among-later outer 0 outer word names None (omega arith) refl

-- ---- what stays true of a table

pub found-behind : (places : List (List ℕ × Option Last)) (es : List Entry) (e : Entry) → AreIndexed places es → e.before ≡ last_of e.named.name (names_of es)
    → AreIndexed (put e.named.name (record { place = length es; meaning = e.named.meaning }) places) (es ++ e ∷ [])
found-behind places es e h p =
    let same : length es ≡ 0 + length (names_of es) = omega (arith, length-names_of es) in (
      (λ word. last_in-put word e.named.name (record { place = length es; meaning = e.named.meaning }) places
          ∙ ap (λ r. cond (bytes_eq word e.named.name) (Some (record { place = length es; meaning = e.named.meaning })) r) (h.0 word)
          ∙ ap (λ l. cond (bytes_eq word e.named.name) (Some (record { place = l; meaning = e.named.meaning })) (last_of word (names_of es))) same
          ∙ sym (last_from-behind 0 word (names_of es) e.named None)
          ∙ ap (last_of word) (sym (names_of-behind es e))),
      AreLinked-behind [] es e h.1 p,
    )

-- a word that has again what it had
settle : (x w : List ℕ) (names : List Named) (before last : Option Last) → before ≡ last_of w names
    → cond (bytes_eq x w) before (cond (bytes_eq x w) last (last_of x names)) ≡ last_of x names
settle x w names before last e = by (bytes_eq x w) refl
  where
    by : (b : Bool) → bytes_eq x w ≡ b → cond b before (cond b last (last_of x names)) ≡ last_of x names
    by true h = e ∙ ap (λ v. last_of v names) (sym ((bytes_eq-Decides x w).0 h))
    by false h = refl

pub found-again : (places : List (List ℕ × Option Last)) (names : List Named) (w : List ℕ) (before : Option Last) (last : Last) → AreFound places names → before ≡ last_of w names
    → AreFound (put_back w before (put w last places)) names
found-again places names w before last h p = λ word.
    last_in-put_back word w before last (put w last places) (last_in-put w w last places ∙ ap (λ b. cond b (Some last) (last_in w places)) ((bytes_eq-Decides w w).1 refl))
    ∙ ap (cond (bytes_eq word w) before) (last_in-put word w last places ∙ ap (cond (bytes_eq word w) (Some last)) (h word))
    ∙ settle word w names before (Some last) p

linked-front : (ns : List Named) (es : List Entry) (e : Entry) → AreLinked ns (es ++ e ∷ []) → AreLinked ns es × (e.before ≡ last_of e.named.name (ns ++ names_of es))
linked-front ns [] e h = (tt, h.0 ∙ ap (last_of e.named.name) (sym (append-nil ns)))
linked-front ns (x ∷ es) e h =
    let rest = linked-front (ns ++ x.named ∷ []) es e h.1 in
    ((h.0, rest.0), rest.1 ∙ ap (last_of e.named.name) (append_assoc ns (x.named ∷ []) (names_of es)))

pub found-front : (places : List (List ℕ × Option Last)) (es : List Entry) (e : Entry) → AreIndexed places (es ++ e ∷ [])
    → AreIndexed (put_back e.named.name e.before places) es
found-front places es e h =
    let linked = linked-front [] es e h.1 in
    let last : Last = record { place = 0 + length (names_of es); meaning = e.named.meaning } in
    let known : (word : List ℕ) → last_in word places ≡ cond (bytes_eq word e.named.name) (Some last) (last_of word (names_of es)) =
    λ word. h.0 word ∙ ap (last_of word) (names_of-behind es e) ∙ last_from-behind 0 word (names_of es) e.named None in (
      (λ word.
          last_in-put_back word e.named.name e.before last places
          (known e.named.name ∙ ap (λ b. cond b (Some last) (last_of e.named.name (names_of es))) ((bytes_eq-Decides e.named.name e.named.name).1 refl))
          ∙ ap (cond (bytes_eq word e.named.name) e.before) (known word)
          ∙ settle word e.named.name (names_of es) e.before (Some last) linked.1),
      linked.0,
    )

pub names-front : (es : List Entry) (e : Entry) → names_of es ≡ take (length (names_of (es ++ e ∷ [])) - 1) (names_of (es ++ e ∷ []))
names-front es e =
    sym (take-append_seam (names_of es) (e.named ∷ []))
    ∙ ap (λ n. take n (names_of es ++ e.named ∷ [])) (omega (arith, ap length (names_of-behind es e), length-append (names_of es) (e.named ∷ [])))
    ∙ ap (take (length (names_of (es ++ e ∷ [])) - 1)) (sym (names_of-behind es e))

-- ---- the same over what calls give

module _ (places new : List (List ℕ × Option Last)) (es other : List Entry) (e : Entry) (word : List ℕ) (same : word ≡ e.named.name) where
  pub indexed-push : (place : ℕ) → place ≡ length es → new ≡ put word (record { place = place; meaning = e.named.meaning }) places → other ≡ es ++ e ∷ []
      → AreIndexed places es → e.before ≡ last_of e.named.name (names_of es) → AreIndexed new other
  indexed-push place len at grown h p =
      subst (λ xs. AreIndexed new xs) (sym grown)
      (subst (λ table. AreIndexed table (es ++ e ∷ []))
      (sym (at ∙ ap (λ w. put w (record { place = place; meaning = e.named.meaning }) places) same ∙ ap (λ l. put e.named.name (record { place = l; meaning = e.named.meaning }) places) len))
      (found-behind places es e h p))

  pub indexed-front : new ≡ put_back word e.before places → es ≡ other ++ e ∷ [] → AreIndexed places es → AreIndexed new other
  indexed-front at grown h =
      subst (λ table. AreIndexed table other) (sym (at ∙ ap (λ w. put_back w e.before places) same))
      (found-front places other e (subst (λ xs. AreIndexed places xs) grown h))

  pub names-taken : (names : List Named) → es ≡ other ++ e ∷ [] → names_of es ≡ names → names_of other ≡ take (length names - 1) names
  names-taken names grown view =
      names-front other e ∙ ap (λ xs. take (length (names_of xs) - 1) (names_of xs)) (sym grown) ∙ ap (λ ns. take (length ns - 1) ns) view

module _ (places put_places new : List (List ℕ × Option Last)) (es other : List Entry) (word again : List ℕ) (before restored : Option Last) (last : Last) where
  pub indexed-again : put_places ≡ put word last places → new ≡ put_back again restored put_places → again ≡ word → restored ≡ before → other ≡ es → AreIndexed places es → before ≡ last_of word (names_of es)
      → AreIndexed new other
  indexed-again put_is new_is same_word same_before same h p =
      subst (λ xs. AreIndexed new xs) (sym same) (
        subst (λ table. AreFound table (names_of es))
            (sym (new_is ∙ ap (λ w. put_back w restored put_places) same_word ∙ ap (λ b. put_back word b put_places) same_before ∙ ap (put_back word before) put_is))
            (found-again places (names_of es) word before last h.0 p),
        h.1,
      )

-- what is left when so many names are to be kept
pub kept-all : (xs : List Named) (end count counter : ℕ) → end ≡ length xs → count ≤ counter → (count ≤ end → counter ≤ end) → (end < count → counter ≡ count) → end ≤ counter
    → take (end - (counter - count)) xs ≡ take count xs
kept-all xs end count counter all begun within short past =
    sym (take_min (end - (counter - count)) xs) ∙ ap (λ n. take n xs) same ∙ take_min count xs
  where
    same : min (end - (counter - count)) (length xs) ≡ min count (length xs)
    same = grind (arith, all, begun, within, short, past)
