-- What a faultless reading of an expression gives fits the program: one induction over its source.
use Rattle.std.proofs.Common.{◌≡◌, Bool, true, false, cond, Option, Some, None, List, [], ◌∷◌, ◌++◌, length, map, ℤ, refl, sym, ap, subst, ◌∙◌, ◌⊎◌, inl, inr}
use Rattle.std.specs.Prelude.{slice_get}
use Rattle.wm_lang.specs.declared.expression.Identifier.{Identifier}
use Rattle.wm_lang.specs.declared.expression.UnaryMark.TheVariants as unary
use Rattle.wm_lang.specs.declared.place.Position.{Position}
use Rattle.wm_ops.specs.declared.operators.Op.{Op}
use Rattle.wm_ops.specs.declared.operators.Width.TheVariants.{W32}
use Rattle.wm_program.specs.declared.program.SiteKind.TheVariants as kind
use Rattle.wm_program.specs.declared.tree.Comparison.{Comparison}
use Rattle.wm_program.specs.declared.tree.Comparison.TheVariants as comparison
use Rattle.wm_program.specs.declared.tree.Condition.{Condition}
use Rattle.wm_program.specs.declared.tree.Converted.{Converted}
use Rattle.wm_program.specs.declared.tree.Expr.{Expr}
use Rattle.wm_program.specs.declared.tree.Expr.TheVariants as e
use Rattle.wm_program.specs.declared.tree.Link.{Link}
use Rattle.wm_program.specs.declared.tree.Passed.{Passed}
use Rattle.wm_program.specs.WellFormed.{operator_slots}
use Rattle.wm_source.specs.Constants.{width_of as type_width, value_of}
use Rattle.wm_source.specs.Firsts.{beginning_of, bare_name}
use Rattle.wm_source.specs.Source.{Mark, Plus, Disjunction, Conjunction, Comparisons, Sums, Products, Source, Chain, Unary, Cast, Number as Numeral, Scalar as Name, Element, Pointed, Member, Call, Parenthesis, AddressOf, AddressOfElement, AddressOfOther, Parts, End, Part, Sources, None as NoSource, More}
use Rattle.wm_scope.specs.declared.fault.TokenFault.{TokenFault}
use Rattle.wm_scope.specs.declared.fault.TokenFault.TheVariants.{UnknownName, WrongKind}
use Rattle.wm_scope.specs.declared.meaning.Meaning.{Meaning}
use Rattle.wm_scope.specs.declared.meaning.Meaning.TheVariants as meaning
use Rattle.wm_scope.specs.declared.scope.Scope.{Scope}
use Rattle.wm_scope.specs.declared.scope.Slot.{Slot as Parameter}
use Rattle.wm_scope.specs.Scopes.{meaning_of}
use Rattle.wm_marks.specs.declared.marks.Marks.{Marks}
use Rattle.wm_marks.specs.Marking.{Marking, ◌>>=◌, noted, site as site_at}
use Rattle.wm_value.specs.declared.form.Head.{Head}
use Rattle.wm_value.specs.declared.form.Head.TheVariants as head
use Rattle.wm_value.specs.declared.form.Sight.{Sight}
use Rattle.wm_value.specs.declared.form.Value.{Value}
use Rattle.wm_value.specs.Kinds.{no_number, number_of, condition_of, begin_part, passed_of, named_by, named, array_by, array_at, pointed_at, sight_of}
use Rattle.wm_value.specs.Values.{settle, settled, comparison_of, plain_of, chosen, chain_value, pointed_value, link_site, again, form_in, disjunction_in, conjunction_in, comparison_in, links_in, offset_in, operands_in, passed_in}
use Rattle.wm_value.specs.Widths.{carries, element_width, takes_view, unless_constant, is_minus, narrows, width_at, head_by, head_named, head_behind, head_of, argument_narrowing_in, passed_narrowing_in}
use Rattle.wm_fitting.specs.Plain.{HasParts, IsPlain, ArePlainParts, ArePlain}
use Rattle.wm_fitting.specs.Fitting.{Setting, MeaningFits, ScopeFits, Good, FitsAs, slot_seen}
use Rattle.wm_fitting.proofs.Collecting.{chain, done, grows_then, site_fits}
use Rattle.wm_fitting.proofs.Forms.{Fits, Tests, falls, LinksFit, HasLinks, links_with, has_links, number_element, number_negate, number_plus, number_cast, number_chain, no_number_fits, TestsFit, tests_with, test_or, test_and, test_not, test_compare, OperandsFit, operands_with, AllPassedFit, passed_with}
use Rattle.wm_fitting.proofs.Naming.{also, number_fits, number_told, condition_fits, named_fits, ArrayFound, array_fits, address_fits, begin_part_fits, part_fits, part_value_fits, pointed_fits}
use Rattle.wm_fitting.proofs.Ranges.{word_told}
use Rattle.wm_fitting.proofs.Settling.{FitsForm, FitsSettled, settle_fits, NarrowsNext, narrows_then, site_next, argument_fits}
use Rattle.wm_fitting.proofs.Calls.{link_fits, divisor_fits, again_fits, operand_at, given_fits, passed_fits, seen_at, called_fits, called_next}

-- ---- what carries a site with its first token is no constant

unless : (o : Option ℤ) (b : Bool) → unless_constant o b ≡ true → o ≡ None
unless None b h = refl
unless (Some z) b h = cc

unless_carries : (o : Option ℤ) (b : Bool) → unless_constant o b ≡ true → b ≡ true
unless_carries None b h = h
unless_carries (Some z) b h = cc

pub carries_valueless : (scope : Scope) (source : Source) → carries scope source ≡ true → value_of source ≡ None
carries_valueless scope (Chain level at first parts) h = unless (value_of (Chain level at first parts)) (carries scope first) h
carries_valueless scope (Unary mark at operand) h = unless (value_of (Unary mark at operand)) (is_minus mark) h
carries_valueless scope (Cast at to operand) h = cc
carries_valueless scope (Numeral at z) h = cc
carries_valueless scope (Name at name) h = refl
carries_valueless scope (Element at name bracket index) h = refl
carries_valueless scope (Pointed at star name) h = refl
carries_valueless scope (Member at object) h = refl
carries_valueless scope (Call name arguments) h = refl
carries_valueless scope (Parenthesis at inner) h = cc
carries_valueless scope (AddressOf at name) h = refl
carries_valueless scope (AddressOfElement at name bracket index) h = refl
carries_valueless scope (AddressOfOther at object) h = refl

-- ---- how a sum begins

head_number : (scope : Scope) (first : Source) (parts : Parts) → head_of scope false first parts ≡ head.Number
unfolding head_of
head_number scope first End = refl
head_number scope first (Part mark at operand End) = refl
head_number scope first (Part mark at operand (Part mark2 at2 operand2 rest)) = refl

-- a name that is not declared
record Lost (scope : Scope) (o : Option Identifier) : Type 0 where
  name : Identifier
  told : o ≡ Some name
  lost : meaning_of name.name scope ≡ meaning.Nothing

by_nothing : (g : Meaning) → head_by g ≡ head.Nothing → g ≡ meaning.Nothing
by_nothing (meaning.Operator op) h = cc
by_nothing (meaning.Counting call) h = cc
by_nothing (meaning.Function number) h = cc
by_nothing (meaning.Scalar scalar width is_const) h = cc
by_nothing (meaning.Array array width is_const) h = cc
by_nothing meaning.Nothing h = refl

named_nothing : (scope : Scope) (o : Option Identifier) → head_named scope o ≡ head.Nothing → Lost scope o
named_nothing scope None h = cc
named_nothing scope (Some name) h = record { name = name; told = refl; lost = by_nothing (meaning_of name.name scope) h }

behind_nothing : (scope : Scope) (mark : Mark) (o : Option Identifier) → head_behind scope mark o ≡ head.Nothing → Lost scope o
behind_nothing scope Plus o h = named_nothing scope o h
behind_nothing scope _ o h = cc

wanted_nothing : (scope : Scope) (wants : Bool) (mark : Mark) (o : Option Identifier) → cond wants (head_behind scope mark o) head.Number ≡ head.Nothing → Lost scope o
wanted_nothing scope true mark o h = behind_nothing scope mark o h
wanted_nothing scope false mark o h = cc

of_nothing : (scope : Scope) (wants : Bool) (first : Source) (parts : Parts) → head_of scope wants first parts ≡ head.Nothing → Lost scope (bare_name first)
unfolding head_of
of_nothing scope wants first End h = cc
of_nothing scope wants first (Part mark at operand End) h = wanted_nothing scope wants mark (bare_name first) h
of_nothing scope wants first (Part mark at operand (Part mark2 at2 operand2 rest)) h = cc

by_sight : (S : Setting) (g : Meaning) (sight : Sight) → MeaningFits S g → head_by g ≡ head.Sight sight → ArrayFound S sight.width sight.array
by_sight S (meaning.Operator op) sight f h = cc
by_sight S (meaning.Counting call) sight f h = cc
by_sight S (meaning.Function number) sight f h = cc
by_sight S (meaning.Scalar scalar width is_const) sight f h = cc
by_sight S (meaning.Array array width is_const) sight f h =
    let k : sight_of array width is_const ≡ sight = cc in
    subst (λ sight. ArrayFound S sight.width sight.array) k (record { fits = f.fits; width_told = f.width_told })
by_sight S meaning.Nothing sight f h = cc

named_sight : (S : Setting) (names : ScopeFits S) (o : Option Identifier) (sight : Sight) → head_named S.scope o ≡ head.Sight sight → ArrayFound S sight.width sight.array
named_sight S names None sight h = cc
named_sight S names (Some name) sight h = by_sight S (meaning_of name.name S.scope) sight (names.names name.name) h

behind_sight : (S : Setting) (names : ScopeFits S) (mark : Mark) (o : Option Identifier) (sight : Sight) → head_behind S.scope mark o ≡ head.Sight sight → ArrayFound S sight.width sight.array
behind_sight S names Plus o sight h = named_sight S names o sight h
behind_sight S names _ o sight h = cc

wanted_sight : (S : Setting) (names : ScopeFits S) (wants : Bool) (mark : Mark) (o : Option Identifier) (sight : Sight) → cond wants (head_behind S.scope mark o) head.Number ≡ head.Sight sight → ArrayFound S sight.width sight.array
wanted_sight S names true mark o sight h = behind_sight S names mark o sight h
wanted_sight S names false mark o sight h = cc

of_sight : (S : Setting) (names : ScopeFits S) (wants : Bool) (first : Source) (parts : Parts) (sight : Sight) → head_of S.scope wants first parts ≡ head.Sight sight → ArrayFound S sight.width sight.array
unfolding head_of
of_sight S names wants first End sight h = cc
of_sight S names wants first (Part mark at operand End) sight h = wanted_sight S names wants mark (bare_name first) sight h
of_sight S names wants first (Part mark at operand (Part mark2 at2 operand2 rest)) sight h = cc

chosen_fits : {S : Setting} {Q : Value → Type 0} {m : Marks} (h : Head) (view : Sight → Marking Value) (numbers : Bool → Marking Value) → ((sight : Sight) → h ≡ head.Sight sight → Good S Q m (view sight m)) → Good S Q m (numbers false m) → (h ≡ head.Nothing → Good S Q m (numbers true m)) → Good S Q m (chosen h view numbers m)
chosen_fits head.Number view numbers f g k = g
chosen_fits (head.Sight sight) view numbers f g k = f sight refl
chosen_fits head.Nothing view numbers f g k = k refl

-- ---- an undeclared name is a fault

bare_valueless : (source : Source) (name : Identifier) → bare_name source ≡ Some name → value_of source ≡ None
bare_valueless (Chain level at first parts) name h = cc
bare_valueless (Unary mark at operand) name h = cc
bare_valueless (Cast at to operand) name h = cc
bare_valueless (Numeral at z) name h = cc
bare_valueless (Name at other) name h = refl
bare_valueless (Element at other bracket index) name h = refl
bare_valueless (Pointed at star other) name h = refl
bare_valueless (Member at object) name h = refl
bare_valueless (Call other arguments) name h = refl
bare_valueless (Parenthesis at inner) name h = bare_valueless inner name h
bare_valueless (AddressOf at other) name h = refl
bare_valueless (AddressOfElement at other bracket index) name h = refl
bare_valueless (AddressOfOther at object) name h = refl

named_lost : (at : Position) (g : Meaning) (m : Marks) → g ≡ meaning.Nothing → (named_by at g m).1.least ≡ None → ⊥
named_lost at (meaning.Operator op) m h l = cc
named_lost at (meaning.Counting call) m h l = cc
named_lost at (meaning.Function number) m h l = cc
named_lost at (meaning.Scalar scalar width is_const) m h l = cc
named_lost at (meaning.Array array width is_const) m h l = cc
named_lost at meaning.Nothing m h l = cc

name_lost : (scope : Scope) (other name : Identifier) (m : Marks) → ◌≡◌ {A = Option Identifier} (Some other) (Some name) → meaning_of name.name scope ≡ meaning.Nothing → (named scope other m).1.least ≡ None → ⊥
unfolding named
name_lost scope other name m h g l =
    let k : other ≡ name = cc in
    named_lost other.at (meaning_of other.name scope) m (ap (λ it. meaning_of it.name scope) k ∙ g) l

form_lost : (scope : Scope) (source : Source) (name : Identifier) (wants : Bool) (m : Marks) → bare_name source ≡ Some name → meaning_of name.name scope ≡ meaning.Nothing → (form_in scope wants source m).1.least ≡ None → ⊥
form_lost scope (Chain level at first parts) name wants m h g l = cc
form_lost scope (Unary mark at operand) name wants m h g l = cc
form_lost scope (Cast at to operand) name wants m h g l = cc
form_lost scope (Numeral at z) name wants m h g l = cc
form_lost scope (Name at other) name wants m h g l = name_lost scope other name m h g l
form_lost scope (Element at other bracket index) name wants m h g l = cc
form_lost scope (Pointed at star other) name wants m h g l = cc
form_lost scope (Member at object) name wants m h g l = cc
form_lost scope (Call other arguments) name wants m h g l = cc
form_lost scope (Parenthesis at inner) name wants m h g l =
    form_lost scope inner name wants m h g (subst (λ o. (settle o (form_in scope wants inner) m).1.least ≡ None) (bare_valueless inner name h) l)
form_lost scope (AddressOf at other) name wants m h g l = cc
form_lost scope (AddressOfElement at other bracket index) name wants m h g l = cc
form_lost scope (AddressOfOther at object) name wants m h g l = cc

settled_lost : (scope : Scope) (source : Source) (name : Identifier) (m : Marks) → bare_name source ≡ Some name → meaning_of name.name scope ≡ meaning.Nothing → (settled source (form_in scope false source) m).1.least ≡ None → ⊥
settled_lost scope source name m h g l =
    form_lost scope source name false m h g (subst (λ o. (settle o (form_in scope false source) m).1.least ≡ None) (bare_valueless source name h) l)

-- ---- chains

abbrev pub FitsLinks : Setting → Bool → Value → Type 0
FitsLinks S true v = Unit {0}
FitsLinks S false v = FitsAs S (falls S W32) v

filled : (links : List (Link Expr)) → HasLinks links ⊎ HasParts End → HasLinks links
filled links (inl h) = h
filled links (inr h) = absurd h

chain_ends : (S : Setting) (lost : Bool) (left : Expr) (links : List (Link Expr)) → HasLinks links → Fits S left → LinksFit S links → FitsLinks S lost (chain_value lost left links)
chain_ends S true left links h f k = tt
chain_ends S false left links h f k = number_chain S left links h f k

pointed_value_fits : (S : Setting) (names : ScopeFits S) (at star : Position) (name : Identifier) (m : Marks) → Good S (FitsForm S (Pointed at star name)) m (pointed_value S.scope star name m)
unfolding pointed_value
pointed_value_fits S names at star name m =
    let r = pointed_at S.scope star name m in
    chain (pointed_fits S names star name m)
    (done (λ f. number_element S (r.0).0 (element_width (meaning_of name.name S.scope)) no_number (r.0).1 (f.0).fits (f.0).width_told (no_number_fits S) f.1))

-- ---- a narrowing site that waits

never : {P : Type 0} → false ≡ true → P
never h = cc

settled_next : (scope : Scope) (source : Source) (m : Marks) → value_of source ≡ None → NarrowsNext m (form_in scope false source m).1 → NarrowsNext m (settled source (form_in scope false source) m).1
settled_next scope source m h k = subst (λ o. NarrowsNext m (settle o (form_in scope false source) m).1) (sym h) k

from_noted : {m n : Marks} (fault : TokenFault) (at : Position) → NarrowsNext (noted fault at m) n → NarrowsNext m n
from_noted fault at k = record { it = k.it; there = k.there; is_narrowing = k.is_narrowing }

pointed_next_by : (at star here : Position) (g : Meaning) (m : Marks) → m.waiting ≡ Some here → NarrowsNext m (site_at kind.Index star (array_by at star g m).1).1
pointed_next_by at star here (meaning.Operator op) m w = from_noted WrongKind star (site_next kind.Index star here (noted WrongKind star m) w)
pointed_next_by at star here (meaning.Counting call) m w = from_noted WrongKind star (site_next kind.Index star here (noted WrongKind star m) w)
pointed_next_by at star here (meaning.Function number) m w = from_noted WrongKind star (site_next kind.Index star here (noted WrongKind star m) w)
pointed_next_by at star here (meaning.Scalar scalar width is_const) m w = from_noted WrongKind star (site_next kind.Index star here (noted WrongKind star m) w)
pointed_next_by at star here (meaning.Array array width is_const) m w = site_next kind.Index star here m w
pointed_next_by at star here meaning.Nothing m w = from_noted UnknownName at (site_next kind.Index star here (noted UnknownName at m) w)

pointed_next : (scope : Scope) (star : Position) (name : Identifier) (m : Marks) (here : Position) → m.waiting ≡ Some here → NarrowsNext m (pointed_value scope star name m).1
unfolding pointed_value pointed_at array_at
pointed_next scope star name m here w = pointed_next_by name.at star here (meaning_of name.name scope) m w

-- ---- the induction

module _ (S : Setting) (names : ScopeFits S) where
  mutual
    pub form_fits : (source : Source) → IsPlain source → (wants : Bool) (m : Marks) → value_of source ≡ None → Good S (FitsForm S source) m (form_in S.scope wants source m)
    form_fits (Chain Disjunction at first parts) p wants m h =
        let r = settled first (form_in S.scope false first) m in
        let q = condition_of (beginning_of first) r.0 r.1 in
        chain (settle_fits S first (form_in S.scope false first) m (form_fits first p.1 false m))
        (chain (condition_fits S (narrows S.scope first) (beginning_of first) r.0 r.1)
        (also (disjunction_fits parts p.2 q.0 [] q.1) (λ v f c a. f (c a.fits) tt)))
    form_fits (Chain Conjunction at first parts) p wants m h =
        let r = settled first (form_in S.scope false first) m in
        let q = condition_of (beginning_of first) r.0 r.1 in
        chain (settle_fits S first (form_in S.scope false first) m (form_fits first p.1 false m))
        (chain (condition_fits S (narrows S.scope first) (beginning_of first) r.0 r.1)
        (also (conjunction_fits parts p.2 q.0 [] q.1) (λ v f c a. f (c a.fits) tt)))
    form_fits (Chain Comparisons at first parts) p wants m h =
        let r = settled first (form_in S.scope false first) m in
        let q = number_of (beginning_of first) r.0 r.1 in
        chain (settle_fits S first (form_in S.scope false first) m (form_fits first p.1 false m))
        (chain (number_fits S (narrows S.scope first) (beginning_of first) r.0 r.1)
        (also (comparison_fits parts p.2 at q.0 false comparison.Equal no_number q.1) (λ v f x a. f (x a.fits).fits (no_number_fits S))))
    form_fits (Chain Sums at first parts) p wants m h =
        let r = settled first (form_in S.scope false first) m in
        let q = number_of (beginning_of first) r.0 r.1 in
        chosen_fits (head_of S.scope wants first parts) (λ sight. offset_in S.scope sight parts)
        (λ lost. settled first (form_in S.scope false first) >>= number_of (beginning_of first) >>= λ left. links_in S.scope lost left [] parts)
        (λ sight k. also (offset_fits parts p.2 p.0 sight m) (λ v f. f (of_sight S names wants first parts sight k)))
        (chain (settle_fits S first (form_in S.scope false first) m (form_fits first p.1 false m))
        (chain (number_fits S (narrows S.scope first) (beginning_of first) r.0 r.1)
        (also (links_fits parts p.2 false q.0 [] q.1 (inr p.0)) (λ v f x a. f (x a.fits).fits tt))))
        (λ k. let lost = of_nothing S.scope wants first parts k in
        let one = settle_fits S first (form_in S.scope false first) m (form_fits first p.1 false m) in
        let none : Good S (λ v. ⊥) m (settled first (form_in S.scope false first) m) = record { grows = one.grows; fits = λ l t. settled_lost S.scope first lost.name m lost.told lost.lost l } in
        chain none
        (chain (number_fits S (narrows S.scope first) (beginning_of first) r.0 r.1)
        (also (links_fits parts p.2 true q.0 [] q.1 (inr p.0)) (λ v f x b. absurd b))))
    form_fits (Chain Products at first parts) p wants m h =
        let r = settled first (form_in S.scope false first) m in
        let q = number_of (beginning_of first) r.0 r.1 in
        chain (settle_fits S first (form_in S.scope false first) m (form_fits first p.1 false m))
        (chain (number_fits S (narrows S.scope first) (beginning_of first) r.0 r.1)
        (also (links_fits parts p.2 false q.0 [] q.1 (inr p.0)) (λ v f x a. f (x a.fits).fits tt)))
    form_fits (Unary unary.Minus at operand) p wants m h =
        let k = site_at kind.Arithmetic at m in
        let r = settled operand (form_in S.scope false operand) k.1 in
        let q = number_of (beginning_of operand) r.0 r.1 in
        chain (site_fits S kind.Arithmetic at m)
        (chain (settle_fits S operand (form_in S.scope false operand) k.1 (form_fits operand p false k.1))
        (chain (number_fits S (narrows S.scope operand) (beginning_of operand) r.0 r.1)
        (done (λ x a s. number_negate S q.0 k.0 (x a.fits).fits s))))
    form_fits (Unary unary.Plus at operand) p wants m h =
        let r = settled operand (form_in S.scope false operand) m in
        let q = number_of (beginning_of operand) r.0 r.1 in
        chain (settle_fits S operand (form_in S.scope false operand) m (form_fits operand p false m))
        (chain (number_fits S (narrows S.scope operand) (beginning_of operand) r.0 r.1)
        (done (λ x a. number_plus S q.0 (x a.fits).fits)))
    form_fits (Unary unary.Not at operand) p wants m h =
        let r = settled operand (form_in S.scope false operand) m in
        let q = condition_of (beginning_of operand) r.0 r.1 in
        chain (settle_fits S operand (form_in S.scope false operand) m (form_fits operand p false m))
        (chain (condition_fits S (narrows S.scope operand) (beginning_of operand) r.0 r.1)
        (done (λ x a. test_not S q.0 (x a.fits))))
    form_fits (Cast at to operand) p wants m h =
        let r = settled operand (form_in S.scope false operand) m in
        let q = number_of (beginning_of operand) r.0 r.1 in
        chain (settle_fits S operand (form_in S.scope false operand) m (form_fits operand p false m))
        (chain (number_fits S (narrows S.scope operand) (beginning_of operand) r.0 r.1)
        (done (λ x a. number_cast S (type_width to) q.0 (x a.fits).fits)))
    form_fits (Numeral at z) p wants m h = absurd (word_told z p h)
    form_fits (Name at name) p wants m h = named_fits S names name m
    form_fits (Element at name bracket index) p wants m h =
        let a = array_at S.scope name name.at m in
        let k = site_at kind.Index bracket a.1 in
        let r = settled index (form_in S.scope false index) k.1 in
        let q = number_of (beginning_of index) r.0 r.1 in
        chain (array_fits S names name name.at m)
        (chain (site_fits S kind.Index bracket a.1)
        (chain (settle_fits S index (form_in S.scope false index) k.1 (form_fits index p false k.1))
        (chain (number_fits S (narrows S.scope index) (beginning_of index) r.0 r.1)
        (done (λ x i s f. number_element S a.0 (element_width (meaning_of name.name S.scope)) q.0 k.0 f.fits f.width_told (x i.fits).fits s)))))
    form_fits (Pointed at star name) p wants m h = pointed_value_fits S names at star name m
    form_fits (Member at object) p wants m h = absurd p
    form_fits (Call name arguments) p wants m h =
        called_fits S name arguments (λ op. operands_in S.scope op [] arguments) (λ slots. passed_in S.scope slots [] arguments) (meaning_of name.name S.scope) m (names.names name.name)
        (λ op n. also (operands_fits arguments p op [] n) (λ xs f. f tt))
        (λ slots n. also (handed_fits arguments p slots [] n) (λ xs f. f tt))
    form_fits (Parenthesis at inner) p wants m h =
        subst (λ o. Good S (FitsForm S inner) m (settle o (form_in S.scope wants inner) m)) (sym h) (form_fits inner p wants m h)
    form_fits (AddressOf at name) p wants m h = address_fits S names (falls S W32) at name m
    form_fits (AddressOfElement at name bracket index) p wants m h =
        let b = begin_part S.scope at name bracket m in
        let r = settled index (form_in S.scope false index) b.1 in
        chain (begin_part_fits S names at name bracket m)
        (chain (settle_fits S index (form_in S.scope false index) b.1 (form_fits index p false b.1))
        (also (part_value_fits S (falls S W32) (narrows S.scope index) (beginning_of index) b.0 r.0 r.1) (λ w f a b. f a.fits b)))
    form_fits (AddressOfOther at object) p wants m h = absurd p

    disjunction_fits : (parts : Parts) → ArePlainParts parts → (left : Condition) (others : List Condition) (m : Marks) → Good S (λ v. Tests S left → TestsFit S others → FitsAs S (falls S W32) v) m (disjunction_in S.scope left others parts m)
    disjunction_fits End p left others m = done (λ f k. test_or S left others f k)
    disjunction_fits (Part mark at operand rest) p left others m =
        let r = settled operand (form_in S.scope false operand) m in
        let q = condition_of (beginning_of operand) r.0 r.1 in
        chain (settle_fits S operand (form_in S.scope false operand) m (form_fits operand p.0 false m))
        (chain (condition_fits S (narrows S.scope operand) (beginning_of operand) r.0 r.1)
        (also (disjunction_fits rest p.1 left (others ++ q.0 ∷ []) q.1) (λ v f c a l k. f l (tests_with S others q.0 k (c a.fits)))))

    conjunction_fits : (parts : Parts) → ArePlainParts parts → (left : Condition) (others : List Condition) (m : Marks) → Good S (λ v. Tests S left → TestsFit S others → FitsAs S (falls S W32) v) m (conjunction_in S.scope left others parts m)
    conjunction_fits End p left others m = done (λ f k. test_and S left others f k)
    conjunction_fits (Part mark at operand rest) p left others m =
        let r = settled operand (form_in S.scope false operand) m in
        let q = condition_of (beginning_of operand) r.0 r.1 in
        chain (settle_fits S operand (form_in S.scope false operand) m (form_fits operand p.0 false m))
        (chain (condition_fits S (narrows S.scope operand) (beginning_of operand) r.0 r.1)
        (also (conjunction_fits rest p.1 left (others ++ q.0 ∷ []) q.1) (λ v f c a l k. f l (tests_with S others q.0 k (c a.fits)))))

    comparison_fits : (parts : Parts) → ArePlainParts parts → (at : Position) (left : Expr) (seen : Bool) (mark : Comparison) (right : Expr) (m : Marks) → Good S (λ v. Fits S left → Fits S right → FitsAs S (falls S W32) v) m (comparison_in S.scope at left seen mark right parts m)
    comparison_fits End p at left seen mark right m = done (λ f g. test_compare S left mark right f g)
    comparison_fits (Part next here operand rest) p at left seen mark right m =
        let n = again seen at m in
        let r = settled operand (form_in S.scope false operand) n in
        let q = number_of (beginning_of operand) r.0 r.1 in
        chain (again_fits S seen at m)
        (chain (settle_fits S operand (form_in S.scope false operand) n (form_fits operand p.0 false n))
        (chain (number_fits S (narrows S.scope operand) (beginning_of operand) r.0 r.1)
        (also (comparison_fits rest p.1 at left true (comparison_of next) q.0 q.1) (λ v f x a u l r. f l (x a.fits).fits))))

    links_fits : (parts : Parts) → ArePlainParts parts → (lost : Bool) (left : Expr) (links : List (Link Expr)) (m : Marks) → HasLinks links ⊎ HasParts parts → Good S (λ v. Fits S left → LinksFit S links → FitsLinks S lost v) m (links_in S.scope lost left links parts m)
    links_fits End p lost left links m h = done (λ f k. chain_ends S lost left links (filled links h) f k)
    links_fits (Part mark at operand rest) p lost left links m h =
        let k = link_site mark (value_of operand) at m in
        let r = settled operand (form_in S.scope false operand) k.1 in
        let q = number_of (beginning_of operand) r.0 r.1 in
        let link : Link Expr = record { mark = plain_of mark; site = k.0; operand = q.0 } in
        chain (link_fits S mark (value_of operand) at m)
        (chain (settle_fits S operand (form_in S.scope false operand) k.1 (form_fits operand p.0 false k.1))
        (chain (number_fits S (narrows S.scope operand) (beginning_of operand) r.0 r.1)
        (also (links_fits rest p.1 lost left (links ++ link ∷ []) q.1 (inl (has_links links link)))
        (λ v f x a s l i. f l (links_with S links link i (record {
          operand = (x a.fits).fits;
          divisor = divisor_fits S mark (value_of operand) q.0 s.divides (λ z i. number_told (beginning_of operand) r.0 (e.Constant z) r.1 (a.constant z i));
          site = s.site;
        }))))))

    offset_fits : (parts : Parts) → ArePlainParts parts → HasParts parts → (sight : Sight) (m : Marks) → Good S (λ v. ArrayFound S sight.width sight.array → FitsAs S (falls S W32) v) m (offset_in S.scope sight parts m)
    offset_fits End p has sight m = absurd has
    offset_fits (Part mark at operand rest) p has sight m =
        let k = site_at kind.View at m in
        let r = settled operand (form_in S.scope false operand) k.1 in
        let q = number_of (beginning_of operand) r.0 r.1 in
        chain (site_fits S kind.View at m)
        (chain (settle_fits S operand (form_in S.scope false operand) k.1 (form_fits operand p.0 false k.1))
        (chain (number_fits S (narrows S.scope operand) (beginning_of operand) r.0 r.1)
        (done (λ x a s f. part_fits S (falls S W32) (Some sight) q.0 k.0 f (x a.fits).fits s))))

    operands_fits : (sources : Sources) → ArePlain sources → (op : Op) (found : List (Converted Expr)) (m : Marks) → Good S (λ xs. OperandsFit S found (operator_slots op) → OperandsFit S xs (operator_slots op)) m (operands_in S.scope op found sources m)
    operands_fits NoSource p op found m = done (λ f. f)
    operands_fits (More source rest) p op found m =
        let width = width_at op (length found) in
        let n = argument_narrowing_in S.scope source width m in
        let r = settled source (form_in S.scope false source) n.1 in
        let q = number_of (beginning_of source) r.0 r.1 in
        let x : Converted Expr = record { value = q.0; narrowing = n.0 } in
        chain (argument_fits S source width (form_in S.scope false source) m (carries_valueless S.scope source) (form_fits source p.0 false) (form_carries source p.0))
        (chain (number_fits S (narrows S.scope source) (beginning_of source) r.0 r.1)
        (also (operands_fits rest p.1 op (found ++ x ∷ []) q.1)
        (λ xs f g a o. f (operands_with S found x (operator_slots op) o (operand_at S op (length found) (narrows S.scope source) q.0 n.0 (g (a.value).fits) a.narrowing)))))

    handed_fits : (sources : Sources) → ArePlain sources → (slots : List Parameter) (found : List (Passed Expr)) (m : Marks) → Good S (λ xs. AllPassedFit S found (map slot_seen slots) → AllPassedFit S xs (map slot_seen slots)) m (passed_in S.scope slots found sources m)
    handed_fits NoSource p slots found m = done (λ f. f)
    handed_fits (More source rest) p slots found m =
        let o = slice_get slots (length found) in
        let n = passed_narrowing_in S.scope source o m in
        let r = settled source (form_in S.scope (takes_view o) source) n.1 in
        let q = passed_of (beginning_of source) o n.0 r.0 r.1 in
        chain (given_fits S source o (λ wants. form_in S.scope wants source) m (carries_valueless S.scope source) (form_fits source p.0) (form_carries source p.0))
        (chain (passed_fits S source (beginning_of source) o n.0 r.0 r.1)
        (also (handed_fits rest p.1 slots (found ++ q.0 ∷ []) q.1)
        (λ xs f g a all. f (passed_with S found q.0 (map slot_seen slots) all (λ slot h. g a slot (sym (seen_at slots (length found)) ∙ h))))))

    -- where the first token carries a site, the first site that is put is its own
    form_carries : (source : Source) → IsPlain source → (m : Marks) (at : Position) → m.waiting ≡ Some at → carries S.scope source ≡ true → NarrowsNext m (form_in S.scope false source m).1
    form_carries (Chain Disjunction at first parts) p m here w c =
        let r = settled first (form_in S.scope false first) m in
        let q = condition_of (beginning_of first) r.0 r.1 in
        narrows_then (settled_next S.scope first m (carries_valueless S.scope first c) (form_carries first p.1 m here w c))
        (grows_then (condition_fits S (narrows S.scope first) (beginning_of first) r.0 r.1).grows (disjunction_fits parts p.2 q.0 [] q.1).grows)
    form_carries (Chain Conjunction at first parts) p m here w c =
        let r = settled first (form_in S.scope false first) m in
        let q = condition_of (beginning_of first) r.0 r.1 in
        narrows_then (settled_next S.scope first m (carries_valueless S.scope first c) (form_carries first p.1 m here w c))
        (grows_then (condition_fits S (narrows S.scope first) (beginning_of first) r.0 r.1).grows (conjunction_fits parts p.2 q.0 [] q.1).grows)
    form_carries (Chain Comparisons at first parts) p m here w c =
        let r = settled first (form_in S.scope false first) m in
        let q = number_of (beginning_of first) r.0 r.1 in
        narrows_then (settled_next S.scope first m (carries_valueless S.scope first c) (form_carries first p.1 m here w c))
        (grows_then (number_fits S (narrows S.scope first) (beginning_of first) r.0 r.1).grows (comparison_fits parts p.2 at q.0 false comparison.Equal no_number q.1).grows)
    form_carries (Chain Sums at first parts) p m here w c =
        let i = unless_carries (value_of (Chain Sums at first parts)) (carries S.scope first) c in
        let r = settled first (form_in S.scope false first) m in
        let q = number_of (beginning_of first) r.0 r.1 in
        subst
        (λ h. NarrowsNext m (chosen h (λ sight. offset_in S.scope sight parts)
        (λ lost. settled first (form_in S.scope false first) >>= number_of (beginning_of first) >>= λ left. links_in S.scope lost left [] parts) m).1)
        (sym (head_number S.scope first parts))
        (narrows_then (settled_next S.scope first m (carries_valueless S.scope first i) (form_carries first p.1 m here w i))
        (grows_then (number_fits S (narrows S.scope first) (beginning_of first) r.0 r.1).grows (links_fits parts p.2 false q.0 [] q.1 (inr p.0)).grows))
    form_carries (Chain Products at first parts) p m here w c =
        let i = unless_carries (value_of (Chain Products at first parts)) (carries S.scope first) c in
        let r = settled first (form_in S.scope false first) m in
        let q = number_of (beginning_of first) r.0 r.1 in
        narrows_then (settled_next S.scope first m (carries_valueless S.scope first i) (form_carries first p.1 m here w i))
        (grows_then (number_fits S (narrows S.scope first) (beginning_of first) r.0 r.1).grows (links_fits parts p.2 false q.0 [] q.1 (inr p.0)).grows)
    form_carries (Unary unary.Minus at operand) p m here w c =
        let n = (site_at kind.Arithmetic at m).1 in
        let r = settled operand (form_in S.scope false operand) n in
        narrows_then (site_next kind.Arithmetic at here m w)
        (grows_then (settle_fits S operand (form_in S.scope false operand) n (form_fits operand p false n)).grows (number_fits S (narrows S.scope operand) (beginning_of operand) r.0 r.1).grows)
    form_carries (Unary unary.Plus at operand) p m here w c = never (unless_carries (value_of (Unary unary.Plus at operand)) false c)
    form_carries (Unary unary.Not at operand) p m here w c = never (unless_carries (value_of (Unary unary.Not at operand)) false c)
    form_carries (Cast at to operand) p m here w c = never c
    form_carries (Numeral at z) p m here w c = never c
    form_carries (Name at name) p m here w c = never c
    form_carries (Element at name bracket index) p m here w c = never c
    form_carries (Pointed at star name) p m here w c = pointed_next S.scope star name m here w
    form_carries (Member at object) p m here w c = never c
    form_carries (Call name arguments) p m here w c =
        called_next S name arguments (λ op. operands_in S.scope op [] arguments) (λ slots. passed_in S.scope slots [] arguments) (meaning_of name.name S.scope) m here w c
        (λ op n. also (operands_fits arguments p op [] n) (λ xs f. f tt))
    form_carries (Parenthesis at inner) p m here w c = never c
    form_carries (AddressOf at name) p m here w c = never c
    form_carries (AddressOfElement at name bracket index) p m here w c = never c
    form_carries (AddressOfOther at object) p m here w c = never c

-- an expression where it stands
pub expression_fits : (S : Setting) (names : ScopeFits S) (source : Source) → IsPlain source → (wants : Bool) (m : Marks) → Good S (FitsSettled S source) m (settled source (form_in S.scope wants source) m)
expression_fits S names source p wants m = settle_fits S source (form_in S.scope wants source) m (form_fits S names source p wants m)
