-- What a declaration at file scope changes.
use Rattle.std.proofs.Common.{◌≡◌, ℕ, Bool, true, false, cond, List, [], ◌∷◌, length, Option, Some, None, refl, ◌∙◌}
use Rattle.std.proofs.lemmas.List.Elements.{All-push}
use Rattle.std.specs.List.{All}
use Rattle.std.specs.Prelude.{nat_lt}
use Rattle.wm_lang.specs.declared.expression.Identifier.{Identifier}
use Rattle.wm_lang.specs.declared.place.Position.{Position}
use Rattle.wm_lang.specs.declared.statement.Block.{Block}
use Rattle.wm_lang.specs.declared.statement.Declarator.{Declarator}
use Rattle.wm_lang.specs.declared.statement.Statement.{Statement}
use Rattle.wm_lang.specs.declared.unit.Function.{Function}
use Rattle.wm_lang.specs.declared.unit.Item.{Item}
use Rattle.wm_lang.specs.declared.unit.Item.TheVariants as forms
use Rattle.wm_ops.specs.declared.operators.Width.{Width}
use Rattle.wm_program.specs.declared.faults.What.TheVariants.{Functions}
use Rattle.wm_scope.specs.declared.fault.TokenFault.TheVariants.{Redefined, TooMany}
use Rattle.wm_scope.specs.declared.meaning.Meaning.{Meaning}
use Rattle.wm_scope.specs.declared.meaning.Meaning.TheVariants as meaning
use Rattle.wm_scope.specs.declared.meaning.Named.{Named}
use Rattle.wm_scope.specs.Names.{outermost, is_among}
use Rattle.wm_source.specs.Constants.{width_of}
use Rattle.wm_body.specs.Declarations.{name_of, object_meaning}
use Rattle.wm_reading.specs.declared.outline.Outline.{Outline}
use Rattle.wm_reading.specs.Outlines as outlines

abbrev pub named_so : List ℕ → Meaning → Named
named_so name g = record { name = name; meaning = g }

-- a name is declared, or a fault is told
pub record Declares (name : Identifier) (g : Meaning) (o n : Outline) : Type 1 where
  pub objects : n.objects ≡ o.objects
  pub signatures : n.work.scope.signatures ≡ o.work.scope.signatures
  pub file : (Q : Named → Type 0) → All Q o.work.scope.file → Q (named_so name.name g) → All Q n.work.scope.file
  pub made : n.work.objects ≡ o.work.objects
  pub loops : n.work.marks.loops ≡ o.work.marks.loops

once_by : (b : Bool) (name : Identifier) (g : Meaning) (o : Outline) → Declares name g o (cond b (outlines.told Redefined name.at o) (outlines.with_name name.name g o))
once_by true name g o = record { objects = refl; signatures = refl; file = λ Q a q. a; made = refl; loops = refl }
once_by false name g o = record {
  objects = refl;
  signatures = refl;
  file = λ Q a q. All-push Q o.work.scope.file (named_so name.name g) a q;
  made = refl;
  loops = refl;
}

once : (name : Identifier) (g : Meaning) (o : Outline) → Declares name g o (outlines.declared_once name g o)
once name g o = once_by (is_among name.name o.work.scope.file) name g o

told_first : (name : Identifier) (g : Meaning) (o n : Outline) → Declares name g (outlines.told Redefined name.at o) n → Declares name g o n
told_first name g o n d = record { objects = d.objects; signatures = d.signatures; file = d.file; made = d.made; loops = d.loops }

outer_by : (b : Bool) (name : Identifier) (g : Meaning) (o : Outline) → Declares name g o (outlines.declared_once name g (cond b o (outlines.told Redefined name.at o)))
outer_by true name g o = once name g o
outer_by false name g o = told_first name g o (outlines.declared_once name g (outlines.told Redefined name.at o)) (once name g (outlines.told Redefined name.at o))

pub declares : (name : Identifier) (g : Meaning) (o : Outline) → Declares name g o (outlines.declare name g o).1
unfolding outlines.declare outlines.told_outermost
declares name g o = outer_by (outlines.is_nothing (outermost name.name)) name g o

-- ---- what stays as it was

-- no object and no loop is made yet
pub record Keeps (o n : Outline) : Type 0 where
  pub made : n.work.objects ≡ o.work.objects
  pub loops : n.work.marks.loops ≡ o.work.marks.loops

keeps_none : (o : Outline) → Keeps o o
keeps_none o = record { made = refl; loops = refl }

keeps_then : {o n m : Outline} → Keeps o n → Keeps n m → Keeps o m
keeps_then h k = record { made = k.made ∙ h.made; loops = k.loops ∙ h.loops }

object_keeps : (b : Bool) (width : Width) (is_const : Bool) (it : Declarator) (o : Outline) → Keeps o (outlines.object_where b width is_const it o).1
unfolding outlines.object_where outlines.object
object_keeps true width is_const it o =
    let d = declares (name_of it) (object_meaning o.objects width is_const (outlines.is_array it)) (outlines.counted o) in
    record { made = d.made; loops = d.loops }
object_keeps false width is_const it o = keeps_none o

objects_keep : (is_extern : Bool) (width : Width) (is_const : Bool) (its : List Declarator) (o : Outline) → Keeps o (outlines.all_objects is_extern width is_const its o).1
objects_keep is_extern width is_const [] o = keeps_none o
objects_keep is_extern width is_const (it ∷ rest) o =
    keeps_then (object_keeps (outlines.makes is_extern it) width is_const it o)
    (objects_keep is_extern width is_const rest (outlines.object_where (outlines.makes is_extern it) width is_const it o).1)

noted_keeps_by : (b : Bool) (at : Position) (o : Outline) → Keeps o (cond b o (outlines.told (TooMany Functions) at o))
noted_keeps_by true at o = keeps_none o
noted_keeps_by false at o = record { made = refl; loops = refl }

noted_keeps : (at : Position) (o : Outline) → Keeps o (outlines.noted_function at o)
unfolding outlines.noted_function
noted_keeps at o = noted_keeps_by (nat_lt (length o.work.scope.signatures) 1024) at o

function_keeps_by : (it : Function) (body : Option (Block Statement)) (o : Outline) → Keeps o (outlines.function_by it body o).1
function_keeps_by it None o = keeps_none o
function_keeps_by it (Some block) o =
    let n = outlines.noted_function it.name.at o in
    let d = declares it.name (meaning.Function (length n.work.scope.signatures)) (outlines.signed it block n) in
    keeps_then (noted_keeps it.name.at o) (record { made = d.made; loops = d.loops })

item_keeps : (it : Item) (o : Outline) → Keeps o (outlines.item it o).1
unfolding outlines.item outlines.objects_of outlines.function
item_keeps (forms.Objects it) o = objects_keep it.words.is_extern (width_of it.base) it.words.is_const it.declarators o
item_keeps (forms.Function it) o = function_keeps_by it it.body o
item_keeps (forms.Struct it) o = keeps_none o
item_keeps (forms.StructObjects it) o = keeps_none o

pub items_keep : (its : List Item) (o : Outline) → Keeps o (outlines.items its o).1
items_keep [] o = keeps_none o
items_keep (it ∷ rest) o = keeps_then (item_keeps it o) (items_keep rest (outlines.item it o).1)
