-- The laws.
use Rattle.std.specs.Prelude.{Bool}
use Rattle.wm_lang.specs.declared.place.Position.{Position}
use Rattle.wm_program.specs.declared.program.SiteKind.{SiteKind}
use Rattle.wm_program.specs.WellFormed.{IsSite}
use Rattle.wm_source.specs.Source.{Source}
use Rattle.wm_marks.specs.declared.marks.Marks.{Marks}
use Rattle.wm_marks.specs.Marking.{site}
use Rattle.wm_value.specs.Values.{settled, form_in}
use Rattle.wm_value.specs.Widths.{narrows}
use Rattle.wm_fitting.specs.Plain.{IsPlain}
use Rattle.wm_fitting.specs.Fitting.{Setting, ScopeFits, Good, FitsAs}

-- a site's number is that of a site of its kind
abbrev pub SitesFit : Type 0
SitesFit = (S : Setting) (kind : SiteKind) (at : Position) (m : Marks) → Good S (λ k. IsSite S.code k kind) m (site kind at m)

-- what a faultless reading of an expression gives fits, and goes by a site to the types to which the source goes by one
abbrev pub ExpressionsFit : Type 0
ExpressionsFit =
    (S : Setting) → ScopeFits S → (source : Source) → IsPlain source → (wants : Bool) (m : Marks)
    → Good S (FitsAs S (narrows S.scope source)) m (settled source (form_in S.scope wants source) m)
