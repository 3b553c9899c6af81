-- What the reading of an assignment, a step or a call asks of it: no form of structs, and plain expressions.
use Rattle.wm_lang.specs.declared.expression.Expr.{Expr}
use Rattle.wm_lang.specs.declared.expression.SpotKind.{SpotKind}
use Rattle.wm_lang.specs.declared.expression.SpotKind.TheVariants as spots
use Rattle.wm_lang.specs.declared.statement.Simple.{Simple}
use Rattle.wm_lang.specs.declared.statement.Simple.TheVariants as simples
use Rattle.wm_source.specs.Reading.{source_of}
use Rattle.wm_source.specs.Written.{written_sources}
use Rattle.wm_fitting.specs.Plain.{IsPlain, ArePlain}

abbrev pub IsPlainSpot : SpotKind Expr → Type 0
IsPlainSpot (spots.Scalar name) = Unit {0}
IsPlainSpot (spots.Element name bracket index) = IsPlain (source_of index)
IsPlainSpot (spots.Pointed star name) = Unit {0}
IsPlainSpot (spots.Member object mark mark_at member) = ⊥
IsPlainSpot (spots.MemberElement object mark mark_at member bracket index) = ⊥

abbrev pub IsPlainSimple : Simple → Type 0
IsPlainSimple (simples.Assign spot mark at value) = IsPlainSpot spot.kind × IsPlain (source_of value)
IsPlainSimple (simples.StepAfter spot mark at) = IsPlainSpot spot.kind
IsPlainSimple (simples.StepBefore mark at spot) = IsPlainSpot spot.kind
IsPlainSimple (simples.Call call) = ArePlain (written_sources call.arguments)
