-- The plain data of the parts of chains, and of several expressions.
use Rattle.std.specs.Prelude.{List, map}
use Rattle.wm_lang.specs.declared.expression.Expr.{Expr}
use Rattle.wm_lang.specs.declared.expression.Part.{Part as PartNode}
use Rattle.wm_lang.specs.declared.expression.ProductMark.{ProductMark}
use Rattle.wm_lang.specs.declared.expression.SumMark.{SumMark}
use Rattle.wm_source.specs.Reading.{parts_of, sources_of, sum_mark, product_mark, either_mark, both_mark, source_of}
use Rattle.wm_source.specs.Source.{Mark, Source, Parts, Sources}

abbrev pub written : {M : Type 0} → PartNode M Expr → PartNode M Source
written part = record { mark = part.mark; at = part.at; operand = source_of part.operand }

abbrev pub written_parts : {M : Type 0} → (M → Mark) → List (PartNode M Expr) → Parts
written_parts mark rest = parts_of mark (map written rest)

abbrev pub sum_parts : List (PartNode SumMark Expr) → Parts
sum_parts = written_parts sum_mark

abbrev pub product_parts : List (PartNode ProductMark Expr) → Parts
product_parts = written_parts product_mark

abbrev pub written_sources : List Expr → Sources
written_sources arguments = sources_of (map source_of arguments)
