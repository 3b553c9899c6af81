-- The plain data of an expression: a fold of its declared type.
use Rattle.std.specs.Prelude.{List, [], ◌∷◌}
use Rattle.wm_lang.specs.declared.expression.Call.{Call as CallNode}
use Rattle.wm_lang.specs.declared.expression.EqualityMark.{EqualityMark}
use Rattle.wm_lang.specs.declared.expression.EqualityMark.TheVariants as equality
use Rattle.wm_lang.specs.declared.expression.Expr.{Expr}
use Rattle.wm_lang.specs.declared.expression.Expr.TheOpen.{Expr-F}
use Rattle.wm_lang.specs.declared.expression.Expr.TheFolds.{fold-Expr}
use Rattle.wm_lang.specs.declared.expression.Part.{Part as PartNode}
use Rattle.wm_lang.specs.declared.expression.ProductMark.{ProductMark}
use Rattle.wm_lang.specs.declared.expression.ProductMark.TheVariants as product
use Rattle.wm_lang.specs.declared.expression.RelationMark.{RelationMark}
use Rattle.wm_lang.specs.declared.expression.RelationMark.TheVariants as relation
use Rattle.wm_lang.specs.declared.expression.Spot.{Spot}
use Rattle.wm_lang.specs.declared.expression.SpotKind.{SpotKind}
use Rattle.wm_lang.specs.declared.expression.SpotKind.TheVariants as spot
use Rattle.wm_lang.specs.declared.expression.SumMark.{SumMark}
use Rattle.wm_lang.specs.declared.expression.SumMark.TheVariants as sum
use Rattle.wm_lang.specs.declared.place.Position.{Position}
use Rattle.wm_source.specs.Source.{Mark, Either, Both, Equal, NotEqual, Less, LessEqual, Greater, GreaterEqual, Plus, Minus, Times, Divide, Level, Disjunction, Conjunction, Comparisons, Sums, Products, Source, Chain, Unary, Cast, Number, Scalar, Element, Pointed, Member, Call, Parenthesis, AddressOf, AddressOfElement, AddressOfOther, Parts, End, Part, Sources, None, More}

abbrev pub equality_mark : EqualityMark → Mark
equality_mark equality.Equal = Equal
equality_mark equality.NotEqual = NotEqual

abbrev pub relation_mark : RelationMark → Mark
relation_mark relation.Less = Less
relation_mark relation.LessEqual = LessEqual
relation_mark relation.Greater = Greater
relation_mark relation.GreaterEqual = GreaterEqual

abbrev pub sum_mark : SumMark → Mark
sum_mark sum.Plus = Plus
sum_mark sum.Minus = Minus

abbrev pub product_mark : ProductMark → Mark
product_mark product.Times = Times
product_mark product.Divide = Divide

abbrev pub either_mark : Unit {0} → Mark
either_mark u = Either

abbrev pub both_mark : Unit {0} → Mark
both_mark u = Both

abbrev pub parts_of : {M : Type 0} → (M → Mark) → List (PartNode M Source) → Parts
parts_of mark [] = End
parts_of mark (part ∷ rest) = Part (mark part.mark) part.at part.operand (parts_of mark rest)

abbrev pub sources_of : List Source → Sources
sources_of [] = None
sources_of (source ∷ rest) = More source (sources_of rest)

abbrev pub spot_of : Position → SpotKind Source → Source
spot_of at (spot.Scalar name) = Scalar at name
spot_of at (spot.Element name bracket index) = Element at name bracket index
spot_of at (spot.Pointed star name) = Pointed at star name
spot_of at (spot.Member object mark mark_at member) = Member at object
spot_of at (spot.MemberElement object mark mark_at member bracket index) = Member at object

abbrev pub address_of : Position → SpotKind Source → Source
address_of at (spot.Scalar name) = AddressOf at name
address_of at (spot.Element name bracket index) = AddressOfElement at name bracket index
address_of at (spot.Pointed star name) = AddressOfOther at name
address_of at (spot.Member object mark mark_at member) = AddressOfOther at object
address_of at (spot.MemberElement object mark mark_at member bracket index) = AddressOfOther at object

abbrev pub source_step : Expr-F Source → Source
source_step (Expr-F.Or chain) = Chain Disjunction chain.at chain.first (parts_of either_mark chain.rest)
source_step (Expr-F.And chain) = Chain Conjunction chain.at chain.first (parts_of both_mark chain.rest)
source_step (Expr-F.Equality chain) = Chain Comparisons chain.at chain.first (parts_of equality_mark chain.rest)
source_step (Expr-F.Relation chain) = Chain Comparisons chain.at chain.first (parts_of relation_mark chain.rest)
source_step (Expr-F.Sum chain) = Chain Sums chain.at chain.first (parts_of sum_mark chain.rest)
source_step (Expr-F.Product chain) = Chain Products chain.at chain.first (parts_of product_mark chain.rest)
source_step (Expr-F.Unary mark at operand) = Unary mark at operand
source_step (Expr-F.Cast at to operand) = Cast at to operand
source_step (Expr-F.Number at value) = Number at value
source_step (Expr-F.Spot spot) = spot_of spot.at spot.kind
source_step (Expr-F.Call call) = Call call.name (sources_of call.arguments)
source_step (Expr-F.Parenthesis at inner) = Parenthesis at inner
source_step (Expr-F.Address at spot) = address_of at spot.kind

abbrev pub source_of : Expr → Source
source_of = fold-Expr Source source_step
