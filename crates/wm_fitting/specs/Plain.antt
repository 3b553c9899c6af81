-- What the reading of an expression asks of it: no form of structs, numbers of 32 bits, and an operator in each chain.
use Rattle.wm_numbers.specs.Within.{IsWord32}
use Rattle.wm_source.specs.Source.{Source, Chain, Unary, Cast, Number, Scalar, Element, Pointed, Member, Call, Parenthesis, AddressOf, AddressOfElement, AddressOfOther, Parts, End, Part, Sources, None, More}

abbrev pub HasParts : Parts → Type 0
HasParts End = ⊥
HasParts (Part mark at operand rest) = Unit {0}

abbrev mutual
  pub IsPlain : Source → Type 0
  IsPlain (Chain level at first parts) = HasParts parts × IsPlain first × ArePlainParts parts
  IsPlain (Unary mark at operand) = IsPlain operand
  IsPlain (Cast at to operand) = IsPlain operand
  IsPlain (Number at z) = IsWord32 z
  IsPlain (Scalar at name) = Unit {0}
  IsPlain (Element at name bracket index) = IsPlain index
  IsPlain (Pointed at star name) = Unit {0}
  IsPlain (Member at object) = ⊥
  IsPlain (Call name arguments) = ArePlain arguments
  IsPlain (Parenthesis at inner) = IsPlain inner
  IsPlain (AddressOf at name) = Unit {0}
  IsPlain (AddressOfElement at name bracket index) = IsPlain index
  IsPlain (AddressOfOther at object) = ⊥

  pub ArePlainParts : Parts → Type 0
  ArePlainParts End = Unit {0}
  ArePlainParts (Part mark at operand rest) = IsPlain operand × ArePlainParts rest

  pub ArePlain : Sources → Type 0
  ArePlain None = Unit {0}
  ArePlain (More source rest) = IsPlain source × ArePlain rest
