-- The order of the faults at tokens: the least token first, at one token the first in the order of the kinds.
use Rattle.std.specs.Prelude.{ℕ, Bool, Option, Some, None, if◌then◌else◌, ◌==◌, nat_lt}
use Rattle.wm_program.specs.declared.faults.LinkFault.{LinkFault}
use Rattle.wm_program.specs.declared.faults.LinkFault.TheVariants as link
use Rattle.wm_scope.specs.declared.fault.TokenFault.{TokenFault}
use Rattle.wm_scope.specs.declared.fault.TokenFault.TheVariants.{UnknownName, Redefined, WrongKind, WrongCount, NotConstant, BadLength, AssignToConst, BreakOutside, MissingReturn, TooMany}
use Rattle.wm_scope.specs.declared.fault.Found.{Found}

abbrev pub rank : TokenFault → ℕ
rank UnknownName = 0
rank Redefined = 1
rank WrongKind = 2
rank WrongCount = 3
rank NotConstant = 4
rank BadLength = 5
rank AssignToConst = 6
rank BreakOutside = 7
rank MissingReturn = 8
rank (TooMany what) = 10

abbrev pub fault_at : TokenFault → ℕ → LinkFault
fault_at UnknownName token = link.UnknownName token
fault_at Redefined token = link.Redefined token
fault_at WrongKind token = link.WrongKind token
fault_at WrongCount token = link.WrongCount token
fault_at NotConstant token = link.NotConstant token
fault_at BadLength token = link.BadLength token
fault_at AssignToConst token = link.AssignToConst token
fault_at BreakOutside token = link.BreakOutside token
fault_at MissingReturn token = link.MissingReturn token
fault_at (TooMany what) token = link.TooManyAt what token

abbrev pub is_before : Found → Found → Bool
is_before a b = if a.token == b.token then nat_lt (rank a.fault) (rank b.fault) else nat_lt a.token b.token

-- the least of the faults so far and one more
abbrev pub with_fault : Found → Option Found → Found
with_fault f None = f
with_fault f (Some g) = if is_before f g then f else g
