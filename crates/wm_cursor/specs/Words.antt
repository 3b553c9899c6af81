-- What the next token is to a statement, a declaration or an item.
use Rattle.std.specs.Prelude.{Bool, true, false, ◌||◌, if◌then◌else◌, Option, Some, None, is_some}
use Rattle.wm_lang.specs.declared.expression.BaseType.TheVariants as base
use Rattle.wm_lang.specs.declared.statement.AssignMark.{AssignMark}
use Rattle.wm_lang.specs.declared.statement.AssignMark.TheVariants as assign
use Rattle.wm_lang.specs.declared.statement.StepMark.{StepMark}
use Rattle.wm_lang.specs.declared.statement.StepMark.TheVariants as step
use Rattle.wm_lang.specs.declared.token.Key.{Key}
use Rattle.wm_lang.specs.declared.token.Key.TheVariants as keys
use Rattle.wm_lang.specs.declared.token.Punct.{Punct}
use Rattle.wm_lang.specs.declared.token.Punct.TheVariants as punct
use Rattle.wm_cursor.specs.declared.token.Next.{Next}
use Rattle.wm_cursor.specs.declared.token.Next.TheVariants as next
use Rattle.wm_cursor.specs.declared.word.Beginning.{Beginning}
use Rattle.wm_cursor.specs.declared.word.Beginning.TheVariants as beginning
use Rattle.wm_cursor.specs.declared.word.Head.{Head}
use Rattle.wm_cursor.specs.declared.word.Head.TheVariants as head
use Rattle.wm_cursor.specs.declared.word.Lead.{Lead}
use Rattle.wm_cursor.specs.declared.word.Lead.TheVariants as lead
use Rattle.wm_cursor.specs.declared.word.Specifier.{Specifier}
use Rattle.wm_cursor.specs.declared.word.Specifier.TheVariants as specifier
use Rattle.wm_cursor.specs.declared.word.Tail.{Tail}
use Rattle.wm_cursor.specs.declared.word.Tail.TheVariants as tail
use Rattle.wm_cursor.specs.Operators.{base_of}

-- ---- what a statement begins with

abbrev pub lead_at_mark : Punct → Lead
lead_at_mark punct.LeftBrace = lead.Block
lead_at_mark punct.Semicolon = lead.Empty
lead_at_mark _ = lead.Other

abbrev pub lead_at_key : Key → Lead
lead_at_key keys.If = lead.If false
lead_at_key keys.For = lead.For false
lead_at_key keys.While = lead.While false
lead_at_key keys.Do = lead.Do false
lead_at_key keys.Break = lead.Break false
lead_at_key keys.Continue = lead.Continue false
lead_at_key keys.CountedIf = lead.If true
lead_at_key keys.CountedFor = lead.For true
lead_at_key keys.CountedWhile = lead.While true
lead_at_key keys.CountedDo = lead.Do true
lead_at_key keys.CountedBreak = lead.Break true
lead_at_key keys.CountedContinue = lead.Continue true
lead_at_key keys.Return = lead.Return
lead_at_key _ = lead.Other

unfoldable pub lead_of : Next → Lead
lead_of next.End = lead.Other
lead_of next.Name = lead.Other
lead_of (next.Number value) = lead.Other
lead_of (next.Key key) = lead_at_key key
lead_of (next.Mark mark) = lead_at_mark mark

-- ---- control words in the middle of a statement, and whether they are counted

abbrev pub else_at : Key → Option Bool
else_at keys.Else = Some false
else_at keys.CountedElse = Some true
else_at _ = None

unfoldable pub else_of : Next → Option Bool
else_of next.End = None
else_of next.Name = None
else_of (next.Number value) = None
else_of (next.Key key) = else_at key
else_of (next.Mark mark) = None

abbrev pub while_at : Key → Option Bool
while_at keys.While = Some false
while_at keys.CountedWhile = Some true
while_at _ = None

unfoldable pub while_of : Next → Option Bool
while_of next.End = None
while_of next.Name = None
while_of (next.Number value) = None
while_of (next.Key key) = while_at key
while_of (next.Mark mark) = None

-- ---- assignments and steps

abbrev pub step_at : Punct → Option StepMark
step_at punct.Increment = Some step.Increment
step_at punct.Decrement = Some step.Decrement
step_at _ = None

unfoldable pub step_of : Next → Option StepMark
step_of next.End = None
step_of next.Name = None
step_of (next.Number value) = None
step_of (next.Key key) = None
step_of (next.Mark mark) = step_at mark

abbrev pub assign_at : Punct → Option AssignMark
assign_at punct.Assign = Some assign.Plain
assign_at punct.PlusAssign = Some assign.Plus
assign_at punct.MinusAssign = Some assign.Minus
assign_at punct.TimesAssign = Some assign.Times
assign_at _ = None

unfoldable pub assign_of : Next → Option AssignMark
assign_of next.End = None
assign_of next.Name = None
assign_of (next.Number value) = None
assign_of (next.Key key) = None
assign_of (next.Mark mark) = assign_at mark

abbrev pub beginning_at : Punct → Beginning
beginning_at punct.Increment = beginning.Step step.Increment
beginning_at punct.Decrement = beginning.Step step.Decrement
beginning_at punct.Star = beginning.Star
beginning_at _ = beginning.Other

unfoldable pub beginning_of : Next → Beginning
beginning_of next.End = beginning.Other
beginning_of next.Name = beginning.Name
beginning_of (next.Number value) = beginning.Other
beginning_of (next.Key key) = beginning.Other
beginning_of (next.Mark mark) = beginning_at mark

-- ---- declarations and items

-- only outside of functions `extern` is a word before a type
abbrev pub specifier_at : Bool → Key → Option Specifier
specifier_at is_outside keys.Static = Some specifier.Static
specifier_at is_outside keys.Const = Some specifier.Const
specifier_at is_outside keys.Extern = if is_outside then Some specifier.Extern else None
specifier_at is_outside _ = None

unfoldable pub specifier_of : Bool → Next → Option Specifier
specifier_of is_outside next.End = None
specifier_of is_outside next.Name = None
specifier_of is_outside (next.Number value) = None
specifier_of is_outside (next.Key key) = specifier_at is_outside key
specifier_of is_outside (next.Mark mark) = None

abbrev pub tail_at : Punct → Tail
tail_at punct.Assign = tail.Assign
tail_at punct.LeftBracket = tail.Bracket
tail_at _ = tail.Other

unfoldable pub tail_of : Next → Tail
tail_of next.End = tail.Other
tail_of next.Name = tail.Other
tail_of (next.Number value) = tail.Other
tail_of (next.Key key) = tail.Other
tail_of (next.Mark mark) = tail_at mark

abbrev pub head_at : Key → Head
head_at keys.Word16 = head.Type base.Word16
head_at keys.Word32 = head.Type base.Word32
head_at keys.Flag = head.Type base.Flag
head_at keys.Int = head.Type base.Int
head_at keys.Void = head.Void
head_at keys.Struct = head.Struct
head_at _ = head.Other

unfoldable pub head_of : Next → Head
head_of next.End = head.Other
head_of next.Name = head.Other
head_of (next.Number value) = head.Other
head_of (next.Key key) = head_at key
head_of (next.Mark mark) = head.Other

-- whether a declaration of a block comes next
unfoldable pub is_declaration : Next → Bool
is_declaration found = is_some (specifier_of false found) || is_some (base_of found)

abbrev pub is_const_specifier : Option Specifier → Bool
is_const_specifier (Some specifier.Static) = false
is_const_specifier (Some specifier.Const) = true
is_const_specifier (Some specifier.Extern) = false
is_const_specifier None = false

unfoldable pub is_const : Next → Bool
is_const found = is_const_specifier (specifier_of false found)

unfoldable pub is_name : Next → Bool
is_name next.End = false
is_name next.Name = true
is_name (next.Number value) = false
is_name (next.Key key) = false
is_name (next.Mark mark) = false
