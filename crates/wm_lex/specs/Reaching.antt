-- Macros that reach macros, through the lists in force.
use Rattle.std.specs.Prelude.{◌⊎◌, ℕ, zero, suc, List, [], unwrap_or, Contains}
use Rattle.wm_lex.specs.declared.definitions.Macro.{Macro}
use Rattle.wm_lex.specs.declared.lexeme.Lexeme.{Lexeme}
use Rattle.wm_lex.specs.Replacing.{replacement_of}

-- the list that replaces a has b in it
abbrev pub Makes : List Macro → Lexeme → Lexeme → Type 0
Makes macros a b = Contains (unwrap_or (replacement_of macros a) []) b

-- a makes b through so many others, one after the other
abbrev pub ReachesThrough : List Macro → ℕ → Lexeme → Lexeme → Type 0
ReachesThrough macros zero a b = Makes macros a b
ReachesThrough macros (suc others) a b = (c : Lexeme) × Makes macros a c × ReachesThrough macros others c b

abbrev pub Reaches : List Macro → Lexeme → Lexeme → Type 0
Reaches macros a b = (others : ℕ) × ReachesThrough macros others a b

-- a lexeme that reaches itself, or reaches one that reaches itself; it is a macro, since nothing else reaches anything
abbrev pub IsLoop : List Macro → Lexeme → Type 0
IsLoop macros a = Reaches macros a a ⊎ ((b : Lexeme) × Reaches macros a b × Reaches macros b b)
