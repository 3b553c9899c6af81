-- The two files of the example of some number of stages.
use Rattle.std.specs.Prelude.{ℕ, zero, suc, List, [], ◌++◌, codes, decimal}

-- what f gives at each number from 1 to n, in turn
abbrev pub lines_to : (ℕ → List ℕ) → ℕ → List ℕ
lines_to f zero = []
lines_to f (suc n) = lines_to f n ++ f (suc n)

-- what the stage keeps from one call to the next
unfoldable pub variable_line : ℕ → List ℕ
variable_line k = codes "static Word16 s" ++ decimal k ++ codes ";\n"

unfoldable pub function_line : ℕ → List ℕ
function_line k =
    codes "static Word16 stage" ++ decimal k ++ codes "(Word16 v) { s" ++ decimal k ++ codes " = add(mult(s" ++ decimal k
    ++ codes ", 16384), shr(v, 1)); return s" ++ decimal k ++ codes "; }\n"

unfoldable pub call_line : ℕ → List ℕ
call_line k = codes "    v = stage" ++ decimal k ++ codes "(v);\n"

unfoldable pub spec_text : List ℕ
spec_text = codes "source = \"demo.c\"\n[range]\nx = [-32768, 32767]\n"

-- all lines of one kind stand together
unfoldable pub source_text : ℕ → List ℕ
source_text n =
    codes "Word16 x[8];\n" ++ lines_to variable_line n ++ lines_to function_line n
    ++ codes "void frame(void) {\n  Word16 i, v;\n  for (i = 0; i < 8; i++) {\n    v = x[i];\n" ++ lines_to call_line n
    ++ codes "  }\n}\n"
