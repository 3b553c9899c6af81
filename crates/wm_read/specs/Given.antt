-- What was read of the files of a call.
use Rattle.std.specs.Prelude.{ℕ, ◌<◌, ◌^◌, List, Vec, vec_len}
use Rattle.std.specs.declared.alloc.Global.{Global}
use Rattle.wm_program.specs.Settings.{settings_of}
use Rattle.wm_read.specs.declared.texts.Texts.{Texts as Given}
use Rattle.wm_read.specs.Files.{Texts}
use Rattle.wm_read.specs.Seen.{texts_of}

abbrev pub given_of : Given → Texts
given_of texts = record { settings = settings_of texts.spec; weights = texts.weights; sources = texts_of texts.sources.items }

-- a text whose bytes can be numbered with 32 bits, as each is that has no more than all may have together
abbrev pub IsText : Vec ℕ Global → Type 0
IsText text = vec_len text < 2 ^ 32

abbrev pub sources_of : Vec (Vec ℕ Global) Global → List (List ℕ)
sources_of sources = texts_of sources.items
