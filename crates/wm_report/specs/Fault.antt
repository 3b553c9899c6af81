-- The one line of a refusal: the status, and words that name the fault and where it stands.
use Rattle.std.specs.Prelude.{ℕ, ◌+◌, ℤ, List, [], ◌∷◌, ◌++◌, Option, Some, None, map, codes, decimal, if◌then◌else◌, nat_lt}
use Rattle.std.specs.Fmt.{signed_decimal}
use Rattle.wm_ops.specs.Words.{word_name_of}
use Rattle.wm_report.specs.declared.fault.At.{At}
use Rattle.wm_report.specs.declared.fault.RunFault.{RunFault}
use Rattle.wm_report.specs.declared.fault.RunFault.TheVariants.{SourcesTooLong, Source, TooMany, NoFrame, NoInit, BadInput, FileTooLong, NotToml, MissingKey, UnknownKey, BadValue, BadKey, BadNumber, MissingWeight, Rest, OutOfRange, CertificateTooLong, BadText, WrongHeads, NotInductive, ReadFailed, WriteFailed, Memory, Words}
use Rattle.wm_report.specs.Gap.{gap_words}
use Rattle.wm_report.specs.Words.{source_word, what_word}

-- FILE:LINE:COLUMN
unfoldable pub place_text : At → List ℕ
place_text at = at.file ++ codes ":" ++ decimal at.line ++ codes ":" ++ decimal at.column

-- the place of a fault, which may stand behind the last token
abbrev pub place_or_end : Option At → List ℕ
place_or_end None = codes "end"
place_or_end (Some at) = place_text at

-- a place with a space before it, or nothing where the whole program is meant
abbrev pub place_behind : Option At → List ℕ
place_behind None = []
place_behind (Some at) = codes " " ++ place_text at

-- a byte of a key as it is printed: one outside 33 to 126 is a question mark
abbrev pub shown_byte : ℕ → ℕ
shown_byte byte = if nat_lt byte 33 then 63 else if nat_lt 126 byte then 63 else byte

abbrev pub shown_key : List ℕ → List ℕ
shown_key key = map shown_byte key

-- a word and what it names
unfoldable pub named : List ℕ → List ℕ → List ℕ
named word name = word ++ codes " " ++ name

-- frames count from 1 in a text
unfoldable pub sample_of : ℕ → List ℕ → List ℕ
sample_of frame name = codes "OutOfRange frame " ++ decimal (frame + 1) ++ codes " " ++ name

-- cells count from 0 in a text too
unfoldable pub number_of_cell : ℕ → ℤ → List ℕ
number_of_cell cell value = codes " cell " ++ decimal cell ++ codes " value " ++ signed_decimal value

abbrev pub fault_words : RunFault → List ℕ
fault_words SourcesTooLong = codes "TooLong"
fault_words (Source fault at) = named (source_word fault) (place_or_end at)
fault_words (TooMany what at) = named (codes "TooMany") (what_word what) ++ place_behind at
fault_words (NoFrame name) = named (codes "NoFrame") name
fault_words (NoInit name) = named (codes "NoInit") name
fault_words (BadInput name) = named (codes "BadInput") name
fault_words (FileTooLong name) = named (codes "TooLong") name
fault_words (NotToml name) = named (codes "NotToml") name
fault_words (MissingKey key) = named (codes "MissingKey") (shown_key key)
fault_words (UnknownKey key) = named (codes "UnknownKey") (shown_key key)
fault_words (BadValue key) = named (codes "BadValue") (shown_key key)
fault_words (BadKey key) = named (codes "BadKey") (shown_key key)
fault_words (BadNumber key) = named (codes "BadNumber") (shown_key key)
fault_words (MissingWeight word) = named (codes "MissingWeight") (word_name_of word)
fault_words (Rest bytes) = named (codes "Rest") (decimal bytes)
fault_words (OutOfRange frame name cell value) = sample_of frame name ++ number_of_cell cell value
fault_words CertificateTooLong = codes "TooLong"
fault_words (BadText line) = named (codes "BadText line") (decimal line)
fault_words WrongHeads = codes "WrongHeads"
fault_words (NotInductive gap) = gap_words gap
fault_words (ReadFailed name) = named (codes "read") name
fault_words (WriteFailed name) = named (codes "write") name
fault_words Memory = codes "memory"
fault_words Words = codes "words"

-- the status with which the program ends: 2 for the sources, 3 for the other files that are read as they are written by
-- hand, 4 for a certificate, 5 for a read, 6 for a write, 7 for want of memory, 8 for the words
abbrev pub status_of : RunFault → ℕ
status_of SourcesTooLong = 2
status_of (Source fault at) = 2
status_of (TooMany what at) = 2
status_of (NoFrame name) = 2
status_of (NoInit name) = 2
status_of (BadInput name) = 2
status_of (FileTooLong name) = 3
status_of (NotToml name) = 3
status_of (MissingKey key) = 3
status_of (UnknownKey key) = 3
status_of (BadValue key) = 3
status_of (BadKey key) = 3
status_of (BadNumber key) = 3
status_of (MissingWeight word) = 3
status_of (Rest bytes) = 3
status_of (OutOfRange frame name cell value) = 3
status_of CertificateTooLong = 4
status_of (BadText line) = 4
status_of WrongHeads = 4
status_of (NotInductive gap) = 4
status_of (ReadFailed name) = 5
status_of (WriteFailed name) = 6
status_of Memory = 7
status_of Words = 8

unfoldable pub fault_text : RunFault → List ℕ
fault_text fault = codes "fault " ++ decimal (status_of fault) ++ codes " " ++ fault_words fault ++ codes "\n"
