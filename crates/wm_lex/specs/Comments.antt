-- Characters without comments: each comment stands for one space, at its first byte. Quotation marks have no effect on this.
use Rattle.std.specs.Prelude.{ℕ, Bool, true, false, ◌&&◌, ◌==◌, if◌then◌else◌, List, [], ◌∷◌, ◌++◌, Option, Some, None, option_to_list}
use Rattle.wm_lex.specs.declared.character.Character.{Character}
use Rattle.wm_lex.specs.declared.comment.Region.{Region}
use Rattle.wm_lex.specs.declared.comment.Region.TheVariants.{Code, LineComment, Opening, BlockComment, Closing}

-- whether the first of the characters is this byte
abbrev pub next_is : ℕ → List Character → Bool
next_is byte [] = false
next_is byte (c ∷ rest) = c.byte == byte

abbrev pub space_at : Character → Character
space_at c = record { byte = 32; line = c.line; column = c.column }

-- the region behind a character of code: a slash before a slash begins a comment to the end of the line, a slash before a star
-- one to the next star before a slash
abbrev pub behind_code : Character → List Character → Region
behind_code c rest =
    if c.byte == 47 then (if next_is 47 rest then LineComment else (if next_is 42 rest then Opening c else Code)) else Code

-- the region behind a character that stands before the rest
unfoldable pub region_after : Region → Character → List Character → Region
region_after Code c rest = behind_code c rest
region_after LineComment c rest = if c.byte == 10 then Code else LineComment
region_after (Opening first) c rest = BlockComment first
region_after (BlockComment first) c rest = if c.byte == 42 && next_is 47 rest then Closing else BlockComment first
region_after Closing c rest = Code

abbrev pub left_of_code : Character → List Character → Character
left_of_code c rest = if c.byte == 47 && (if next_is 47 rest then true else next_is 42 rest) then space_at c else c

-- what is left of it
unfoldable pub left_in : Region → Character → List Character → Option Character
left_in Code c rest = Some (left_of_code c rest)
left_in LineComment c rest = if c.byte == 10 then Some c else None
left_in (Opening first) c rest = None
left_in (BlockComment first) c rest = None
left_in Closing c rest = None

-- what is left of characters whose first stands in this region
abbrev pub uncommented_from : Region → List Character → List Character
uncommented_from region [] = []
uncommented_from region (c ∷ rest) = option_to_list (left_in region c rest) ++ uncommented_from (region_after region c rest) rest

abbrev pub uncommented : List Character → List Character
uncommented characters = uncommented_from Code characters

-- the region at the end
abbrev pub last_region_from : Region → List Character → Region
last_region_from region [] = region
last_region_from region (c ∷ rest) = last_region_from (region_after region c rest) rest

abbrev pub last_region : List Character → Region
last_region characters = last_region_from Code characters

-- the first character of a comment that is open in this region
abbrev pub opened : Region → Option Character
opened Code = None
opened LineComment = None
opened (Opening first) = Some first
opened (BlockComment first) = Some first
opened Closing = None
